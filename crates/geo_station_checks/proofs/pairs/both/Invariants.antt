use Rattle.geo_station_checks.proofs.pairs.both.Given as goal

abbrev pub ghosts-beside-M-Ledger : goal.ghosts-beside-M-Ledger
ghosts-beside-M-Ledger g a = record { name = a.unopened.name; parts = a.unopened.parts }

abbrev pub ghosts-beside-M-Room : goal.ghosts-beside-M-Room
ghosts-beside-M-Room g a = record { table = a.unopened.table }

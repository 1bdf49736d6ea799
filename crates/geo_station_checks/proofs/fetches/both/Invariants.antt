use Rattle.geo_station_checks.proofs.fetches.both.Given as goal

abbrev pub ghosts-beside_a_link-M-Ledger : goal.ghosts-beside_a_link-M-Ledger
ghosts-beside_a_link-M-Ledger g a = record { name = a.unopened.name; parts = a.unopened.parts }

abbrev pub ghosts-beside_a_link-M-Room : goal.ghosts-beside_a_link-M-Room
ghosts-beside_a_link-M-Room g a = record { table = a.unopened.table }

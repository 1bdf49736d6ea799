use Rattle.geo_station_checks.proofs.stations.history_of.Given as goal

abbrev pub ghosts-carried-L-Ledger : goal.ghosts-carried-L-Ledger
ghosts-carried-L-Ledger g a = record { name = a.unopened.name; parts = a.unopened.parts }

abbrev pub ghosts-carried-L-Room : goal.ghosts-carried-L-Room
ghosts-carried-L-Room g a = record { table = a.unopened.table }

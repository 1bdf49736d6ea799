use Rattle.geo_station_checks.proofs.stations.the_call_that_fills_an_era_ends_it.Given as goal

abbrev pub ghosts-carried-L-Ledger : goal.ghosts-carried-L-Ledger
ghosts-carried-L-Ledger g a = record { name = a.unopened.name; parts = a.unopened.parts }

abbrev pub ghosts-carried-L-Room : goal.ghosts-carried-L-Room
ghosts-carried-L-Room g a = record { table = a.unopened.table }

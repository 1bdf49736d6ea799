use Rattle.geo_station_checks.proofs.pairs.two_stations_that_told_each_other_close.Given as goal

abbrev pub ghosts-both-L-Ledger : goal.ghosts-both-L-Ledger
ghosts-both-L-Ledger g a = record { name = a.unopened.name; parts = a.unopened.parts }

abbrev pub ghosts-both-L-Room : goal.ghosts-both-L-Room
ghosts-both-L-Room g a = record { table = a.unopened.table }

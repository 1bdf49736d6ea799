use Rattle.geo_station_checks.proofs.stations.one_seat_is_too_few.Given as goal

abbrev pub ghosts-refuses_one-L-Ledger : goal.ghosts-refuses_one-L-Ledger
ghosts-refuses_one-L-Ledger g a = record { name = a.unopened.name; parts = a.unopened.parts }

abbrev pub ghosts-refuses_one-L-Room : goal.ghosts-refuses_one-L-Room
ghosts-refuses_one-L-Room g a = record { table = a.unopened.table }

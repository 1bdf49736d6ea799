use Rattle.geo_station_checks.proofs.holds.a_station_that_logs_is_asked_request_by_request.Given as goal

abbrev pub ghosts-told-L-Ledger : goal.ghosts-told-L-Ledger
ghosts-told-L-Ledger g a = record { name = a.unopened.name; parts = a.unopened.parts }

abbrev pub ghosts-told-L-Room : goal.ghosts-told-L-Room
ghosts-told-L-Room g a = record { table = a.unopened.table }

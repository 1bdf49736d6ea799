use Rattle.geo_station_checks.proofs.threads.shared.Given as goal

abbrev pub ghosts-day-L-Ledger : goal.ghosts-day-L-Ledger
ghosts-day-L-Ledger g a = record { name = a.unopened.name; parts = a.unopened.parts }

abbrev pub ghosts-day-L-Room : goal.ghosts-day-L-Room
ghosts-day-L-Room g a = record { table = a.unopened.table }

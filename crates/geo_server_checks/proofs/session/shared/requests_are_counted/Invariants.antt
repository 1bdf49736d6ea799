use Rattle.geo_server_checks.proofs.session.shared.requests_are_counted.Given as goal

abbrev pub ghosts-counted-L-Ledger : goal.ghosts-counted-L-Ledger
ghosts-counted-L-Ledger g a = record { name = a.unopened.name; parts = a.unopened.parts }

abbrev pub ghosts-counted-L-Room : goal.ghosts-counted-L-Room
ghosts-counted-L-Room g a = record { table = a.unopened.table }

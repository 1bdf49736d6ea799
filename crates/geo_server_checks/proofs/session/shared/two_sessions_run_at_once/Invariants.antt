use Rattle.geo_server_checks.proofs.session.shared.two_sessions_run_at_once.Given as goal

abbrev pub ghosts-both-L-Ledger : goal.ghosts-both-L-Ledger
ghosts-both-L-Ledger g a = record { name = a.unopened.name; parts = a.unopened.parts }

abbrev pub ghosts-both-L-Room : goal.ghosts-both-L-Room
ghosts-both-L-Room g a = record { table = a.unopened.table }

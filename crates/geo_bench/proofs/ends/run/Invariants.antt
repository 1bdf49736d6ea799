use Rattle.geo_bench.proofs.ends.run.Given as goal

abbrev pub ghosts-run_named-L-Ledger : goal.ghosts-run_named-L-Ledger
ghosts-run_named-L-Ledger g a = record { name = a.unopened.name; parts = a.unopened.parts }

abbrev pub ghosts-run_named-L-Room : goal.ghosts-run_named-L-Room
ghosts-run_named-L-Room g a = record { table = a.unopened.table }

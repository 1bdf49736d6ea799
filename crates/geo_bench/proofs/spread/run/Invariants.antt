use Rattle.geo_bench.proofs.spread.run.Given as goal

abbrev pub ghosts-run_named-A-Ledger : goal.ghosts-run_named-A-Ledger
ghosts-run_named-A-Ledger g a = record { name = a.first.name; parts = a.first.parts }

abbrev pub ghosts-run_named-A-Room : goal.ghosts-run_named-A-Room
ghosts-run_named-A-Room g a = record { table = a.first.table }

abbrev pub ghosts-run_named-B-Ledger : goal.ghosts-run_named-B-Ledger
ghosts-run_named-B-Ledger g a = record { name = a.second.name; parts = a.second.parts }

abbrev pub ghosts-run_named-B-Room : goal.ghosts-run_named-B-Room
ghosts-run_named-B-Room g a = record { table = a.second.table }

abbrev pub ghosts-run_named-C-Ledger : goal.ghosts-run_named-C-Ledger
ghosts-run_named-C-Ledger g a = record { name = a.third.name; parts = a.third.parts }

abbrev pub ghosts-run_named-C-Room : goal.ghosts-run_named-C-Room
ghosts-run_named-C-Room g a = record { table = a.third.table }

abbrev pub ghosts-run_named-D-Ledger : goal.ghosts-run_named-D-Ledger
ghosts-run_named-D-Ledger g a = record { name = a.last.name; parts = a.last.parts }

abbrev pub ghosts-run_named-D-Room : goal.ghosts-run_named-D-Room
ghosts-run_named-D-Room g a = record { table = a.last.table }

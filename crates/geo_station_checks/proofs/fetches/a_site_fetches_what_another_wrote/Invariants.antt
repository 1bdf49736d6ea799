use Rattle.geo_station_checks.proofs.fetches.a_site_fetches_what_another_wrote.Given as goal

abbrev pub ghosts-both-L-Ledger : goal.ghosts-both-L-Ledger
ghosts-both-L-Ledger g a = record { name = a.unopened.name; parts = a.unopened.parts }

abbrev pub ghosts-both-L-Room : goal.ghosts-both-L-Room
ghosts-both-L-Room g a = record { table = a.unopened.table }

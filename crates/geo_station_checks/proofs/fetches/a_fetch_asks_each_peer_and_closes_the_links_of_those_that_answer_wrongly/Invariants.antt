use Rattle.geo_station_checks.proofs.fetches.a_fetch_asks_each_peer_and_closes_the_links_of_those_that_answer_wrongly.Given as goal

abbrev pub ghosts-over_peers-L-Ledger : goal.ghosts-over_peers-L-Ledger
ghosts-over_peers-L-Ledger g a = record { name = a.unopened.name; parts = a.unopened.parts }

abbrev pub ghosts-over_peers-L-Room : goal.ghosts-over_peers-L-Room
ghosts-over_peers-L-Room g a = record { table = a.unopened.table }

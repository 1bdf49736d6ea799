use Rattle.std.proofs.Common.{◌≡◌, length, take, map}
use Rattle.std.specs.List.{All}
use Rattle.geo_site.specs.Sites.{state_in}
use Rattle.geo_station.specs.Lacking.{IsLackedBy}
use Rattle.geo_station.proofs.missing.all_lacked.Given as goal

-- what is asked for is that of the keys that were passed
abbrev pub invariant-loop-at : goal.invariant-loop-at
invariant-loop-at l = record {
  keys : map (λ m. m.key) l.lacked_ones.items ≡ take l.at l.keys;
  each : All (λ m. IsLackedBy (state_in l.site) l.number m) l.lacked_ones.items;
  many : length l.lacked_ones.items ≡ l.at;
  all : length l.keys ≡ l.at-end;
}

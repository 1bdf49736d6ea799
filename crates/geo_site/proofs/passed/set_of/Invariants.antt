use Rattle.std.proofs.Common.{◌≡◌, ℕ, List, take}
use Rattle.std.specs.List.{list_any}
use Rattle.geo_records.specs.Keys.{same_key}
use Rattle.geo_site.proofs.passed.set_of.Given as goal

-- the set has the keys that came
abbrev pub invariant-loop-key : goal.invariant-loop-key
invariant-loop-key l = (q : List ℕ) → list_any (λ k. same_key q k.now) l.set.keys ≡ list_any (same_key q) (take l.key-index l.keys)

use Rattle.std.proofs.Common.{◌≡◌, ℕ, List, IfOk, option_map, subst}
use Rattle.geo_values.specs.Held.{stock_in, digest_of, digest_at}
use Rattle.geo_values.specs.Links.{Kept}
use Rattle.geo_values.proofs.values.Values.held.Goals as goal

pub held-requires : goal.held-requires
held-requires c = record { linked = c.self.invariant.1 }

pub returns-clause-held : goal.returns-clause-held
returns-clause-held c =
    subst (λ (k : Kept). IfOk c.held.result (λ all. (q : List ℕ) → digest_at all.items q ≡ option_map digest_of ((stock_in k).held q))) c.self.view_is c.held.ensures.held

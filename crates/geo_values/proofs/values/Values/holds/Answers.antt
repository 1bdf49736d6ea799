use Rattle.std.proofs.Common.{◌≡◌, ◌∙◌, is_some, sym, subst}
use Rattle.geo_values.specs.Held.{stock_in}
use Rattle.geo_values.specs.Links.{Kept}
use Rattle.geo_values.proofs.Linked.{held_some}
use Rattle.geo_values.proofs.values.Values.holds.Goals as goal

pub returns : goal.returns
returns c =
    subst (λ (k : Kept). c.contains_key.result ≡ is_some ((stock_in k).held c.args.key.now)) c.self.view_is
    (c.contains_key.ensures ∙ sym (held_some c.self.invariant.1 c.args.key.now))

use Rattle.std.proofs.Common.{◌≡◌, ◌∙◌, is_some, sym, subst}
use Rattle.std.specs.List.{list_any}
use Rattle.geo_records.specs.Keys.{same_key}
use Rattle.geo_values.specs.Stock.{IsListed}
use Rattle.geo_values.specs.Held.{stock_in, keys_in}
use Rattle.geo_values.specs.Links.{Kept}
use Rattle.geo_values.proofs.Found.{any-keys}
use Rattle.geo_values.proofs.Linked.{held_some}
use Rattle.geo_values.proofs.Standing.{stock-listed}
use Rattle.geo_values.proofs.values.Values.len.Goals as goal

pub returns-clause-held : goal.returns-clause-held
returns-clause-held c = λ q.
    subst (λ (k : Kept). list_any (same_key q) (keys_in k) ≡ is_some ((stock_in k).held q)) c.self.view_is
    (any-keys q c.self.inside.parts.items.entries ∙ sym (held_some c.self.invariant.1 q))

pub returns-clause-listed : goal.returns-clause-listed
returns-clause-listed c = subst (λ (k : Kept). IsListed (stock_in k)) c.self.view_is (stock-listed c.self.invariant.1)

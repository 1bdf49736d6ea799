use Rattle.std.proofs.Common.{◌≡◌, subst}
use Rattle.geo_values.specs.Stock.{is_full}
use Rattle.geo_values.specs.Held.{stock_in}
use Rattle.geo_values.specs.Links.{Kept, links_in}
use Rattle.geo_values.proofs.Admitted.{full-told}
use Rattle.geo_values.proofs.values.Values.is_full.Goals as goal

pub returns : goal.returns
returns c = record {
  class = c.class_of.result;
  fits = c.class_of.ensures;
  told = subst (λ (k : Kept). c.is_full.result ≡ is_full (stock_in k) c.class_of.result) c.self.view_is
      (full-told (links_in c.self.inside.parts) c.self.invariant.1 c.class_of.result c.class_of.ensures.0 c.is_full.result c.is_full.ensures.full c.is_full.ensures.room);
}

use Rattle.std.proofs.Common.{◌≡◌, None, subst}
use Rattle.geo_values.specs.Stock.{Same, hit_at}
use Rattle.geo_values.specs.Links.{Kept, links_of, links_in, stock_of}
use Rattle.geo_values.proofs.Linked.{can_go_if_any}
use Rattle.geo_values.proofs.Relisted.{linked-hits, stock-hits, absent-hits}
use Rattle.geo_values.proofs.values.Values.hit_at.Goals as goal

pub hit_at-requires-clause-there : goal.hit_at-requires-clause-there
hit_at-requires-clause-there c = can_go_if_any c.self.invariant.1 c.args.key.now

pub invariant_of-self : goal.invariant_of-self
invariant_of-self c = (c.hit_at.ensures.classes, linked-hits _ c.self.invariant.1 c.args.key.now c.hit_at.ensures.hits)

pub returns-clause-hit : goal.returns-clause-hit
returns-clause-hit c =
    subst (λ (k : Kept). Same (hit_at c.args.key.now (stock_of (links_of k))) (stock_of (links_in c.hit_at.new.self))) c.self.view_is (stock-hits _ c.self.invariant.1 c.args.key.now c.hit_at.ensures.hits)

pub returns-clause-absent : goal.returns-clause-absent
returns-clause-absent c =
    subst (λ (k : Kept). (stock_of (links_of k)).held c.args.key.now ≡ None → Same (stock_of (links_of k)) (stock_of (links_in c.hit_at.new.self))) c.self.view_is (λ none. absent-hits _ c.self.invariant.1 c.args.key.now none c.hit_at.ensures.hits)

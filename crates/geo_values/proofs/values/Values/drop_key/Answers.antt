use Rattle.std.proofs.Common.{◌≡◌, ◌∙◌, ◌+◌, cond, None, sym, subst, arith}
use Rattle.geo_values.specs.Stock.{Same, dropped}
use Rattle.geo_values.specs.Held.{count_in}
use Rattle.geo_values.specs.Links.{Kept, links_of, links_in, kept_in, stock_of}
use Rattle.geo_values.proofs.Found.{counted}
use Rattle.geo_values.proofs.Linked.{can_go_if_any, held_some}
use Rattle.geo_values.proofs.Relisted.{linked-takes_out, stock-takes_out, absent-takes_out}
use Rattle.geo_values.proofs.values.Values.drop_key.Goals as goal

pub take_out-requires-clause-goes : goal.take_out-requires-clause-goes
take_out-requires-clause-goes c = can_go_if_any c.self.invariant.1 c.args.key.now

pub invariant_of-self : goal.invariant_of-self
invariant_of-self c = (c.take_out.ensures.classes, linked-takes_out _ c.self.invariant.1 c.args.key.now c.take_out.ensures.out)

pub returns-clause-was : goal.returns-clause-was
returns-clause-was c = rw (← c.self.view_is) (c.take_out.ensures.was ∙ sym (held_some c.self.invariant.1 c.args.key.now))

pub returns-clause-dropped : goal.returns-clause-dropped
returns-clause-dropped c =
    subst (λ (k : Kept). Same (dropped c.args.key.now (stock_of (links_of k))) (stock_of (links_in c.take_out.new.self))) c.self.view_is (stock-takes_out _ c.self.invariant.1 c.args.key.now c.take_out.ensures.out)

pub returns-clause-absent : goal.returns-clause-absent
returns-clause-absent c =
    subst (λ (k : Kept). (stock_of (links_of k)).held c.args.key.now ≡ None → Same (stock_of (links_of k)) (stock_of (links_in c.take_out.new.self))) c.self.view_is (λ none. absent-takes_out _ c.self.invariant.1 c.args.key.now none c.take_out.ensures.out)

pub returns-clause-counts : goal.returns-clause-counts
returns-clause-counts c =
    subst (λ (k : Kept). count_in (kept_in c.take_out.new.self) + cond c.take_out.result 1 0 ≡ count_in k) c.self.view_is (omega (arith, counted (kept_in c.take_out.new.self), counted (kept_in c.self.inside.parts), c.take_out.ensures.counts))

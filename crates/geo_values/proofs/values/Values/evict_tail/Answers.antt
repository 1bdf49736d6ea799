use Rattle.std.proofs.Common.{◌≡◌, IfSome, subst}
use Rattle.geo_lru.specs.Rules.{victim_of}
use Rattle.geo_values.specs.Stock.{Same, IsHeldIn, evicted_from}
use Rattle.geo_values.specs.Links.{Kept, links_of, links_in, stock_of}
use Rattle.geo_values.proofs.Evicted.{can_evict_if_any, linked-evicts, key-evicts, held-evicts, stock-evicts}
use Rattle.geo_values.proofs.values.Values.evict_tail.Goals as goal

pub evict-requires-clause-goes : goal.evict-requires-clause-goes
evict-requires-clause-goes c = can_evict_if_any c.self.invariant.1 c.args.class

pub invariant_of-self : goal.invariant_of-self
invariant_of-self c = (c.evict.ensures.classes, linked-evicts _ c.self.invariant.1 c.args.class c.evict.result c.evict.ensures.evicts)

pub returns-clause-key : goal.returns-clause-key
returns-clause-key c =
    subst (λ (k : Kept). c.evict.result ≡ victim_of ((stock_of (links_of k)).lists c.args.class)) c.self.view_is (key-evicts (links_in c.evict.new.self) c.self.invariant.1 c.args.class c.evict.result c.evict.ensures.evicts)

pub returns-clause-held : goal.returns-clause-held
returns-clause-held c =
    subst (λ (k : Kept). IfSome c.evict.result (λ key. IsHeldIn (stock_of (links_of k)) key c.args.class)) c.self.view_is (held-evicts (links_in c.evict.new.self) c.self.invariant.1 c.args.class c.evict.result c.evict.ensures.evicts)

pub returns-clause-evicted : goal.returns-clause-evicted
returns-clause-evicted c =
    subst (λ (k : Kept). Same (evicted_from c.args.class (stock_of (links_of k))) (stock_of (links_in c.evict.new.self))) c.self.view_is (stock-evicts (links_in c.evict.new.self) c.self.invariant.1 c.args.class c.evict.result c.evict.ensures.evicts)

use Rattle.std.proofs.Common.{inr, refl, subst}
use Rattle.geo_slabs.specs.Storage.{Storage}
use Rattle.geo_values.specs.Steps.{Evicts}
use Rattle.geo_values.specs.Links.{links_in}
use Rattle.geo_values.proofs.Evictions.{makes_room}
use Rattle.geo_values.proofs.parts.Parts.put.Goals as goal

pub unreachable-requires : goal.unreachable-requires
unreachable-requires c =
    let now = c.args.self.now in
    let evicts = subst (λ (s : Storage). Evicts (links_in (record now { slabs = s })) (links_in c.evict-evicted.new.self) c.args.class c.evict-evicted.result) c.in_default.ensures.put.1 c.evict-evicted.ensures.evicts in
    makes_room (links_in now) (links_in c.evict-evicted.new.self) c.args.class (c.requires.victim c.in_default.ensures.put.0) c.evict-evicted.result evicts c.in-None.ensures.put.0

pub returns-clause-puts : goal.returns-clause-puts
returns-clause-puts c =
    let now = c.args.self.now in
    let evicts = subst (λ (s : Storage). Evicts (links_in (record now { slabs = s })) (links_in c.evict-evicted.new.self) c.args.class c.evict-evicted.result) c.in_default.ensures.put.1 c.evict-evicted.ensures.evicts in
    inr (record {
      full = c.in_default.ensures.put.0;
      between = links_in c.evict-evicted.new.self;
      evicts = evicts;
      put = record { item = λ q. refl; key = λ m. refl; put = c.in-Some-put.ensures.put; lists = λ d. refl };
    })

use Rattle.std.proofs.Common.{◌≡◌, IfOk, OnOk, OnErr, IsTrue, IsSome, is_some, subst}
use Rattle.geo_records.specs.Keys.{same_key}
use Rattle.geo_lru.specs.Rules.{juggled_by, leaves_list}
use Rattle.geo_values.specs.Stock.{Same, juggled_in}
use Rattle.geo_values.specs.Held.{stock_in}
use Rattle.geo_values.specs.Links.{Kept, links_of, links_in, key_of, stock_of}
use Rattle.geo_values.proofs.Juggled.{told-juggled, linked-juggles, stock-juggles, same-juggles}
use Rattle.geo_values.proofs.Standing.{leaves_list-named}
use Rattle.geo_values.proofs.values.Values.juggle.Goals as goal

pub invariant_of-self : goal.invariant_of-self
invariant_of-self c = (c.juggle.ensures.classes, linked-juggles _ c.self.invariant.1 c.args.class c.juggle.result c.juggle.ensures.moved c.juggle.ensures.unchanged)

pub returns-clause-told : goal.returns-clause-told
returns-clause-told c =
    subst (λ (k : Kept). IfOk c.juggle.result (λ moved. moved ≡ is_some (juggled_by same_key ((stock_in k).lists c.args.class)))) c.self.view_is
    (rw (told-juggled c.self.invariant.1 c.args.class) c.juggle.ensures.told)

pub returns-clause-moved : goal.returns-clause-moved
returns-clause-moved c =
    subst (λ (k : Kept). OnOk c.juggle.result (Same (juggled_in c.args.class (stock_of (links_of k))) (stock_of (links_in c.juggle.new.self)))) c.self.view_is
    (stock-juggles (links_in c.juggle.new.self) c.self.invariant.1 c.args.class c.juggle.result c.juggle.ensures.moved)

pub returns-clause-unchanged : goal.returns-clause-unchanged
returns-clause-unchanged c =
    subst (λ (k : Kept). OnErr c.juggle.result (Same (stock_of (links_of k)) (stock_of (links_in c.juggle.new.self)))) c.self.view_is
    (same-juggles (links_in c.juggle.new.self) c.self.invariant.1 c.args.class c.juggle.result c.juggle.ensures.unchanged)

pub returns-clause-due : goal.returns-clause-due
returns-clause-due c =
    subst (λ (k : Kept). OnErr c.juggle.result (IsSome (juggled_by same_key ((stock_in k).lists c.args.class)))) c.self.view_is
    (rw (told-juggled c.self.invariant.1 c.args.class) c.juggle.ensures.due)

pub returns-clause-elsewhere : goal.returns-clause-elsewhere
returns-clause-elsewhere c =
    subst (λ (k : Kept). OnErr c.juggle.result (IsTrue (leaves_list ((stock_in k).lists c.args.class)))) c.self.view_is
    (rw (leaves_list-named (key_of (links_in c.self.inside.parts)) ((links_in c.self.inside.parts).lists c.args.class)) c.juggle.ensures.elsewhere)

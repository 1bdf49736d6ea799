use Rattle.std.proofs.Common.{◌≡◌, ◌∙◌, ℕ, List, length, sym, subst}
use Rattle.geo_slabs.specs.Storage.{IsFull, IsClassOf}
use Rattle.geo_values.specs.Stock.{IsStored}
use Rattle.geo_values.specs.Links.{Kept, Links, links_of, links_in, stock_of}
use Rattle.geo_values.specs.Steps.{SameLinks, CanGoIfAny, HasVictim, PutsWithRoom, admitted, with_item}
use Rattle.geo_values.proofs.Relisted.{linked-same}
use Rattle.geo_values.proofs.Waiting.{same_links, can_go_if_any-waits, has_victim-waits}
use Rattle.geo_values.proofs.Stored.{store-below, linked-puts, stores-puts, stores-all}
use Rattle.geo_values.proofs.values.Values.store_anew.Goals as goal

pub invariant_of-self-in_err-number : goal.invariant_of-self-in_err-number
invariant_of-self-in_err-number c = (c.in_err-number.ensures.classes, linked-same c.in_err-number.ensures.unchanged c.self.invariant.1)

pub take_out-was-requires-clause-goes : goal.take_out-was-requires-clause-goes
take_out-was-requires-clause-goes c =
    let key = c.args.key.now in
    let class = c.args.class in
    let n = c.in_ok-number.number in
    let base = links_in c.self.inside.parts in
    let waits : SameLinks (admitted n key class base) (links_in c.admit.new.self) = subst (λ (k : List ℕ). SameLinks (admitted n k class base) (links_in c.admit.new.self)) c.in_ok-twin.ensures c.in_ok-number.ensures.admitted in
    subst (λ (l : Links). CanGoIfAny l (l.item key)) (sym (same_links waits)) (can_go_if_any-waits base c.self.invariant.1 n key class c.in_ok-number.ensures.fresh key)

pub put-evicted-requires-clause-victim : goal.put-evicted-requires-clause-victim
put-evicted-requires-clause-victim c = λ full.
    let key = c.args.key.now in
    let class = c.args.class in
    let n = c.in_ok-number.number in
    let base = links_in c.self.inside.parts in
    let waits : SameLinks (admitted n key class base) (links_in c.admit.new.self) = subst (λ (k : List ℕ). SameLinks (admitted n k class base) (links_in c.admit.new.self)) c.in_ok-twin.ensures c.in_ok-number.ensures.admitted in
    let b = store-below base c.self.invariant.1 n key class c.in_ok-number.ensures.fresh (links_in c.admit.new.self) (links_in c.take_out-was.new.self) waits c.take_out-was.ensures.out in
    subst (λ (l : Links). HasVictim l class) (sym b.waits)
    (has_victim-waits b.below b.linked n key class b.free c.requires.class.0 (subst (λ (l : Links). IsFull l.storage class) b.waits full))

pub invariant_of-self-2 : goal.invariant_of-self-2
invariant_of-self-2 c =
    let key = c.args.key.now in
    let bytes = c.args.blob.now in
    let class = c.args.class in
    let n = c.in_ok-number.number in
    let base = links_in c.self.inside.parts in
    let out = links_in c.take_out-was.new.self in
    let put = links_in c.put-evicted.new.self in
    let waits : SameLinks (admitted n key class base) (links_in c.admit.new.self) = subst (λ (k : List ℕ). SameLinks (admitted n k class base) (links_in c.admit.new.self)) c.in_ok-twin.ensures c.in_ok-number.ensures.admitted in
    let b = store-below base c.self.invariant.1 n key class c.in_ok-number.ensures.fresh (links_in c.admit.new.self) out waits c.take_out-was.ensures.out in
    let fits : IsClassOf (length bytes) class = c.requires.class in
    let puts : PutsWithRoom out put class bytes c.put-evicted.result.0 c.put-evicted.result.1 = subst (λ (x : List ℕ). PutsWithRoom out put class x c.put-evicted.result.0 c.put-evicted.result.1) c.bytes.ensures c.put-evicted.ensures.puts in
    let placed = subst (λ (k : List ℕ). SameLinks (with_item k (record { number = n; digest = c.digest.result; class = class; chunk = c.put-evicted.result.0 }) put) (links_in c.place.new.self)) c.in_ok-own.ensures c.place.ensures.placed in
    let known = subst (λ (d : List ℕ). SameLinks (with_item key (record { number = n; digest = d; class = class; chunk = c.put-evicted.result.0 }) put) (links_in c.place.new.self)) c.digest.ensures placed in (
      subst (λ (v : List Rattle.geo_lru.specs.Lists.Lists). length v ≡ Rattle.geo_slabs.specs.Storage.class_count) (sym (Rattle.std.proofs.Common.ap (λ v. v.items) c.place.ensures.classes)) c.put-evicted.ensures.classes,
      linked-puts n key class fits.0 bytes fits c.put-evicted.result.0 b.below b.linked b.free b.gone out put b.waits c.put-evicted.result.1 (links_in c.place.new.self) puts known,
    )

pub returns-clause-stored : goal.returns-clause-stored
returns-clause-stored c =
    let key = c.args.key.now in
    let bytes = c.args.blob.now in
    let class = c.args.class in
    let n = c.in_ok-number.number in
    let base = links_in c.self.inside.parts in
    let out = links_in c.take_out-was.new.self in
    let put = links_in c.put-evicted.new.self in
    let waits : SameLinks (admitted n key class base) (links_in c.admit.new.self) = subst (λ (k : List ℕ). SameLinks (admitted n k class base) (links_in c.admit.new.self)) c.in_ok-twin.ensures c.in_ok-number.ensures.admitted in
    let b = store-below base c.self.invariant.1 n key class c.in_ok-number.ensures.fresh (links_in c.admit.new.self) out waits c.take_out-was.ensures.out in
    let fits : IsClassOf (length bytes) class = c.requires.class in
    let puts : PutsWithRoom out put class bytes c.put-evicted.result.0 c.put-evicted.result.1 = subst (λ (x : List ℕ). PutsWithRoom out put class x c.put-evicted.result.0 c.put-evicted.result.1) c.bytes.ensures c.put-evicted.ensures.puts in
    let placed = subst (λ (k : List ℕ). SameLinks (with_item k (record { number = n; digest = c.digest.result; class = class; chunk = c.put-evicted.result.0 }) put) (links_in c.place.new.self)) c.in_ok-own.ensures c.place.ensures.placed in
    let known = subst (λ (d : List ℕ). SameLinks (with_item key (record { number = n; digest = d; class = class; chunk = c.put-evicted.result.0 }) put) (links_in c.place.new.self)) c.digest.ensures placed in
    subst (λ (k : Kept). IsStored (stock_of (links_of k)) (stock_of (links_in c.place.new.self)) key bytes c.put-evicted.result.1) c.self.view_is
    (stores-all (stock_of base) (stock_of b.below) (stock_of (links_in c.place.new.self)) key bytes class c.put-evicted.result.1 fits b.stock
    (stores-puts n key class fits.0 bytes fits c.put-evicted.result.0 b.below b.linked b.free b.gone out put b.waits c.put-evicted.result.1 (links_in c.place.new.self) puts known))

use Rattle.std.proofs.Common.{◌≡◌, ℕ, List, length, None, false, ap, sym, subst}
use Rattle.geo_slabs.specs.Storage.{Storage, IsFull, IsClassOf, class_count}
use Rattle.geo_lru.specs.Lists.{Lists}
use Rattle.geo_values.specs.Stock.{Same, arrived, is_full, with_chunk}
use Rattle.geo_values.specs.Links.{Kept, links_of, links_in, stock_of}
use Rattle.geo_values.specs.Steps.{SameLinks, IsPutIn, admitted, with_item}
use Rattle.geo_values.proofs.Relisted.{linked-same}
use Rattle.geo_values.proofs.Linked.{no_item}
use Rattle.geo_values.proofs.Admitted.{not-full, linked-admitted, stock-admitted}
use Rattle.geo_values.proofs.values.Values.admit_in.Goals as goal

pub invariant_of-self-in_err-number : goal.invariant_of-self-in_err-number
invariant_of-self-in_err-number c = (c.in_err-number.ensures.classes, linked-same c.in_err-number.ensures.unchanged c.self.invariant.1)

pub put_within-chunk-requires-clause-not_full : goal.put_within-chunk-requires-clause-not_full
put_within-chunk-requires-clause-not_full c = λ full.
    let class = c.args.class in
    let base = links_in c.self.inside.parts in
    let room : is_full (stock_of base) class ≡ false = subst (λ (k : Kept). is_full (stock_of (links_of k)) class ≡ false) (sym c.self.view_is) c.requires.not_full in
    not-full base c.self.invariant.1 class c.requires.class.0 room (subst (λ (s : Storage). IsFull s class) c.in_ok-number.ensures.admitted.storage full)

pub invariant_of-self-2 : goal.invariant_of-self-2
invariant_of-self-2 c =
    let key = c.args.key.now in
    let bytes = c.args.blob.now in
    let class = c.args.class in
    let n = c.in_ok-number.number in
    let base = links_in c.self.inside.parts in
    let put = links_in c.put_within-chunk.new.self in
    let waits : SameLinks (admitted n key class base) (links_in c.admit.new.self) = subst (λ (k : List ℕ). SameLinks (admitted n k class base) (links_in c.admit.new.self)) c.in_ok-twin.ensures c.in_ok-number.ensures.admitted in
    let fits : IsClassOf (length bytes) class = c.requires.class in
    let gone = no_item c.self.invariant.1 key (subst (λ (k : Kept). (stock_of (links_of k)).held key ≡ None) (sym c.self.view_is) c.requires.not_held) in
    let puts : IsPutIn (links_in c.admit.new.self) put class bytes c.put_within-chunk.result = subst (λ (x : List ℕ). IsPutIn (links_in c.admit.new.self) put class x c.put_within-chunk.result) c.bytes.ensures c.put_within-chunk.ensures.put in
    let placed = subst (λ (k : List ℕ). SameLinks (with_item k (record { number = n; digest = c.digest.result; class = class; chunk = c.put_within-chunk.result }) put) (links_in c.place.new.self)) c.in_ok-copy.ensures c.place.ensures.placed in
    let known = subst (λ (d : List ℕ). SameLinks (with_item key (record { number = n; digest = d; class = class; chunk = c.put_within-chunk.result }) put) (links_in c.place.new.self)) c.digest.ensures placed in (
      subst (λ (v : List Lists). length v ≡ class_count) (sym (ap (λ v. v.items) c.place.ensures.classes)) c.put_within-chunk.ensures.classes,
      linked-admitted n key class bytes fits c.put_within-chunk.result base c.self.invariant.1 c.in_ok-number.ensures.fresh gone (links_in c.admit.new.self) put waits puts (links_in c.place.new.self) known,
    )

pub returns-clause-admitted : goal.returns-clause-admitted
returns-clause-admitted c =
    let key = c.args.key.now in
    let bytes = c.args.blob.now in
    let class = c.args.class in
    let n = c.in_ok-number.number in
    let base = links_in c.self.inside.parts in
    let put = links_in c.put_within-chunk.new.self in
    let waits : SameLinks (admitted n key class base) (links_in c.admit.new.self) = subst (λ (k : List ℕ). SameLinks (admitted n k class base) (links_in c.admit.new.self)) c.in_ok-twin.ensures c.in_ok-number.ensures.admitted in
    let fits : IsClassOf (length bytes) class = c.requires.class in
    let gone = no_item c.self.invariant.1 key (subst (λ (k : Kept). (stock_of (links_of k)).held key ≡ None) (sym c.self.view_is) c.requires.not_held) in
    let room : is_full (stock_of base) class ≡ false = subst (λ (k : Kept). is_full (stock_of (links_of k)) class ≡ false) (sym c.self.view_is) c.requires.not_full in
    let puts : IsPutIn (links_in c.admit.new.self) put class bytes c.put_within-chunk.result = subst (λ (x : List ℕ). IsPutIn (links_in c.admit.new.self) put class x c.put_within-chunk.result) c.bytes.ensures c.put_within-chunk.ensures.put in
    let placed = subst (λ (k : List ℕ). SameLinks (with_item k (record { number = n; digest = c.digest.result; class = class; chunk = c.put_within-chunk.result }) put) (links_in c.place.new.self)) c.in_ok-copy.ensures c.place.ensures.placed in
    let known = subst (λ (d : List ℕ). SameLinks (with_item key (record { number = n; digest = d; class = class; chunk = c.put_within-chunk.result }) put) (links_in c.place.new.self)) c.digest.ensures placed in
    subst (λ (k : Kept). Same (arrived key bytes class (with_chunk class (stock_of (links_of k)))) (stock_of (links_in c.place.new.self))) c.self.view_is
    (stock-admitted n key class bytes fits c.put_within-chunk.result base c.self.invariant.1 c.in_ok-number.ensures.fresh gone (links_in c.admit.new.self) put waits puts (links_in c.place.new.self) known room)

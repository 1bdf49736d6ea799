-- A key's bytes that are put in place of its own: as if its item had been taken out and had come again by its number.
use Rattle.std.proofs.Common.{◌≡◌, ℕ, inl, inr, Bool, true, false, nat_eq, cond, List, length, Option, Some, None, refl, sym, ap, ◌∙◌}
use Rattle.std.proofs.lemmas.Bool.{cases_eq}
use Rattle.sha2.specs.Sha256.{sha256}
use Rattle.geo_records.specs.Keys.{same_key}
use Rattle.geo_slabs.specs.Storage.{Storage, IsClassOf, so_long, with_held}
use Rattle.geo_slabs.specs.declared.slabs.Chunk.{Chunk}
use Rattle.geo_slabs.proofs.Kept.{replace_puts}
use Rattle.geo_lru.specs.Lists.{Lists, left, entered}
use Rattle.geo_values.specs.Stock.{IsStored}
use Rattle.geo_values.specs.Links.{Links, IsLinked, stock_of}
use Rattle.geo_values.specs.Steps.{SameLinks, IsPutIn, Renews, rewritten, taken_out, admitted, with_item}
use Rattle.geo_values.specs.declared.parts.Item.{Item}
use Rattle.geo_values.proofs.Linked.{same_self, same_numbers, other_numbers, holds_some}
use Rattle.geo_values.proofs.Taken.{linked-out, stock-out}
use Rattle.geo_values.proofs.Stored.{linked-stored, stores-plainly, stores-all}

module _ {base l' : Links} (h : IsLinked base) (key : List ℕ) (class : ℕ) (bytes : List ℕ) (fits : IsClassOf (length bytes) class) (r : Renews base l' key class bytes) where
  abbrev n : ℕ
  n = r.item.number

  abbrev was : Chunk
  was = r.item.chunk

  abbrev chunk : Chunk
  chunk = so_long was bytes

  abbrev new_item : Item
  new_item = record { number = n; digest = sha256 bytes; class = class; chunk = chunk }

  abbrev below : Links
  below = taken_out key r.item base

  out : SameLinks (taken_out key r.item base) below
  out = record { item = λ q. refl; key = λ m. refl; storage = refl; lists = λ c. refl }

  linked_below : IsLinked below
  linked_below = linked-out h key r.item r.is out

  free : below.key n ≡ None
  free = ap (λ b. cond {A = Option (List ℕ)} b None (base.key n)) (same_numbers n n refl)

  gone : below.item key ≡ None
  gone = ap (λ t. cond {A = Option Item} t None (base.item key)) (same_self key)

  home : chunk.class ≡ class
  home = (h.sound key r.item r.is).class ∙ r.class_is

  abbrev storage : Storage
  storage = with_held base.storage chunk.class chunk.number (Some bytes)

  abbrev before : Links
  before = admitted n key class below

  abbrev after : Links
  after = record { item = before.item; key = before.key; storage = storage; lists = before.lists }

  put_in : IsPutIn before after class bytes chunk
  put_in = record {
    item = λ q. refl;
    key = λ m. refl;
    put = inl (replace_puts base.storage storage class was bytes refl (holds_some h key r.item r.is) home);
    lists = λ c. refl;
  }

  items : (q : List ℕ) → l'.item q ≡ cond (same_key q key) (Some new_item) (below.item q)
  items q = r.done.item q ∙ by (same_key q key) (base.item q)
    where
      renamed : rewritten r.item bytes ≡ new_item
      renamed = λ i. record { number = n; digest = sha256 bytes; class = r.class_is i; chunk = chunk }

      by : (t : Bool) (o : Option Item) → cond t (Some (rewritten r.item bytes)) o ≡ cond t (Some new_item) (cond t None o)
      by true o = ap (λ (i : Item). Some i) renamed
      by false o = refl

  keys : (m : ℕ) → l'.key m ≡ cond (nat_eq m n) (Some key) (cond (nat_eq m n) None (base.key m))
  keys m = r.done.key m ∙ elim (cases_eq m n) [
    | inl same ↦
        ap base.key same ∙ h.there key r.item r.is
        ∙ sym (ap (λ b. cond {A = Option (List ℕ)} b (Some key) (cond (nat_eq m n) None (base.key m))) (same_numbers m n same))
    | inr apart ↦
        sym (ap (λ b. cond {A = Option (List ℕ)} b (Some key) (cond b None (base.key m))) (other_numbers m n apart))
  ]

  lists : (c : ℕ) → l'.lists c ≡ cond (nat_eq c class) (entered n (below.lists c)) (below.lists c)
  lists c = r.done.lists c ∙ by (nat_eq c r.item.class) ∙ ap (λ k. cond {A = Lists} (nat_eq c k) (entered n (below.lists c)) (below.lists c)) r.class_is
    where
      by : (t : Bool) → cond t (entered n (left n (base.lists c))) (base.lists c) ≡ cond t (entered n (cond t (left n (base.lists c)) (base.lists c))) (cond t (left n (base.lists c)) (base.lists c))
      by true = refl
      by false = refl

  placed : SameLinks (with_item key new_item after) l'
  placed = record { item = items; key = keys; storage = r.done.storage; lists = lists }

  pub linked-renewed : IsLinked l'
  linked-renewed = linked-stored n key class fits.0 bytes fits chunk below linked_below free gone before after refl put_in l' placed

  pub stored-renewed : IsStored (stock_of base) (stock_of l') key bytes None
  stored-renewed =
      stores-all (stock_of base) (stock_of below) (stock_of l') key bytes class None fits (stock-out h key r.item r.is out)
      (stores-plainly n key class fits.0 bytes fits chunk below linked_below free gone before after refl put_in l' placed)

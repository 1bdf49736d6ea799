-- What a look-up of a key finds.
use Rattle.std.proofs.Common.{◌≡◌, ℕ, ◌^◌, ◌≤◌, Bool, true, false, not, ◌||◌, cond, is_some, List, [], ◌∷◌, length, Option, Some, None, refl, sym, ap, subst, ◌∙◌, arith}
use Rattle.std.proofs.lemmas.List.{length-map}
use Rattle.std.proofs.Math.Nat.{pow-le-pow_right}
use Rattle.std.specs.List.{list_any}
use Rattle.std.specs.Map.{lookup, keys_of}
use Rattle.std.specs.Str.{bytes_eq}
use Rattle.geo_records.specs.Keys.{same_key}
use Rattle.geo_slabs.specs.Chunks.{page_bytes}
use Rattle.geo_slabs.specs.Storage.{held_in}
use Rattle.geo_values.specs.Stock.{with_digest}
use Rattle.geo_values.specs.Held.{count_in}
use Rattle.geo_values.specs.Links.{Links, Kept, IsLinked, IsItem, bytes_of}
use Rattle.geo_values.specs.declared.parts.Item.{Item}

pub any-keys : {V : Type 0} (q : List ℕ) (es : List (List ℕ × V)) → list_any (same_key q) (keys_of es) ≡ is_some (lookup (same_key q) es)
any-keys q [] = refl
any-keys q (e ∷ es) = elim (same_key q e.0) as (λ b. (b || list_any (same_key q) (keys_of es)) ≡ is_some (cond b (Some e.1) (lookup (same_key q) es))) [
  | true ↦ refl
  | false ↦ any-keys q es
]

pub not_true : (b : Bool) → not b ≡ true → b ≡ false
not_true true h = cc
not_true false h = refl

pub not_false : (b : Bool) → not b ≡ false → b ≡ true
not_false true h = refl
not_false false h = cc

-- the digest that is kept is that of the bytes
pub digest_tells : (l : Links) → IsLinked l → (key digest : List ℕ) (item : Item) → l.item key ≡ Some item
    → with_digest digest (bytes_of l.storage (l.item key)) ≡ cond (bytes_eq item.digest digest) (held_in l.storage item.chunk) None
digest_tells l h key digest item is =
    let s : IsItem l.storage item = h.sound key item is in
    ap (λ o. with_digest digest (bytes_of l.storage o)) is ∙ ap (with_digest digest) s.holds ∙ ap (λ d. cond {A = Option (List ℕ)} (bytes_eq d digest) (Some s.bytes) None) (sym s.digest) ∙ ap (λ (o : Option (List ℕ)). cond (bytes_eq item.digest digest) o None) (sym s.holds)

-- there are as many keys as items
pub counted : (k : Kept) → count_in k ≡ length k.items
counted k = length-map k.items (λ (e : List ℕ × Item). e.0)

-- what an item's chunk holds is no longer than a page
pub held_fits : (l : Links) → IsLinked l → (key : List ℕ) (item : Item) → l.item key ≡ Some item → (held : List ℕ) → held_in l.storage item.chunk ≡ Some held → length held ≤ page_bytes
held_fits l h key item is held holds =
    let s : IsItem l.storage item = h.sound key item is in
    let both : Some s.bytes ≡ Some held = sym s.holds ∙ holds in
    let own : s.bytes ≡ held = cc in
    let least : item.class ≤ 14 = omega (arith, s.fits.0) in
    let most : 2 ^ item.class ≤ 2 ^ 14 = pow-le-pow_right (omega arith) least in
    subst (λ (b : List ℕ). length b ≤ page_bytes) own (omega (arith, s.fits.1, most))

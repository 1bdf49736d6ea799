-- The changes from one on, and what was known before each.
use Rattle.std.proofs.Common.{◌≡◌, ℕ, zero, suc, ◌+◌, ◌-◌, ◌<◌, ◌≤◌, ◌||◌, List, [], ◌∷◌, ◌++◌, length, map, take, drop, None, Some, refl, sym, ap, ◌∙◌, arith, slice_get}
use Rattle.std.specs.List.{list_any}
use Rattle.geo_maps.proofs.Entries.{some_same, some_none}
use Rattle.geo_records.specs.Keys.{same_key}
use Rattle.geo_delta.specs.Changes.{Noted, known_after}

abbrev pub key_of : {V : Type 0} → List ℕ × V → List ℕ
key_of c = c.0

-- a change's vector is what was known after it
pub known_at : (i : ℕ) (reach : List ℕ) (changes : List Noted) (c : Noted) → slice_get changes i ≡ Some c → known_after (suc i) reach changes ≡ c.1
known_at i reach [] c at = absurd (some_none (sym at))
known_at zero reach (x ∷ xs) c at = ap (λ (d : Noted). d.1) (some_same at)
known_at (suc i) reach (x ∷ xs) c at = known_at i x.1 xs c at

-- so many changes back from the newest
pub known_back : (kept passed : ℕ) (reach : List ℕ) (changes : List Noted) (c : Noted) → passed < kept → slice_get changes (kept - passed - 1) ≡ Some c → known_after (kept - passed) reach changes ≡ c.1
known_back kept passed reach changes c lt at =
    let next : kept - passed ≡ suc (kept - passed - 1) = omega (arith, lt) in
    ap (λ n. known_after n reach changes) next ∙ known_at (kept - passed - 1) reach changes c at

pub there : {X : Type 0} (xs : List X) (i : ℕ) → i < length xs → slice_get xs i ≡ None → ⊥
there [] i lt at = omega (arith, lt)
there (x ∷ xs) zero lt at = some_none at
there (x ∷ xs) (suc i) lt at = there xs i (omega (arith, lt)) at

-- nothing is from the end on
pub none_from : {X : Type 0} (n : ℕ) (xs : List X) → drop n (take n xs) ≡ []
none_from zero xs = refl
none_from (suc n) [] = refl
none_from (suc n) (x ∷ xs) = none_from n xs

from_more : {X : Type 0} (n i : ℕ) (xs : List X) (x : X) → n ≤ i → slice_get xs i ≡ Some x → drop n (take (suc i) xs) ≡ drop n (take i xs) ++ x ∷ []
from_more n i [] x le at = absurd (some_none (sym at))
from_more zero zero (y ∷ ys) x le at = ap (λ z. z ∷ []) (some_same at)
from_more zero (suc i) (y ∷ ys) x le at = ap (λ zs. y ∷ zs) (from_more zero i ys x (omega arith) at)
from_more (suc n) zero (y ∷ ys) x le at = absurd (omega (arith, le))
from_more (suc n) (suc i) (y ∷ ys) x le at = from_more n i ys x (omega (arith, le)) at

map_more : {V : Type 0} (xs : List (List ℕ × V)) (c : List ℕ × V) → map key_of (xs ++ c ∷ []) ≡ map key_of xs ++ c.0 ∷ []
map_more [] c = refl
map_more (x ∷ xs) c = ap (λ ks. x.0 ∷ ks) (map_more xs c)

-- the key of one more change
pub keys_more : {V : Type 0} (n i : ℕ) (changes : List (List ℕ × V)) (c : List ℕ × V) (keys more : List (List ℕ)) → n ≤ i → slice_get changes i ≡ Some c → keys ≡ map key_of (drop n (take i changes)) → more ≡ keys ++ c.0 ∷ []
    → more ≡ map key_of (drop n (take (i + 1) changes))
keys_more n i changes c keys more le at is pushed =
    let next : i + 1 ≡ suc i = omega arith in
    pushed ∙ ap (λ ks. ks ++ c.0 ∷ []) is ∙ sym (map_more (drop n (take i changes)) c) ∙ ap (map key_of) (sym (from_more n i changes c le at)) ∙ ap (λ j. map key_of (drop n (take j changes))) (sym next)

-- a key is among those of the changes where one of them is of it
pub has_key : {V : Type 0} (changes : List (List ℕ × V)) (q : List ℕ) → list_any (same_key q) (map key_of changes) ≡ list_any (λ (c : List ℕ × V). same_key q c.0) changes
has_key [] q = refl
has_key (c ∷ changes) q = ap (λ b. same_key q c.0 || b) (has_key changes q)

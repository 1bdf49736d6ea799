-- Elements of lists by their places.
use Rattle.std.proofs.Common.{◌≡◌, ◌⊎◌, inl, inr, ◌≤◌, ◌<◌, ◌+◌, ℕ, zero, suc, List, [], ◌∷◌, ◌++◌, length, take, map, Option, None, Some, slice_get, refl, sym, ap, subst, ◌∙◌, arith}

abbrev IsThere : {X : Type 0} → Option X → Type 0
IsThere None = ⊥
IsThere (Some x) = Unit {0}

pub none_some : {X : Type 0} (x : X) → None ≡ Some x → ⊥
none_some x e = subst IsThere (sym e) tt

abbrev value_or : {X : Type 0} → X → Option X → X
value_or d None = d
value_or d (Some x) = x

pub some_is : {X : Type 0} (x y : X) → Some x ≡ Some y → x ≡ y
some_is x y e = ap (value_or x) e

pub got_left : {X : Type 0} (xs ys : List X) (i : ℕ) → i < length xs → slice_get (xs ++ ys) i ≡ slice_get xs i
got_left [] ys i h = absurd (omega arith)
got_left (x ∷ xs) ys zero h = refl
got_left (x ∷ xs) ys (suc i) h = got_left xs ys i (omega arith)

pub got_right : {X : Type 0} (xs ys : List X) (i : ℕ) → slice_get (xs ++ ys) (length xs + i) ≡ slice_get ys i
got_right [] ys i = ap (slice_get ys) (omega arith)
got_right (x ∷ xs) ys i = ap (slice_get (x ∷ (xs ++ ys))) at ∙ got_right xs ys i
  where
    at : length (x ∷ xs) + i ≡ suc (length xs + i)
    at = omega arith

-- an element of a list with one more is of the list, or that one
pub got_more : {X : Type 0} (xs : List X) (x y : X) (n : ℕ) → slice_get (xs ++ x ∷ []) n ≡ Some y → ((n < length xs) × (slice_get xs n ≡ Some y)) ⊎ ((n ≡ length xs) × (x ≡ y))
got_more [] x y zero e = inr (refl, some_is x y e)
got_more [] x y (suc n) e = absurd (none_some y e)
got_more (z ∷ xs) x y zero e = inl (omega arith, e)
got_more (z ∷ xs) x y (suc n) e = elim (got_more xs x y n e) [ inl p ↦ inl (omega (arith, p.0), p.1) | inr p ↦ inr (ap (λ m. suc m) p.0, p.1) ]

pub got_taken : {X : Type 0} (xs : List X) (c n : ℕ) → n < c → slice_get (take c xs) n ≡ slice_get xs n
got_taken [] zero n h = refl
got_taken [] (suc c) n h = refl
got_taken (x ∷ xs) zero n h = absurd (omega arith)
got_taken (x ∷ xs) (suc c) zero h = refl
got_taken (x ∷ xs) (suc c) (suc n) h = got_taken xs c n (omega arith)

taken_suc : {X : Type 0} (xs : List X) (n : ℕ) (x : X) → slice_get xs n ≡ Some x → take (suc n) xs ≡ take n xs ++ x ∷ []
taken_suc [] n s e = absurd (none_some s e)
taken_suc (x ∷ xs) zero s e = ap (λ y. y ∷ []) (some_is x s e)
taken_suc (x ∷ xs) (suc n) s e = ap (λ l. x ∷ l) (taken_suc xs n s e)

pub taken_more : {X : Type 0} (xs : List X) (n : ℕ) (x : X) → slice_get xs n ≡ Some x → take (n + 1) xs ≡ take n xs ++ x ∷ []
taken_more xs n x e = ap (λ m. take m xs) more ∙ taken_suc xs n x e
  where
    more : n + 1 ≡ suc n
    more = omega arith

pub past : {X : Type 0} (xs : List X) (n : ℕ) → slice_get xs n ≡ None → length xs ≤ n
past [] n e = omega arith
past (x ∷ xs) zero e = absurd (none_some x (sym e))
past (x ∷ xs) (suc n) e = let h = past xs n e in omega (arith, h)

-- what a function answers of an element
pub got_map : {A B : Type 0} (f : A → B) (xs : List A) (n : ℕ) (x : A) → slice_get xs n ≡ Some x → slice_get (map f xs) n ≡ Some (f x)
got_map f [] n x e = absurd (none_some x e)
got_map f (y ∷ xs) zero x e = ap (λ z. Some (f z)) (some_is y x e)
got_map f (y ∷ xs) (suc n) x e = got_map f xs n x e

-- where a function answers this, there is an element
pub got_mapped : {A B : Type 0} (f : A → B) (xs : List A) (n : ℕ) (b : B) → slice_get (map f xs) n ≡ Some b → (x : A) × (slice_get xs n ≡ Some x) × (f x ≡ b)
got_mapped f [] n b e = absurd (none_some b e)
got_mapped f (y ∷ xs) zero b e = (y, refl, some_is (f y) b e)
got_mapped f (y ∷ xs) (suc n) b e = got_mapped f xs n b e

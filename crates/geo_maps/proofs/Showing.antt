-- Entries that show something, listed by references.
use Rattle.std.proofs.Common.{◌≡◌, Bool, true, false, cond, List, [], ◌∷◌, ◌++◌, Option, None, Some, refl, sym, ap, ◌∙◌, length, map, arith, is_some}
use Rattle.std.specs.Borrow.{Bor}
use Rattle.std.specs.declared.cmp.Ordering.{Ordering}
use Rattle.std.specs.declared.cmp.Ordering.TheVariants.{Less}
use Rattle.std.specs.List.{AllByRecursion}
use Rattle.std.specs.List.Sorted.{IsStrictlySortedBy}
use Rattle.std.specs.Map.{lookup, keys_of}
use Rattle.std.specs.Option.{option_and_then}
use Rattle.std.proofs.lemmas.List.{append_assoc, append-nil}
use Rattle.std.proofs.lemmas.Map.Keys.{sorted_head, sorted_tail}
use Rattle.geo_maps.proofs.Listing.{before, shown_of, shown_push}

-- what has been gone through, and what is left
pub rest_more : {X : Type 0} (ys zs rest all : List X) (x : X) → ys ++ rest ≡ all → rest ≡ x ∷ zs → (ys ++ x ∷ []) ++ zs ≡ all
rest_more ys zs rest all x h e = append_assoc ys (x ∷ []) zs ∙ ap (λ r. ys ++ r) (sym e) ∙ h

pub rest_none : {X : Type 0} (ys rest all : List X) → ys ++ rest ≡ all → length rest ≡ 0 → ys ≡ all
rest_none ys [] all h e = sym (append-nil ys) ∙ h
rest_none ys (x ∷ xs) all h e = absurd (omega (arith, e))

-- an entry with the value that its reference leads to
abbrev pub plain : {K V : Type 0} → K × Bor V → K × V
plain e = (e.0, e.1.now)

-- a value that shows something
abbrev pub kept : {V W : Type 0} → (V → Option W) → V → Option V
kept show v = cond (is_some (show v)) (Some v) None

module _ {K V : Type 0} where
  pub plain_keys : (xs : List (K × Bor V)) → keys_of (map plain xs) ≡ keys_of xs
  plain_keys [] = refl
  plain_keys (x ∷ xs) = ap (λ rest. x.0 ∷ rest) (plain_keys xs)

module _ {V W : Type 0} where
  pub kept_at : (show : V → Option W) (o : Option V) → option_and_then show (option_and_then (kept show) o) ≡ option_and_then show o
  kept_at show None = refl
  kept_at show (Some v) = by (show v) refl
    where
      by : (s : Option W) → show v ≡ s → option_and_then show (cond (is_some s) (Some v) None) ≡ s
      by (Some w) e = e
      by None e = refl

module _ {K V W : Type 0} where
  pub one_kept : (show : V → Option W) (k j : K) (v : V) (r : Bor V) (c : Bool) (out more : List (K × Bor V)) → more ≡ out ++ (j, r) ∷ [] → j ≡ k → r.now ≡ v → c ≡ is_some (show v) → c ≡ true → map plain more ≡ map plain out ++ before k (kept show v) []
  one_kept show k j v r c out more p q n e t = ap (map plain) p ∙ pushed out ∙ ap (λ k. map plain out ++ (k, r.now) ∷ []) q ∙ ap (λ v. map plain out ++ (k, v) ∷ []) n ∙ ap (λ c. map plain out ++ before k (cond c (Some v) None) []) (sym t ∙ e)
    where
      pushed : (xs : List (K × Bor V)) → map plain (xs ++ (j, r) ∷ []) ≡ map plain xs ++ (j, r.now) ∷ []
      pushed [] = refl
      pushed (x ∷ xs) = ap (λ rest. plain x ∷ rest) (pushed xs)

  pub none_kept : (show : V → Option W) (k : K) (v : V) (c : Bool) (out more : List (K × Bor V)) → more ≡ out → c ≡ is_some (show v) → c ≡ false → map plain more ≡ map plain out ++ before k (kept show v) []
  none_kept show k v c out more p e f = ap (map plain) p ∙ sym (append-nil (map plain out)) ∙ ap (λ c. map plain out ++ before k (cond c (Some v) None) []) (sym f ∙ e)

  pub plain_at : (show : V → Option W) (test : K → Bool) (xs : List (K × Bor V)) → option_and_then (λ r. show r.now) (lookup test xs) ≡ option_and_then show (lookup test (map plain xs))
  plain_at show test [] = refl
  plain_at show test (x ∷ xs) = by (test x.0) (plain_at show test xs)
    where
      by : (c : Bool) → option_and_then (λ r. show r.now) (lookup test xs) ≡ option_and_then show (lookup test (map plain xs)) → option_and_then (λ r. show r.now) (cond c (Some x.1) (lookup test xs)) ≡ option_and_then show (cond c (Some x.1.now) (lookup test (map plain xs)))
      by true rest = refl
      by false rest = rest

-- what is shown of one more entry that was gone through
pub more_shown : {K V W : Type 0} (show : V → Option W) (ys : List (K × V)) (k : K) (v : V) (out more : List (K × W)) → out ≡ shown_of show ys → more ≡ out ++ before k (show v) [] → more ≡ shown_of show (ys ++ (k, v) ∷ [])
more_shown show ys k v out more p q = q ∙ ap (λ xs. xs ++ before k (show v) []) p ∙ sym (shown_push show ys (k, v))

-- the keys of what is shown rise where those of the entries do
module _ {K V W : Type 0} (show : V → Option W) (cmp : K → K → Ordering) where
  above_before : (x k : K) (o : Option W) (rest : List (K × W)) → cmp x k ≡ Less → AllByRecursion (λ y. cmp x y ≡ Less) (keys_of rest) → AllByRecursion (λ y. cmp x y ≡ Less) (keys_of (before k o rest))
  above_before x k None rest p all = all
  above_before x k (Some w) rest p all = (p, all)

  above_shown : (x : K) (es : List (K × V)) → AllByRecursion (λ y. cmp x y ≡ Less) (keys_of es) → AllByRecursion (λ y. cmp x y ≡ Less) (keys_of (shown_of show es))
  above_shown x [] all = tt
  above_shown x (e ∷ es) all = above_before x e.0 (show e.1) (shown_of show es) all.0 (above_shown x es all.1)

  rising_before : (k : K) (o : Option W) (rest : List (K × W)) → AllByRecursion (λ y. cmp k y ≡ Less) (keys_of rest) → IsStrictlySortedBy cmp (keys_of rest) → IsStrictlySortedBy cmp (keys_of (before k o rest))
  unfolding IsStrictlySortedBy
  rising_before k None rest all up = up
  rising_before k (Some w) rest all up = (all, up)

  pub shown_rising : (es : List (K × V)) → IsStrictlySortedBy cmp (keys_of es) → IsStrictlySortedBy cmp (keys_of (shown_of show es))
  shown_rising [] up = up
  shown_rising (e ∷ es) up = rising_before e.0 (show e.1) (shown_of show es) (above_shown e.0 es (sorted_head cmp e.0 (keys_of es) up)) (shown_rising es (sorted_tail cmp e.0 (keys_of es) up))

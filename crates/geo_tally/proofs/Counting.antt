-- Counts are a number for each counter, added up one by one.
use Rattle.std.proofs.Common.{◌≡◌, ℕ, zero, suc, ◌+◌, ◌≤◌, List, [], ◌∷◌, ◌++◌, set, slice_index, slice_set, All, refl, ap, sym, ◌∙◌, subst, arith}
use Rattle.std.proofs.lemmas.List.Elements.{All-head, All-tail}
use mathlib.Core.Option.{some, some-ne-none, some-injective}
use lib.ListN.{get_elem?}
use Rattle.geo_tally.specs.declared.counter.Counter.{Counter}
use Rattle.geo_tally.specs.declared.counter.Counter.TheVariants.{Sessions, Requests, Faults, Rounds, FramesRefused}
use Rattle.geo_tally.specs.declared.counter.Counts.{Counts}
use Rattle.geo_tally.specs.Counts.{place_of, count_of, no_counts, one_more, together, all_together, whole, in_order}

-- counts that have the same number of each counter are the same
pub same_counts : (m n : Counts) → ((c : Counter) → count_of c m ≡ count_of c n) → m ≡ n
same_counts m n e i = record {
  sessions = e Sessions i;
  requests = e Requests i;
  faults = e Faults i;
  rounds = e Rounds i;
  frames_refused = e FramesRefused i;
}

pub count-none : (c : Counter) → count_of c no_counts ≡ 0
count-none Sessions = refl
count-none Requests = refl
count-none Faults = refl
count-none Rounds = refl
count-none FramesRefused = refl

pub count-together : (c : Counter) (m n : Counts) → count_of c (together m n) ≡ count_of c m + count_of c n
count-together Sessions m n = refl
count-together Requests m n = refl
count-together Faults m n = refl
count-together Rounds m n = refl
count-together FramesRefused m n = refl

pub count-le-whole : (c : Counter) (n : Counts) → count_of c n ≤ whole n
count-le-whole Sessions n = omega arith
count-le-whole Requests n = omega arith
count-le-whole Faults n = omega arith
count-le-whole Rounds n = omega arith
count-le-whole FramesRefused n = omega arith

pub whole-one_more : (c : Counter) (n : Counts) → whole (one_more c n) ≡ whole n + 1
whole-one_more Sessions n = omega arith
whole-one_more Requests n = omega arith
whole-one_more Faults n = omega arith
whole-one_more Rounds n = omega arith
whole-one_more FramesRefused n = omega arith

pub whole-together : (m n : Counts) → whole (together m n) ≡ whole m + whole n
whole-together m n = omega arith

pub together-assoc : (k m n : Counts) → together (together k m) n ≡ together k (together m n)
together-assoc k m n = same_counts _ _ (λ c. omega (arith, count-together c (together k m) n, count-together c k m, count-together c k (together m n), count-together c m n))

pub together-none : (n : Counts) → together n no_counts ≡ n
together-none n = same_counts _ _ (λ c. omega (arith, count-together c n no_counts, count-none c))

pub one_more-together : (c : Counter) (m n : Counts) → together (one_more c m) n ≡ one_more c (together m n)
one_more-together Sessions m n i = record (together m n) { sessions = step i }
  where
    step : (m.sessions + 1) + n.sessions ≡ (m.sessions + n.sessions) + 1
    step = omega arith
one_more-together Requests m n i = record (together m n) { requests = step i }
  where
    step : (m.requests + 1) + n.requests ≡ (m.requests + n.requests) + 1
    step = omega arith
one_more-together Faults m n i = record (together m n) { faults = step i }
  where
    step : (m.faults + 1) + n.faults ≡ (m.faults + n.faults) + 1
    step = omega arith
one_more-together Rounds m n i = record (together m n) { rounds = step i }
  where
    step : (m.rounds + 1) + n.rounds ≡ (m.rounds + n.rounds) + 1
    step = omega arith
one_more-together FramesRefused m n i = record (together m n) { frames_refused = step i }
  where
    step : (m.frames_refused + 1) + n.frames_refused ≡ (m.frames_refused + n.frames_refused) + 1
    step = omega arith

pub together-comm : (m n : Counts) → together m n ≡ together n m
together-comm m n = same_counts _ _ (λ c. omega (arith, count-together c m n, count-together c n m))

pub together-one_more : (c : Counter) (m n : Counts) → together m (one_more c n) ≡ one_more c (together m n)
together-one_more c m n = together-comm m (one_more c n) ∙ one_more-together c n m ∙ ap (one_more c) (together-comm n m)

-- the numbers in order

pub in_order-place : (c : Counter) (n : Counts) → slice_index (in_order n) (place_of c) ≡ count_of c n
in_order-place Sessions n = refl
in_order-place Requests n = refl
in_order-place Faults n = refl
in_order-place Rounds n = refl
in_order-place FramesRefused n = refl

pub in_order-one_more : (c : Counter) (n : Counts) → slice_set (in_order n) (place_of c) (count_of c n + 1) ≡ in_order (one_more c n)
in_order-one_more Sessions n = refl
in_order-one_more Requests n = refl
in_order-one_more Faults n = refl
in_order-one_more Rounds n = refl
in_order-one_more FramesRefused n = refl

-- five words that are read one by one
pub in_order-each : (ws : List ℕ) (n : Counts) (a b c d e : ℕ) → ws ≡ in_order n
    → get_elem? ws 0 ≡ some a → get_elem? ws 1 ≡ some b → get_elem? ws 2 ≡ some c → get_elem? ws 3 ≡ some d → get_elem? ws 4 ≡ some e
    → a ∷ b ∷ c ∷ d ∷ e ∷ [] ≡ in_order n
in_order-each ws n a b c d e are p q r s t =
    let at : (i x y : ℕ) → get_elem? ws i ≡ some x → get_elem? (in_order n) i ≡ some y → x ≡ y = λ i x y f g. some-injective x y (sym f ∙ ap (λ l. get_elem? l i) are ∙ g) in
    let a' = at 0 a n.sessions p refl in
    let b' = at 1 b n.requests q refl in
    let c' = at 2 c n.faults r refl in
    let d' = at 3 d n.rounds s refl in
    let e' = at 4 e n.frames_refused t refl in
    λ i. a' i ∷ b' i ∷ c' i ∷ d' i ∷ e' i ∷ []

-- all of a list
module _ {A : Type 0} (f : A → Counts) where
  -- in place of one element another
  pub count-all-set : (c : Counter) (xs : List A) (id : ℕ) (x y : A) → get_elem? xs id ≡ some x
      → count_of c (all_together f (set xs id y)) + count_of c (f x) ≡ count_of c (all_together f xs) + count_of c (f y)
  count-all-set c [] id x y e = absurd (some-ne-none x (sym e))
  count-all-set c (z ∷ zs) zero x y e =
      let same : z ≡ x = some-injective z x e in
      let rest = all_together f zs in
      omega (arith, ap (λ u. count_of c (f u)) same, count-together c (f y) rest, count-together c (f z) rest)
  count-all-set c (z ∷ zs) (suc id) x y e =
      omega (arith, count-all-set c zs id x y e, count-together c (f z) (all_together f zs), count-together c (f z) (all_together f (set zs id y)))

  -- one more in one element is one more in all
  pub all-one_more : (c : Counter) (xs : List A) (id : ℕ) (x y : A) → get_elem? xs id ≡ some x → f y ≡ one_more c (f x)
      → all_together f (set xs id y) ≡ one_more c (all_together f xs)
  all-one_more c [] id x y e more = absurd (some-ne-none x (sym e))
  all-one_more c (z ∷ zs) zero x y e more =
      let same : z ≡ x = some-injective z x e in
      ap (λ n. together n (all_together f zs)) (more ∙ ap (λ u. one_more c (f u)) (sym same)) ∙ one_more-together c (f z) (all_together f zs)
  all-one_more c (z ∷ zs) (suc id) x y e more =
      ap (together (f z)) (all-one_more c zs id x y e more) ∙ together-one_more c (f z) (all_together f zs)

  -- one element more that counts nothing
  pub all-snoc-none : (xs : List A) (y : A) → f y ≡ no_counts → all_together f (xs ++ y ∷ []) ≡ all_together f xs
  all-snoc-none [] y none = together-none (f y) ∙ none
  all-snoc-none (x ∷ xs) y none = ap (together (f x)) (all-snoc-none xs y none)

  -- no element has more than all
  pub count-all-le : (c : Counter) (xs : List A) (id : ℕ) (x : A) → get_elem? xs id ≡ some x → count_of c (f x) ≤ count_of c (all_together f xs)
  count-all-le c [] id x e = absurd (some-ne-none x (sym e))
  count-all-le c (z ∷ zs) zero x e = omega (arith, ap (λ u. count_of c (f u)) (some-injective z x e), count-together c (f z) (all_together f zs))
  count-all-le c (z ∷ zs) (suc id) x e = omega (arith, count-all-le c zs id x e, count-together c (f z) (all_together f zs))

-- what holds of each element holds of the first and of each of the rest
module _ {A : Type 0} (P : A → Type 0) where
  pub all_first : (xs ys : List A) (x : A) → xs ≡ x ∷ ys → All P xs → P x
  all_first xs ys x e h = All-head P x ys (subst (λ (l : List A). All P l) e h)

  pub all_rest : (xs ys : List A) (x : A) → xs ≡ x ∷ ys → All P xs → All P ys
  all_rest xs ys x e h = All-tail P x ys (subst (λ (l : List A). All P l) e h)

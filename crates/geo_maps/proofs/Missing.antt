-- How many keys a map lacks, as keys are added to it.
use Rattle.std.proofs.Common.{◌≡◌, take, get_or, length, zero, suc, ◌-◌, Bool, true, false, cond, not, is_some, List, [], ◌∷◌, ◌++◌, refl, sym, ap, ◌∙◌, ℕ, ◌≤◌, ◌<◌, ◌+◌, arith, true≢false}
use Rattle.std.proofs.lemmas.List.Sums.{count_by-le-length, sum_by-cons, sum_by_push, sum_by-le-sum_by}
use Rattle.std.proofs.lemmas.List.{take_more}
use Rattle.std.proofs.lemmas.List.Sorted.{sum_by-IsPermutation, IsPermutation-swap}
use Rattle.std.specs.List.{swap}
use Rattle.std.specs.Map.{lookup}
use Rattle.geo_maps.specs.Maps.{missing}

one_fewer : (a b : Bool) → (a ≡ true → b ≡ true) → cond (not b) 1 0 ≤ cond (not a) 1 0
one_fewer true true h = omega arith
one_fewer false true h = omega arith
one_fewer true false h = absurd (true≢false (sym (h refl)))
one_fewer false false h = omega arith

module _ {K U V : Type 0} (eq : K → K → Bool) where
  -- no more are missing than of the first n and what comes behind these
  pub missing_from : (mine : List (K × U)) (es : List (K × V)) (n : ℕ) → missing eq mine es ≤ missing eq mine (take n es) + (length es - n)
  missing_from mine [] n = omega arith
  missing_from mine (e ∷ es) zero = let all = count_by-le-length (λ (x : K × V). not (is_some (lookup (eq x.0) mine))) (e ∷ es) in omega (arith, all)
  missing_from mine (e ∷ es) (suc n) =
      let rest = missing_from mine es n in
      let all : missing eq mine (e ∷ es) ≡ cond (not (is_some (lookup (eq e.0) mine))) 1 0 + missing eq mine es = sum_by-cons (λ (x : K × V). cond (not (is_some (lookup (eq x.0) mine))) 1 0) e es in
      let some : missing eq mine (e ∷ take n es) ≡ cond (not (is_some (lookup (eq e.0) mine))) 1 0 + missing eq mine (take n es) = sum_by-cons (λ (x : K × V). cond (not (is_some (lookup (eq x.0) mine))) 1 0) e (take n es) in
      omega (arith, rest, all, some)

  -- of the first n no more are missing than of all
  pub missing_first : (mine : List (K × U)) (es : List (K × V)) (n : ℕ) → missing eq mine (take n es) ≤ missing eq mine es
  missing_first mine [] zero = omega arith
  missing_first mine [] (suc n) = omega arith
  missing_first mine (e ∷ es) zero = omega arith
  missing_first mine (e ∷ es) (suc n) =
      let rest = missing_first mine es n in
      let all : missing eq mine (e ∷ es) ≡ cond (not (is_some (lookup (eq e.0) mine))) 1 0 + missing eq mine es = sum_by-cons (λ (x : K × V). cond (not (is_some (lookup (eq x.0) mine))) 1 0) e es in
      let some : missing eq mine (e ∷ take n es) ≡ cond (not (is_some (lookup (eq e.0) mine))) 1 0 + missing eq mine (take n es) = sum_by-cons (λ (x : K × V). cond (not (is_some (lookup (eq x.0) mine))) 1 0) e (take n es) in
      omega (arith, rest, all, some)

  pub missing_push : (mine : List (K × U)) (es : List (K × V)) (k : K) (v : V) → missing eq mine (es ++ (k, v) ∷ []) ≡ missing eq mine es + cond (not (is_some (lookup (eq k) mine))) 1 0
  missing_push mine es k v = sum_by_push (λ (e : K × V). cond (not (is_some (lookup (eq e.0) mine))) 1 0) es (k, v)

  -- and one more
  pub missing_next : (mine : List (K × U)) (es : List (K × V)) (n : ℕ) (k : K) (v : V) → n < length es → (k, v) ≡ get_or es n (k, v) → missing eq mine (take (n + 1) es) ≡ missing eq mine (take n es) + cond (not (is_some (lookup (eq k) mine))) 1 0
  missing_next mine es n k v lt at = ap (missing eq mine) (take_more es n (k, v) lt ∙ ap (λ e. take n es ++ e ∷ []) (sym at)) ∙ missing_push mine (take n es) k v

  -- a map with more keys lacks no more
  pub missing_fewer : (mine more : List (K × U)) (es : List (K × V)) → ((q : K) → is_some (lookup (eq q) mine) ≡ true → is_some (lookup (eq q) more) ≡ true) → missing eq more es ≤ missing eq mine es
  missing_fewer mine more es keeps = sum_by-le-sum_by (λ (e : K × V). cond (not (is_some (lookup (eq e.0) more))) 1 0) (λ (e : K × V). cond (not (is_some (lookup (eq e.0) mine))) 1 0) es (λ e. one_fewer _ _ (keeps e.0))

  -- the last entry has a place
  pub place_for_last : (mine : List (K × U)) (es all : List (K × V)) (k : K) (v : V) (room : ℕ) → all ≡ es ++ (k, v) ∷ [] → missing eq mine all ≤ room → is_some (lookup (eq k) mine) ≡ false → 0 < room
  place_for_last mine es all k v room is fits absent =
      let one : missing eq mine all ≡ missing eq mine es + 1 = ap (missing eq mine) is ∙ missing_push mine es k v ∙ ap (λ b. missing eq mine es + cond (not b) 1 0) absent in
      omega (arith, one, fits)

  -- once it has taken it, there is room for the others
  pub room_for_others : (mine more : List (K × U)) (es all : List (K × V)) (k : K) (v : V) (room left : ℕ) → all ≡ es ++ (k, v) ∷ [] → missing eq mine all ≤ room
      → ((q : K) → is_some (lookup (eq q) mine) ≡ true → is_some (lookup (eq q) more) ≡ true)
      → room ≤ left + cond (is_some (lookup (eq k) mine)) 0 1 → missing eq more es ≤ left
  room_for_others mine more es all k v room left is fits keeps used = by (is_some (lookup (eq k) mine)) refl
    where
      by : (b : Bool) → is_some (lookup (eq k) mine) ≡ b → missing eq more es ≤ left
      by true p =
          let one : missing eq mine all ≡ missing eq mine es + 0 = ap (missing eq mine) is ∙ missing_push mine es k v ∙ ap (λ b. missing eq mine es + cond (not b) 1 0) p in
          let uses : ◌≡◌ {A = ℕ} (cond (is_some (lookup (eq k) mine)) 0 1) 0 = ap (λ b. cond b 0 1) p in
          let fewer = missing_fewer mine more es keeps in omega (arith, one, uses, fewer, fits, used)
      by false p =
          let one : missing eq mine all ≡ missing eq mine es + 1 = ap (missing eq mine) is ∙ missing_push mine es k v ∙ ap (λ b. missing eq mine es + cond (not b) 1 0) p in
          let uses : ◌≡◌ {A = ℕ} (cond (is_some (lookup (eq k) mine)) 0 1) 1 = ap (λ b. cond b 0 1) p in
          let fewer = missing_fewer mine more es keeps in omega (arith, one, uses, fewer, fits, used)

-- of the same entries in another order as many are missing
pub missing_swapped : {K U V : Type 0} (eq : K → K → Bool) (mine : List (K × U)) (es es' : List (K × V)) (a b : ℕ) → a < length es → b < length es → es' ≡ swap es a b → missing eq mine es' ≡ missing eq mine es
missing_swapped {K} {U} {V} eq mine es es' a b a-in b-in is =
    sum_by-IsPermutation (λ (e : K × V). cond (not (is_some (lookup (eq e.0) mine))) 1 0) es es' (IsPermutation-swap es es' a b a-in b-in is)

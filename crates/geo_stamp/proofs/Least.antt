-- The least of numbers by sites, and what holds at each site.
use Rattle.std.proofs.Common.{◌≡◌, ◌≢◌, ◌⊎◌, true≢false, ℕ, zero, suc, ◌+◌, ◌<◌, min, Bool, true, false, not, ◌&&◌, cond, List, length, refl, sym, ap, ◌∙◌, arith, inl, inr}
use Rattle.std.proofs.lemmas.Bool.{cases_eq}
use Rattle.geo_stamp.specs.Vectors.{entry_of}
use Rattle.geo_stamp.specs.Retired.{is_in}
use Rattle.geo_stamp.specs.Acks.{Heard, row_of, with_own, each_site, least_of_sites, least_of_row, horizon_by}

more : (n : ℕ) → suc n ≡ n + 1
more n = omega arith

both_true : (a b : Bool) → a && b ≡ true → (a ≡ true) × (b ≡ true)
both_true true b h = (refl, h)
both_true false b h = absurd (true≢false (sym h))

-- what does not hold at one of them does not hold at each
pub at_each : (n : ℕ) (f : ℕ → Bool) (k : ℕ) → k < n → each_site n f ≡ true → f (suc k) ≡ true
at_each zero f k lt e = absurd (omega arith)
at_each (suc n) f k lt e =
    let p = both_true (f (suc n)) (each_site n f) e in
    elim (cases_eq k n) [
      | inl same ↦ ap (λ k. f (suc k)) same ∙ p.0
      | inr other ↦ at_each n f k (omega (arith, lt, not_same k n other)) p.1
    ]
  where
    not_same : (k n : ℕ) → k ≢ n → (k < n) ⊎ (n < k)
    not_same k n h = grind arith

pub not_each : (n : ℕ) (f : ℕ → Bool) (k : ℕ) → k < n → f (k + 1) ≡ false → each_site n f ≡ false
not_each n f k lt e = by (each_site n f) refl
  where
    by : (t : Bool) → each_site n f ≡ t → t ≡ false
    by true h = absurd (true≢false (sym (at_each n f k lt h) ∙ ap f (more k) ∙ e))
    by false h = refl

pub each_more : (n : ℕ) (f : ℕ → Bool) → f (n + 1) ≡ true → each_site n f ≡ true → each_site (n + 1) f ≡ true
each_more n f e h = ap (λ k. each_site k f) (sym (more n)) ∙ (λ i. (ap f (more n) ∙ e) i && h i)

-- one site more
pub least_kept : (n : ℕ) (keep : ℕ → Bool) (f : ℕ → ℕ) → keep (n + 1) ≡ true → least_of_sites (n + 1) keep f ≡ min (f (n + 1)) (least_of_sites n keep f)
least_kept n keep f e = ap (λ k. least_of_sites k keep f) (sym (more n)) ∙ ap (λ b. cond b (min (f (suc n)) (least_of_sites n keep f)) (least_of_sites n keep f)) (ap keep (more n) ∙ e)
    ∙ ap (λ k. min (f k) (least_of_sites n keep f)) (more n)

pub least_left : (n : ℕ) (keep : ℕ → Bool) (f : ℕ → ℕ) → keep (n + 1) ≡ false → least_of_sites (n + 1) keep f ≡ least_of_sites n keep f
least_left n keep f e = ap (λ k. least_of_sites k keep f) (sym (more n)) ∙ ap (λ b. cond b (min (f (suc n)) (least_of_sites n keep f)) (least_of_sites n keep f)) (ap keep (more n) ∙ e)

-- the same, by what is kept
pub least_same : (n : ℕ) (keep kept : ℕ → Bool) (f g : ℕ → ℕ) → ((k : ℕ) → keep (suc k) ≡ kept (suc k)) → ((k : ℕ) → f (suc k) ≡ g (suc k)) → least_of_sites n keep f ≡ least_of_sites n kept g
least_same zero keep kept f g k v = refl
least_same (suc n) keep kept f g k v = λ i. cond (k n i) (min (v n i) (least_same n keep kept f g k v i)) (least_same n keep kept f g k v i)

-- where none is held for retired, none is left out
pub none_left : (h : Heard) (own : ℕ) (v : List ℕ) (leave : Bool) → ((site : ℕ) → is_in h.set site ≡ false) → horizon_by leave h own v ≡ horizon_by false h own v
none_left h own v true none = least_same (length v) (λ t. not (is_in h.set t)) (λ t. not (is_in h.set t)) (least_of_row true h own v) (least_of_row false h own v) (λ k. refl)
    (λ k. least_same (length v) (λ j. not (is_in h.set j)) (λ j. true) (entry_of (row_of (with_own h.rows own v) (suc k))) (entry_of (row_of (with_own h.rows own v) (suc k))) (λ j. ap not (none (suc j))) (λ j. refl))
none_left h own v false none = refl

-- What was heard of each site's vector has as many entries as there are sites.
use Rattle.std.proofs.Common.{◌≡◌, ◌≢◌, Bool, true, ℕ, zero, suc, ◌≤◌, ◌<◌, List, [], ◌∷◌, length, refl, sym, ap, ◌∙◌, subst, arith, inl, inr, slice_set, slice_index_or}
use Rattle.std.specs.Prelude.{replicate}
use Rattle.std.proofs.lemmas.Bool.{cases_eq}
use Rattle.geo_stamp.specs.Acks.{Heard, row_of, row_joined, heard, retires, none_heard, looked}
use Rattle.geo_stamp.specs.Retired.{set_fits}
use Rattle.geo_stamp.proofs.Sets.{fits_none, fits_joined, fits_with}
use Rattle.geo_stamp.specs.Vectors.{zeros, vector_joined}
use Rattle.geo_site.specs.Machine.{HasRows}
use Rattle.geo_site.proofs.Entries.{length_joined}
use Rattle.geo_site.proofs.Entries.{zeros_length}

none_at : (m n j : ℕ) → j < m → slice_index_or (replicate m (zeros n)) j [] ≡ zeros n
none_at zero n j lt = absurd (omega arith)
none_at (suc m) n zero lt = refl
none_at (suc m) n (suc j) lt = none_at m n j (omega arith)

pub none_row : (n s : ℕ) → 1 ≤ s → s ≤ 16 → row_of (none_heard n).rows s ≡ zeros n
none_row n zero lo hi = absurd (omega arith)
none_row n (suc j) lo hi = none_at 16 n j (omega arith)

set_at : (all : List (List ℕ)) (j : ℕ) (x : List ℕ) → 1 ≤ length (slice_index_or all j []) → slice_index_or (slice_set all j x) j [] ≡ x
set_at [] j x h = absurd (omega arith)
set_at (y ∷ ys) zero x h = refl
set_at (y ∷ ys) (suc j) x h = set_at ys j x h

set_not : (all : List (List ℕ)) (j i : ℕ) (x : List ℕ) → i ≢ j → slice_index_or (slice_set all j x) i [] ≡ slice_index_or all i []
set_not [] j i x ne = refl
set_not (y ∷ ys) zero zero x ne = absurd (ne refl)
set_not (y ∷ ys) zero (suc i) x ne = refl
set_not (y ∷ ys) (suc j) zero x ne = refl
set_not (y ∷ ys) (suc j) (suc i) x ne = set_not ys j i x (λ e. ne (ap suc e))

pub heard_here : (all : List (List ℕ)) (j : ℕ) (v : List ℕ) → 1 ≤ length (row_of all j) → row_of (row_joined all j v) j ≡ vector_joined (row_of all j) v
heard_here all zero v h = absurd (omega arith)
heard_here all (suc j) v h = set_at all j (vector_joined (slice_index_or all j []) v) h

pub heard_there : (all : List (List ℕ)) (j i : ℕ) (v : List ℕ) → i ≢ j → row_of (row_joined all j v) i ≡ row_of all i
heard_there all zero i v ne = refl
heard_there all (suc j) zero v ne = refl
heard_there all (suc j) (suc i) v ne = set_not all j i (vector_joined (slice_index_or all j []) v) (λ e. ne (ap suc e))

-- at first
pub rows_none : (sites n : ℕ) (h : Heard) → sites ≤ 16 → n ≡ sites → h ≡ none_heard sites → HasRows n h
rows_none sites n h most is none = record {
  many = λ q lo hi. ap (λ (h : Heard). length (row_of h.rows q)) none ∙ ap length (none_row sites q lo (omega (arith, hi, is, most))) ∙ zeros_length sites ∙ sym is;
  fits = ap (λ (h : Heard). set_fits n h.set) none ∙ fits_none n;
}

-- of as many sites
pub rows_on : (n m : ℕ) (h : Heard) → m ≡ n → HasRows n h → HasRows m h
rows_on n m h is rows = subst (λ (k : ℕ). HasRows k h) (sym is) rows

-- where the horizon is kept
pub rows_looked : (n own : ℕ) (h new : Heard) (v : List ℕ) → new ≡ looked h own v → HasRows n h → HasRows n new
rows_looked n own h new v is rows = subst (HasRows n) (sym is) (record { many = rows.many; fits = rows.fits })

-- where a site is held for retired
pub rows_retired : (n site : ℕ) (h new : Heard) → site ≤ n → new ≡ retires h site → HasRows n h → HasRows n new
rows_retired n site h new le is rows = subst (HasRows n) (sym is) (record { many = rows.many; fits = fits_with n h.set site le rows.fits })

-- a vector of as many entries and a set are heard of a site
pub rows_heard : (n j : ℕ) (h new : Heard) (v : List ℕ) (set : List Bool) → 1 ≤ n → 1 ≤ j → j ≤ n → length v ≡ n → set_fits n set ≡ true → new ≡ heard h j v set → HasRows n h → HasRows n new
rows_heard n j h new v set some lo hi many fits is rows = subst (HasRows n) (sym is) (record { many = each; fits = fits_joined n h.set set rows.fits fits })
  where
    each : (q : ℕ) → 1 ≤ q → q ≤ n → length (row_of (row_joined h.rows j v) q) ≡ n
    each q first last = elim (cases_eq q j) [
      | inl e ↦
          let was = rows.many j lo hi in
          ap (λ k. length (row_of (row_joined h.rows j v) k)) e ∙ ap length (heard_here h.rows j v (omega (arith, was, some))) ∙ length_joined (row_of h.rows j) v (was ∙ sym many) ∙ was
      | inr ne ↦ ap length (heard_there h.rows j q v ne) ∙ rows.many q first last
    ]

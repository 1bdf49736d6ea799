-- What a send leaves out.
use Rattle.std.proofs.Common.{◌≡◌, ℕ, ◌≤◌, Bool, true, false, cond, not, ◌||◌, List, None, refl, sym, ap, arith, true≢false}
use Rattle.geo_stamp.specs.Vectors.{entry_of, vector_joined}
use Rattle.geo_records.specs.Operations.{Record}
use Rattle.geo_versions.specs.Maps.{is_unknown, since}
use Rattle.geo_delta.specs.Ranges.{sites_fit}
use Rattle.geo_site.specs.Machine.{knows_record}
use Rattle.geo_site.proofs.Entries.{entry_joined}
use Rattle.geo_site.proofs.Writing.{knows_more}

-- what one vector knows, a vector that knows all that it knows leaves out
pub left_out : (v base : List ℕ) (r : Record) → vector_joined base v ≡ base → knows_record v r ≡ true → since base r ≡ (None, None)
left_out v base r covers known = by (is_unknown base r.0 || is_unknown base r.1) (knows_more v base up r known)
  where
    up : (j : ℕ) → entry_of v j ≤ entry_of base j
    up j = let e = entry_joined base v j in let h = ap (λ u. entry_of u j) covers in omega (arith, e, h)

    by : (t : Bool) → not t ≡ true → cond {A = Record} t r (None, None) ≡ (None, None)
    by true h = absurd (true≢false (sym h))
    by false h = refl

-- what is told of a record is known where the record is
pub told_known : (v base : List ℕ) (r : Record) → knows_record v r ≡ true → knows_record v (since base r) ≡ true
told_known v base r h = by (is_unknown base r.0 || is_unknown base r.1)
  where
    by : (t : Bool) → knows_record v (cond {A = Record} t r (None, None)) ≡ true
    by true = h
    by false = refl

-- from one of 2 to 16 sites to another
pub other_fits : (n number to : ℕ) → 1 ≤ number → number ≤ n → n ≤ 16 → 1 ≤ to → to ≤ n → (to ≡ number → ⊥) → sites_fit number to n ≡ true
unfolding sites_fit
other_fits n number to lo hi most first last ne = grind arith

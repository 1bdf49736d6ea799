-- Each event keeps all sites and parcels what is known of them.
use Rattle.std.proofs.Common.{◌≡◌, ◌≢◌, slice_set, ℕ, zero, suc, ◌+◌, ◌-◌, ◌≤◌, ◌<◌, Bool, true, false, ◌==◌, ◌&&◌, nat_le, List, [], ◌∷◌, ◌++◌, length, None, Some, refl, sym, ap, ◌∙◌, subst, subst₂, ◌⊎◌, inl, inr, arith, true≢false, get_or, slice_get}
use Rattle.std.proofs.lemmas.Bool.Decides.{eqb_tells, nat_tests}
use Rattle.std.proofs.lemmas.Option.{slice_get-get_or}
use Rattle.geo_site.specs.declared.setup.Setup.{Setup}
use Rattle.geo_site.specs.declared.setup.Limits.{Limits}
use Rattle.geo_world.specs.Setups.{is_setup, are_numbered, are_setups, limits_at, limits_of as told_of}
use Rattle.geo_world.specs.There.{is_site}

pub some_same : {A : Type 0} {x y : A} → Some x ≡ Some y → x ≡ y
some_same h = cc

pub some_none : {V : Type 0} {x : V} → Some x ≡ None → ⊥
some_none h = cc

both : (a b : Bool) → a && b ≡ true → (a ≡ true) × (b ≡ true)
both true b h = (refl, h)
both false b h = absurd (true≢false (sym h))

equal : (a b : ℕ) → (a == b) ≡ true → a ≡ b
equal a b h = elim (eqb_tells a b) [ inl p ↦ p.1 | inr p ↦ absurd (true≢false (sym h ∙ p.0)) ]

-- a setup among good ones
pub record GoodSetup (sites number : ℕ) (setup : Setup) : Type 0 where
  pub site : setup.site ≡ number
  pub sites_are : setup.sites ≡ sites

good : (n number : ℕ) (x : Setup) → is_setup n number x ≡ true → GoodSetup n number x
good n number x h =
    let a = both ((x.site == number) && (x.sites == n) && nat_le 15 x.pages && nat_le x.pages 65536 && nat_le 1 x.max_records) (nat_le x.max_records 1000000) h in
    let b = both ((x.site == number) && (x.sites == n) && nat_le 15 x.pages && nat_le x.pages 65536) (nat_le 1 x.max_records) a.0 in
    let c = both ((x.site == number) && (x.sites == n) && nat_le 15 x.pages) (nat_le x.pages 65536) b.0 in
    let d = both ((x.site == number) && (x.sites == n)) (nat_le 15 x.pages) c.0 in
    let e = both (x.site == number) (x.sites == n) d.0 in
    record { site = equal x.site number e.0; sites_are = equal x.sites n e.1 }

pub numbered_at : (n number : ℕ) (xs : List Setup) (k : ℕ) (x : Setup) → are_numbered n number xs ≡ true → slice_get xs k ≡ Some x → GoodSetup n (number + k) x
numbered_at n number [] k x h at = absurd (some_none (sym at))
numbered_at n number (y ∷ ys) zero x h at = let g = good n number y (both (is_setup n number y) (are_numbered n (number + 1) ys) h).0 in
    let e : number ≡ number + 0 = omega arith in
    subst₂ (λ (m : ℕ) (z : Setup). GoodSetup n m z) e (some_same at) g
numbered_at n number (y ∷ ys) (suc k) x h at =
    let e : number + 1 + k ≡ number + suc k = omega arith in
    subst (λ m. GoodSetup n m x) e (numbered_at n (number + 1) ys k x (both (is_setup n number y) (are_numbered n (number + 1) ys) h).1 at)

-- the element that an index reads
pub read_is : {A : Type 0} (xs : List A) (i : ℕ) (x : A) → i < length xs → x ≡ get_or xs i x → slice_get xs i ≡ Some x
read_is xs i x lt e = slice_get-get_or xs i x lt ∙ ap Some (sym e)

-- another element stays
pub get_other : {A : Type 0} (xs : List A) (i k : ℕ) (x : A) → (k ≡ i → ⊥) → slice_get (slice_set xs i x) k ≡ slice_get xs k
get_other [] i k x ne = refl
get_other (y ∷ xs) zero zero x ne = absurd (ne refl)
get_other (y ∷ xs) zero (suc k) x ne = refl
get_other (y ∷ xs) (suc i) zero x ne = refl
get_other (y ∷ xs) (suc i) (suc k) x ne = get_other xs i k x (λ e. ne (ap suc e))

-- what is not at a site's place stays
pub others_stay : {A : Type 0} (xs : List A) (s : ℕ) (x : A) → 1 ≤ s → (k : ℕ) → s ≢ k + 1 → slice_get (slice_set xs (s - 1) x) k ≡ slice_get xs k
others_stay xs s x first k ne = get_other xs (s - 1) k x (λ e. ne (omega (arith, e, first)))

-- one element more
pub get_appended : {A : Type 0} (xs : List A) (x : A) (p : ℕ) (y : A) → slice_get (xs ++ x ∷ []) p ≡ Some y → (slice_get xs p ≡ Some y) ⊎ ((p ≡ length xs) × (y ≡ x))
get_appended [] x zero y h = inr (refl, some_same (sym h))
get_appended [] x (suc p) y h = absurd (some_none (sym h))
get_appended (a ∷ xs) x zero y h = inl h
get_appended (a ∷ xs) x (suc p) y h = elim (get_appended xs x p y h) [ inl q ↦ inl q | inr q ↦ inr (ap suc q.0, q.1) ]

pub numbered_all : (xs : List Setup) → are_setups xs ≡ true → are_numbered (length xs) 1 xs ≡ true
numbered_all xs h = (both (nat_le 1 (length xs) && nat_le (length xs) 16) (are_numbered (length xs) 1 xs) h).1

pub numbered_get : (n number : ℕ) (xs : List Setup) (i : ℕ) (d : Setup) → are_numbered n number xs ≡ true → i < length xs → GoodSetup n (number + i) (get_or xs i d)
numbered_get n number xs i d h lt = numbered_at n number xs i (get_or xs i d) h (slice_get-get_or xs i d lt)

-- what the setup that an index reads tells
pub limits_read : (xs : List Setup) (i : ℕ) (d : Setup) → i < length xs → ◌≡◌ {A = Limits} (record { max_records = (get_or xs i d).max_records; reap_after = (get_or xs i d).reap_after }) (limits_at xs i)
limits_read [] i d lt = absurd (omega arith)
limits_read (x ∷ xs) zero d lt = refl
limits_read (x ∷ xs) (suc i) d lt = limits_read xs i d (omega arith)

pub reap_read : (xs : List Setup) (i : ℕ) (d : Setup) → i < length xs → (get_or xs i d).reap_after ≡ (told_of xs (i + 1)).reap_after
reap_read xs i d lt = let place : i + 1 - 1 ≡ i = omega arith in ap (λ (l : Limits). l.reap_after) (limits_read xs i d lt) ∙ ap (λ k. (limits_at xs k).reap_after) (sym place)

-- a site that is there
pub record IsThere (sites number : ℕ) : Type 0 where
  pub first : 1 ≤ number
  pub last : number ≤ sites

le_from : (a b : ℕ) → nat_le a b ≡ true → a ≤ b
le_from a b h = grind (arith, nat_tests)

pub there_is : (n s : ℕ) → is_site n s ≡ true → IsThere n s
there_is n s h = let p = both (nat_le 1 s) (nat_le s n) h in record { first = le_from 1 s p.0; last = le_from s n p.1 }

-- A world that was just opened: no site knows anything.
use Rattle.std.proofs.Common.{◌≡◌, ℕ, zero, suc, ◌+◌, ◌≤◌, max, List, [], ◌∷◌, ◌++◌, length, None, Some, refl, sym, ap, ◌∙◌, subst, subst₂, inl, inr, arith, slice_get, Bool, true, false, ◌&&◌, nat_le, true≢false, ◌⊎◌}
use Rattle.geo_stamp.specs.Acks.{Heard, row_of, told_of, none_heard}
use Rattle.geo_stamp.specs.Retired.{no_sites, is_in}
use Rattle.geo_stamp.specs.Vectors.{entry_of, zeros, vector_joined}
use Rattle.std.proofs.lemmas.Bool.Decides.{nat_tests}
use Rattle.geo_site.specs.declared.setup.Limits.{Limits}
use Rattle.geo_site.specs.declared.setup.Setup.{Setup}
use Rattle.geo_world.specs.Setups.{are_numbered, are_setups}
use Rattle.geo_site.specs.declared.site.Site.{Site}
use Rattle.geo_site.specs.Entries.{none_counted}
use Rattle.geo_site.specs.Machine.{Same, fresh}
use Rattle.geo_site.specs.Sites.{state_in, counts_in, waiting_in, limits_of, heard_in}
use Rattle.geo_world.specs.Schedule.{nothing_known}
use Rattle.geo_site.proofs.Entries.{entry_at_most, zeros_length}
use Rattle.geo_world.proofs.Stepping.{state_fresh, state_same}
use Rattle.geo_delta.specs.declared.parcel.Parcel.{Parcel}
use Rattle.geo_world.specs.Agreement.{Stands, Agrees, nothing_about}
use Rattle.geo_world.specs.Bounds.{Bounded, vectors, sets, rows, tolds, reached, views, IsAbove}
use Rattle.geo_world.specs.Reports.{Passed}
use Rattle.geo_world.proofs.Reports.{none_passed}
use Rattle.geo_world.proofs.Bounding.{at_cases, at_place, bounded_nothing, none_row}
use Rattle.geo_world.proofs.Worlds.{some_none, some_same, get_appended}
use Rattle.std.proofs.Common.{◌<◌, Ok, get_or, slice_index_or, replicate}
use Rattle.std.proofs.lemmas.Option.{slice_get-get_or}
use Rattle.geo_site.specs.Sites.{OpenDoes}
use Rattle.geo_world.specs.Doing.{EachOpens}

-- a site that knows nothing, and heard nothing
pub record Silent (n number : ℕ) (site : Site) (limits : Limits) : Type 0 where
  pub stands : Stands n number site (nothing_about limits)
  pub heard_none : heard_in site ≡ none_heard n
  pub pages : ℕ
  pub same : Same (fresh n pages) (state_in site)

pub each_more : (limits : ℕ → Limits) (n k : ℕ) (xs : List Site) (x : Site) → length xs ≡ k → ((j number : ℕ) (site : Site) → number ≡ j + 1 → slice_get xs j ≡ Some site → Silent n number site (limits number)) → Silent n (k + 1) x (limits (k + 1))
    → (j number : ℕ) (site : Site) → number ≡ j + 1 → slice_get (xs ++ x ∷ []) j ≡ Some site → Silent n number site (limits number)
each_more limits n k xs x len each new j number site e at = elim (get_appended xs x j site at) [
  | inl old ↦ each j number site e old
  | inr p ↦ let m : k + 1 ≡ number = let q = p.0 in omega arith in subst₂ (λ (m : ℕ) (s : Site). Silent n m s (limits m)) m (sym p.1) new
]

pub silent_of : (n number a b pages : ℕ) (limits most : Limits) (site : Site) → site.number ≡ a → limits_of site ≡ most → counts_in site ≡ none_counted → waiting_in site ≡ None → heard_in site ≡ none_heard b → Same (fresh b pages) (state_in site) → b ≤ 16 → a ≡ number → b ≡ n → most ≡ limits → Silent n number site limits
silent_of n number a b pages limits most site is at_most none waits heard same few p q r =
    let heard_none = heard ∙ ap none_heard q in
    record {
      stands = record {
        own = is ∙ p;
        horizon = 0;
        reached = omega arith;
        state = state_same n number 0 (fresh n pages) (state_in site) [] (λ _. None) (state_fresh n number pages) (subst (λ m. Same (fresh m pages) (state_in site)) q same);
        counts = none;
        waiting = waits;
        limits = at_most ∙ r;
        set = ap (λ (h : Heard). h.set) heard_none;
        rows = λ other lo hi. ap (λ (h : Heard). length (row_of h.rows other)) heard_none ∙ ap length (none_row n other lo (omega (arith, few, q, hi))) ∙ zeros_length n;
      };
      heard_none = heard_none;
      pages = pages;
      same = subst (λ m. Same (fresh m pages) (state_in site)) q same;
    }

joined_zeros : (xs : List ℕ) (n : ℕ) → length xs ≡ n → vector_joined xs (zeros n) ≡ xs
joined_zeros [] zero e = refl
joined_zeros [] (suc n) e = absurd (omega arith)
joined_zeros (x ∷ xs) zero e = refl
joined_zeros (x ∷ xs) (suc n) e = let h : max x 0 ≡ x = omega arith in λ i. h i ∷ joined_zeros xs n (omega arith) i

joined_nothing : (v : List ℕ) → IsAbove v []
joined_nothing [] = refl
joined_nothing (x ∷ xs) = refl

-- no row without a site
row_nothing : (s : ℕ) → row_of [] s ≡ []
row_nothing zero = refl
row_nothing (suc j) = refl

entry_nothing : (s : ℕ) → entry_of [] s ≡ 0
entry_nothing zero = refl
entry_nothing (suc j) = refl

-- nobody is held for retired
same_at : {A : Type 0} (m : ℕ) (x : A) (j : ℕ) → slice_index_or (replicate m x) j x ≡ x
same_at zero x j = refl
same_at (suc m) x zero = refl
same_at (suc m) x (suc j) = same_at m x j

in_nobody : (j : ℕ) → is_in no_sites j ≡ false
in_nobody zero = refl
in_nobody (suc j) = same_at 16 false j

told_nothing : (t : ℕ) → told_of [] t ≡ no_sites
told_nothing zero = refl
told_nothing (suc t) = refl

told_fresh : (t : ℕ) → told_of (replicate 16 no_sites) t ≡ no_sites
told_fresh zero = refl
told_fresh (suc t) = same_at 16 no_sites t

module _ (limits : ℕ → Limits) (sites : List Site) (few : length sites ≤ 16) (each : (k number : ℕ) (site : Site) → number ≡ k + 1 → slice_get sites k ≡ Some site → Silent (length sites) number site (limits number)) where
  no_entry : (r s : ℕ) → entry_of (vectors sites r) s ≡ 0
  no_entry r s = elim (at_cases (λ site. site.vector) [] sites r) [
    | inl e ↦ ap (λ v. entry_of v s) e ∙ entry_nothing s
    | inr p ↦
        let st = (each p.0 r p.1 p.2 p.3).stands in
        let clock = st.state.tells.clock in
        let le = entry_at_most p.1.vector s in
        ap (λ v. entry_of v s) p.4 ∙ omega (arith, clock, le)
  ]

  row_zeros : (r s : ℕ) → 1 ≤ s → s ≤ length sites → (rows sites r s ≡ []) ⊎ (rows sites r s ≡ zeros (length sites))
  row_zeros r s lo hi = elim (at_cases (λ site. (heard_in site).rows) [] sites r) [
    | inl e ↦ inl (ap (λ h. row_of h s) e ∙ row_nothing s)
    | inr p ↦ inr (ap (λ h. row_of h s) (p.4 ∙ ap (λ (h : Heard). h.rows) (each p.0 r p.1 p.2 p.3).heard_none) ∙ none_row (length sites) s lo (omega (arith, few, hi)))
  ]

  told_none : (r t j : ℕ) → is_in (tolds sites r t) j ≡ false
  told_none r t j = elim (at_cases (λ site. (heard_in site).told) [] sites r) [
    | inl e ↦ ap (λ h. is_in (told_of h t) j) e ∙ ap (λ a. is_in a j) (told_nothing t) ∙ in_nobody j
    | inr p ↦ ap (λ h. is_in (told_of h t) j) (p.4 ∙ ap (λ (h : Heard). h.told) (each p.0 r p.1 p.2 p.3).heard_none) ∙ ap (λ a. is_in a j) (told_fresh t) ∙ in_nobody j
  ]

  nothing_reached : (r : ℕ) → reached sites r ≡ 0
  nothing_reached r = elim (at_cases (λ site. (heard_in site).reached) 0 sites r) [
    | inl e ↦ e
    | inr p ↦ p.4 ∙ ap (λ (h : Heard). h.reached) (each p.0 r p.1 p.2 p.3).heard_none
  ]

  above_row : (r s : ℕ) → 1 ≤ s → s ≤ length sites → IsAbove (vectors sites s) (rows sites r s)
  above_row r s lo hi = elim (row_zeros r s lo hi) [
    | inl e ↦ subst (IsAbove (vectors sites s)) (sym e) (joined_nothing (vectors sites s))
    | inr e ↦
        let p = at_place (λ site. site.vector) [] sites s lo hi in
        subst (IsAbove (vectors sites s)) (sym e) (subst (λ v. IsAbove v (zeros (length sites))) (sym p.4) (joined_zeros p.1.vector (length sites) (each p.0 s p.1 p.2 p.3).stands.state.many))
  ]

  bounds_open : Bounded (length sites) (vectors sites) (rows sites) [] (λ t. []) []
  bounds_open = bounded_nothing (length sites) (vectors sites) (rows sites) no_entry above_row

  agrees_none : Agrees sites [] (nothing_known (length sites) limits)
  agrees_none = record {
    numbers = refl;
    each = λ k number site e got. (each k number site e got).stands;
    as_many = refl;
    each_sent = λ p parcel got. absurd (some_none (sym got));
    bounds = bounds_open;
    reports = record {
      told = λ s t a b ne j one h. absurd (true≢false (sym h ∙ told_none s t j));
      sent_set = λ m sent. absurd (some_none (sym sent.1));
      report = λ s t a b ne. inl (λ j one. told_none s t j);
      chain = λ m l sent. absurd (some_none (sym sent.1));
      pinned = λ set retired time a b c t d e. let z = no_entry t retired in omega (arith, z);
    };
    passed = λ p one. record {
      set = no_sites;
      out = in_nobody p;
      within = λ j a h. absurd (true≢false (sym h ∙ in_nobody j));
      passed = subst (λ time. Passed (length sites) (views sites) no_sites time) (sym (nothing_reached p)) (none_passed (length sites) (views sites) no_sites);
    };
  }

pub agrees_open : (limits : ℕ → Limits) (sites : List Site) (parcels : List Parcel) (n : ℕ) → length sites ≡ n → n ≤ 16 → parcels ≡ [] → ((k number : ℕ) (site : Site) → number ≡ k + 1 → slice_get sites k ≡ Some site → Silent n number site (limits number)) → Agrees sites parcels (nothing_known n limits)
agrees_open limits sites parcels n many few none each = subst₂ (λ (ps : List Parcel) (n : ℕ). Agrees sites ps (nothing_known n limits)) (sym none) many
    (agrees_none limits sites (omega (arith, many, few)) (λ k number site e got. subst (λ m. Silent m number site (limits number)) (sym many) (each k number site e got)))

le_from : (a b : ℕ) → nat_le a b ≡ true → a ≤ b
le_from a b h = grind (arith, nat_tests)

left : (a b : Bool) → a && b ≡ true → a ≡ true
left true b h = refl
left false b h = h

right : (a b : Bool) → a && b ≡ true → b ≡ true
right true b h = h
right false b h = absurd (true≢false (sym h))

pub at_most_16 : (setups : List Setup) → are_setups setups ≡ true → length setups ≤ 16
at_most_16 setups h = le_from (length setups) 16 (right (nat_le 1 (length setups)) (nat_le (length setups) 16) (left (nat_le 1 (length setups) && nat_le (length setups) 16) (are_numbered (length setups) 1 setups) h))

-- one site more was opened
pub opens_none : (setups : List Setup) (sites : List Site) → sites ≡ [] → EachOpens setups sites
opens_none setups sites none k setup site at_setup at_site = absurd (some_none (sym at_site ∙ ap (λ (l : List Site). slice_get l k) none))

pub opens_more : (setups : List Setup) (sites : List Site) (i : ℕ) (d : Setup) (x : Site) → length sites ≡ i → i < length setups → OpenDoes (get_or setups i d) (Ok x) → EachOpens setups sites → EachOpens setups (sites ++ x ∷ [])
opens_more setups sites i d x len lt new each k setup site at_setup at_site = elim (get_appended sites x k site at_site) [
  | inl old ↦ each k setup site at_setup old
  | inr p ↦
      let e : get_or setups i d ≡ setup = some_same (sym (slice_get-get_or setups i d lt) ∙ ap (slice_get setups) (sym (p.0 ∙ len)) ∙ at_setup) in
      subst₂ (λ (s : Setup) (y : Site). OpenDoes s (Ok y)) e (sym p.1) new
]

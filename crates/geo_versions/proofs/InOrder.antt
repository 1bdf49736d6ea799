-- Lists of records by rising key: each key is listed once.
use Rattle.std.proofs.Common.{◌≡◌, ℕ, zero, suc, ◌+◌, ◌<◌, Bool, true, false, cond, List, [], ◌∷◌, length, take, None, Some, refl, sym, ap, ◌∙◌, subst, arith, true≢false, slice_get, slice_index_or, ◌↔◌, IsTrue}
use Rattle.std.proofs.lemmas.Cmp.{nat_list_cmp_total, tied_itself}
use Rattle.std.specs.declared.cmp.Ordering.{Ordering}
use Rattle.std.specs.declared.cmp.Ordering.TheVariants.{Less, Equal, Greater}
use Rattle.std.specs.Ordering.{nat_cmp, is_lt}
use Rattle.std.specs.List.{IsAllAdjacentAnswer}
use Rattle.std.specs.Cmp.Lexicographic.{slice_cmp, same_text, nat_list_eq_equiv}
use Rattle.geo_maps.proofs.Entries.{some_same, some_none}
use Rattle.geo_records.specs.Keys.{same_key}
use Rattle.geo_records.specs.Operations.{Record, record_joined}
use Rattle.geo_versions.specs.Records.{Rec, rec_means, listed_at, Above, Rising}
use Rattle.geo_records.proofs.Above.{joined_none}

not_less_itself : (a : List ℕ) → slice_cmp nat_cmp a a ≡ Less → ⊥
not_less_itself a h = apart (sym h ∙ tied_itself nat_list_cmp_total a)
  where
    apart : Less ≡ Equal → ⊥
    apart p = cc

-- a lesser key is another
pub less_other : (a b : List ℕ) → slice_cmp nat_cmp a b ≡ Less → same_key b a ≡ false
less_other a b h = by (same_key b a) refl
  where
    by : (t : Bool) → same_key b a ≡ t → t ≡ false
    by false e = refl
    by true e = absurd (not_less_itself a (ap (slice_cmp nat_cmp a) (sym (same_text b a (sym e))) ∙ h))

other_less : (a b : List ℕ) → slice_cmp nat_cmp a b ≡ Less → same_key a b ≡ false
other_less a b h = by (same_key a b) refl
  where
    by : (t : Bool) → same_key a b ≡ t → t ≡ false
    by false e = refl
    by true e = absurd (not_less_itself a (ap (slice_cmp nat_cmp a) (same_text a b (sym e)) ∙ h))

-- a key below a rising list is below each of its keys
pub below_all : {V : Type 0} (key : List ℕ) (es : List (List ℕ × V)) → Above key es → Rising es → (j : ℕ) (e : List ℕ × V) → slice_get es j ≡ Some e → slice_cmp nat_cmp key e.0 ≡ Less
below_all key [] above rising j e at = absurd (some_none (sym at))
below_all {V} key (x ∷ xs) above rising zero e at = subst (λ (e : List ℕ × V). slice_cmp nat_cmp key e.0 ≡ Less) (some_same at) above
below_all key (x ∷ xs) above rising (suc j) e at = nat_list_cmp_total.trans key x.0 e.0 above (below_all x.0 xs rising.0 rising.1 j e at)

not_listed : (key : List ℕ) (es : List (List ℕ × Rec)) → ((j : ℕ) (e : List ℕ × Rec) → slice_get es j ≡ Some e → same_key key e.0 ≡ false) → listed_at es key ≡ (None, None)
not_listed key [] h = refl
not_listed key (x ∷ xs) h = ap (λ t. cond {A = Record} t (record_joined (rec_means x.1) (listed_at xs key)) (listed_at xs key)) (h 0 x refl) ∙ not_listed key xs (λ j e at. h (suc j) e at)

not_below : (key : List ℕ) (es : List (List ℕ × Rec)) → Above key es → Rising es → listed_at es key ≡ (None, None)
not_below key es above rising = not_listed key es (λ j e at. other_less key e.0 (below_all key es above rising j e at))

-- each record of a rising list is what is listed at its key
pub each_listed : (es : List (List ℕ × Rec)) → Rising es → (j : ℕ) (e : List ℕ × Rec) → slice_get es j ≡ Some e → rec_means e.1 ≡ listed_at es e.0
each_listed [] rising j e at = absurd (some_none (sym at))
each_listed (x ∷ xs) rising zero e at =
    subst (λ (e : List ℕ × Rec). rec_means e.1 ≡ listed_at (x ∷ xs) e.0) (some_same at)
    (sym (joined_none (rec_means x.1)) ∙ (λ i. record_joined (rec_means x.1) (sym (not_below x.0 xs rising.0 rising.1) i))
    ∙ sym (ap (λ t. cond {A = Record} t (record_joined (rec_means x.1) (listed_at xs x.0)) (listed_at xs x.0)) (nat_list_eq_equiv.refl x.0)))
each_listed (x ∷ xs) rising (suc j) e at =
    each_listed xs rising.1 j e at
    ∙ sym (ap (λ t. cond {A = Record} t (record_joined (rec_means x.1) (listed_at xs e.0)) (listed_at xs e.0)) (less_other x.0 e.0 (below_all x.0 xs rising.0 rising.1 j e at)))

-- before its place it isn't listed
pub not_before : (es : List (List ℕ × Rec)) → Rising es → (j : ℕ) (e : List ℕ × Rec) → slice_get es j ≡ Some e → listed_at (take j es) e.0 ≡ (None, None)
not_before [] rising j e at = absurd (some_none (sym at))
not_before (x ∷ xs) rising zero e at = refl
not_before (x ∷ xs) rising (suc j) e at =
    ap (λ t. cond {A = Record} t (record_joined (rec_means x.1) (listed_at (take j xs) e.0)) (listed_at (take j xs) e.0)) (less_other x.0 e.0 (below_all x.0 xs rising.0 rising.1 j e at))
    ∙ not_before xs rising.1 j e at

-- up to its place, what is listed is what is before it and itself
pub listed_more : (es : List (List ℕ × Rec)) → Rising es → (j : ℕ) (e : List ℕ × Rec) → slice_get es j ≡ Some e → (q : List ℕ) → listed_at (take (suc j) es) q ≡ cond {A = Record} (same_key q e.0) (rec_means e.1) (listed_at (take j es) q)
listed_more [] rising j e at q = absurd (some_none (sym at))
listed_more (x ∷ xs) rising zero e at q =
    subst (λ (e : List ℕ × Rec). listed_at (x ∷ []) q ≡ cond {A = Record} (same_key q e.0) (rec_means e.1) (None, None)) (some_same at)
    (λ i. cond {A = Record} (same_key q x.0) (joined_none (rec_means x.1) i) (None, None))
listed_more (x ∷ xs) rising (suc j) e at q = by (same_key q x.0) (same_key q e.0) refl refl (listed_more xs rising.1 j e at q)
  where
    by : (s t : Bool) → same_key q x.0 ≡ s → same_key q e.0 ≡ t → listed_at (take (suc j) xs) q ≡ cond {A = Record} t (rec_means e.1) (listed_at (take j xs) q)
        → cond {A = Record} s (record_joined (rec_means x.1) (listed_at (take (suc j) xs) q)) (listed_at (take (suc j) xs) q) ≡ cond {A = Record} t (rec_means e.1) (cond {A = Record} s (record_joined (rec_means x.1) (listed_at (take j xs) q)) (listed_at (take j xs) q))
    by false t f g r = r
    by true false f g r = λ i. record_joined (rec_means x.1) (r i)
    by true true f g r =
        let p : q ≡ x.0 = same_text q x.0 (sym f) in
        let other : same_key q e.0 ≡ false = ap (λ k. same_key k e.0) p ∙ other_less x.0 e.0 (below_all x.0 xs rising.0 rising.1 j e at) in
        absurd (true≢false (sym g ∙ other))

-- rising is: each key is below the next
pub rising_if : {V : Type 0} (es : List (List ℕ × V)) → ((k : ℕ) (d : List ℕ × V) → suc k < length es → slice_cmp nat_cmp (slice_index_or es k d).0 (slice_index_or es (suc k) d).0 ≡ Less) → Rising es
rising_if [] h = tt
rising_if (e ∷ []) h = (tt, tt)
rising_if (e ∷ d ∷ es) h = (h zero e (omega arith), rising_if (d ∷ es) (λ k a lt. h (suc k) a (omega (arith, lt))))

pub each_below : {V : Type 0} (es : List (List ℕ × V)) → Rising es → (k : ℕ) (d : List ℕ × V) → suc k < length es → slice_cmp nat_cmp (slice_index_or es k d).0 (slice_index_or es (suc k) d).0 ≡ Less
each_below [] rising k d lt = absurd (omega (arith, lt))
each_below (e ∷ []) rising k d lt = absurd (omega (arith, lt))
each_below (e ∷ f ∷ es) rising zero d lt = rising.0
each_below (e ∷ f ∷ es) rising (suc k) d lt = each_below (f ∷ es) rising.1 k d (omega (arith, lt))

less_from : (o : Ordering) → true ≡ is_lt o → o ≡ Less
less_from Less h = refl
less_from Equal h = absurd (true≢false h)
less_from Greater h = absurd (true≢false h)

-- what a look at each key and the next tells
pub rising_told : {V : Type 0} (es : List (List ℕ × V)) (told : Bool) → IsAllAdjacentAnswer (λ x y b. b ≡ is_lt (slice_cmp nat_cmp x.0 y.0)) es told → IsTrue told ↔ Rising es
rising_told {V} es true each = (λ _. rising_if es one, λ _. refl)
  where
    one : (k : ℕ) (d : List ℕ × V) → suc k < length es → slice_cmp nat_cmp (slice_index_or es k d).0 (slice_index_or es (suc k) d).0 ≡ Less
    one k d lt =
        let next : k + 1 ≡ suc k = omega arith in
        less_from (slice_cmp nat_cmp (slice_index_or es k d).0 (slice_index_or es (suc k) d).0) (subst (λ n. true ≡ is_lt (slice_cmp nat_cmp (slice_index_or es k d).0 (slice_index_or es n d).0)) next (each k d (omega (arith, lt))))
rising_told [] false told = absurd (omega (arith, told.1))
rising_told (e ∷ es) false told = (λ h. absurd (true≢false (sym h)), λ rising. absurd (differ rising))
  where
    differ : Rising (e ∷ es) → ⊥
    differ rising =
        let k = told.0 in
        let next : k + 1 ≡ suc k = omega arith in
        let lt = told.1 in
        let less = each_below (e ∷ es) rising k e (omega (arith, lt)) in
        let not_less = subst (λ n. false ≡ is_lt (slice_cmp nat_cmp (slice_index_or (e ∷ es) k e).0 (slice_index_or (e ∷ es) n e).0)) next (told.2 e) in
        true≢false (sym (not_less ∙ ap is_lt less))

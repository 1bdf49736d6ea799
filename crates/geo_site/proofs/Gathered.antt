-- The least keys that pass a test, so many at most, found one after another.
use Rattle.std.proofs.Common.{◌≡◌, ℕ, zero, suc, Bool, true, false, cond, not, ◌&&◌, ◌||◌, ◌⊎◌, inl, inr, List, [], ◌∷◌, length, take, Option, None, Some, refl, sym, ap, ◌∙◌, subst, arith, true≢false, ◌+◌, ◌-◌, ◌++◌, ◌<◌, ◌≤◌}
use Rattle.std.specs.Cmp.{IsStrictWeakOrder}
use Rattle.std.proofs.lemmas.Cmp.{nat_list_cmp_total}
use Rattle.std.proofs.lemmas.List.MinMax.{ranks_by}
use Rattle.std.specs.Prelude.{slice_get}
use Rattle.std.specs.List.{list_any, AllByRecursion, IsDistinct}
use Rattle.std.specs.Ordering.{nat_cmp, is_lt, is_eq, ordering_reverse}
use Rattle.std.specs.declared.cmp.Ordering.{Ordering}
use Rattle.std.specs.declared.cmp.Ordering.TheVariants.{Less, Equal, Greater}
use Rattle.std.specs.Cmp.Lexicographic.{slice_cmp, same_text, nat_list_eq_equiv}
use Rattle.std.proofs.lemmas.Map.Text.{is_eq-slice_cmp}
use Rattle.std.proofs.lemmas.Map.Keys.{IsDistinct-head, IsDistinct-tail}
use Rattle.geo_records.specs.Keys.{same_key}
use Rattle.geo_site.specs.Machine.{SiteState}
use Rattle.geo_site.specs.Fills.{is_below, is_after, is_missing, is_sought, Rises, placed, noted, noted_at, IsFirstMissing, AreFirstMissing}

below_order : IsStrictWeakOrder is_below
below_order = ranks_by nat_list_cmp_total (λ x. x)

true_or : (t : Bool) → (t ≡ false → ⊥) → t ≡ true
true_or true never = refl
true_or false never = absurd (never refl)

below_trans : (a b c : List ℕ) → is_below a b ≡ true → is_below b c ≡ true → is_below a c ≡ true
below_trans a b c ab bc = true_or (is_below a c) (λ never. true≢false (sym ab ∙ below_order.chain a c b never (below_order.one_way b c bc)))

pub untrue : (t : Bool) → not t ≡ true → t ≡ false
untrue true h = sym h
untrue false h = refl

-- a key is among others
abbrev pub Among : List ℕ → List (List ℕ) → Type 0
Among q [] = ⊥
Among q (k ∷ ks) = (q ≡ k) ⊎ Among q ks

rises_below : (low q : List ℕ) (ks : List (List ℕ)) → Rises (Some low) ks → Among q ks → is_below low q ≡ true
rises_below low q [] r m = absurd m
rises_below low q (k ∷ ks) r (inl same) = subst (λ x. is_below low x ≡ true) (sym same) r.0
rises_below low q (k ∷ ks) r (inr later) = below_trans low k q r.0 (rises_below k q ks r.1 later)

among_take : (q : List ℕ) (n : ℕ) (ks : List (List ℕ)) → Among q (take n ks) → Among q ks
among_take q zero [] m = m
among_take q zero (k ∷ ks) m = absurd m
among_take q (suc n) [] m = m
among_take q (suc n) (k ∷ ks) (inl same) = inl same
among_take q (suc n) (k ∷ ks) (inr later) = inr (among_take q n ks later)

rises_take : (low : Option (List ℕ)) (n : ℕ) (ks : List (List ℕ)) → Rises low ks → Rises low (take n ks)
rises_take low zero [] r = tt
rises_take low zero (k ∷ ks) r = tt
rises_take low (suc n) [] r = tt
rises_take low (suc n) (k ∷ ks) r = (r.0, rises_take (Some k) n ks r.1)

among_placed : (q key : List ℕ) (ks : List (List ℕ)) → Among q (placed key ks) → (q ≡ key) ⊎ Among q ks
among_placed q key [] (inl same) = inl same
among_placed q key [] (inr m) = absurd m
among_placed q key (k ∷ ks) m = by (is_below key k) (among_placed q key ks) m
  where
    by : (t : Bool) → (Among q (placed key ks) → (q ≡ key) ⊎ Among q ks) → Among q (cond t (key ∷ (k ∷ ks)) (k ∷ placed key ks)) → (q ≡ key) ⊎ Among q (k ∷ ks)
    by true rest (inl same) = inl same
    by true rest (inr later) = inr later
    by false rest (inl same) = inr (inl same)
    by false rest (inr later) = elim (rest later) [ inl same ↦ inl same | inr m ↦ inr (inr m) ]

placed_among : (q key : List ℕ) (ks : List (List ℕ)) → (q ≡ key) ⊎ Among q ks → Among q (placed key ks)
placed_among q key [] (inl same) = inl same
placed_among q key [] (inr m) = absurd m
placed_among q key (k ∷ ks) m = by (is_below key k) (placed_among q key ks) m
  where
    by : (t : Bool) → ((q ≡ key) ⊎ Among q ks → Among q (placed key ks)) → (q ≡ key) ⊎ Among q (k ∷ ks) → Among q (cond t (key ∷ (k ∷ ks)) (k ∷ placed key ks))
    by true rest (inl same) = inl same
    by true rest (inr later) = inr later
    by false rest (inl same) = inr (rest (inl same))
    by false rest (inr (inl same)) = inl same
    by false rest (inr (inr later)) = inr (rest (inr later))

-- of two keys that differ one is below the other
abbrev pub Differ : List ℕ → List (List ℕ) → Type 0
Differ key ks = (q : List ℕ) → Among q ks → is_below key q ≡ false → is_below q key ≡ true

rises_placed : (low : Option (List ℕ)) (key : List ℕ) (ks : List (List ℕ)) → is_after low key ≡ true → Differ key ks → Rises low ks → Rises low (placed key ks)
rises_placed low key [] after differ r = (after, tt)
rises_placed low key (k ∷ ks) after differ r = by (is_below key k) refl (λ behind. rises_placed (Some k) key ks behind (λ q m. differ q (inr m)) r.1)
  where
    by : (t : Bool) → is_below key k ≡ t → (is_below k key ≡ true → Rises (Some k) (placed key ks)) → Rises low (cond t (key ∷ (k ∷ ks)) (k ∷ placed key ks))
    by true e rest = (after, (e, r.1))
    by false e rest = (r.0, rest (differ k (inl refl) e))

length_placed : (key : List ℕ) (ks : List (List ℕ)) → length (placed key ks) ≡ suc (length ks)
length_placed key [] = refl
length_placed key (k ∷ ks) = by (is_below key k) (length_placed key ks)
  where
    by : (t : Bool) → length (placed key ks) ≡ suc (length ks) → length (cond t (key ∷ (k ∷ ks)) (k ∷ placed key ks)) ≡ suc (suc (length ks))
    by true rest = refl
    by false rest = ap suc rest

length_taken : {A : Type 0} (n : ℕ) (ks : List A) → length (take n ks) ≤ n
length_taken zero [] = omega arith
length_taken zero (k ∷ ks) = omega arith
length_taken (suc n) [] = omega arith
length_taken (suc n) (k ∷ ks) = let h = length_taken n ks in omega (arith, h)

full_taken : {A : Type 0} (n : ℕ) (ks : List A) → n ≤ length ks → length (take n ks) ≡ n
full_taken zero [] h = refl
full_taken zero (k ∷ ks) h = refl
full_taken (suc n) [] h = absurd (omega (arith, h))
full_taken (suc n) (k ∷ ks) h = ap suc (full_taken n ks (omega (arith, h)))

-- a key is among the first, or these are as many as may be and all below it
abbrev pub IsFullBelow : ℕ → List ℕ → List (List ℕ) → Type 0
IsFullBelow most q ks = (length ks ≡ most) × ((f : List ℕ) → Among f ks → is_below f q ≡ true)

in_take : (q : List ℕ) (low : Option (List ℕ)) (n : ℕ) (ks : List (List ℕ)) → Rises low ks → Among q ks → Among q (take n ks) ⊎ IsFullBelow n q (take n ks)
in_take q low zero [] r m = absurd m
in_take q low zero (k ∷ ks) r m = inr (refl, λ f never. absurd never)
in_take q low (suc n) [] r m = absurd m
in_take q low (suc n) (k ∷ ks) r (inl same) = inl (inl same)
in_take q low (suc n) (k ∷ ks) r (inr later) = elim (in_take q (Some k) n ks r.1 later) [
  | inl m ↦ inl (inr m)
  | inr full ↦ inr (ap suc full.0, λ f. below f full.1)
]
  where
    below : (f : List ℕ) → ((f : List ℕ) → Among f (take n ks) → is_below f q ≡ true) → Among f (k ∷ take n ks) → is_below f q ≡ true
    below f all (inl same) = subst (λ x. is_below x q ≡ true) (sym same) (rises_below k q ks r.1 later)
    below f all (inr m) = all f m

-- a key that comes among the first of as many pushes out one that is above it
pushes : (key : List ℕ) (ks : List (List ℕ)) → (Among key ks → ⊥) → Among key (take (length ks) (placed key ks)) → (g : List ℕ) × Among g ks × (is_below key g ≡ true)
pushes key [] fresh m = absurd m
pushes key (k ∷ ks) fresh m = by (is_below key k) refl (pushes key ks (λ a. fresh (inr a))) m
  where
    by : (t : Bool) → is_below key k ≡ t → (Among key (take (length ks) (placed key ks)) → (g : List ℕ) × Among g ks × (is_below key g ≡ true)) → Among key (take (suc (length ks)) (cond t (key ∷ (k ∷ ks)) (k ∷ placed key ks))) → (g : List ℕ) × Among g (k ∷ ks) × (is_below key g ≡ true)
    by true e rest m = (k, inl refl, e)
    by false e rest (inl same) = absurd (fresh (inl same))
    by false e rest (inr m) = let g = rest m in (g.0, inr g.1, g.2)

-- what was found of the keys that were seen
pub record Gathered (test : List ℕ → Bool) (most : ℕ) (seen : List ℕ → Type 0) (found : List (List ℕ)) : Type 0 where
  pub rises : Rises None found
  pub few : length found ≤ most
  pub pass : (q : List ℕ) → Among q found → (test q ≡ true) × seen q
  pub least : (q : List ℕ) → seen q → test q ≡ true → Among q found ⊎ IsFullBelow most q found

-- one key more
pub gathers : (test : List ℕ → Bool) (most : ℕ) (seen : List ℕ → Type 0) (found : List (List ℕ)) (key : List ℕ)
    → (seen key → ⊥) → ((q : List ℕ) → seen q → is_below key q ≡ false → is_below q key ≡ true)
    → Gathered test most seen found → Gathered test most (λ q. (q ≡ key) ⊎ seen q) (noted test most found key)
gathers test most seen found key fresh differ was = by (test key) refl
  where
    left : (q : List ℕ) → (q ≡ key) ⊎ seen q → test q ≡ true → test key ≡ false → Among q found ⊎ IsFullBelow most q found
    left q (inl same) passes fails = absurd (true≢false (sym passes ∙ (ap test same ∙ fails)))
    left q (inr s) passes fails = was.least q s passes

    among : Rises None (placed key found)
    among = rises_placed None key found refl (λ q m. differ q (was.pass q m).1) was.rises

    above : (q : List ℕ) → ((f : List ℕ) → Among f found → is_below f q ≡ true) → length found ≡ most
        → (f : List ℕ) → Among f (take most (placed key found)) → (f ≡ key) ⊎ Among f found → is_below f q ≡ true
    above q all full f m (inr old) = all f old
    above q all full f m (inl same) =
        let here : Among key (take (length found) (placed key found)) = subst (λ n. Among key (take n (placed key found))) (sym full) (subst (λ x. Among x (take most (placed key found))) same m) in
        let g = pushes key found (λ a. fresh (was.pass key a).1) here in
        subst (λ x. is_below x q ≡ true) (sym same) (below_trans key g.0 q g.2 (all g.0 g.1))

    new : (q : List ℕ) → (q ≡ key) ⊎ seen q → test q ≡ true → Among q (take most (placed key found)) ⊎ IsFullBelow most q (take most (placed key found))
    new q (inl same) passes = in_take q None most (placed key found) among (placed_among q key found (inl same))
    new q (inr s) passes = elim (was.least q s passes) [
      | inl m ↦ in_take q None most (placed key found) among (placed_among q key found (inr m))
      | inr full ↦ inr (full_taken most (placed key found) (let l = length_placed key found in let f = full.0 in omega (arith, l, f)), λ f m. above q full.1 full.0 f m (among_placed f key found (among_take f most (placed key found) m)))
    ]

    by : (t : Bool) → test key ≡ t → Gathered test most (λ q. (q ≡ key) ⊎ seen q) (cond t (take most (placed key found)) found)
    by true e = record {
      rises = rises_take None most (placed key found) among;
      few = length_taken most (placed key found);
      pass = λ q m. elim (among_placed q key found (among_take q most (placed key found) m)) [
        | inl same ↦ (ap test same ∙ e, inl same)
        | inr old ↦ ((was.pass q old).0, inr (was.pass q old).1)
      ];
      least = new;
    }
    by false e = record {
      rises = was.rises;
      few = was.few;
      pass = λ q m. ((was.pass q m).0, inr (was.pass q m).1);
      least = λ q s passes. left q s passes e;
    }

neither : (o : Ordering) → is_lt o ≡ false → is_lt (ordering_reverse o) ≡ false → is_eq o ≡ true
neither Less h k = absurd (true≢false h)
neither Equal h k = refl
neither Greater h k = absurd (true≢false k)

-- two keys that differ are one below the other
other_below : (a b : List ℕ) → (a ≡ b → ⊥) → is_below a b ≡ false → is_below b a ≡ true
other_below a b differ h = true_or (is_below b a) (λ never. differ (same_text a b (sym (equal never))))
  where
    equal : is_below b a ≡ false → same_key a b ≡ true
    equal never = sym (is_eq-slice_cmp a b) ∙ neither (slice_cmp nat_cmp a b) h (sym (ap is_lt (nat_list_cmp_total.antisymm b a)) ∙ never)

differs_from : (q k : List ℕ) (ks : List (List ℕ)) → AllByRecursion (λ y. same_key k y ≡ false) ks → Among q ks → k ≡ q → ⊥
differs_from q k [] all m same = m
differs_from q k (x ∷ ks) all (inl is) same = true≢false (sym (nat_list_eq_equiv.refl k) ∙ ap (same_key k) (same ∙ is) ∙ all.0)
differs_from q k (x ∷ ks) all (inr later) same = differs_from q k ks all.1 later same

some_none : {A : Type 0} {x : A} → Some x ≡ None → ⊥
some_none h = cc

some_same : {A : Type 0} {x y : A} → Some x ≡ Some y → x ≡ y
some_same h = cc

is_there : (keys : List (List ℕ)) (n : ℕ) (key : List ℕ) → slice_get keys n ≡ Some key → Among key keys
is_there [] n key at = cc
is_there (k ∷ keys) zero key at = inl (sym (some_same at))
is_there (k ∷ keys) (suc n) key at = inr (is_there keys n key at)

-- the key at a place is none of those before it
fresh_at : (keys : List (List ℕ)) (n : ℕ) (key : List ℕ) → IsDistinct same_key keys → slice_get keys n ≡ Some key → Among key (take n keys) → ⊥
fresh_at [] zero key d at m = m
fresh_at [] (suc n) key d at m = m
fresh_at (k ∷ keys) zero key d at m = m
fresh_at (k ∷ keys) (suc n) key d at (inl same) = differs_from key k keys (IsDistinct-head same_key k keys d) (is_there keys n key at) (sym same)
fresh_at (k ∷ keys) (suc n) key d at (inr later) = fresh_at keys n key (IsDistinct-tail same_key k keys d) at later

-- what is seen up to the next place
seen_next : (keys : List (List ℕ)) (n : ℕ) (key q : List ℕ) → slice_get keys n ≡ Some key → Among q (take (suc n) keys) → (q ≡ key) ⊎ Among q (take n keys)
seen_next [] n key q at m = cc
seen_next (k ∷ keys) zero key q at (inl same) = inl (same ∙ some_same at)
seen_next (k ∷ keys) zero key q at (inr later) = absurd (none_of q keys later)
  where
    none_of : (q : List ℕ) (keys : List (List ℕ)) → Among q (take 0 keys) → ⊥
    none_of q [] m = m
    none_of q (k ∷ keys) m = m
seen_next (k ∷ keys) (suc n) key q at (inl same) = inr (inl same)
seen_next (k ∷ keys) (suc n) key q at (inr later) = elim (seen_next keys n key q at later) [ inl same ↦ inl same | inr m ↦ inr (inr m) ]

next_seen : (keys : List (List ℕ)) (n : ℕ) (key q : List ℕ) → slice_get keys n ≡ Some key → (q ≡ key) ⊎ Among q (take n keys) → Among q (take (suc n) keys)
next_seen [] n key q at m = cc
next_seen (k ∷ keys) zero key q at (inl same) = inl (same ∙ sym (some_same at))
next_seen (k ∷ keys) zero key q at (inr m) = absurd m
next_seen (k ∷ keys) (suc n) key q at (inl same) = inr (next_seen keys n key q at (inl same))
next_seen (k ∷ keys) (suc n) key q at (inr (inl same)) = inl same
next_seen (k ∷ keys) (suc n) key q at (inr (inr m)) = inr (next_seen keys n key q at (inr m))

-- the next place
pub gathers_next : (test : List ℕ → Bool) (most : ℕ) (keys found : List (List ℕ)) (n : ℕ) (key : List ℕ) → IsDistinct same_key keys → slice_get keys n ≡ Some key
    → Gathered test most (λ q. Among q (take n keys)) found → Gathered test most (λ q. Among q (take (suc n) keys)) (noted test most found key)
gathers_next test most keys found n key d at was =
    let more = gathers test most (λ q. Among q (take n keys)) found key (fresh_at keys n key d at) (λ q m. other_below key q (λ same. fresh_at keys n key d at (subst (λ x. Among x (take n keys)) (sym same) m))) was in
    record {
      rises = more.rises;
      few = more.few;
      pass = λ q m. ((more.pass q m).0, next_seen keys n key q at (more.pass q m).1);
      least = λ q m. more.least q (seen_next keys n key q at m);
    }

-- at first none is found
pub gathers_none : (test : List ℕ → Bool) (most : ℕ) (keys : List (List ℕ)) → Gathered test most (λ q. Among q (take 0 keys)) []
gathers_none test most [] = record { rises = tt; few = omega arith; pass = λ q m. absurd m; least = λ q m. absurd m }
gathers_none test most (k ∷ keys) = record { rises = tt; few = omega arith; pass = λ q m. absurd m; least = λ q m. absurd m }

-- what is found of all are the first
firsts : (st : SiteState) (now : ℕ) (after : Option (List ℕ)) (most : ℕ) (found : List (List ℕ))
    → Rises after found → length found ≤ most → ((q : List ℕ) → Among q found → is_missing st now q ≡ true)
    → ((q : List ℕ) → is_after after q ≡ true → is_missing st now q ≡ true → Among q found ⊎ IsFullBelow most q found)
    → AreFirstMissing st now after most found
firsts st now after zero [] rises few pass least = refl
firsts st now after zero (k ∷ found) rises few pass least = absurd (omega (arith, few))
firsts st now after (suc most) [] rises few pass least = λ q behind. true_never (is_missing st now q) (λ e. elim (least q behind e) [ inl m ↦ m | inr full ↦ absurd (short full.0) ])
  where
    short : 0 ≡ suc most → ⊥
    short h = omega (arith, h)

    true_never : (t : Bool) → (t ≡ true → ⊥) → t ≡ false
    true_never true h = absurd (h refl)
    true_never false h = refl
firsts st now after (suc most) (k ∷ found) rises few pass least = (
  (rises.0, pass k (inl refl), λ q behind e. never_below q (least q behind e)),
  firsts st now (Some k) most found rises.1 (omega (arith, few)) (λ q m. pass q (inr m)) (λ q above e. later q above (least q (behind_too after rises.0 q above) e)),
)
  where
    never_below : (q : List ℕ) → Among q (k ∷ found) ⊎ IsFullBelow (suc most) q (k ∷ found) → is_below q k ≡ false
    never_below q (inl (inl same)) = subst (λ x. is_below x k ≡ false) (sym same) (itself k)
      where
        itself : (x : List ℕ) → is_below x x ≡ false
        itself x = by (is_below x x) refl
          where
            by : (t : Bool) → is_below x x ≡ t → t ≡ false
            by true e = sym e ∙ below_order.one_way x x e
            by false e = refl
    never_below q (inl (inr m)) = below_order.one_way k q (rises_below k q found rises.1 m)
    never_below q (inr full) = below_order.one_way k q (full.1 k (inl refl))

    behind_too : (low : Option (List ℕ)) → is_after low k ≡ true → (q : List ℕ) → is_below k q ≡ true → is_after low q ≡ true
    behind_too None h q above = refl
    behind_too (Some low) h q above = below_trans low k q h above

    later : (q : List ℕ) → is_below k q ≡ true → Among q (k ∷ found) ⊎ IsFullBelow (suc most) q (k ∷ found) → Among q found ⊎ IsFullBelow most q found
    later q above (inl (inl same)) = absurd (true≢false (sym above ∙ below_order.one_way q k (subst (λ x. is_below x k ≡ true) (sym same) (ap (λ x. is_below k x) (sym same) ∙ above))))
    later q above (inl (inr m)) = inl m
    later q above (inr full) = inr (omega (arith, full.0), λ f m. full.1 f (inr m))

-- a key that is not less than the last of rising keys comes behind them
placed_behind : (key last : List ℕ) (low : Option (List ℕ)) (ks : List (List ℕ)) (n : ℕ) → Rises low ks → length ks ≡ suc n → slice_get ks n ≡ Some last → is_below key last ≡ false → placed key ks ≡ ks ++ (key ∷ [])
placed_behind key last low [] n rises many at behind = refl
placed_behind key last low (k ∷ []) zero rises many at behind = ap (λ t. cond t (key ∷ (k ∷ [])) (k ∷ (key ∷ []))) (ap (is_below key) (some_same at) ∙ behind)
placed_behind key last low (k ∷ []) (suc n) rises many at behind = absurd (omega (arith, many))
placed_behind key last low (k ∷ (j ∷ ks)) zero rises many at behind = absurd (omega (arith, many))
placed_behind key last low (k ∷ (j ∷ ks)) (suc n) rises many at behind =
    let above : is_below key k ≡ false = never_below (is_below key k) refl in
    let rest = placed_behind key last (Some k) (j ∷ ks) n rises.1 (omega (arith, many)) at behind in
    ap (λ t. cond t (key ∷ (k ∷ (j ∷ ks))) (k ∷ placed key (j ∷ ks))) above ∙ ap (λ x. k ∷ x) rest
  where
    never_below : (t : Bool) → is_below key k ≡ t → t ≡ false
    never_below true e = absurd (true≢false (sym (below_trans key k last e (rises_below k last (j ∷ ks) rises.1 (is_there (j ∷ ks) n last at))) ∙ behind))
    never_below false e = refl

pub beyond : (key last : List ℕ) (ks : List (List ℕ)) (most : ℕ) → Rises None ks → length ks ≤ most → most ≤ length ks → slice_get ks (length ks - 1) ≡ Some last → is_below key last ≡ false → take most (placed key ks) ≡ ks
beyond key last [] most rises few many at behind = absurd (some_none (sym at))
beyond key last (k ∷ ks) most rises few many at behind =
    let full : most ≡ length (k ∷ ks) = omega (arith, few, many) in
    let one : length (k ∷ ks) ≡ suc (length (k ∷ ks) - 1) = omega arith in
    ap (λ x. take most x) (placed_behind key last None (k ∷ ks) (length (k ∷ ks) - 1) rises one at behind) ∙ ap (λ n. take n ((k ∷ ks) ++ (key ∷ []))) full ∙ all (k ∷ ks)
  where
    all : (ks : List (List ℕ)) → take (length ks) (ks ++ (key ∷ [])) ≡ ks
    all [] = refl
    all (k ∷ ks) = ap (λ x. k ∷ x) (all ks)

-- the next place, where there is one
pub gathers_at : (test : List ℕ → Bool) (most : ℕ) (keys found : List (List ℕ)) (n : ℕ) → IsDistinct same_key keys → n < length keys
    → Gathered test most (λ q. Among q (take n keys)) found → Gathered test most (λ q. Among q (take (n + 1) keys)) (noted_at test most found (slice_get keys n))
gathers_at test most keys found n apart lt was = by (slice_get keys n) refl
  where
    there : (keys : List (List ℕ)) (n : ℕ) → n < length keys → slice_get keys n ≡ None → ⊥
    there [] n lt at = omega (arith, lt)
    there (k ∷ keys) zero lt at = some_none at
    there (k ∷ keys) (suc n) lt at = there keys n (omega (arith, lt)) at

    one_more : suc n ≡ n + 1
    one_more = omega arith

    by : (o : Option (List ℕ)) → slice_get keys n ≡ o → Gathered test most (λ q. Among q (take (n + 1) keys)) (noted_at test most found o)
    by None at = absurd (there keys n lt at)
    by (Some key) at = subst (λ m. Gathered test most (λ q. Among q (take m keys)) (noted test most found key)) one_more (gathers_next test most keys found n key apart at was)

both : (a b : Bool) → (a && b) ≡ true → (a ≡ true) × (b ≡ true)
both true b e = (refl, e)
both false b e = cc

among_any : (q : List ℕ) (ks : List (List ℕ)) → list_any (same_key q) ks ≡ true → Among q ks
among_any q [] h = absurd (true≢false (sym h))
among_any q (k ∷ ks) h = by (same_key q k) refl h (among_any q ks)
  where
    by : (t : Bool) → same_key q k ≡ t → (t || list_any (same_key q) ks) ≡ true → (list_any (same_key q) ks ≡ true → Among q ks) → Among q (k ∷ ks)
    by true e h rest = inl (same_text q k (sym e))
    by false e h rest = inr (rest h)

-- all places
pub gathered_all : (st : SiteState) (now : ℕ) (after : Option (List ℕ)) (most : ℕ) (keys found : List (List ℕ)) (n : ℕ)
    → ((q : List ℕ) → is_missing st now q ≡ true → list_any (same_key q) keys ≡ true) → length keys ≤ n
    → Gathered (is_sought st now after) most (λ q. Among q (take n keys)) found → AreFirstMissing st now after most found
gathered_all st now after most keys found n recorded past all = firsts st now after most found (behind found all.rises (λ q m. (ok q m).0)) all.few (λ q m. (ok q m).1) least
  where
    whole : (keys : List (List ℕ)) (n : ℕ) → length keys ≤ n → take n keys ≡ keys
    whole [] zero le = refl
    whole [] (suc n) le = refl
    whole (k ∷ keys) zero le = absurd (omega (arith, le))
    whole (k ∷ keys) (suc n) le = ap (λ x. k ∷ x) (whole keys n (omega (arith, le)))

    ok : (q : List ℕ) → Among q found → (is_after after q ≡ true) × (is_missing st now q ≡ true)
    ok q m = both (is_after after q) (is_missing st now q) (all.pass q m).0

    behind : (found : List (List ℕ)) → Rises None found → ((q : List ℕ) → Among q found → is_after after q ≡ true) → Rises after found
    behind [] rises above = tt
    behind (k ∷ found) rises above = (above k (inl refl), rises.1)

    least : (q : List ℕ) → is_after after q ≡ true → is_missing st now q ≡ true → Among q found ⊎ IsFullBelow most q found
    least q above is = all.least q (subst (λ x. Among q x) (sym (whole keys n past)) (among_any q keys (recorded q is))) (ap (λ b. b && is_missing st now q) above ∙ is)

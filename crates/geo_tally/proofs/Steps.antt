-- Each kind of step keeps the rule of the words, and at the end a seat with all parts has them.
use Rattle.std.proofs.Common.{◌≡◌, ◌≢◌, ℕ, zero, suc, ◌+◌, ◌*◌, ◌%◌, ◌^◌, ◌<◌, ◌≤◌, List, [], ◌∷◌, ◌++◌, set, slice_index, slice_set, refl, ap, sym, ◌∙◌, subst, ⊎_elim, arith}
use Rattle.std.proofs.lemmas.List.{set-get_or}
use mathlib.Core.Option.{some, some-ne-none, some-injective}
use lib.ListN.{get_elem?}
use Rattle.atomic_table.specs.Table.{Me, keeps, Allows, Splits, Joins, Final, Seen, step}
use Rattle.atomic_table.proofs.Lists.{at_set, at_snoc, set_again}
use Rattle.geo_tally.specs.declared.rule.Adds.{Adds}
use Rattle.geo_tally.specs.declared.counter.Counter.{Counter}
use Rattle.geo_tally.specs.declared.counter.Counter.TheVariants.{Sessions, Requests, Faults, Rounds, FramesRefused}
use Rattle.geo_tally.specs.declared.counter.Counts.{Counts}
use Rattle.geo_tally.specs.Counts.{place_of, count_of, no_counts, one_more, all_together, whole, in_order}
use Rattle.geo_tally.specs.Words.{most_adds, most_seats, adds, parts_of, IsTally, Holds, counter_at, AddsOne, Finds, all_but_one_part, one_part, adds_together, no_part}
use Rattle.geo_tally.proofs.Counting.{same_counts, count-none, count-together, count-le-whole, whole-one_more, whole-together, in_order-place, in_order-one_more, count-all-set, all-one_more, all-snoc-none, count-all-le}

abbrev counts : Adds → Counts
counts v = v.counts

pub counter-place : (c : Counter) → counter_at (place_of c) ≡ c
counter-place Sessions = refl
counter-place Requests = refl
counter-place Faults = refl
counter-place Rounds = refl
counter-place FramesRefused = refl

parts-set : (views : List Adds) (id : ℕ) (v w : Adds) → get_elem? views id ≡ some v → parts_of (set views id w) + v.parts ≡ parts_of views + w.parts
parts-set [] id v w e = absurd (some-ne-none v (sym e))
parts-set (x ∷ xs) zero v w e = omega (arith, ap (λ u. u.parts) (some-injective x v e))
parts-set (x ∷ xs) (suc id) v w e = omega (arith, parts-set xs id v w e)

parts-snoc : (views : List Adds) (w : Adds) → parts_of (views ++ w ∷ []) ≡ parts_of views + w.parts
parts-snoc [] w = omega arith
parts-snoc (x ∷ xs) w = omega (arith, parts-snoc xs w)

-- each view has added at most so often for each of its parts
abbrev Bounded : List Adds → Type 0
Bounded views = (id : ℕ) (v : Adds) → get_elem? views id ≡ some v → whole v.counts ≤ v.parts * most_adds

bounded-set : (views : List Adds) (id : ℕ) (w : Adds) → whole w.counts ≤ w.parts * most_adds → Bounded views → Bounded (set views id w)
bounded-set views id w mine others j u e = ⊎_elim (λ (x : (j ≡ id) × (w ≡ u)). subst (λ (a : Adds). whole a.counts ≤ a.parts * most_adds) x.1 mine) (λ (x : (j ≢ id) × (get_elem? views j ≡ some u)). others j u x.1) (at_set views id j w u e)

bounded-snoc : (views : List Adds) (w : Adds) → whole w.counts ≤ w.parts * most_adds → Bounded views → Bounded (views ++ w ∷ [])
bounded-snoc views w mine others j u e = ⊎_elim (λ x. others j u x) (λ (is : w ≡ u). subst (λ (a : Adds). whole a.counts ≤ a.parts * most_adds) is mine) (at_snoc views w u j e)

whole-bounded : (views : List Adds) → Bounded views → whole (all_together counts views) ≤ parts_of views * most_adds
whole-bounded [] h = omega arith
whole-bounded (x ∷ xs) h =
    let one = h zero x refl in
    let rest = whole-bounded xs (λ id v e. h (suc id) v e) in
    omega (arith, one, rest, whole-together x.counts (all_together counts xs))

-- no word is above 2^48
word-bounded : (seats : ℕ) (words : List ℕ) (views : List Adds) → IsTally seats words views → (c : Counter) → slice_index words (place_of c) ≤ most_seats * most_adds
word-bounded seats words views h c =
    let n = all_together counts views in
    omega (arith, ap (λ l. slice_index l (place_of c)) h.sums, in_order-place c n, count-le-whole c n, whole-bounded views h.most, h.parts, h.few)

-- a word holds at least what one view added
own-le-word : (seats : ℕ) (words : List ℕ) (views : List Adds) (id : ℕ) (v : Adds) → IsTally seats words views → get_elem? views id ≡ some v → (c : Counter) → count_of c v.counts ≤ slice_index words (place_of c)
own-le-word seats words views id v h at c =
    omega (arith, ap (λ l. slice_index l (place_of c)) h.sums, in_order-place c (all_together counts views), count-all-le counts c views id v at)

-- the words after one more
word-one_more : (seats : ℕ) (words : List ℕ) (views : List Adds) → IsTally seats words views → (c : Counter)
    → slice_set words (place_of c) ((slice_index words (place_of c) + 1) % 2 ^ 64) ≡ in_order (one_more c (all_together counts views))
word-one_more seats words views h c =
    let n = all_together counts views in
    let bound = word-bounded seats words views h c in
    let found : slice_index words (place_of c) ≡ count_of c n = ap (λ l. slice_index l (place_of c)) h.sums ∙ in_order-place c n in
    let next : (slice_index words (place_of c) + 1) % 2 ^ 64 ≡ count_of c n + 1 = omega (arith, bound, found) in
    ap (λ l. slice_set l (place_of c) ((slice_index words (place_of c) + 1) % 2 ^ 64)) h.sums ∙ ap (slice_set (in_order n) (place_of c)) next ∙ in_order-one_more c n

module _ {S : Type 0} where
  -- the word rises by one, and so does what the seat added
  pub add_allowed : (seats slots id : ℕ) (me : Me S Adds) (c : Counter) → me.0.parts ≡ 1 → whole me.0.counts < most_adds
      → Allows (Holds {S = S} seats) slots id me (place_of c) (λ n. (n + 1) % 2 ^ 64) (AddsOne (step slots (place_of c) 1 0 mathlib.Core.Option.none) me)
  add_allowed seats slots id me c one less s h sized at small =
      let v = me.0 in
      let w = adds v.parts (one_more (counter_at (place_of c)) v.counts) in
      let more : w.counts ≡ one_more c v.counts = ap (λ d. one_more d v.counts) (counter-place c) in (
        w,
        keeps,
        tt,
        record {
          sums = word-one_more seats s.words s.views h c ∙ ap in_order (sym (all-one_more counts c s.views id v w at more));
          parts = omega (arith, parts-set s.views id v w at, h.parts);
          few = h.few;
          most = bounded-set s.views id w (omega (arith, ap whole more, whole-one_more c v.counts, one, less)) h.most;
        },
        refl,
      )

  -- nothing changes, and what the seat added is found, or more
  pub look_allowed : (seats slots id : ℕ) (me : Me S Adds) (c : Counter)
      → Allows (Holds {S = S} seats) slots id me (place_of c) (λ n. n) (Finds (step slots (place_of c) 0 0 mathlib.Core.Option.none) me)
  look_allowed seats slots id me c s h sized at small =
      let words : s.words ≡ slice_set s.words (place_of c) (slice_index s.words (place_of c)) = sym (set-get_or s.words (place_of c) 0) in
      let views : s.views ≡ set s.views id me.0 = sym (set_again s.views id me.0 at) in (
        me.0,
        keeps,
        tt,
        subst (λ (x : List ℕ × List Adds). IsTally seats x.0 x.1) (λ k. (words k, views k)) h,
        record {
          unchanged = refl;
          own = omega (arith, ap (λ d. count_of d me.0.counts) (counter-place c), own-le-word seats s.words s.views id me.0 h at c);
          range = word-bounded seats s.words s.views h c;
        },
      )

  -- a seat that has added nothing gives a part to a new one
  pub split_allowed : (seats id : ℕ) (v : Adds) → 1 ≤ v.parts → v.counts ≡ no_counts → Splits (Holds {S = S} seats) id v (all_but_one_part v) one_part
  split_allowed seats id v some_part none s h at =
      let left = all_but_one_part v in
      let vs = set s.views id left in
      let same : all_together counts vs ≡ all_together counts s.views = same_counts _ _ (λ c. omega (arith, count-all-set counts c s.views id v left at)) in
      record {
        sums = h.sums ∙ ap in_order (sym (all-snoc-none counts vs one_part refl ∙ same));
        parts = omega (arith, parts-snoc vs one_part, parts-set s.views id v left at, h.parts, some_part);
        few = h.few;
        most = bounded-snoc vs one_part (omega arith) (bounded-set s.views id left (omega (arith, ap whole none)) h.most);
      }

  -- what one seat has goes to another
  pub join_allowed : (seats id : ℕ) (v : Adds) (other : ℕ) (w : Adds) → Joins (Holds {S = S} seats) id v other w (adds_together v w) no_part
  join_allowed seats id v other w s h at apart at' =
      let both = adds_together v w in
      let vs = set s.views id both in
      let was : get_elem? s.views other ≡ some w = ⊎_elim (λ x. absurd (apart x.0)) (λ x. x.1) (at_set s.views id other both w at') in
      let same : all_together counts (set vs other no_part) ≡ all_together counts s.views = same_counts _ _ (λ c. omega (arith, count-all-set counts c vs other w no_part at', count-all-set counts c s.views id v both at, count-together c v.counts w.counts, count-none c)) in
      record {
        sums = h.sums ∙ ap in_order (sym same);
        parts = omega (arith, parts-set vs other w no_part at', parts-set s.views id v both at, h.parts);
        few = h.few;
        most = bounded-set vs other no_part (omega arith) (bounded-set s.views id both (omega (arith, h.most id v at, h.most other w was, whole-together v.counts w.counts)) h.most);
      }

-- a seat with all parts has added what the words are
all-parts : (seats : ℕ) (words : List ℕ) (views : List Adds) (id : ℕ) (v : Adds) → IsTally seats words views → get_elem? views id ≡ some v → seats ≤ v.parts → all_together counts views ≡ v.counts
all-parts seats words views id v h at all =
    let rest = set views id no_part in
    let none : parts_of rest ≡ 0 = omega (arith, parts-set views id v no_part at, h.parts, all) in
    let nothing : whole (all_together counts rest) ≡ 0 = omega (arith, none, whole-bounded rest (bounded-set views id no_part (omega arith) h.most)) in
    same_counts _ _ (λ c. omega (arith, nothing, count-le-whole c (all_together counts rest), count-all-set counts c views id v no_part at, count-none c))

pub last_words : {S : Type 0} (seats : ℕ) (words : List ℕ) (slots : List S) (id : ℕ) (v : Adds) → Final (Seen (Holds {S = S} seats) id v) words slots → seats ≤ v.parts → words ≡ in_order v.counts
last_words seats words slots id v last all =
    let s = last.0 in
    let holds = last.1.0 in
    sym last.2 ∙ holds.sums ∙ ap in_order (all-parts seats s.words s.views id v holds last.1.1 all)

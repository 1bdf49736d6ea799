-- What a vector lacks that knows all but the newest changes.
use Rattle.std.proofs.Common.{◌≡◌, ℕ, zero, suc, ◌≤◌, not, nat_le, Bool, true, false, cond, ◌||◌, List, [], ◌∷◌, drop, map, None, Some, refl, sym, ap, ◌∙◌, arith, true≢false, get_or}
use Rattle.std.specs.List.{list_any}
use Rattle.std.proofs.lemmas.Bool.Decides.{nat_tests}
use Rattle.geo_stamp.specs.Vectors.{entry_of, vector_joined}
use Rattle.geo_stamp.proofs.Joins.{index_joined}
use Rattle.geo_records.specs.Keys.{same_key}
use Rattle.geo_records.specs.Operations.{Record, Register}
use Rattle.geo_versions.specs.Records.{Rec, is_unknown, since, listed_at}
use Rattle.geo_delta.specs.Changes.{Noted, Ring, KnowsBut, TracedFrom, Traced, knows_record, known_after, has_change, nothing_pending}
use Rattle.geo_delta.proofs.Tracing.{traced_left, either_false, neither}
use Rattle.geo_delta.proofs.Spans.{key_of, has_key}

-- a vector that covers another knows what that knows
entry_covered : (v w : List ℕ) (site : ℕ) → vector_joined v w ≡ v → entry_of w site ≤ entry_of v site
entry_covered v w zero covers = omega arith
entry_covered v w (suc j) covers =
    let joined = index_joined v w j in
    let same = ap (λ u. get_or u j 0) covers in
    omega (arith, joined, same)

later_known : (time low high : ℕ) → low ≤ high → not (nat_le time low) ≡ false → not (nat_le time high) ≡ false
later_known time low high le h = grind (arith, nat_tests)

register_covered : {A : Type 0} (v w : List ℕ) → vector_joined v w ≡ v → (r : Register A) → is_unknown w r ≡ false → is_unknown v r ≡ false
register_covered v w covers None h = refl
register_covered v w covers (Some r) h = later_known r.0.time (entry_of w r.0.site) (entry_of v r.0.site) (entry_covered v w r.0.site covers) h

known_is_not : (b : Bool) → not b ≡ true → b ≡ false
known_is_not true h = absurd (true≢false (sym h))
known_is_not false h = refl

pub covered_is_known : (v w : List ℕ) (r : Record) → vector_joined v w ≡ v → knows_record w r ≡ true → (is_unknown v r.0 || is_unknown v r.1) ≡ false
covered_is_known v w r covers h =
    let e = either_false (is_unknown w r.0) (is_unknown w r.1) (known_is_not (is_unknown w r.0 || is_unknown w r.1) h) in
    neither (is_unknown v r.0) (is_unknown v r.1) (register_covered v w covers r.0 e.0) (register_covered v w covers r.1 e.1)

-- what was known before some changes knows each record of which none of them is
traced_here : (at : List ℕ → Record) (reach : List ℕ) (changes : List Noted) → TracedFrom nothing_pending at reach changes → KnowsBut (has_change changes) reach at
traced_here at reach [] t = λ key none. t key none
traced_here at reach (c ∷ changes) t = λ key none. t.0 key none

-- so the news of the keys of the changes from the first that the base may lack are all its news
pub all_news : (ring : Ring) (at : List ℕ → Record) (base : List ℕ) (first : ℕ) (keys : List (List ℕ)) (listed : List (List ℕ × Rec)) → Traced nothing_pending at ring
    → vector_joined base (known_after first ring.reach ring.changes) ≡ base
    → ((q : List ℕ) → list_any (same_key q) keys ≡ list_any (same_key q) (map key_of (drop first ring.changes)))
    → ((q : List ℕ) → listed_at listed q ≡ cond {A = Record} (list_any (same_key q) keys) (since base (at q)) (None, None))
    → (q : List ℕ) → listed_at listed q ≡ since base (at q)
all_news ring at base first keys listed traced covers same is q = by (has_change (drop first ring.changes) q) refl
  where
    before : List ℕ
    before = known_after first ring.reach ring.changes

    left : TracedFrom nothing_pending at before (drop first ring.changes)
    left = traced_left nothing_pending at first ring.reach ring.changes traced

    by : (t : Bool) → has_change (drop first ring.changes) q ≡ t → listed_at listed q ≡ since base (at q)
    by true e = is q ∙ ap (λ t. cond {A = Record} t (since base (at q)) (None, None)) (same q ∙ has_key (drop first ring.changes) q ∙ e)
    by false e =
        is q ∙ ap (λ t. cond {A = Record} t (since base (at q)) (None, None)) (same q ∙ has_key (drop first ring.changes) q ∙ e)
        ∙ sym (ap (λ t. cond {A = Record} t (at q) (None, None)) (covered_is_known base before (at q) covers (traced_here at before (drop first ring.changes) left q e)))

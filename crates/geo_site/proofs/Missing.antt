-- The least of the keys that pass a test, found one after another.
use Rattle.std.proofs.Common.{◌≡◌, ℕ, zero, suc, Bool, true, false, cond, ◌&&◌, ◌||◌, ◌⊎◌, inl, inr, List, [], ◌∷◌, length, drop, slice_get, Option, None, Some, refl, sym, ap, ◌∙◌, subst, arith, true≢false, ◌+◌, ◌<◌, ◌≤◌}
use Rattle.std.specs.Cmp.{IsStrictWeakOrder}
use Rattle.std.specs.List.{list_any}
use Rattle.std.proofs.lemmas.Cmp.{nat_list_cmp_total}
use Rattle.std.proofs.lemmas.List.MinMax.{ranks_by}
use Rattle.geo_records.specs.Keys.{same_key}
use Rattle.geo_records.specs.Operations.{Record, version_in}
use Rattle.geo_versions.specs.Maps.{has_register}
use Rattle.geo_values.specs.Stock.{Stock}
use Rattle.geo_values.proofs.Linked.{same_keys}
use Rattle.geo_site.specs.Machine.{SiteState}
use Rattle.geo_site.specs.Fills.{IsFirstMissing, is_after, is_below, is_missing, is_sought, lacks_by, precedes, earlier}

below_order : IsStrictWeakOrder is_below
below_order = ranks_by nat_list_cmp_total (λ x. x)

-- the least of keys, and of the one that was found before
abbrev pub least_from : (List ℕ → Bool) → Option (List ℕ) → List (List ℕ) → Option (List ℕ)
least_from test first [] = first
least_from test first (k ∷ ks) = least_from test (earlier test first (Some k)) ks

some_none : {A : Type 0} {x : A} → Some x ≡ None → ⊥
some_none h = cc

some_same : {A : Type 0} {x y : A} → Some x ≡ Some y → x ≡ y
some_same h = cc

both : (a b : Bool) → (a && b) ≡ true → (a ≡ true) × (b ≡ true)
both true b e = (refl, e)
both false b e = cc

not_first : (a b : Bool) → b ≡ true → (a && b) ≡ false → a ≡ false
not_first true b passing h = absurd (true≢false (sym passing ∙ h))
not_first false b passing h = refl

-- a key among others is the first or among the rest
one_of : (q k : List ℕ) (ks : List (List ℕ)) → list_any (same_key q) (k ∷ ks) ≡ true → (q ≡ k) ⊎ (list_any (same_key q) ks ≡ true)
one_of q k ks h = by (same_key q k) refl h
  where
    by : (t : Bool) → same_key q k ≡ t → (t || list_any (same_key q) ks) ≡ true → (q ≡ k) ⊎ (list_any (same_key q) ks ≡ true)
    by true e h = inl (same_keys q k e)
    by false e h = inr h

-- where none is found none passes
pub record NonePasses (test : List ℕ → Bool) (first : Option (List ℕ)) (ks : List (List ℕ)) : Type 0 where
  pub none : first ≡ None
  pub fails : (q : List ℕ) → list_any (same_key q) ks ≡ true → test q ≡ false

pub least_none : (test : List ℕ → Bool) (first : Option (List ℕ)) (ks : List (List ℕ)) → least_from test first ks ≡ None → NonePasses test first ks
least_none test first [] h = record { none = h; fails = λ q among. absurd (true≢false (sym among)) }
least_none test first (k ∷ ks) h = by (precedes first k && test k) refl (least_none test (earlier test first (Some k)) ks h)
  where
    by : (t : Bool) → (precedes first k && test k) ≡ t → NonePasses test (cond t (Some k) first) ks → NonePasses test first (k ∷ ks)
    by true e rest = absurd (some_none rest.none)
    by false e rest = record {
      none = rest.none;
      fails = λ q among. elim (one_of q k ks among) [
        | inl same ↦ ap test same ∙ subst (λ (o : Option (List ℕ)). (precedes o k && test k) ≡ false) rest.none e
        | inr later ↦ rest.fails q later
      ];
    }

-- what is found is the least
pub record IsLeast (test : List ℕ → Bool) (first : Option (List ℕ)) (ks : List (List ℕ)) (found : List ℕ) : Type 0 where
  pub passes : (first ≡ Some found) ⊎ (test found ≡ true)
  pub before : (f : List ℕ) → first ≡ Some f → is_below f found ≡ false
  pub least : (q : List ℕ) → list_any (same_key q) ks ≡ true → test q ≡ true → is_below q found ≡ false

pub least_some : (test : List ℕ → Bool) (first : Option (List ℕ)) (ks : List (List ℕ)) (found : List ℕ) → least_from test first ks ≡ Some found → IsLeast test first ks found
least_some test first [] found h = record {
  passes = inl h;
  before = λ f e. let same : f ≡ found = some_same (sym e ∙ h) in subst (λ x. is_below x found ≡ false) (sym same) (below_itself found);
  least = λ q among passing. absurd (true≢false (sym among));
}
  where
    below_itself : (x : List ℕ) → is_below x x ≡ false
    below_itself x = itself (is_below x x) refl
      where
        itself : (t : Bool) → is_below x x ≡ t → t ≡ false
        itself true e = sym e ∙ below_order.one_way x x e
        itself false e = refl
least_some test first (k ∷ ks) found h = by (precedes first k && test k) refl (least_some test (earlier test first (Some k)) ks found h)
  where
    by : (t : Bool) → (precedes first k && test k) ≡ t → IsLeast test (cond t (Some k) first) ks found → IsLeast test first (k ∷ ks) found
    by true e rest =
        let ok = both (precedes first k) (test k) e in
        let here : is_below k found ≡ false = rest.before k refl in
        record {
          passes = elim rest.passes [ inl is ↦ inr (subst (λ x. test x ≡ true) (some_same is) ok.1) | inr p ↦ inr p ];
          before = λ f is. below_order.chain f k found (below_order.one_way k f (subst (λ (o : Option (List ℕ)). precedes o k ≡ true) is ok.0)) here;
          least = λ q among passing. elim (one_of q k ks among) [
            | inl same ↦ subst (λ x. is_below x found ≡ false) (sym same) here
            | inr later ↦ rest.least q later passing
          ];
        }
    by false e rest = record {
      passes = rest.passes;
      before = rest.before;
      least = λ q among passing. elim (one_of q k ks among) [
        | inl same ↦ subst (λ x. is_below x found ≡ false) (sym same) (behind first refl (ap test (sym same) ∙ passing))
        | inr later ↦ rest.least q later passing
      ];
    }
      where
        behind : (o : Option (List ℕ)) → first ≡ o → test k ≡ true → is_below k found ≡ false
        behind None is passing = let fails : (precedes None k && test k) ≡ false = subst (λ (o : Option (List ℕ)). (precedes o k && test k) ≡ false) is e in absurd (true≢false (sym passing ∙ fails))
        behind (Some f) is passing =
            let fails : (is_below k f && test k) ≡ false = subst (λ (o : Option (List ℕ)). (precedes o k && test k) ≡ false) is e in
            below_order.chain k f found (not_first (is_below k f) (test k) passing fails) (rest.before f is)

-- of a key without a record nothing is missing
pub missing_recorded : (r : Record) (now : ℕ) (o : Option (List ℕ)) (stock : Stock) → lacks_by now (version_in r) o stock ≡ true → has_register r ≡ true
missing_recorded (None, e) now o stock h = absurd (true≢false (sym h))
missing_recorded (Some b, e) now o stock h = refl

-- the whole, over keys that are all that have a record
pub first_missing : (st : SiteState) (now : ℕ) (after : Option (List ℕ)) (keys : List (List ℕ)) → ((q : List ℕ) → list_any (same_key q) keys ≡ has_register (st.map q)) → (found : Option (List ℕ))
    → least_from (is_sought st now after) None keys ≡ found → IsFirstMissing st now after found
first_missing st now after keys kept None h = λ q behind. by q behind (is_missing st now q) refl
  where
    by : (q : List ℕ) → is_after after q ≡ true → (t : Bool) → is_missing st now q ≡ t → t ≡ false
    by q behind false e = refl
    by q behind true e =
        let none = least_none (is_sought st now after) None keys h in
        let among : list_any (same_key q) keys ≡ true = kept q ∙ missing_recorded (st.map q) now (st.stock.held q) st.stock e in
        let sought : is_sought st now after q ≡ true = ap (λ b. b && is_missing st now q) behind ∙ e in
        absurd (true≢false (sym sought ∙ none.fails q among))
first_missing st now after keys kept (Some found) h =
    let is = least_some (is_sought st now after) None keys found h in
    let ok = both (is_after after found) (is_missing st now found) (elim is.passes [ inl e ↦ absurd (some_none (sym e)) | inr p ↦ p ]) in (
      ok.0,
      ok.1,
      λ q behind missing.
          let among : list_any (same_key q) keys ≡ true = kept q ∙ missing_recorded (st.map q) now (st.stock.held q) st.stock missing in
          is.least q among (ap (λ b. b && is_missing st now q) behind ∙ missing),
    )

-- one key more
pub least_next : (test : List ℕ → Bool) (first : Option (List ℕ)) (keys : List (List ℕ)) (place : ℕ) → place < length keys
    → least_from test first (drop place keys) ≡ least_from test (earlier test first (slice_get keys place)) (drop (place + 1) keys)
least_next test first [] place lt = absurd (omega arith)
least_next test first (k ∷ keys) zero lt = refl
least_next test first (k ∷ keys) (suc place) lt =
    let one_more : suc (place + 1) ≡ suc place + 1 = omega arith in
    least_next test first keys place (omega arith) ∙ ap (λ n. least_from test (earlier test first (slice_get keys place)) (drop n (k ∷ keys))) one_more

pub least_end : (test : List ℕ → Bool) (first : Option (List ℕ)) (keys : List (List ℕ)) (place : ℕ) → length keys ≤ place → least_from test first (drop place keys) ≡ first
least_end test first [] zero le = refl
least_end test first [] (suc place) le = refl
least_end test first (k ∷ keys) zero le = absurd (omega arith)
least_end test first (k ∷ keys) (suc place) le = least_end test first keys place (omega arith)

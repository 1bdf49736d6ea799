-- Those that were told to be ready are listed, one after the other.
use Rattle.std.proofs.Common.{◌≡◌, ℕ, ◌+◌, ◌<◌, ◌≤◌, List, [], ◌∷◌, ◌++◌, Option, is_some, IsSome, zero, suc, ◌⊎◌, inl, inr, refl, sym, ap, subst, ◌∙◌, length, get_or, take, drop, arith, append_assoc, append-nil, Contains}
use Rattle.std.proofs.lemmas.List.{take_more, take_all, length-take}
use Rattle.std.proofs.Math.Seq.{drop-append_seam, take-append_seam}
use Rattle.std.proofs.lemmas.List.Elements.{Contains-append_cases}
use Rattle.geo_crowd.specs.Carrying.{Carriage}
use Rattle.geo_crowd.specs.Crowds.{AllHeard, Stand}
use Rattle.geo_crowd.specs.Listing.{StandsIn}
use Rattle.geo_crowd.specs.declared.polling.Ready.{Ready}
use Rattle.geo_crowd.proofs.Listed.{stands_left, stands_turned}

-- of these the first were heard
pub record Heard (items : List Ready) (index : ℕ) (first now : List ℕ) (old mid : ℕ → Option Carriage) : Type 0 where
  pub more : List ℕ
  pub due : now ≡ first ++ more
  pub stand : Stand old mid
  pub heard : AllHeard (take index items) old now

pub heard_none : (items : List Ready) (first : List ℕ) (old : ℕ → Option Carriage) → Heard items 0 first first old old
heard_none items first old = record { more = []; due = sym (append-nil first); stand = λ k. refl; heard = λ ready (k, lt, is) there. absurd (omega (arith, lt, length-take 0 items)) }

grown : {P : Type 0} (now next : List ℕ) (number : ℕ) → (next ≡ now) ⊎ (P × (next ≡ now ++ (number ∷ []))) → (tail : List ℕ) × (next ≡ now ++ tail)
grown now next number (inl same) = ([], same ∙ sym (append-nil now))
grown now next number (inr h) = (number ∷ [], h.1)

one_of : (x y : Ready) → Contains (x ∷ []) y → y ≡ x
one_of x y (zero, lt, is) = sym is
one_of x y (suc k, lt, is) = absurd (omega (arith, lt))

pub heard_step : {P : Type 0} (items : List Ready) (index : ℕ) (first now next : List ℕ) (old mid new : ℕ → Option Carriage) (item : Ready) → Heard items index first now old mid → index < length items → item ≡ get_or items index item
    → Stand mid new → (IsSome (mid item.number) → StandsIn next item.number) → (next ≡ now) ⊎ (P × (next ≡ now ++ (item.number ∷ []))) → Heard items (index + 1) first next old new
heard_step items index first now next old mid new item h lt is stand listed due =
    let g = grown now next item.number due in
    let tail : List ℕ = g.0 in
    let grew : next ≡ now ++ tail = g.1 in
    let turned : take (index + 1) items ≡ take index items ++ item ∷ [] = take_more items index item lt ∙ ap (λ (x : Ready). take index items ++ x ∷ []) (sym is) in
    let hear : AllHeard (take index items ++ item ∷ []) old next = λ ready among there.
    elim (Contains-append_cases (take index items) (item ∷ []) ready among) [
      | inl before ↦ subst (λ l. StandsIn l ready.number) (sym grew) (stands_left now tail ready.number (h.heard ready before there))
      | inr last ↦ let same : ready ≡ item = one_of item ready last in
          subst (λ (x : Ready). StandsIn next x.number) (sym same) (listed (subst (λ (x : Ready). IsSome (mid x.number)) same (ap is_some (h.stand ready.number) ∙ there)))
    ] in
    record {
      more = h.more ++ tail;
      due = grew ∙ ap (λ l. l ++ tail) h.due ∙ append_assoc first h.more tail;
      stand = λ k. stand k ∙ h.stand k;
      heard = subst (λ (l : List Ready). AllHeard l old next) (sym turned) hear;
    }

pub same_item : (items : List Ready) (i : ℕ) (x y : Ready) → i < length items → get_or items i x ≡ get_or items i y
same_item [] i x y lt = absurd (omega (arith, lt))
same_item (item ∷ items) zero x y lt = refl
same_item (item ∷ items) (suc i) x y lt = same_item items i x y (omega (arith, lt))

pub heard_all : (items : List Ready) (index : ℕ) (first now : List ℕ) (old mid : ℕ → Option Carriage) (h : Heard items index first now old mid) → length items ≤ index → AllHeard items old now
heard_all items index first now old mid h all = subst (λ (l : List Ready). AllHeard l old now) (take_all index items all) h.heard

-- those that were due come last
pub heard_turned : (items : List Ready) (old : ℕ → Option Carriage) (first more : List ℕ) → AllHeard items old (first ++ more) → AllHeard items old (more ++ first)
heard_turned items old first more h = λ ready among there. stands_turned first more ready.number (h ready among there)

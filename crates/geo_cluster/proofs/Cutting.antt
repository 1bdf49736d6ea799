-- The lines of a text that comes in pieces.
use Rattle.std.proofs.Common.{◌≡◌, ℕ, ◌+◌, ◌<◌, ◌≤◌, ◌==◌, Bool, true, false, cond, not, suc, inl, inr, List, [], ◌∷◌, ◌++◌, length, take, drop, Option, Some, None, refl, sym, ap, subst, ◌∙◌, arith, append_assoc, append-nil, MatchOption, position}
use Rattle.std.specs.Option.{option_map}
use Rattle.std.specs.List.{position_or_len}
use Rattle.std.proofs.lemmas.Bool.{cases_lt, cond-true, cond-false, lt-ltb, le-ltb, false_from_ne_true}
use Rattle.std.proofs.lemmas.List.Sums.{position_or_len_is}
use Rattle.memchr.specs.Find.{IsFirstByte}
use Rattle.std.proofs.lemmas.Bool.Decides.{eqb_tells}
use Rattle.geo_cluster.specs.Splits.{is_byte, split_at}
use Rattle.geo_cluster.specs.Lines.{ended_in, left_in, last_line, lines_of}

-- lines don't depend on how a text is cut
pub ended-append : (begun xs ys : List ℕ) → ended_in begun (xs ++ ys) ≡ ended_in begun xs ++ ended_in (left_in begun xs) ys
ended-append begun [] ys = refl
ended-append begun (b ∷ bs) ys =
    elim (b == 10) as (λ t. cond t (begun ∷ ended_in [] (bs ++ ys)) (ended_in (begun ++ b ∷ []) (bs ++ ys)) ≡ cond t (begun ∷ ended_in [] bs) (ended_in (begun ++ b ∷ []) bs) ++ ended_in (cond t (left_in [] bs) (left_in (begun ++ b ∷ []) bs)) ys) [
      | true ↦ ap (λ t. begun ∷ t) (ended-append [] bs ys)
      | false ↦ ended-append (begun ++ b ∷ []) bs ys
    ]

pub left-append : (begun xs ys : List ℕ) → left_in begun (xs ++ ys) ≡ left_in (left_in begun xs) ys
left-append begun [] ys = refl
left-append begun (b ∷ bs) ys =
    elim (b == 10) as (λ t. cond t (left_in [] (bs ++ ys)) (left_in (begun ++ b ∷ []) (bs ++ ys)) ≡ left_in (cond t (left_in [] bs) (left_in (begun ++ b ∷ []) bs)) ys) [
      | true ↦ left-append [] bs ys
      | false ↦ left-append (begun ++ b ∷ []) bs ys
    ]

-- what `position` says of the first element that passes a test
pub position_says : {A : Type 0} (p : A → Bool) (xs : List A) (o : Option ℕ) → o ≡ position p xs
    → MatchOption o (length xs ≤ position_or_len p xs) (λ n. (n ≡ position_or_len p xs) × (n < length xs))
position_says p xs o e =
    let n = position_or_len p xs in
    let P : Option ℕ → Type 0 = λ v. MatchOption v (length xs ≤ n) (λ i. (i ≡ n) × (i < length xs)) in
    elim (cases_lt n (length xs)) [
      | inl lt ↦ subst P (sym (e ∙ cond-true _ _ _ (lt-ltb n (length xs) lt))) (refl, lt)
      | inr le ↦ subst P (sym (e ∙ cond-false _ _ _ (le-ltb n (length xs) le))) le
    ]

-- what a search for the first byte that passes a test says
pub first_says : (test : ℕ → Bool) (text : List ℕ) (o : Option ℕ) → IsFirstByte test text o
    → MatchOption o (length text ≤ position_or_len test text) (λ n. (n ≡ position_or_len test text) × (n < length text))
first_says test text None h =
    let all : position_or_len test text ≡ length text = position_or_len_is test text (length text) 0 (omega arith) (λ k lt. false_from_ne_true _ (h k (omega arith) lt)) (λ lt. absurd (omega arith)) in
    omega arith
first_says test text (Some n) h =
    let lt : n < length text = h.0.high in
    (sym (position_or_len_is test text n 0 (omega arith) (λ k below. false_from_ne_true _ (h.0.before k (omega arith) below)) (λ _. h.1)), lt)

-- where no such byte stands, the text isn't cut
pub cut_none : (byte : ℕ) (text : List ℕ) → length text ≤ position_or_len (is_byte byte) text → split_at byte text ≡ None
cut_none byte [] h = refl
cut_none byte (b ∷ bs) h = elim (eqb_tells b byte) [
  | inl e ↦ let zeroth : position_or_len (is_byte byte) (b ∷ bs) ≡ 0 = ap (λ t. cond (not t) (1 + position_or_len (is_byte byte) bs) 0) e.0 in absurd (omega arith)
  | inr e ↦
      let later : position_or_len (is_byte byte) (b ∷ bs) ≡ 1 + position_or_len (is_byte byte) bs = ap (λ t. cond (not t) (1 + position_or_len (is_byte byte) bs) 0) e.0 in
      cond-false _ _ _ e.0 ∙ ap (λ o. option_map (λ p. (b ∷ p.0, p.1)) o) (cut_none byte bs (omega arith))
]

-- where the first one stands, it is cut
pub cut_some : (byte : ℕ) (text : List ℕ) (n : ℕ) → n ≡ position_or_len (is_byte byte) text → n < length text → split_at byte text ≡ Some (take n text, drop (n + 1) text)
cut_some byte [] n e h = absurd (omega arith)
cut_some byte (b ∷ bs) n e h = elim (eqb_tells b byte) [
  | inl y ↦
      let zeroth : n ≡ 0 = e ∙ ap (λ t. cond (not t) (1 + position_or_len (is_byte byte) bs) 0) y.0 in
      cond-true _ _ _ y.0 ∙ ap (λ k. Some (take k (b ∷ bs), drop (k + 1) (b ∷ bs))) (sym zeroth)
  | inr y ↦
      let m : ℕ = position_or_len (is_byte byte) bs in
      let later : n ≡ 1 + m = e ∙ ap (λ t. cond (not t) (1 + m) 0) y.0 in
      let next : n ≡ suc m = omega arith in
      let behind : n + 1 ≡ suc (m + 1) = omega arith in
      let front : b ∷ take m bs ≡ take n (b ∷ bs) = ap (λ k. take k (b ∷ bs)) (sym next) in
      let back : drop (m + 1) bs ≡ drop (n + 1) (b ∷ bs) = ap (λ k. drop k (b ∷ bs)) (sym behind) in
      cond-false _ _ _ y.0
      ∙ ap (λ o. option_map (λ p. (b ∷ p.0, p.1)) o) (cut_some byte bs m refl (omega arith))
      ∙ ap (λ (x : List ℕ). Some (x, drop (m + 1) bs)) front
      ∙ ap (λ (x : List ℕ). Some (take n (b ∷ bs), x)) back
]

-- what a cut at a line end says of the lines
pub record IsCut (begun text front back : List ℕ) : Type 0 where
  pub ended : ended_in begun text ≡ (begun ++ front) ∷ ended_in [] back
  pub left : left_in begun text ≡ left_in [] back
  pub shorter : length back < length text
  pub within : length front ≤ length text

pub record IsUncut (begun text : List ℕ) : Type 0 where
  pub ended : ended_in begun text ≡ []
  pub left : left_in begun text ≡ begun ++ text

abbrev CutSays : List ℕ → List ℕ → Option (List ℕ × List ℕ) → Type 0
CutSays begun text o = MatchOption o (IsUncut begun text) (λ p. IsCut begun text p.0 p.1)

cut_further : (begun : List ℕ) (b : ℕ) (bs : List ℕ) (o : Option (List ℕ × List ℕ)) → (b == 10) ≡ false → CutSays (begun ++ b ∷ []) bs o → CutSays begun (b ∷ bs) (option_map (λ p. (b ∷ p.0, p.1)) o)
cut_further begun b bs None other h = record {
  ended = cond-false _ _ _ other ∙ h.ended;
  left = cond-false _ _ _ other ∙ h.left ∙ append_assoc begun (b ∷ []) bs;
}
cut_further begun b bs (Some p) other h = record {
  ended = cond-false _ _ _ other ∙ h.ended ∙ ap (λ (x : List ℕ). x ∷ ended_in [] p.1) (append_assoc begun (b ∷ []) p.0);
  left = cond-false _ _ _ other ∙ h.left;
  shorter = let lt : length p.1 < length bs = h.shorter in omega arith;
  within = let le : length p.0 ≤ length bs = h.within in omega arith;
}

-- what a cut at the first line end says of the lines of a text
pub cut_says : (text begun : List ℕ) → CutSays begun text (split_at 10 text)
cut_says [] begun = record { ended = refl; left = sym (append-nil begun) }
cut_says (b ∷ bs) begun = elim (eqb_tells b 10) [
  | inl e ↦ subst (λ o. CutSays begun (b ∷ bs) o) (sym (cond-true _ _ _ e.0)) (record {
    ended = cond-true _ _ _ e.0 ∙ ap (λ (x : List ℕ). x ∷ ended_in [] bs) (sym (append-nil begun));
    left = cond-true _ _ _ e.0;
    shorter = omega arith;
    within = omega arith;
  })
  | inr e ↦ subst (λ o. CutSays begun (b ∷ bs) o) (sym (cond-false _ _ _ e.0)) (cut_further begun b bs (split_at 10 bs) e.0 (cut_says bs (begun ++ b ∷ [])))
]

pub cut_some_says : (text begun front back : List ℕ) → split_at 10 text ≡ Some (front, back) → IsCut begun text front back
cut_some_says text begun front back e = subst (λ o. CutSays begun text o) e (cut_says text begun)

pub cut_none_says : (text begun : List ℕ) → split_at 10 text ≡ None → IsUncut begun text
cut_none_says text begun e = subst (λ o. CutSays begun text o) e (cut_says text begun)

-- the lines of a text, from those of its beginning
pub lines_more : (xs ys : List ℕ) → lines_of (xs ++ ys) ≡ ended_in [] xs ++ (ended_in (left_in [] xs) ys ++ last_line (left_in [] (xs ++ ys)))
lines_more xs ys = ap (λ (x : List (List ℕ)). x ++ last_line (left_in [] (xs ++ ys))) (ended-append [] xs ys) ∙ append_assoc (ended_in [] xs) (ended_in (left_in [] xs) ys) (last_line (left_in [] (xs ++ ys)))

-- a last line that isn't empty
pub last_full : (u : List ℕ) → 0 < length u → last_line u ≡ u ∷ []
last_full [] h = absurd (omega arith)
last_full (b ∷ bs) h = refl

pub last_empty : (u : List ℕ) → length u ≡ 0 → last_line u ≡ []
last_empty [] h = refl
last_empty (b ∷ bs) h = absurd (omega arith)

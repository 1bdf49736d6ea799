-- Vectors of zeros.
use Rattle.std.proofs.Common.{◌≡◌, ◌≢◌, inl, inr, eqb, Bool, true, false, true≢false, ℕ, zero, suc, List, [], ◌∷◌, length, MatchBool, refl, sym, ap, subst, ◌∙◌, arith}
use Rattle.std.proofs.lemmas.Bool.Decides.{eqb_tells}
use Rattle.std.proofs.lemmas.Bool.{ne_eqb}
use Rattle.geo_stamp.specs.Vectors.{zeros, greatest_of}

pub zeros_of : (v : List ℕ) (n : ℕ) → length v ≡ n → greatest_of v ≡ 0 → v ≡ zeros n
zeros_of [] zero l g = refl
zeros_of [] (suc n) l g = absurd (omega (arith, l))
zeros_of (x ∷ v) zero l g = absurd (omega (arith, l))
zeros_of (x ∷ v) (suc n) l g = let first : x ≡ 0 = omega (arith, g) in let rest : greatest_of v ≡ 0 = omega (arith, g) in
    ap (λ y. y ∷ v) first ∙ ap (λ w. 0 ∷ w) (zeros_of v n (omega (arith, l)) rest)

pub length_zeros : (n : ℕ) → length (zeros n) ≡ n
length_zeros zero = refl
length_zeros (suc n) = ap (λ m. suc m) (length_zeros n)

pub greatest_zeros : (n : ℕ) → greatest_of (zeros n) ≡ 0
greatest_zeros zero = refl
greatest_zeros (suc n) = let e = greatest_zeros n in omega (arith, e)

pub other_many : (v : List ℕ) (n r : ℕ) → r ≡ length v → (r ≡ n → ⊥) → v ≢ zeros n
other_many v n r e other = λ is. other (e ∙ ap length is ∙ length_zeros n)

pub tells_zeros : (v : List ℕ) (n g : ℕ) → length v ≡ n → g ≡ greatest_of v → MatchBool (eqb g 0) (v ≡ zeros n) (v ≢ zeros n)
tells_zeros v n g many e = elim (eqb_tells g 0) [
  | inl t ↦ subst (λ b. MatchBool b (v ≡ zeros n) (v ≢ zeros n)) (sym t.0) (zeros_of v n many (sym e ∙ t.1))
  | inr f ↦ subst (λ b. MatchBool b (v ≡ zeros n) (v ≢ zeros n)) (sym f.0) (λ is. f.1 (e ∙ ap greatest_of is ∙ greatest_zeros n))
]

pub other_zeros : (v : List ℕ) (n r : ℕ) → r ≡ length v → (r ≡ n → ⊥) → MatchBool (eqb r n) (v ≡ zeros n) (v ≢ zeros n)
other_zeros v n r e other = subst (λ b. MatchBool b (v ≡ zeros n) (v ≢ zeros n)) (sym (ne_eqb r n other)) (other_many v n r e other)

-- what a test is equal to is true or not
pub tells_true : (r b : Bool) → r ≡ b → MatchBool r (b ≡ true) (b ≡ true → ⊥)
tells_true true b e = sym e
tells_true false b e = λ t. true≢false (sym t ∙ sym e)

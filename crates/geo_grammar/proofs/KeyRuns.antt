-- A run of bytes that a key may have, seen sixteen at a time.
use Rattle.std.proofs.Common.{◌≡◌, ℕ, ◌+◌, ◌<◌, ◌≤◌, Bool, true, false, not, cond, leb, ltb, eqb, ◌&&◌, min, List, [], ◌∷◌, length, drop, refl, sym, ap, ◌∙◌, arith, inl, inr}
use Rattle.std.proofs.lemmas.Bool.{cases_lt, lt-ltb, le-ltb, lt-leb, le-leb, ne_eqb, eq-eqb}
use Rattle.std.proofs.lemmas.Simd.{chunk-drop, length-chunk}
use Rattle.std.proofs.lemmas.List.Folds.{prefix_len-append}
use Rattle.std.specs.List.{prefix_len}
use Rattle.geo_records.specs.Keys.{is_key_byte}
use lib.Lanes.{chunk}

not_low : (b : ℕ) → leb 33 b ≡ not (ltb b 33)
not_low b = elim (cases_lt b 33) [
  | inl lt ↦ lt-leb 33 b lt ∙ sym (ap not (lt-ltb b 33 lt))
  | inr le ↦ le-leb 33 b le ∙ sym (ap not (le-ltb b 33 le))
]

one_more : (a b : Bool) (m n k : ℕ) → min m n ≡ k → min (cond a (1 + m) 0) (cond b (1 + n) 0) ≡ cond (a && b) (1 + k) 0
one_more true true m n k e = omega (arith, e)
one_more true false m n k e = omega arith
one_more false true m n k e = omega arith
one_more false false m n k e = omega arith

-- both runs go on as far as each byte may stand in a key
pub both_runs : (bytes : List ℕ) → min (prefix_len (λ b. not (ltb b 33)) bytes) (prefix_len (λ b. not (eqb b 127)) bytes) ≡ prefix_len is_key_byte bytes
both_runs [] = refl
both_runs (b ∷ bytes) = one_more (not (ltb b 33)) (not (eqb b 127)) _ _ _ (both_runs bytes) ∙ ap (λ t. cond (t && not (eqb b 127)) (1 + prefix_len is_key_byte bytes) 0) (sym (not_low b))

split : (q : ℕ → Bool) (text : List ℕ) (i n : ℕ) → prefix_len q (drop i text) ≡ cond (eqb (prefix_len q (chunk i n text)) (length (chunk i n text))) (length (chunk i n text) + prefix_len q (drop (i + n) text)) (prefix_len q (chunk i n text))
split q text i n = ap (prefix_len q) (chunk-drop i n text) ∙ prefix_len-append q (chunk i n text) (drop (i + n) text)

-- a run that ends in the chunk
pub run_ends : (q : ℕ → Bool) (text : List ℕ) (i n r : ℕ) → i + n ≤ length text → r ≡ prefix_len q (chunk i n text) → r < n → prefix_len q (drop i text) ≡ r
run_ends q text i n r room e lt =
    split q text i n ∙ ap (λ b. cond b (length (chunk i n text) + prefix_len q (drop (i + n) text)) (prefix_len q (chunk i n text))) (ne_eqb _ _ (λ (f : prefix_len q (chunk i n text) ≡ length (chunk i n text)). omega (arith, length-chunk i n text room))) ∙ sym e

-- a run that fills it
pub run_fills : (q : ℕ → Bool) (text : List ℕ) (i n r : ℕ) → i + n ≤ length text → r ≡ prefix_len q (chunk i n text) → r ≡ n → prefix_len q (drop i text) ≡ r + prefix_len q (drop (i + r) text)
run_fills q text i n r room e full =
    split q text i n ∙ ap (λ b. cond b (length (chunk i n text) + prefix_len q (drop (i + n) text)) (prefix_len q (chunk i n text))) (eq-eqb _ _ (sym e ∙ full ∙ sym (length-chunk i n text room)))
    ∙ ap (λ k. k + prefix_len q (drop (i + n) text)) (length-chunk i n text room) ∙ ap (λ k. k + prefix_len q (drop (i + k) text)) (sym full)

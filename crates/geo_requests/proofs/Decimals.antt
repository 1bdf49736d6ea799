-- The digits of a number.
use Rattle.std.proofs.Common.{◌≡◌, ℕ, ◌+◌, ◌-◌, ◌*◌, ◌<◌, ◌≤◌, true, false, cond, leb, ◌&&◌, List, [], ◌∷◌, length, get_or, drop, Some, None, refl, sym, ap, ◌∙◌, arith}
use Rattle.std.specs.Char.{digit_value, is_ascii_digit}
use Rattle.std.specs.Str.{all_ascii_digits}
use Rattle.std.specs.Str.Parse.{digits_value_after}
use Rattle.std.proofs.lemmas.Bool.{cond-true, cond-false, le-ltb, lt-ltb, lt-leb, le-leb, and_right}
use Rattle.std.proofs.lemmas.List.{at_drop_more}
use Rattle.geo_requests.specs.Numbers.{is_filled, number_after, number_of}

pub is_filled_from : (w : List ℕ) → 0 < length w → is_filled w ≡ true
is_filled_from [] h = absurd (omega arith)
is_filled_from (b ∷ bs) h = refl

-- digits behind a number don't make it smaller
pub after_ge : (v : ℕ) (cs : List ℕ) → v ≤ digits_value_after 10 v cs
after_ge v [] = omega arith
after_ge v (c ∷ cs) = omega (arith, after_ge (v * 10 + digit_value c) cs)

pub digit_is : (c : ℕ) → 48 ≤ c → c ≤ 57 → digit_value c ≡ c - 48
digit_is c low high = cond-false _ _ _ (le-ltb c 48 low) ∙ cond-true _ _ _ (lt-ltb c 58 (omega arith))

pub number_bad : (most v c : ℕ) (cs : List ℕ) → is_ascii_digit c ≡ false → number_after most v (c ∷ cs) ≡ None
number_bad most v c cs h = ap (λ b. cond ((b && all_ascii_digits cs) && leb (digits_value_after 10 v (c ∷ cs)) most) (Some (digits_value_after 10 v (c ∷ cs))) None) h

pub number_big : (most v : ℕ) (cs : List ℕ) → most < v → number_after most v cs ≡ None
number_big most v cs h = cond-false _ _ _ (and_right (all_ascii_digits cs) _ (lt-leb _ most (omega (arith, after_ge v cs))))

pub number_more : (most v c d : ℕ) (cs : List ℕ) → is_ascii_digit c ≡ true → 48 ≤ c → c ≤ 57 → d ≡ v * 10 + (c - 48) → number_after most v (c ∷ cs) ≡ number_after most d cs
number_more most v c d cs h low high e =
    let n : v * 10 + digit_value c ≡ d = ap (λ k. v * 10 + k) (digit_is c low high) ∙ sym e in
    ap (λ b. cond ((b && all_ascii_digits cs) && leb (digits_value_after 10 (v * 10 + digit_value c) cs) most) (Some (digits_value_after 10 (v * 10 + digit_value c) cs)) None) h ∙ ap (λ k. number_after most k cs) n

-- the end of the word
pub number_end : (most v : ℕ) → v ≤ most → number_after most v [] ≡ Some v
number_end most v h = cond-true _ _ _ (le-leb v most h)

-- a digit that makes the number too large
pub number_over : (most v i : ℕ) (word : List ℕ) → i < length word → number_after most v (drop i word) ≡ number_after most 0 word → is_ascii_digit (get_or word i 0) ≡ true → 48 ≤ get_or word i 0 → get_or word i 0 ≤ 57 → most < v * 10 + (get_or word i 0 - 48) → None ≡ number_of most word
number_over most v i word lt same digit low high over = sym (cond-true (is_filled word) _ _ (is_filled_from word (omega arith)) ∙ sym same ∙ at_drop_more (number_after most v) word i 0 lt ∙ number_more most v (get_or word i 0) _ (drop (i + 1) word) digit low high refl ∙ number_big most _ (drop (i + 1) word) over)

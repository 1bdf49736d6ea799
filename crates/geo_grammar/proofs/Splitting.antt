-- The first word of a line.
use Rattle.std.proofs.Common.{◌≡◌, ℕ, zero, suc, Bool, ◌+◌, ◌<◌, ◌≤◌, true, false, cond, ◌&&◌, List, [], ◌∷◌, ◌++◌, length, get_or, take, drop, filter, refl, sym, ap, ◌∙◌, arith, inl, inr}
use Rattle.std.specs.List.{All}
use Rattle.std.proofs.lemmas.Bool.{cases_lt, cases_Bool, cond-true, ne_eqb}
use Rattle.std.proofs.lemmas.List.{take_all, take-append-drop, length-take, get_or-take, drop_all, drop_more, at_drop_more}
use Rattle.std.proofs.lemmas.List.Elements.{All-from_get_or}
use Rattle.std.proofs.lemmas.List.Folds.{list_all_at}
use Rattle.std.proofs.lemmas.List.Sums.{prefix_len_passes, prefix_len_stops, take_while-cons}
use Rattle.std.proofs.lemmas.List.Splits.{slice_split_none, slice_split_at}
use Rattle.std.specs.List.{list_all, prefix_len}
use Rattle.geo_records.specs.Keys.{is_key_byte}
use Rattle.geo_requests.specs.Numbers.{is_filled}
use Rattle.geo_requests.proofs.Decimals.{is_filled_from}
use Rattle.geo_grammar.specs.Words.{is_space, words_of}

abbrev IsLong : List ℕ → Type 0
IsLong w = All (λ x. is_space x ≡ false) w

split_word : (w rest : List ℕ) → IsLong w → is_filled w ≡ true → words_of (w ++ 32 ∷ rest) ≡ w ∷ words_of (32 ∷ rest)
split_word w rest h e = ap (filter is_filled) (slice_split_at is_space w 32 rest h refl) ∙ cond-true (is_filled w) _ _ e

lone_word : (w : List ℕ) → IsLong w → is_filled w ≡ true → words_of w ≡ w ∷ []
lone_word w h e = ap (filter is_filled) (slice_split_none is_space w h) ∙ cond-true (is_filled w) _ _ e

-- a space before a word is ignored
pub words_space : (line : List ℕ) (i : ℕ) → i < length line → get_or line i 0 ≡ 32 → words_of (drop (i + 1) line) ≡ words_of (drop i line)
words_space line i h e = sym (at_drop_more words_of line i 0 h ∙ ap (λ b. words_of (b ∷ drop (i + 1) line)) e)

long_take : (line : List ℕ) (n : ℕ) → n ≤ length line → ((k : ℕ) → k < n → get_or line k 0 ≡ 32 → ⊥) → IsLong (take n line)
long_take line n h none = All-from_get_or (λ x. is_space x ≡ false) (take n line) 0 (λ i lt.
    let low : i < n = omega (arith, length-take n line) in
    ne_eqb (get_or (take n line) i 0) 32 (λ e. none i low (sym (get_or-take n line i 0 low) ∙ e)))

-- the first word ends where a space or the line's end is
pub first_word : (line : List ℕ) (n : ℕ) → 0 < n → n ≤ length line → ((k : ℕ) → k < n → get_or line k 0 ≡ 32 → ⊥) → (n < length line → get_or line n 0 ≡ 32) → words_of line ≡ take n line ∷ words_of (drop n line)
first_word line n pos fits none ends =
    let long : IsLong (take n line) = long_take line n fits none in
    let filled : is_filled (take n line) ≡ true = is_filled_from (take n line) (omega (arith, length-take n line)) in
    elim (cases_lt n (length line)) [
      | inl lt ↦
          let e : drop n line ≡ 32 ∷ drop (n + 1) line = drop_more line n 0 lt ∙ ap (λ b. b ∷ drop (n + 1) line) (ends lt) in
          ap words_of (sym (take-append-drop n line) ∙ ap (λ (t : List ℕ). take n line ++ t) e) ∙ split_word (take n line) (drop (n + 1) line) long filled ∙ ap (λ (t : List ℕ). take n line ∷ words_of t) (sym e)
      | inr le ↦
          ap words_of (sym (take_all n line le)) ∙ lone_word (take n line) long filled ∙ ap (λ (t : List ℕ). take n line ∷ words_of t) (sym (drop_all n line le))
    ]

-- ---- a run of bytes that a key may have

-- there is no space in it
pub run_no_space : (line : List ℕ) (k : ℕ) → k < prefix_len is_key_byte line → get_or line k 0 ≡ 32 → ⊥
run_no_space line k lt e =
    let h : is_key_byte 32 ≡ true = sym (ap is_key_byte e) ∙ prefix_len_passes is_key_byte line k 0 lt in
    absurd cc

-- it is none only in front of a byte that ends it
pub run_some : (line : List ℕ) (n : ℕ) → 0 < length line → (get_or line 0 0 ≡ 32 → ⊥) → (n < length line → get_or line n 0 ≡ 32) → 0 < n
run_some line zero some begins ends = absurd (begins (ends some))
run_some line (suc n) some begins ends = omega arith

-- each of its bytes may stand in a key
pub run_plain : (p : ℕ → Bool) (line : List ℕ) → list_all p (take (prefix_len p line) line) ≡ true
run_plain p [] = refl
run_plain p (b ∷ bs) =
    let front : List ℕ = take (prefix_len p bs) bs in
    ap (list_all p) (take_while-cons p b bs) ∙ elim (cases_Bool (p b)) [
      | inl is ↦ ap (λ t. list_all p (cond {A = List ℕ} t (b ∷ front) [])) is ∙ ap (λ t. t && list_all p front) is ∙ run_plain p bs
      | inr isnt ↦ ap (λ t. list_all p (cond {A = List ℕ} t (b ∷ front) [])) isnt
    ]

-- a word that goes on behind it has a byte that no key has
pub run_odd : (line : List ℕ) (n : ℕ) → prefix_len is_key_byte line < n → n ≤ length line → list_all is_key_byte (take n line) ≡ false
run_odd line n lt le =
    let r = prefix_len is_key_byte line in
    list_all_at is_key_byte (take n line) r 0 (omega (arith, length-take n line)) (ap is_key_byte (get_or-take n line r 0 lt) ∙ prefix_len_stops is_key_byte line 0 (omega arith))

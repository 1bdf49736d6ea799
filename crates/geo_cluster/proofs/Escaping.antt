-- What is printed is read back, and a text is read byte by byte.
use Rattle.std.proofs.Common.{◌≡◌, ℕ, ◌+◌, ◌*◌, ◌/◌, ◌%◌, ◌<◌, ◌≤◌, ◌≢◌, ◌==◌, Bool, true, false, cond, ltb, subst, List, [], ◌∷◌, ◌++◌, Option, Some, None, take, drop, length, ◌&&◌, append_assoc, refl, sym, ap, ◌∙◌, arith, inl, inr}
use Rattle.std.proofs.Math.ListN.{get_or}
use Rattle.std.proofs.lemmas.List.{drop_more, drop-drop, take-append-drop, length-take, get_or-take}
use Rattle.std.proofs.Math.Seq.{take-add}
use Rattle.std.proofs.lemmas.List.Folds.{list_all-append}
use Rattle.std.specs.Option.{option_map}
use Rattle.std.specs.List.{All, list_all}
use Rattle.geo_records.specs.Keys.{is_key_byte}
use Rattle.std.specs.Char.{digit_value}
use Rattle.std.proofs.lemmas.List.Elements.{All-head, All-tail, All-from_get_or}
use Rattle.std.proofs.lemmas.List.Sums.{list_all-from_AllPass}
use Rattle.std.proofs.lemmas.Bool.{cases_eq, cond-true, cond-false, lt-ltb, ne_eqb, not-true, not_from_false, false_from_ne_true, and_parts}
use Rattle.std.proofs.lemmas.Bool.Decides.{nat_tests}
use Rattle.geo_cluster.specs.Escapes.{behind, is_plain, is_no_backslash, hex_digit, is_printable, escaped_byte, escaped, transition, unescaped_on, unescaped_from, unescaped}
use Rattle.geo_cluster.specs.declared.script.escape.Spot.{Spot}
use Rattle.geo_cluster.specs.declared.script.escape.Spot.TheVariants.{Between, Hex, HexDigit}
use Rattle.geo_cluster.specs.declared.script.escape.Transition.{Transition}
use Rattle.geo_cluster.specs.declared.script.escape.Transition.TheVariants.{Gives, Leads, Fails}

-- a block that is printed as it is
plain_self : (b : ℕ) → is_plain b ≡ true → escaped_byte b ≡ b ∷ []
plain_self b h = grind (arith, nat_tests)

pub escaped_plain : (xs ys : List ℕ) → list_all is_plain xs ≡ true → escaped (xs ++ ys) ≡ xs ++ escaped ys
escaped_plain [] ys h = refl
escaped_plain (b ∷ bs) ys h =
    ap (λ (x : List ℕ). x ++ escaped (bs ++ ys)) (plain_self b (and_parts _ _ h).0) ∙ ap (λ (x : List ℕ). b ∷ x) (escaped_plain bs ys (and_parts _ _ h).1)

pub escaped-append : (xs ys : List ℕ) → escaped (xs ++ ys) ≡ escaped xs ++ escaped ys
escaped-append [] ys = refl
escaped-append (b ∷ bs) ys = ap (λ (x : List ℕ). escaped_byte b ++ x) (escaped-append bs ys) ∙ sym (append_assoc (escaped_byte b) (escaped bs) (escaped ys))

pub plain_more : (n m : ℕ) (xs : List ℕ) → list_all is_plain (take n xs) ≡ true → list_all is_plain (take m (drop n xs)) ≡ true → list_all is_plain (take (n + m) xs) ≡ true
plain_more n m xs h k = ap (λ (x : List ℕ). list_all is_plain x) (take-add n m xs) ∙ list_all-append is_plain (take n xs) (take m (drop n xs)) ∙ ap (λ t. t && list_all is_plain (take m (drop n xs))) h ∙ k

pub plain_printed : (n : ℕ) (done bytes : List ℕ) → list_all is_plain (take n bytes) ≡ true → (done ++ take n bytes) ++ escaped (drop n bytes) ≡ done ++ escaped bytes
plain_printed n done bytes h =
    append_assoc done (take n bytes) (escaped (drop n bytes))
    ∙ ap (λ (x : List ℕ). done ++ x) (sym (escaped_plain (take n bytes) (drop n bytes) h) ∙ ap escaped (take-append-drop n bytes))

-- and the block behind it, byte by byte
pub block_printed : (n : ℕ) (done bytes all : List ℕ) → done ++ escaped bytes ≡ all → (done ++ escaped (take n bytes)) ++ escaped (drop n bytes) ≡ all
block_printed n done bytes all h =
    append_assoc done (escaped (take n bytes)) (escaped (drop n bytes))
    ∙ ap (λ (x : List ℕ). done ++ x) (sym (escaped-append (take n bytes) (drop n bytes)) ∙ ap escaped (take-append-drop n bytes)) ∙ h

-- bytes that begin no escape stand for themselves
behind-append : (done more : List ℕ) (o : Option (List ℕ)) → behind done (behind more o) ≡ behind (done ++ more) o
behind-append done more None = refl
behind-append done more (Some bytes) = ap (λ (x : List ℕ). Some x) (sym (append_assoc done more bytes))

behind-nil : (o : Option (List ℕ)) → behind [] o ≡ o
behind-nil None = refl
behind-nil (Some bytes) = refl

behind-cons : (b : ℕ) (bs : List ℕ) (o : Option (List ℕ)) → option_map (λ bytes. b ∷ bytes) (behind bs o) ≡ behind (b ∷ bs) o
behind-cons b bs None = refl
behind-cons b bs (Some bytes) = refl

unescaped_plain : (xs ys : List ℕ) → list_all is_no_backslash xs ≡ true → unescaped_from Between (xs ++ ys) ≡ behind xs (unescaped_from Between ys)
unescaped_plain [] ys h = sym (behind-nil (unescaped_from Between ys))
unescaped_plain (b ∷ bs) ys h =
    ap (λ t. unescaped_on t (λ s. unescaped_from s (bs ++ ys))) (cond-false _ _ _ (not-true (b == 92) (and_parts _ _ h).0))
    ∙ ap (λ o. option_map (λ bytes. b ∷ bytes) o) (unescaped_plain bs ys (and_parts _ _ h).1)
    ∙ behind-cons b bs (unescaped_from Between ys)

pub plain_spelled : (at n : ℕ) (done text : List ℕ) → list_all is_no_backslash (take n (drop at text)) ≡ true
    → behind (done ++ take n (drop at text)) (unescaped_from Between (drop (at + n) text)) ≡ behind done (unescaped_from Between (drop at text))
plain_spelled at n done text h =
    sym (behind-append done (take n (drop at text)) (unescaped_from Between (drop (at + n) text)))
    ∙ ap (λ (x : List ℕ). behind done (behind (take n (drop at text)) (unescaped_from Between x))) (sym (drop-drop n at text))
    ∙ ap (λ o. behind done o) (sym (unescaped_plain (take n (drop at text)) (drop n (drop at text)) h) ∙ ap (unescaped_from Between) (take-append-drop n (drop at text)))

-- before the first backslash stands none
pub no_backslash : (n : ℕ) (text : List ℕ) → n ≤ length text → ((k : ℕ) → k < n → (get_or text k 0 == 92) ≡ true → ⊥) → list_all is_no_backslash (take n text) ≡ true
no_backslash n text le h = list_all-from_AllPass is_no_backslash (take n text) (All-from_get_or (λ b. is_no_backslash b ≡ true) (take n text) 0 (λ k lt.
    let below : k < n = omega (arith, length-take n text) in
    ap is_no_backslash (get_or-take n text k 0 below) ∙ not_from_false _ (false_from_ne_true _ (h k below))))

-- one byte more may stand in a key
pub stands_more : (done : List ℕ) (b : ℕ) → list_all is_key_byte (done ++ b ∷ []) ≡ (list_all is_key_byte done && is_key_byte b)
stands_more [] b = elim (is_key_byte b) as (λ t. (t && true) ≡ (true && t)) [ true ↦ refl | false ↦ refl ]
stands_more (d ∷ ds) b = ap (λ t. is_key_byte d && t) (stands_more ds b) ∙ elim (is_key_byte d) as (λ t. (t && (list_all is_key_byte ds && is_key_byte b)) ≡ ((t && list_all is_key_byte ds) && is_key_byte b)) [ true ↦ refl | false ↦ refl ]

-- a byte is given, and the rest is spelled behind it
pub behind_more : (done : List ℕ) (b : ℕ) (o : Option (List ℕ)) → behind done (option_map (λ bytes. b ∷ bytes) o) ≡ behind (done ++ b ∷ []) o
behind_more done b None = refl
behind_more done b (Some bytes) = ap (λ (x : List ℕ). Some x) (sym (append_assoc done (b ∷ []) bytes))

-- the byte at a place leads on, and what stands behind it is spelled from there
pub spell_on : (text : List ℕ) (i d : ℕ) (spot : Spot) (done : List ℕ) (t : Transition) → i < length text → t ≡ transition spot (get_or text i d) → behind done (unescaped_from spot (drop i text)) ≡ unescaped text
    → behind done (unescaped_on t (λ s. unescaped_from s (drop (i + 1) text))) ≡ unescaped text
spell_on text i d spot done t lt is same =
    ap (λ x. behind done (unescaped_on x (λ s. unescaped_from s (drop (i + 1) text)))) is ∙ ap (λ x. behind done (unescaped_from spot x)) (sym (drop_more text i d lt)) ∙ same

-- a digit that was printed is read as its value
hex_read : (n : ℕ) → n < 16 → digit_value (hex_digit n) ≡ n
hex_read n h = grind (arith, nat_tests)

transition_hex : (n : ℕ) → n < 16 → transition Hex (hex_digit n) ≡ Leads (HexDigit n)
transition_hex n h = ap (λ v. cond (ltb v 16) (Leads (HexDigit v)) Fails) (hex_read n h) ∙ cond-true _ _ _ (lt-ltb n 16 h)

transition_hex_digit : (high n : ℕ) → n < 16 → transition (HexDigit high) (hex_digit n) ≡ Gives (16 * high + n)
transition_hex_digit high n h = ap (λ v. cond (ltb v 16) (Gives (16 * high + v)) Fails) (hex_read n h) ∙ cond-true _ _ _ (lt-ltb n 16 h)

-- a byte that is printed by its two digits is read back
hex_read_back : (b : ℕ) (rest : List ℕ) → b < 256 → unescaped (92 ∷ 120 ∷ hex_digit (b / 16) ∷ hex_digit (b % 16) ∷ rest) ≡ option_map (λ bytes. b ∷ bytes) (unescaped rest)
hex_read_back b rest h =
    let high : b / 16 < 16 = omega arith in
    let low : b % 16 < 16 = omega arith in
    let whole : 16 * (b / 16) + b % 16 ≡ b = omega arith in
    ap (λ t. unescaped_on t (λ s. unescaped_from s (hex_digit (b % 16) ∷ rest))) (transition_hex (b / 16) high)
    ∙ ap (λ t. unescaped_on t (λ s. unescaped_from s rest)) (transition_hex_digit (b / 16) (b % 16) low)
    ∙ ap (λ v. option_map (λ bytes. v ∷ bytes) (unescaped rest)) whole

printed_hex : (b : ℕ) → b ≢ 92 → b ≢ 13 → b ≢ 10 → is_printable b ≡ false → escaped_byte b ≡ 92 ∷ 120 ∷ hex_digit (b / 16) ∷ hex_digit (b % 16) ∷ []
printed_hex b x y z h = cond-false _ _ _ (ne_eqb b 92 x) ∙ cond-false _ _ _ (ne_eqb b 13 y) ∙ cond-false _ _ _ (ne_eqb b 10 z) ∙ cond-false _ _ _ h

printed_self : (b : ℕ) → b ≢ 92 → b ≢ 13 → b ≢ 10 → is_printable b ≡ true → escaped_byte b ≡ b ∷ []
printed_self b x y z h = cond-false _ _ _ (ne_eqb b 92 x) ∙ cond-false _ _ _ (ne_eqb b 13 y) ∙ cond-false _ _ _ (ne_eqb b 10 z) ∙ cond-true _ _ _ h

abbrev IsReadBack : ℕ → List ℕ → Type 0
IsReadBack b rest = unescaped (escaped_byte b ++ rest) ≡ option_map (λ bytes. b ∷ bytes) (unescaped rest)

self_read_back : (b : ℕ) (rest : List ℕ) → b ≢ 92 → unescaped (b ∷ rest) ≡ option_map (λ bytes. b ∷ bytes) (unescaped rest)
self_read_back b rest x = ap (λ t. unescaped_on t (λ s. unescaped_from s rest)) (cond-false _ _ _ (ne_eqb b 92 x))

other_read : (b : ℕ) (rest : List ℕ) → b < 256 → b ≢ 92 → b ≢ 13 → b ≢ 10 → (t : Bool) → is_printable b ≡ t → IsReadBack b rest
other_read b rest h x y z true e = ap (λ (s : List ℕ). unescaped (s ++ rest)) (printed_self b x y z e) ∙ self_read_back b rest x
other_read b rest h x y z false e = ap (λ (s : List ℕ). unescaped (s ++ rest)) (printed_hex b x y z e) ∙ hex_read_back b rest h

byte_read : (b : ℕ) (rest : List ℕ) → b < 256 → IsReadBack b rest
byte_read b rest h = elim (cases_eq b 92) [
  | inl e ↦ subst (λ v. IsReadBack v rest) (sym e) refl
  | inr x ↦ elim (cases_eq b 13) [
    | inl e ↦ subst (λ v. IsReadBack v rest) (sym e) refl
    | inr y ↦ elim (cases_eq b 10) [
      | inl e ↦ subst (λ v. IsReadBack v rest) (sym e) refl
      | inr z ↦ other_read b rest h x y z (is_printable b) refl
    ]
  ]
]

-- what is printed is read back as it was
pub read_back : (bytes : List ℕ) → All (λ b. b < 256) bytes → unescaped (escaped bytes) ≡ Some bytes
read_back [] h = refl
read_back (b ∷ bs) h =
    byte_read b (escaped bs) (All-head (λ b. b < 256) b bs h)
    ∙ ap (λ o. option_map (λ bytes. b ∷ bytes) o) (read_back bs (All-tail (λ b. b < 256) b bs h))

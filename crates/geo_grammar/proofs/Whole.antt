-- The items of a text are what the bytes give one by one.
use Rattle.std.proofs.Common.{◌≡◌, ℕ, zero, suc, ◌<◌, ◌≤◌, cond, eqb, List, [], ◌∷◌, ◌++◌, length, take, drop, refl, sym, ap, ◌∙◌, append_assoc, arith, inl, inr}
use Rattle.std.proofs.lemmas.Bool.{cases_lt, cases_eq, cases_Bool, both_ways, cond_both, cond-true, cond-false, le-ltb, lt-ltb, eqb-true, eqb-false}
use Rattle.std.proofs.lemmas.List.{append-nil, length-append, length-take, length-drop, take-append-drop, drop_all}
use Rattle.std.proofs.lemmas.Slice.Eq.{bytes_eq-Decides}
use Rattle.geo_grammar.specs.Limits.{longest_line}
use Rattle.geo_grammar.specs.Faults.{line_fault, block_fault}
use Rattle.geo_grammar.specs.declared.fault.Fault.TheVariants.{LineTooLong}
use Rattle.geo_grammar.specs.declared.fault.BlockFault.TheVariants.{BadData, TooLarge}
use Rattle.geo_grammar.specs.declared.head.Head.{Head}
use Rattle.geo_grammar.specs.declared.line.Line as line
use Rattle.geo_grammar.specs.declared.line.Line.TheVariants.{Whole, Storage, Huge, Bad}
use Rattle.geo_grammar.specs.declared.item.Item.{Item}
use Rattle.geo_grammar.specs.declared.item.Item.TheVariants as item
use Rattle.geo_grammar.specs.Commands.{stored, line_says}
use Rattle.geo_grammar.specs.Places.{Place, InLine, InData, Skips, Transition, items_from, said_transition, NoEnd}
use Rattle.geo_grammar.specs.Protocol.{Split, Open, Ends, split_line, onto, items_in, items_of, line_items, said_items, block_items, skip_items, is_return}
use Rattle.geo_grammar.proofs.Transitions.{Does, leads, in_line, line_end, long_line, step_skip, step_skip_open, step_skip_end, skips_line, skips_end, in_data, transition_full, transition_after, transition_rest, full_bad}

-- ---- what a split says

abbrev pub IsSplit : List ℕ → Split → Type 0
IsSplit text Open = NoEnd text
IsSplit text (Ends line rest) = NoEnd line × (text ≡ line ++ 10 ∷ rest)

onto_split : (b : ℕ) (bs : List ℕ) (c : Split) → (b ≡ 10 → ⊥) → IsSplit bs c → IsSplit (b ∷ bs) (onto b c)
onto_split b bs Open h i = (h, i)
onto_split b bs (Ends line rest) h i = ((h, i.0), ap (λ (t : List ℕ). b ∷ t) i.1)

pub split_line_is : (text : List ℕ) → IsSplit text (split_line text)
split_line_is [] = tt
split_line_is (b ∷ bs) = cond_both (eqb b 10) (Ends [] bs) (onto b (split_line bs)) (IsSplit (b ∷ bs))
    (λ e. (tt, ap (λ k. k ∷ bs) (eqb-true b 10 e)))
    (λ e. onto_split b bs (split_line bs) (eqb-false b 10 e) (split_line_is bs))

-- ---- what follows a fault, a block or a line

-- the items of shorter texts are known
abbrev Known : ℕ → (List ℕ → List Item) → Type 0
Known n more = (text : List ℕ) → length text ≤ n → more text ≡ items_from (InLine []) text

line_shorter : (text line rest : List ℕ) → text ≡ line ++ 10 ∷ rest → length rest < length text
line_shorter text line rest e = omega (arith, ap length e, length-append line (10 ∷ rest))

over_line : (p : Place) (g : Item) (text line rest : List ℕ) → Does p (line ++ 10 ∷ []) (g ∷ []) (InLine []) → text ≡ line ++ 10 ∷ rest → items_from p text ≡ g ∷ items_from (InLine []) rest
over_line p g text line rest d e = ap (items_from p) (e ∙ sym (append_assoc line (10 ∷ []) rest)) ∙ (leads p (InLine []) (line ++ 10 ∷ []) rest (g ∷ []) d).gives

-- ---- data blocks

-- what a text says behind full data: the bytes to the line's end, which are a return alone or not
tail_return : (head : Head) (got line rest : List ℕ) → head.size ≤ length got → line ≡ 13 ∷ [] → items_from (InData head got) (line ++ 10 ∷ rest) ≡ item.Request (stored head got) ∷ items_from (InLine []) rest
tail_return head got line rest le e =
    ap (λ (l : List ℕ). items_from (InData head got) (l ++ 10 ∷ rest)) e ∙ ap (λ (t : Transition). t.gives ++ items_from t.next (10 ∷ rest)) (transition_full head got le)

full_open : (head : Head) (got tail : List ℕ) → head.size ≤ length got → NoEnd tail → items_from (InData head got) tail ≡ []
full_open head got [] le h = refl
full_open head got (b ∷ []) le h =
    elim (cases_eq b 13) [
      | inl e ↦ ap (λ k. items_from (InData head got) (k ∷ [])) e ∙ ap (λ (t : Transition). t.gives ++ items_from t.next []) (transition_full head got le)
      | inr ne ↦ (full_bad head got (b ∷ []) le (omega arith) ne).0 ∙ (skips_line BadData (b ∷ []) h).gives
    ]
full_open head got (b ∷ d ∷ tail) le h =
    elim (cases_eq b 13) [
      | inl e ↦ ap (λ k. items_from (InData head got) (k ∷ d ∷ tail)) e ∙ ap (λ (t : Transition). t.gives ++ items_from t.next (d ∷ tail)) (transition_full head got le) ∙ ap (λ (t : Transition). t.gives ++ items_from t.next tail) (transition_after head got d h.1.0) ∙ (skips_line BadData tail h.1.1).gives
      | inr ne ↦ (full_bad head got (b ∷ d ∷ tail) le (omega arith) ne).0 ∙ (skips_line BadData (b ∷ d ∷ tail) h).gives
    ]

-- a line behind the data that is no return alone is skipped
full_skips : (head : Head) (got line rest : List ℕ) → head.size ≤ length got → NoEnd line → (line ≡ 13 ∷ [] → ⊥) → items_from (InData head got) (line ++ 10 ∷ rest) ≡ items_from (Skips 0 BadData) (line ++ 10 ∷ rest)
full_skips head got [] rest le h ne = (full_bad head got (10 ∷ rest) le (omega arith) (λ e. omega arith)).0
full_skips head got (b ∷ []) rest le h ne = (full_bad head got (b ∷ 10 ∷ rest) le (omega arith) (λ e. ne (ap (λ k. k ∷ []) e))).0
full_skips head got (b ∷ d ∷ line) rest le h ne =
    elim (cases_eq b 13) [
      | inl e ↦ ap (λ k. items_from (InData head got) (k ∷ d ∷ (line ++ 10 ∷ rest))) e ∙ ap (λ (t : Transition). t.gives ++ items_from t.next (d ∷ (line ++ 10 ∷ rest))) (transition_full head got le) ∙ ap (λ (t : Transition). t.gives ++ items_from t.next (line ++ 10 ∷ rest)) (transition_after head got d h.1.0)
          ∙ sym (ap (λ (t : Transition). t.gives ++ items_from t.next (line ++ 10 ∷ rest)) (transition_rest d BadData h.1.0)) ∙ sym (ap (λ (t : Transition). t.gives ++ items_from t.next (d ∷ (line ++ 10 ∷ rest))) (transition_rest b BadData h.0))
      | inr n ↦ (full_bad head got (b ∷ d ∷ (line ++ 10 ∷ rest)) le (omega arith) n).0
    ]

block_is : (n : ℕ) (more : List ℕ → List Item) (head : Head) (got text : List ℕ) (c : Split) → Known n more → length text ≤ n → head.size ≤ length got → IsSplit text c → block_items more head got c ≡ items_from (InData head got) text
block_is n more head got text Open k le full i = sym (full_open head got text full i)
block_is n more head got text (Ends line rest) k le full i =
    let known : more rest ≡ items_from (InLine []) rest = k rest (omega (arith, line_shorter text line rest i.1)) in
    elim (cases_Bool (is_return line)) [
      | inl is ↦
          let e : line ≡ 13 ∷ [] = (bytes_eq-Decides line (13 ∷ [])).0 is in
          ap (λ b. cond b (item.Request (stored head got)) (item.Fault (block_fault BadData)) ∷ more rest) is ∙ ap (λ (t : List Item). item.Request (stored head got) ∷ t) known ∙ sym (ap (items_from (InData head got)) i.1 ∙ tail_return head got line rest full e)
      | inr isnt ↦
          let ne : line ≡ 13 ∷ [] → ⊥ = λ e. both_ways (is_return line) isnt ((bytes_eq-Decides line (13 ∷ [])).1 e) in
          ap (λ b. cond b (item.Request (stored head got)) (item.Fault (block_fault BadData)) ∷ more rest) isnt ∙ ap (λ (t : List Item). item.Fault (block_fault BadData) ∷ t) known
          ∙ sym (ap (items_from (InData head got)) i.1 ∙ full_skips head got line rest full i.0 ne ∙ over_line (Skips 0 BadData) (item.Fault (block_fault BadData)) (line ++ 10 ∷ rest) line rest (skips_end BadData line i.0) refl)
    ]

-- data that is not all there says nothing
short_data : (head : Head) (text : List ℕ) → length text ≤ head.size → items_from (InData head []) text ≡ []
short_data head text le = (in_data head [] text (omega arith)).gives

store_block : (n : ℕ) (more : List ℕ → List Item) (head : Head) (text : List ℕ) → Known n more → length text ≤ n → block_items more head (take head.size text) (split_line (drop head.size text)) ≡ items_from (InData head []) text
store_block n more head text k le =
    elim (cases_lt (length text) head.size) [
      | inl lt ↦ ap (λ (t : List ℕ). block_items more head (take head.size text) (split_line t)) (drop_all head.size text (omega arith)) ∙ sym (short_data head text (omega arith))
      | inr high ↦
          let got = take head.size text in
          let tail = drop head.size text in
          let d = in_data head [] got (omega (arith, length-take head.size text)) in
          block_is n more head got tail (split_line tail) k (omega (arith, length-drop head.size text)) (omega (arith, length-take head.size text)) (split_line_is tail)
          ∙ sym (ap (items_from (InData head [])) (sym (take-append-drop head.size text)) ∙ (leads (InData head []) (InData head got) got tail [] d).gives)
    ]

-- ---- data that is too large

skip_is : (n : ℕ) (more : List ℕ → List Item) (size : ℕ) (text : List ℕ) (c : Split) → Known n more → length text ≤ n → size < length text → IsSplit (drop size text) c → skip_items more c ≡ items_from (Skips size TooLarge) text
skip_is n more size text Open k le lt i = sym (step_skip_open size TooLarge text lt i).gives
skip_is n more size text (Ends line rest) k le lt i =
    let shorter = line_shorter (drop size text) line rest i.1 in
    ap (λ (t : List Item). item.Fault (block_fault TooLarge) ∷ t) (k rest (omega (arith, length-drop size text)))
    ∙ sym (step_skip_end size TooLarge text line rest [] (block_fault TooLarge) lt i.0 i.1 refl refl).gives

huge_is : (n : ℕ) (more : List ℕ → List Item) (size : ℕ) (text : List ℕ) → Known n more → length text ≤ n → skip_items more (split_line (drop size text)) ≡ items_from (Skips size TooLarge) text
huge_is n more size text k le =
    elim (cases_lt size (length text)) [
      | inl lt ↦ skip_is n more size text (split_line (drop size text)) k le lt (split_line_is (drop size text))
      | inr low ↦ ap (λ (t : List ℕ). skip_items more (split_line t)) (drop_all size text low) ∙ sym (step_skip size TooLarge text low).gives
    ]

-- ---- lines

said_is : (n : ℕ) (more : List ℕ → List Item) (rest : List ℕ) (s : line.Line) → Known n more → length rest ≤ n → said_items more rest s ≡ (said_transition s).gives ++ items_from (said_transition s).next rest
said_is n more rest (Whole request) k le = ap (λ (t : List Item). item.Request request ∷ t) (k rest le)
said_is n more rest (Bad why) k le = ap (λ (t : List Item). item.Fault (line_fault why) ∷ t) (k rest le)
said_is n more rest (Storage head) k le = store_block n more head rest k le
said_is n more rest (Huge size) k le = huge_is n more size rest k le

-- behind more bytes than a line may have
too_long : (text a b : List ℕ) → NoEnd a → longest_line < length a → text ≡ a ++ b → items_from (InLine []) text ≡ item.Fault LineTooLong ∷ []
too_long text a b h lt e = ap (items_from (InLine [])) e ∙ (long_line [] a b h (omega arith) (omega arith)).gives

line_is : (n : ℕ) (more : List ℕ → List Item) (text : List ℕ) (c : Split) → Known n more → length text ≤ suc n → IsSplit text c → line_items more text c ≡ items_from (InLine []) text
line_is n more text Open k le i =
    elim (cases_lt longest_line (length text)) [
      | inl lt ↦ cond-true _ _ _ (lt-ltb longest_line (length text) lt) ∙ sym (too_long text text [] i lt (sym (append-nil text)))
      | inr low ↦ cond-false _ _ _ (le-ltb longest_line (length text) low) ∙ sym (in_line [] text i (omega arith)).gives
    ]
line_is n more text (Ends line rest) k le i =
    elim (cases_lt longest_line (length line)) [
      | inl lt ↦ cond-true _ _ _ (lt-ltb longest_line (length line) lt) ∙ sym (too_long text line (10 ∷ rest) i.0 lt i.1)
      | inr low ↦
          cond-false _ _ _ (le-ltb longest_line (length line) low)
          ∙ said_is n more rest (line_says line) k (omega (arith, line_shorter text line rest i.1))
          ∙ sym (ap (items_from (InLine [])) (i.1 ∙ sym (append_assoc line (10 ∷ []) rest)) ∙ (leads (InLine []) _ (line ++ 10 ∷ []) rest _ (line_end [] line i.0 (omega arith))).gives)
    ]

in_is : (n : ℕ) → Known n (items_in n)
unfolding items_in
in_is zero [] le = refl
in_is zero (b ∷ bs) le = absurd (omega arith)
in_is (suc n) text le = line_is n (items_in n) text (split_line text) (in_is n) le (split_line_is text)

-- the items of a text, line by line and block by block, are those that its bytes give one by one
pub items_is : (text : List ℕ) → items_of text ≡ items_from (InLine []) text
items_is text = in_is (length text) text (omega arith)

-- What a piece of bytes does from a place on.
use Rattle.std.proofs.Common.{◌≡◌, ℕ, suc, ◌+◌, ◌-◌, ◌<◌, ◌≤◌, true, eqb, List, [], ◌∷◌, ◌++◌, length, get_or, take, drop, refl, sym, ap, ◌∙◌, append_assoc, arith, inl, inr}
use Rattle.std.proofs.Math.Seq.{drop-append-add}
use Rattle.std.proofs.lemmas.Bool.{cases_lt, cond-true, cond-false, le-ltb, lt-ltb, ne_eqb, eq-eqb, eqb-true}
use Rattle.std.proofs.lemmas.List.{append-nil, length-append, length_push, length-take, length-drop, get_or-take, take-append-drop, drop_more, drop_all, at_drop_more}
use Rattle.geo_grammar.specs.declared.fault.BlockFault.{BlockFault}
use Rattle.geo_grammar.specs.declared.fault.BlockFault.TheVariants.{BadData}
use Rattle.geo_grammar.specs.declared.head.Head.{Head}
use Rattle.geo_grammar.specs.declared.item.Item.{Item}
use Rattle.geo_grammar.specs.declared.item.Item.TheVariants as item
use Rattle.geo_grammar.specs.Limits.{longest_line}
use Rattle.geo_grammar.specs.Faults.{block_fault}
use Rattle.geo_grammar.specs.declared.fault.Fault.{Fault}
use Rattle.geo_grammar.specs.declared.fault.Fault.TheVariants.{LineTooLong}
use Rattle.geo_grammar.specs.Commands.{stored}
use Rattle.geo_grammar.specs.Places.{Place, InLine, InData, AtReturn, Skips, Ended, Transition, transition, items_from, place_after, line_transition, skip_transition, goes_to, Leads, NoEnd}

-- ---- pieces joined

pub items_from-append : (p : Place) (a b : List ℕ) → items_from p (a ++ b) ≡ items_from p a ++ items_from (place_after p a) b
items_from-append p [] b = refl
items_from-append p (x ∷ a) b = ap (λ (t : List Item). (transition p x).gives ++ t) (items_from-append (transition p x).next a b) ∙ sym (append_assoc (transition p x).gives _ _)

pub place_after-append : (p : Place) (a b : List ℕ) → place_after p (a ++ b) ≡ place_after (place_after p a) b
place_after-append p [] b = refl
place_after-append p (x ∷ a) b = place_after-append (transition p x).next a b

-- ---- what some bytes do, alone

-- over a the reader gives gs, and comes to q
pub record Does (p : Place) (a : List ℕ) (gs : List Item) (q : Place) : Type 0 where
  pub gives : items_from p a ≡ gs
  pub ends : place_after p a ≡ q

pub leads : (p q : Place) (a b : List ℕ) (gs : List Item) → Does p a gs q → Leads p (a ++ b) gs q b
leads p q a b gs d = record {
  gives = items_from-append p a b ∙ ap (λ (t : List Item). t ++ items_from (place_after p a) b) d.gives ∙ ap (λ r. gs ++ items_from r b) d.ends;
  ends = place_after-append p a b ∙ ap (λ r. place_after r b) d.ends;
}

pub does_then : (p q r : Place) (a b : List ℕ) (gs hs : List Item) → Does p a gs q → Does q b hs r → Does p (a ++ b) (gs ++ hs) r
does_then p q r a b gs hs d e = record {
  gives = items_from-append p a b ∙ ap (λ (t : List Item). t ++ items_from (place_after p a) b) d.gives ∙ ap (λ s. gs ++ items_from s b) d.ends ∙ ap (λ (t : List Item). gs ++ t) e.gives;
  ends = place_after-append p a b ∙ ap (λ s. place_after s b) d.ends ∙ e.ends;
}

-- one byte, if that is its transition
pub does_byte : (p : Place) (b : ℕ) (t : Transition) (a : List ℕ) (gs : List Item) (q : Place) → transition p b ≡ t → Does t.next a gs q → Does p (b ∷ a) (t.gives ++ gs) q
does_byte p b t a gs q e d = record {
  gives = ap (λ (s : Transition). s.gives ++ items_from s.next a) e ∙ ap (λ (u : List Item). t.gives ++ u) d.gives;
  ends = ap (λ (s : Transition). place_after s.next a) e ∙ d.ends;
}

no_end_from : (a : List ℕ) → ((k : ℕ) → k < length a → get_or a k 0 ≡ 10 → ⊥) → NoEnd a
no_end_from [] h = tt
no_end_from (b ∷ a) h = (h 0 (omega arith), no_end_from a (λ k lt. h (suc k) (omega arith)))

pub no_end_none : (a : List ℕ) → ((k : ℕ) → k < length a → eqb (get_or a k 0) 10 ≡ true → ⊥) → NoEnd a
no_end_none a h = no_end_from a (λ k lt e. h k lt (eq-eqb (get_or a k 0) 10 e))

pub no_end_take : (a : List ℕ) (n : ℕ) → n ≤ length a → ((k : ℕ) → k < n → eqb (get_or a k 0) 10 ≡ true → ⊥) → NoEnd (take n a)
no_end_take a n le h = no_end_from (take n a) (λ k lt e.
    let low : k < n = omega (arith, length-take n a) in
    h k low (eq-eqb (get_or a k 0) 10 (sym (get_or-take n a k 0 low) ∙ e)))

pub split_at : (a : List ℕ) (n : ℕ) → n < length a → eqb (get_or a n 0) 10 ≡ true → a ≡ take n a ++ 10 ∷ drop (n + 1) a
split_at a n lt e = sym (take-append-drop n a) ∙ ap (λ (t : List ℕ). take n a ++ t) (drop_more a n 0 lt ∙ ap (λ b. b ∷ drop (n + 1) a) (eqb-true (get_or a n 0) 10 e))

pub leads_same : (p q q' : Place) (a a' b b' : List ℕ) (gs gs' : List Item) → a ≡ a' → gs ≡ gs' → q ≡ q' → b ≡ b' → Leads p a' gs' q' b' → Leads p a gs q b
leads_same p q q' a a' b b' gs gs' ea eg eq eb l = record {
  gives = ap (items_from p) ea ∙ l.gives ∙ sym (ap (λ (t : List Item). t ++ items_from q b) eg ∙ ap (λ r. gs' ++ items_from r b) eq ∙ ap (λ (t : List ℕ). gs' ++ items_from q' t) eb);
  ends = ap (place_after p) ea ∙ l.ends ∙ sym (ap (λ r. place_after r b) eq ∙ ap (place_after q') eb);
}

pub leads_all : (p q : Place) (a : List ℕ) (gs : List Item) → Does p a gs q → Leads p a gs q []
leads_all p q a gs d = record { gives = d.gives ∙ sym (append-nil gs); ends = d.ends }

-- ---- lines

transition_line : (seen : List ℕ) (b : ℕ) → (b ≡ 10 → ⊥) → length seen < longest_line → transition (InLine seen) b ≡ goes_to (InLine (seen ++ b ∷ []))
transition_line seen b h lt = cond-false _ _ _ (ne_eqb b 10 h) ∙ cond-true _ _ _ (lt-ltb (length seen) longest_line lt)

pub in_line : (seen a : List ℕ) → NoEnd a → length seen + length a ≤ longest_line → Does (InLine seen) a [] (InLine (seen ++ a))
in_line seen [] h le = record { gives = refl; ends = ap InLine (sym (append-nil seen)) }
in_line seen (b ∷ a) h le =
    let d = in_line (seen ++ b ∷ []) a h.1 (omega (arith, length_push seen b)) in
    let e = does_byte (InLine seen) b _ a [] _ (transition_line seen b h.0 (omega arith)) d in
    record { gives = e.gives; ends = e.ends ∙ ap InLine (append_assoc seen (b ∷ []) a) }

-- the end of a line
pub line_end : (seen a : List ℕ) → NoEnd a → length seen + length a ≤ longest_line → Does (InLine seen) (a ++ 10 ∷ []) ((line_transition (seen ++ a)).gives) ((line_transition (seen ++ a)).next)
line_end seen a h le = does_then (InLine seen) (InLine (seen ++ a)) _ a (10 ∷ []) [] _ (in_line seen a h le) (record { gives = append-nil (line_transition (seen ++ a)).gives; ends = refl })

-- ---- a line that is too long

pub at_end : (a : List ℕ) → Does Ended a [] Ended
at_end [] = record { gives = refl; ends = refl }
at_end (b ∷ a) = record { gives = (at_end a).gives; ends = (at_end a).ends }

transition_long : (seen : List ℕ) (b : ℕ) → (b ≡ 10 → ⊥) → longest_line ≤ length seen → transition (InLine seen) b ≡ record { gives = item.Fault LineTooLong ∷ []; next = Ended }
transition_long seen b h le = cond-false _ _ _ (ne_eqb b 10 h) ∙ cond-false _ _ _ (le-ltb (length seen) longest_line le)

-- whatever comes behind
pub long_line : (seen a b : List ℕ) → NoEnd a → length seen ≤ longest_line → longest_line < length seen + length a → Does (InLine seen) (a ++ b) (item.Fault LineTooLong ∷ []) Ended
long_line seen [] b h le lt = absurd (omega arith)
long_line seen (x ∷ a) b h le lt =
    elim (cases_lt (length seen) longest_line) [
      | inl room ↦ does_byte (InLine seen) x _ (a ++ b) _ Ended (transition_line seen x h.0 room) (long_line (seen ++ x ∷ []) a b h.1 (omega (arith, length_push seen x)) (omega (arith, length_push seen x)))
      | inr full ↦ does_byte (InLine seen) x _ (a ++ b) [] Ended (transition_long seen x h.0 full) (at_end (a ++ b))
    ]

-- ---- what is skipped

pub transition_skip : (left b : ℕ) (why : BlockFault) → 0 < left → transition (Skips left why) b ≡ goes_to (Skips (left - 1) why)
transition_skip left b why lt = cond-true _ _ _ (lt-ltb 0 left lt)

pub skips : (left : ℕ) (why : BlockFault) (a : List ℕ) → length a ≤ left → Does (Skips left why) a [] (Skips (left - length a) why)
skips left why [] le = record { gives = refl; ends = ap (λ n. Skips n why) (omega arith) }
skips left why (b ∷ a) le =
    let d = skips (left - 1) why a (omega arith) in
    let e = does_byte (Skips left why) b _ a [] _ (transition_skip left b why (omega arith)) d in
    record { gives = e.gives; ends = e.ends ∙ ap (λ n. Skips n why) (omega arith) }

pub transition_rest : (b : ℕ) (why : BlockFault) → (b ≡ 10 → ⊥) → transition (Skips 0 why) b ≡ goes_to (Skips 0 why)
transition_rest b why h = cond-false _ _ _ (ne_eqb b 10 h)

pub skips_line : (why : BlockFault) (a : List ℕ) → NoEnd a → Does (Skips 0 why) a [] (Skips 0 why)
skips_line why [] h = record { gives = refl; ends = refl }
skips_line why (b ∷ a) h = does_byte (Skips 0 why) b _ a [] _ (transition_rest b why h.0) (skips_line why a h.1)

pub skips_end : (why : BlockFault) (a : List ℕ) → NoEnd a → Does (Skips 0 why) (a ++ 10 ∷ []) (item.Fault (block_fault why) ∷ []) (InLine [])
skips_end why a h = does_then (Skips 0 why) (Skips 0 why) _ a (10 ∷ []) [] _ (skips_line why a h) (record { gives = refl; ends = refl })

-- ---- data

transition_data : (head : Head) (got : List ℕ) (b : ℕ) → length got < head.size → transition (InData head got) b ≡ goes_to (InData head (got ++ b ∷ []))
transition_data head got b lt = cond-true _ _ _ (lt-ltb (length got) head.size lt)

pub in_data : (head : Head) (got a : List ℕ) → length got + length a ≤ head.size → Does (InData head got) a [] (InData head (got ++ a))
in_data head got [] le = record { gives = refl; ends = ap (InData head) (sym (append-nil got)) }
in_data head got (b ∷ a) le =
    let d = in_data head (got ++ b ∷ []) a (omega (arith, length_push got b)) in
    let e = does_byte (InData head got) b _ a [] _ (transition_data head got b (omega arith)) d in
    record { gives = e.gives; ends = e.ends ∙ ap (InData head) (append_assoc got (b ∷ []) a) }

pub transition_full : (head : Head) (got : List ℕ) → head.size ≤ length got → transition (InData head got) 13 ≡ goes_to (AtReturn head got)
transition_full head got le = cond-false _ _ _ (le-ltb (length got) head.size le)

pub transition_bad : (head : Head) (got : List ℕ) (b : ℕ) → head.size ≤ length got → (b ≡ 13 → ⊥) → transition (InData head got) b ≡ skip_transition BadData b
transition_bad head got b le h = cond-false _ _ _ (le-ltb (length got) head.size le) ∙ cond-false _ _ _ (ne_eqb b 13 h)

pub transition_after : (head : Head) (got : List ℕ) (b : ℕ) → (b ≡ 10 → ⊥) → transition (AtReturn head got) b ≡ goes_to (Skips 0 BadData)
transition_after head got b h = cond-false _ _ _ (ne_eqb b 10 h)

-- ---- the steps of the reader

pub step_seen : (seen piece : List ℕ) → NoEnd piece → length seen + length piece ≤ longest_line → Leads (InLine seen) piece [] (InLine (seen ++ piece)) []
step_seen seen piece h le = leads_all (InLine seen) _ piece [] (in_line seen piece h le)

pub step_line : (seen piece front rest : List ℕ) → NoEnd front → length seen + length front ≤ longest_line → piece ≡ front ++ 10 ∷ rest → Leads (InLine seen) piece (line_transition (seen ++ front)).gives (line_transition (seen ++ front)).next rest
step_line seen piece front rest h le e =
    let t = line_transition (seen ++ front) in
    leads_same (InLine seen) t.next t.next piece ((front ++ 10 ∷ []) ++ rest) rest rest t.gives t.gives (e ∙ sym (append_assoc front (10 ∷ []) rest)) refl refl refl
    (leads (InLine seen) t.next (front ++ 10 ∷ []) rest t.gives (line_end seen front h le))

pub step_long : (seen piece : List ℕ) (n : ℕ) → NoEnd (take n piece) → length seen ≤ longest_line → longest_line < length seen + length (take n piece) → Leads (InLine seen) piece (item.Fault LineTooLong ∷ []) Ended []
step_long seen piece n h le lt = leads_same (InLine seen) Ended Ended piece (take n piece ++ drop n piece) [] [] _ _ (sym (take-append-drop n piece)) refl refl refl
    (leads_all (InLine seen) Ended _ _ (long_line seen (take n piece) (drop n piece) h le lt))

after_front : (front rest : List ℕ) → drop (length front + 1) (front ++ 10 ∷ rest) ≡ rest
after_front front rest = drop-append-add front (10 ∷ rest) 1

-- a line's end in the front of a piece
pub near_line : (piece front rest : List ℕ) (n : ℕ) → take n piece ≡ front ++ 10 ∷ rest → piece ≡ front ++ 10 ∷ drop (length front + 1) piece
near_line piece front rest n e =
    let whole : piece ≡ front ++ 10 ∷ (rest ++ drop n piece) = sym (take-append-drop n piece) ∙ ap (λ (t : List ℕ). t ++ drop n piece) e ∙ append_assoc front (10 ∷ rest) (drop n piece) in
    whole ∙ ap (λ (t : List ℕ). front ++ 10 ∷ t) (sym (ap (drop (length front + 1)) whole ∙ after_front front (rest ++ drop n piece)))

pub step_skip : (left : ℕ) (why : BlockFault) (piece : List ℕ) → length piece ≤ left → Leads (Skips left why) piece [] (Skips (left - length piece) why) []
step_skip left why piece le = leads_all (Skips left why) _ piece [] (skips left why piece le)

skips_front : (left : ℕ) (why : BlockFault) (piece : List ℕ) → left < length piece → Does (Skips left why) (take left piece) [] (Skips 0 why)
skips_front left why piece lt =
    let d = skips left why (take left piece) (omega (arith, length-take left piece)) in
    record { gives = d.gives; ends = d.ends ∙ ap (λ n. Skips n why) (omega (arith, length-take left piece)) }

pub step_skip_open : (left : ℕ) (why : BlockFault) (piece : List ℕ) → left < length piece → NoEnd (drop left piece) → Leads (Skips left why) piece [] (Skips 0 why) []
step_skip_open left why piece lt h = leads_same (Skips left why) _ (Skips 0 why) piece (take left piece ++ drop left piece) [] [] [] [] (sym (take-append-drop left piece)) refl refl refl
    (leads_all _ _ _ [] (does_then (Skips left why) (Skips 0 why) (Skips 0 why) _ _ [] [] (skips_front left why piece lt) (skips_line why (drop left piece) h)))

pub step_skip_end : (left : ℕ) (why : BlockFault) (piece front rest none : List ℕ) (f : Fault) → left < length piece → NoEnd front → drop left piece ≡ front ++ 10 ∷ rest → none ≡ [] → f ≡ block_fault why → Leads (Skips left why) piece (item.Fault f ∷ []) (InLine none) rest
step_skip_end left why piece front rest none f lt h e en ef = leads_same (Skips left why) _ (InLine []) piece ((take left piece ++ (front ++ 10 ∷ [])) ++ rest) rest rest _ _
    (sym (take-append-drop left piece) ∙ ap (λ (t : List ℕ). take left piece ++ t) (e ∙ sym (append_assoc front (10 ∷ []) rest)) ∙ sym (append_assoc (take left piece) (front ++ 10 ∷ []) rest)) (ap (λ g. item.Fault g ∷ []) ef) (ap InLine en) refl
    (leads (Skips left why) (InLine []) _ rest _ (does_then (Skips left why) (Skips 0 why) (InLine []) _ _ [] _ (skips_front left why piece lt) (skips_end why front h)))

pub step_data : (head : Head) (got piece after : List ℕ) → length got + length piece ≤ head.size → after ≡ got ++ piece → Leads (InData head got) piece [] (InData head after) []
step_data head got piece after le e = leads_same (InData head got) (InData head after) (InData head (got ++ piece)) piece piece [] [] [] [] refl refl (ap (InData head) e) refl (leads_all _ _ piece [] (in_data head got piece le))

-- behind the data a byte that is no return is skipped
pub full_bad : (head : Head) (got tail : List ℕ) → head.size ≤ length got → 0 < length tail → (get_or tail 0 0 ≡ 13 → ⊥) → (items_from (InData head got) tail ≡ items_from (Skips 0 BadData) tail) × (place_after (InData head got) tail ≡ place_after (Skips 0 BadData) tail)
full_bad head got [] le lt h = absurd (omega arith)
full_bad head got (b ∷ tail) le lt h =
    let e = transition_bad head got b le h in
    (ap (λ (t : Transition). t.gives ++ items_from t.next tail) e, ap (λ (t : Transition). place_after t.next tail) e)

pub step_bad : (head : Head) (got piece : List ℕ) (n : ℕ) (gs : List Item) (q : Place) (b : List ℕ) → length got + n ≡ head.size → n < length piece → (get_or (drop n piece) 0 0 ≡ 13 → ⊥) → Leads (Skips 0 BadData) (drop n piece) gs q b → Leads (InData head got) piece gs q b
step_bad head got piece n gs q b e lt h l =
    let d = in_data head got (take n piece) (omega (arith, length-take n piece)) in
    let f = full_bad head (got ++ take n piece) (drop n piece) (omega (arith, length-append got (take n piece), length-take n piece)) (omega (arith, length-drop n piece)) h in
    let j = leads (InData head got) (InData head (got ++ take n piece)) (take n piece) (drop n piece) [] d in
    record {
      gives = ap (items_from (InData head got)) (sym (take-append-drop n piece)) ∙ j.gives ∙ f.0 ∙ l.gives;
      ends = ap (place_after (InData head got)) (sym (take-append-drop n piece)) ∙ j.ends ∙ f.1 ∙ l.ends;
    }

full_return : (head : Head) (got tail : List ℕ) → head.size ≤ length got → 0 < length tail → get_or tail 0 0 ≡ 13 → Leads (InData head got) tail [] (AtReturn head got) (drop 1 tail)
full_return head got [] le lt h = absurd (omega arith)
full_return head got (b ∷ tail) le lt h =
    let e : transition (InData head got) b ≡ goes_to (AtReturn head got) = ap (transition (InData head got)) h ∙ transition_full head got le in
    record { gives = ap (λ (t : Transition). t.gives ++ items_from t.next tail) e; ends = ap (λ (t : Transition). place_after t.next tail) e }

pub step_return : (head : Head) (got piece after : List ℕ) (n : ℕ) → length got + n ≡ head.size → n < length piece → get_or (drop n piece) 0 0 ≡ 13 → after ≡ got ++ take n piece → Leads (InData head got) piece [] (AtReturn head after) (drop 1 (drop n piece))
step_return head got piece after n e lt h ea =
    let d = in_data head got (take n piece) (omega (arith, length-take n piece)) in
    let f = full_return head (got ++ take n piece) (drop n piece) (omega (arith, length-append got (take n piece), length-take n piece)) (omega (arith, length-drop n piece)) h in
    let j = leads (InData head got) (InData head (got ++ take n piece)) (take n piece) (drop n piece) [] d in
    leads_same (InData head got) (AtReturn head after) (AtReturn head (got ++ take n piece)) piece piece _ _ [] [] refl refl (ap (AtReturn head) ea) refl (record {
      gives = ap (items_from (InData head got)) (sym (take-append-drop n piece)) ∙ j.gives ∙ f.gives;
      ends = ap (place_after (InData head got)) (sym (take-append-drop n piece)) ∙ j.ends ∙ f.ends;
    })

-- ---- pieces that reach the end of a data block

pub block_last : (head : Head) (got piece : List ℕ) (n : ℕ) → length got + n ≡ head.size → n < length piece → get_or (drop n piece) 0 0 ≡ 13 → 1 < length (drop n piece) → get_or (drop n piece) 1 0 ≡ 10 → Leads (InData head got) piece (item.Request (stored head (got ++ take n piece)) ∷ []) (InLine []) (drop 2 (drop n piece))
block_last head got piece n e lt h more k =
    let l = step_return head got piece (got ++ take n piece) n e lt h refl in
    let tail = drop n piece in
    let f : drop 1 tail ≡ 10 ∷ drop 2 tail = drop_more tail 1 0 more ∙ ap (λ b. b ∷ drop 2 tail) k in
    record {
      gives = l.gives ∙ ap (items_from (AtReturn head (got ++ take n piece))) f;
      ends = l.ends ∙ ap (place_after (AtReturn head (got ++ take n piece))) f;
    }

pub block_return : (head : Head) (got piece : List ℕ) (n : ℕ) → length got + n ≡ head.size → n < length piece → get_or (drop n piece) 0 0 ≡ 13 → length (drop n piece) ≡ 1 → Leads (InData head got) piece [] (AtReturn head (got ++ take n piece)) []
block_return head got piece n e lt h one =
    let l = step_return head got piece (got ++ take n piece) n e lt h refl in
    let tail = drop n piece in
    let f : drop 1 tail ≡ [] = drop_all 1 tail (omega arith) in
    record {
      gives = l.gives ∙ ap (items_from (AtReturn head (got ++ take n piece))) f;
      ends = l.ends ∙ ap (place_after (AtReturn head (got ++ take n piece))) f;
    }

-- the byte behind the return is no line end
pub block_bad : (head : Head) (got piece : List ℕ) (n : ℕ) → length got + n ≡ head.size → n < length piece → get_or (drop n piece) 0 0 ≡ 13 → 1 < length (drop n piece) → (get_or (drop n piece) 1 0 ≡ 10 → ⊥) → Leads (InData head got) piece [] (Skips 0 BadData) (drop n piece)
block_bad head got piece n e lt h more k =
    let l = step_return head got piece (got ++ take n piece) n e lt h refl in
    let tail = drop n piece in
    let c = get_or tail 1 0 in
    let f : drop 1 tail ≡ c ∷ drop 2 tail = drop_more tail 1 0 more in
    let t : transition (AtReturn head (got ++ take n piece)) c ≡ goes_to (Skips 0 BadData) = transition_after head (got ++ take n piece) c k in
    let s : transition (Skips 0 BadData) c ≡ goes_to (Skips 0 BadData) = transition_rest c BadData k in
    let g : tail ≡ 13 ∷ c ∷ drop 2 tail = at_drop_more (λ (t : List ℕ). t) tail 0 0 (omega arith) ∙ ap (λ b. b ∷ drop 1 tail) h ∙ ap (λ (t : List ℕ). 13 ∷ t) f in
    record {
      gives = l.gives ∙ ap (items_from (AtReturn head (got ++ take n piece))) f ∙ ap (λ (u : Transition). u.gives ++ items_from u.next (drop 2 tail)) (t ∙ sym s) ∙ sym (ap (items_from (Skips 0 BadData)) g);
      ends = l.ends ∙ ap (place_after (AtReturn head (got ++ take n piece))) f ∙ ap (λ (u : Transition). place_after u.next (drop 2 tail)) (t ∙ sym s) ∙ sym (ap (place_after (Skips 0 BadData)) g);
    }

pub leads_stay : (p : Place) (a : List ℕ) → Leads p a [] p a
leads_stay p a = record { gives = refl; ends = refl }

-- a further piece
pub goes_on : (done fed after : List Item) (p q : Place) (a rest text : List ℕ) (all : List Item) → after ≡ done ++ fed → fed ≡ items_from p a → q ≡ place_after p a → text ≡ a ++ rest → done ++ items_from p text ≡ all → after ++ items_from q rest ≡ all
goes_on done fed after p q a rest text all e1 e2 e3 e4 h =
    ap (λ (t : List Item). t ++ items_from q rest) (e1 ∙ ap (λ (t : List Item). done ++ t) e2) ∙ ap (λ r. (done ++ items_from p a) ++ items_from r rest) e3 ∙ append_assoc done (items_from p a) (items_from (place_after p a) rest)
    ∙ ap (λ (t : List Item). done ++ t) (sym (items_from-append p a rest) ∙ ap (items_from p) (sym e4)) ∙ h

pub all_done : (done all : List Item) (p : Place) (text : List ℕ) → text ≡ [] → done ++ items_from p text ≡ all → done ≡ all
all_done done all p text e h = sym (append-nil done) ∙ ap (λ (t : List ℕ). done ++ items_from p t) (sym e) ∙ h

-- A reader has ended exactly where it gave that a line was too long.
use Rattle.std.proofs.Common.{◌≡◌, ℕ, Bool, true, false, ltb, eqb, ◌||◌, List, [], ◌∷◌, ◌++◌, length, refl, sym, ap, ◌∙◌}
use Rattle.std.specs.List.{list_any}
use Rattle.std.proofs.lemmas.Bool.{cond_both}
use Rattle.geo_grammar.specs.Limits.{longest_line}
use Rattle.geo_grammar.specs.Faults.{line_fault, block_fault, is_long_fault, says_too_long}
use Rattle.geo_grammar.specs.Commands.{line_says}
use Rattle.geo_grammar.specs.declared.fault.LineFault.{LineFault}
use Rattle.geo_grammar.specs.declared.fault.LineFault.TheVariants as line_why
use Rattle.geo_grammar.specs.declared.fault.BlockFault.{BlockFault}
use Rattle.geo_grammar.specs.declared.fault.BlockFault.TheVariants as block_why
use Rattle.geo_grammar.specs.declared.line.Line.{Line}
use Rattle.geo_grammar.specs.declared.line.Line.TheVariants.{Whole, Storage, Huge, Bad}
use Rattle.geo_grammar.specs.declared.item.Item.{Item}
use Rattle.geo_grammar.specs.Places.{Place, InLine, InData, AtReturn, Skips, Ended, Transition, transition, said_transition, seen_transition, skip_transition, items_from, place_after, is_ended}
use Rattle.geo_grammar.specs.Protocol.{items_of}
use Rattle.geo_grammar.proofs.Transitions.{at_end}
use Rattle.geo_grammar.proofs.Whole.{items_is}

abbrev pub IsLong : List Item → Bool
IsLong items = list_any says_too_long items

-- a transition that does not start at the end says so exactly where it comes there
abbrev Says : Transition → Type 0
Says t = is_ended t.next ≡ IsLong t.gives

line_short : (why : LineFault) → is_long_fault (line_fault why) ≡ false
line_short line_why.Unknown = refl
line_short line_why.BadLine = refl
line_short line_why.BadNumber = refl

block_short : (why : BlockFault) → is_long_fault (block_fault why) ≡ false
block_short block_why.BadData = refl
block_short block_why.TooLarge = refl

said_says : (s : Line) → Says (said_transition s)
said_says (Whole request) = refl
said_says (Storage head) = refl
said_says (Huge size) = refl
said_says (Bad why) = sym (ap (λ b. b || false) (line_short why))

skip_says : (why : BlockFault) (b : ℕ) → Says (skip_transition why b)
skip_says why b = cond_both (eqb b 10) _ _ Says (λ _. sym (ap (λ b. b || false) (block_short why))) (λ _. refl)

seen_says : (seen : List ℕ) (b : ℕ) → Says (seen_transition seen b)
seen_says seen b = cond_both (ltb (length seen) longest_line) _ _ Says (λ _. refl) (λ _. refl)

transition_says : (p : Place) (b : ℕ) → is_ended p ≡ false → Says (transition p b)
transition_says (InLine seen) b h = cond_both (eqb b 10) _ _ Says (λ _. said_says (line_says seen)) (λ _. seen_says seen b)
transition_says (InData head got) b h = cond_both (ltb (length got) head.size) _ _ Says (λ _. refl) (λ _. cond_both (eqb b 13) _ _ Says (λ _. refl) (λ _. skip_says block_why.BadData b))
transition_says (AtReturn head got) b h = cond_both (eqb b 10) _ _ Says (λ _. refl) (λ _. refl)
transition_says (Skips left why) b h = cond_both (ltb 0 left) _ _ Says (λ _. refl) (λ _. skip_says why b)
transition_says Ended b h = absurd cc

or_assoc : (a b d : Bool) → (a || (b || d)) ≡ ((a || b) || d)
or_assoc true b d = refl
or_assoc false b d = refl

any_append : (a b : List Item) → IsLong (a ++ b) ≡ (IsLong a || IsLong b)
any_append [] b = refl
any_append (x ∷ a) b = ap (λ t. says_too_long x || t) (any_append a b) ∙ or_assoc (says_too_long x) (IsLong a) (IsLong b)

abbrev pub EndsSo : Place → List ℕ → Type 0
EndsSo p bytes = is_ended (place_after p bytes) ≡ (is_ended p || IsLong (items_from p bytes))

or_false : (b : Bool) → b ≡ (b || false)
or_false true = refl
or_false false = refl

ends_more : (p : Place) (b : ℕ) (bytes : List ℕ) → is_ended p ≡ false → EndsSo (transition p b).next bytes → EndsSo p (b ∷ bytes)
ends_more p b bytes h e =
    let t = transition p b in
    e ∙ ap (λ x. x || IsLong (items_from t.next bytes)) (transition_says p b h) ∙ sym (any_append t.gives (items_from t.next bytes)) ∙ sym (ap (λ x. x || IsLong (items_from p (b ∷ bytes))) h)

-- from any place on
pub ended_from : (p : Place) (bytes : List ℕ) → EndsSo p bytes
ended_from p [] = or_false (is_ended p)
ended_from (InLine seen) (b ∷ bytes) = ends_more (InLine seen) b bytes refl (ended_from (transition (InLine seen) b).next bytes)
ended_from (InData head got) (b ∷ bytes) = ends_more (InData head got) b bytes refl (ended_from (transition (InData head got) b).next bytes)
ended_from (AtReturn head got) (b ∷ bytes) = ends_more (AtReturn head got) b bytes refl (ended_from (transition (AtReturn head got) b).next bytes)
ended_from (Skips left why) (b ∷ bytes) = ends_more (Skips left why) b bytes refl (ended_from (transition (Skips left why) b).next bytes)
ended_from Ended (b ∷ bytes) = ap is_ended (at_end bytes).ends

-- over a whole text
pub ended_text : (text : List ℕ) → is_ended (place_after (InLine []) text) ≡ IsLong (items_of text)
ended_text text = ended_from (InLine []) text ∙ sym (ap IsLong (items_is text))

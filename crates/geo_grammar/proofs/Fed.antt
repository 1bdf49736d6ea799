-- The items of a text that is fed piece by piece.
use Rattle.std.proofs.Common.{◌≡◌, ℕ, true, false, Bool, List, [], ◌++◌, refl, sym, ap, ◌∙◌, append-nil}
use Rattle.std.specs.List.{list_any}
use Rattle.geo_grammar.specs.declared.item.Item.{Item}
use Rattle.geo_grammar.specs.declared.head.Head.{Head}
use Rattle.geo_grammar.specs.declared.state.State.{State}
use Rattle.geo_grammar.specs.declared.state.State.TheVariants as state_of
use Rattle.geo_grammar.specs.Blocks.{block_place}
use Rattle.geo_grammar.specs.Faults.{says_too_long}
use Rattle.geo_grammar.specs.Places.{Place, InLine, InData, AtReturn, Skips, Ended, start_place, items_from, place_after, is_ended}
use Rattle.geo_grammar.specs.Protocol.{items_of}
use Rattle.geo_grammar.specs.States.{place_of}
use Rattle.geo_grammar.proofs.Transitions.{items_from-append, place_after-append, at_end}
use Rattle.geo_grammar.proofs.Whole.{items_is}
use Rattle.geo_grammar.proofs.Ends.{ended_text}

-- the items of a text are those of its front, and then those from the place behind that
pub items_of-append : (text piece : List ℕ) → items_of (text ++ piece) ≡ items_of text ++ items_from (place_after start_place text) piece
items_of-append text piece =
    items_is (text ++ piece) ∙ items_from-append start_place text piece ∙ ap (λ (t : List Item). t ++ items_from (place_after start_place text) piece) (sym (items_is text))

-- a piece that is fed where the text leads
pub fed_items : (text piece : List ℕ) (p : Place) (out : List Item) → p ≡ place_after start_place text → out ≡ items_from p piece → items_of (text ++ piece) ≡ items_of text ++ out
fed_items text piece p out stands gives =
    items_of-append text piece ∙ ap (λ (t : List Item). items_of text ++ t) (ap (λ q. items_from q piece) (sym stands) ∙ sym gives)

pub fed_place : (text piece : List ℕ) (p q : Place) → p ≡ place_after start_place text → q ≡ place_after p piece → q ≡ place_after start_place (text ++ piece)
fed_place text piece p q stands goes = goes ∙ ap (λ r. place_after r piece) stands ∙ sym (place_after-append start_place text piece)

-- the place of a text in which a line was too long is the end
pub is_ended_text : (text : List ℕ) (p : Place) → p ≡ place_after start_place text → is_ended p ≡ list_any says_too_long (items_of text)
is_ended_text text p stands = ap is_ended stands ∙ ended_text text

gives_none : (p : Place) (more : List ℕ) → is_ended p ≡ true → items_from p more ≡ []
gives_none (InLine seen) more h = absurd cc
gives_none (InData head got) more h = absurd cc
gives_none (AtReturn head got) more h = absurd cc
gives_none (Skips left why) more h = absurd cc
gives_none Ended more h = (at_end more).gives

pub silent : (text more : List ℕ) → list_any says_too_long (items_of text) ≡ true → items_of (text ++ more) ≡ items_of text
silent text more h =
    items_of-append text more ∙ ap (λ (t : List Item). items_of text ++ t) (gives_none (place_after start_place text) more (ended_text text ∙ h)) ∙ append-nil (items_of text)

block_goes_on : (head : Head) (got : List ℕ) (returned : Bool) → false ≡ is_ended (block_place head got returned)
block_goes_on head got true = refl
block_goes_on head got false = refl

-- in any other state more is read
pub goes_on_reading : (state : State) → (state ≡ state_of.Ended → ⊥) → false ≡ is_ended (place_of state)
goes_on_reading (state_of.Line seen) h = refl
goes_on_reading (state_of.Data head got returned) h = block_goes_on head got returned
goes_on_reading (state_of.Skip left why) h = refl
goes_on_reading state_of.Ended h = absurd (h refl)

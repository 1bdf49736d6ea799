-- The place at which a reader's state stands.
use Rattle.std.specs.Prelude.{◌≡◌, ℕ, List, [], ◌∷◌, ◌++◌}
use Rattle.geo_grammar.specs.Commands.{stored}
use Rattle.geo_grammar.specs.Places as place
use Rattle.geo_grammar.specs.Places.{Place, InLine, Skips, IsPlace, start_place, place_after}
use Rattle.geo_grammar.specs.Blocks.{block_place}
use Rattle.geo_grammar.specs.declared.item.Item.{Item}
use Rattle.geo_grammar.specs.declared.item.Item.TheVariants as item
use Rattle.geo_grammar.specs.declared.state.State.{State}
use Rattle.geo_grammar.specs.declared.state.State.TheVariants.{Line, Data, Skip, Ended}

abbrev pub place_of : State → Place
place_of (Line seen) = InLine seen.items
place_of (Data head got returned) = block_place head got returned
place_of (Skip left why) = Skips left why
place_of Ended = place.Ended

-- in a line
abbrev pub IsLine : State → Type 0
IsLine (Line seen) = Unit {0}
IsLine (Data head got returned) = ⊥
IsLine (Skip left why) = ⊥
IsLine Ended = ⊥

-- what was seen of the line
abbrev pub seen_of : State → List ℕ
seen_of (Line seen) = seen.items
seen_of (Data head got returned) = []
seen_of (Skip left why) = []
seen_of Ended = []

-- within a data block or behind it
abbrev pub IsBlock : State → Type 0
IsBlock (Line seen) = ⊥
IsBlock (Data head got returned) = Unit {0}
IsBlock (Skip left why) = ⊥
IsBlock Ended = ⊥

-- the request of a data block that those bytes end
abbrev pub finished : State → List ℕ → List Item
finished (Line seen) front = []
finished (Data head got returned) front = item.Request (stored head (got ++ front)) ∷ []
finished (Skip left why) front = []
finished Ended front = []

-- the state is that behind the text
pub record Stands (state : State) (text : List ℕ) : Type 0 where
  pub place : IsPlace (place_of state)
  pub behind : place_of state ≡ place_after start_place text

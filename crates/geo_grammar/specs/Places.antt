-- What a text means byte by byte: where a reader stands between two bytes, and what the next one does there.
use Rattle.std.specs.Prelude.{◌≡◌, ◌≤◌, ℕ, ◌-◌, ◌==◌, nat_lt, Bool, true, false, List, [], ◌∷◌, ◌++◌, length, if◌then◌else◌}
use Rattle.geo_grammar.specs.Limits.{longest_line}
use Rattle.geo_grammar.specs.Faults.{line_fault, block_fault}
use Rattle.geo_grammar.specs.Commands.{stored, line_says}
use Rattle.geo_grammar.specs.declared.fault.BlockFault.{BlockFault}
use Rattle.geo_grammar.specs.declared.fault.BlockFault.TheVariants.{BadData, TooLarge}
use Rattle.geo_grammar.specs.declared.fault.Fault.TheVariants as fault
use Rattle.geo_grammar.specs.declared.head.Head.{Head}
use Rattle.geo_grammar.specs.declared.line.Line.{Line}
use Rattle.geo_grammar.specs.declared.line.Line.TheVariants.{Whole, Storage, Huge, Bad}
use Rattle.geo_grammar.specs.declared.item.Item.{Item}
use Rattle.geo_grammar.specs.declared.item.Item.TheVariants as item

pub data Place : Type 0 where
  -- in a line, of which that was seen
  InLine : (seen : List ℕ) → Place
  -- in a data block, of which that came
  InData : (head : Head) (got : List ℕ) → Place
  -- behind a data block and the return after it
  AtReturn : (head : Head) (got : List ℕ) → Place
  -- that many bytes are skipped, and then all up to the next line end, where the fault is given
  Skips : (left : ℕ) (why : BlockFault) → Place
  -- behind a line that was too long: nothing more is read
  Ended : Place

-- a new reader is at the front of a line
abbrev pub start_place : Place
start_place = InLine []

-- what a byte gives, and where it leads
pub record Transition : Type 0 where
  pub gives : List Item
  pub next : Place

abbrev pub gives_one : Item → Transition
gives_one item = record { gives = item ∷ []; next = InLine [] }

abbrev pub goes_to : Place → Transition
goes_to place = record { gives = []; next = place }

-- behind a line that says that
abbrev pub said_transition : Line → Transition
said_transition (Whole request) = gives_one (item.Request request)
said_transition (Bad why) = gives_one (item.Fault (line_fault why))
said_transition (Storage head) = goes_to (InData head [])
said_transition (Huge size) = goes_to (Skips size TooLarge)

abbrev pub line_transition : List ℕ → Transition
line_transition line = said_transition (line_says line)

-- in a line, at a byte that is none of its end
abbrev pub seen_transition : List ℕ → ℕ → Transition
seen_transition seen b = if nat_lt (length seen) longest_line then goes_to (InLine (seen ++ b ∷ []))
    else record { gives = item.Fault fault.LineTooLong ∷ []; next = Ended }

-- behind what is skipped
abbrev pub skip_transition : BlockFault → ℕ → Transition
skip_transition why b = if b == 10 then gives_one (item.Fault (block_fault why)) else goes_to (Skips 0 why)

abbrev pub transition : Place → ℕ → Transition
transition (InLine seen) b = if b == 10 then line_transition seen else seen_transition seen b
transition (InData head got) b = if nat_lt (length got) head.size then goes_to (InData head (got ++ b ∷ []))
    else (if b == 13 then goes_to (AtReturn head got) else skip_transition BadData b)
transition (AtReturn head got) b = if b == 10 then gives_one (item.Request (stored head got)) else goes_to (Skips 0 BadData)
transition (Skips left why) b = if nat_lt 0 left then goes_to (Skips (left - 1) why) else skip_transition why b
transition Ended b = goes_to Ended

-- the items that bytes give from a place on
abbrev pub items_from : Place → List ℕ → List Item
items_from place [] = []
items_from place (b ∷ bs) = (transition place b).gives ++ items_from (transition place b).next bs

-- the place behind them
abbrev pub place_after : Place → List ℕ → Place
place_after place [] = place
place_after place (b ∷ bs) = place_after (transition place b).next bs

-- no line ends in these bytes
abbrev pub NoEnd : List ℕ → Type 0
NoEnd [] = Unit {0}
NoEnd (b ∷ bs) = (b ≡ 10 → ⊥) × NoEnd bs

-- over the bytes a from p on the reader gives gs, and then what it gives over b from q on
pub record Leads (p : Place) (a : List ℕ) (gs : List Item) (q : Place) (b : List ℕ) : Type 0 where
  pub gives : items_from p a ≡ gs ++ items_from q b
  pub ends : place_after p a ≡ place_after q b

-- where a reader can stand
abbrev pub IsPlace : Place → Type 0
IsPlace (InLine seen) = length seen ≤ longest_line
IsPlace (InData head got) = length got ≤ head.size
IsPlace (AtReturn head got) = length got ≡ head.size
IsPlace (Skips left why) = Unit {0}
IsPlace Ended = Unit {0}

-- nothing more is read
abbrev pub is_ended : Place → Bool
is_ended (InLine seen) = false
is_ended (InData head got) = false
is_ended (AtReturn head got) = false
is_ended (Skips left why) = false
is_ended Ended = true

-- How items end a connection, and that they leave it open.
use Rattle.std.specs.Prelude.{◌≡◌, false, List, Option, Some, None, if◌then◌else◌}
use Rattle.geo_grammar.specs.Faults.{has_long_line}
use Rattle.geo_grammar.specs.Quitting.{has_quit}
use Rattle.geo_grammar.specs.declared.item.Item.{Item}
use Rattle.geo_dialogue.specs.declared.end.SessionEnd.{SessionEnd}
use Rattle.geo_dialogue.specs.declared.end.SessionEnd.TheVariants.{Quit, LineTooLong}

-- none of the items ends the connection
pub record StaysOpen (items : List Item) : Type 0 where
  pub quits : has_quit items ≡ false
  pub lines : has_long_line items ≡ false

-- the end that these items bring, if they bring one
abbrev pub end_by : List Item → Option SessionEnd
end_by items = if has_quit items then Some Quit else (if has_long_line items then Some LineTooLong else None)

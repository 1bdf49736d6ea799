-- The fault of a line and of a data block, among all faults, and the one that ends a connection.
use Rattle.std.specs.Prelude.{Bool, true, false, List}
use Rattle.std.specs.List.{list_any}
use Rattle.geo_grammar.specs.declared.fault.Fault.{Fault}
use Rattle.geo_grammar.specs.declared.fault.Fault.TheVariants.{Unknown, BadLine, BadData, LineTooLong, TooLarge, BadNumber}
use Rattle.geo_grammar.specs.declared.item.Item.{Item}
use Rattle.geo_grammar.specs.declared.item.Item.TheVariants as item
use Rattle.geo_grammar.specs.declared.fault.LineFault.{LineFault}
use Rattle.geo_grammar.specs.declared.fault.LineFault.TheVariants as line
use Rattle.geo_grammar.specs.declared.fault.BlockFault.{BlockFault}
use Rattle.geo_grammar.specs.declared.fault.BlockFault.TheVariants as block

abbrev pub line_fault : LineFault → Fault
line_fault line.Unknown = Unknown
line_fault line.BadLine = BadLine
line_fault line.BadNumber = BadNumber

abbrev pub block_fault : BlockFault → Fault
block_fault block.BadData = BadData
block_fault block.TooLarge = TooLarge

abbrev pub is_long_fault : Fault → Bool
is_long_fault Unknown = false
is_long_fault BadLine = false
is_long_fault BadData = false
is_long_fault LineTooLong = true
is_long_fault TooLarge = false
is_long_fault BadNumber = false

-- the item says that a line was too long
abbrev pub says_too_long : Item → Bool
says_too_long (item.Request request) = false
says_too_long (item.Fault why) = is_long_fault why

-- one of the items says so
abbrev pub has_long_line : List Item → Bool
has_long_line items = list_any says_too_long items

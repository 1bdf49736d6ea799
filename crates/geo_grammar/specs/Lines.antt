-- Where a line ends in a piece.
use Rattle.std.specs.Prelude.{◌≤◌, ◌+◌, ℕ, suc, ◌++◌, List, [], ◌∷◌, length}
use Rattle.geo_grammar.specs.Limits.{longest_line}
use Rattle.geo_grammar.specs.Places.{InLine, Ended, Leads, line_transition}
use Rattle.geo_grammar.specs.declared.fault.Fault.TheVariants.{LineTooLong}
use Rattle.geo_grammar.specs.declared.item.Item.TheVariants as item
use Rattle.geo_grammar.specs.declared.split.LineSplit.{LineSplit}
use Rattle.geo_grammar.specs.declared.split.LineSplit.TheVariants.{Open, Ends, TooLong}

-- what the piece does behind the bytes of a line that were seen
abbrev pub LineLeads : List ℕ → List ℕ → LineSplit → Type 0
LineLeads seen piece Open = Leads (InLine seen) piece [] (InLine (seen ++ piece)) [] × (length seen + length piece ≤ longest_line)
LineLeads seen piece (Ends front rest) =
    Leads (InLine seen) piece (line_transition (seen ++ front.now)).gives (line_transition (seen ++ front.now)).next rest.now
LineLeads seen piece TooLong = Leads (InLine seen) piece (item.Fault LineTooLong ∷ []) Ended []

-- at most that much of the piece is left to be read, one more where the line ends
abbrev pub line_rest_length : LineSplit → ℕ
line_rest_length Open = 0
line_rest_length (Ends front rest) = suc (length rest.now)
line_rest_length TooLong = 0

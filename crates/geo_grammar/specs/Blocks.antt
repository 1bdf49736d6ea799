-- Where a data block ends in a piece.
use Rattle.std.specs.Prelude.{◌<◌, ℕ, suc, ◌++◌, Bool, true, false, List, [], ◌∷◌, length}
use Rattle.geo_grammar.specs.Commands.{stored}
use Rattle.geo_grammar.specs.Places.{Place, InLine, InData, AtReturn, Skips, Leads, IsPlace}
use Rattle.geo_grammar.specs.declared.fault.BlockFault.TheVariants.{BadData}
use Rattle.geo_grammar.specs.declared.head.Head.{Head}
use Rattle.geo_grammar.specs.declared.item.Item.TheVariants as item
use Rattle.geo_grammar.specs.declared.block.BlockSplit.{BlockSplit}
use Rattle.geo_grammar.specs.declared.block.BlockSplit.TheVariants.{Open, Good, Bad}

-- in a data block, or behind it and its return
abbrev pub block_place : Head → List ℕ → Bool → Place
block_place head got false = InData head got
block_place head got true = AtReturn head got

-- what the piece does from that place on
abbrev pub BlockLeads : Place → Head → List ℕ → List ℕ → BlockSplit → Type 0
BlockLeads place head got piece (Open front returned) = Leads place piece [] (block_place head (got ++ front.now) returned) []
    × IsPlace (block_place head (got ++ front.now) returned)
BlockLeads place head got piece (Good front rest) =
    Leads place piece (item.Request (stored head (got ++ front.now)) ∷ []) (InLine []) rest.now
BlockLeads place head got piece (Bad rest) = Leads place piece [] (Skips 0 BadData) rest.now × (0 < length rest.now)

-- at most that much of the piece is left to be read, one more where the block is good
abbrev pub rest_length : BlockSplit → ℕ
rest_length (Open front returned) = 0
rest_length (Good front rest) = suc (length rest.now)
rest_length (Bad rest) = length rest.now

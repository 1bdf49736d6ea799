-- What a whole text means, by lines and data blocks (memcached's protocol.txt). The text is split at its line ends; a storage
-- line is followed by its data and a line of nothing but a return. A line that is too long ends it.
use Rattle.std.specs.Prelude.{ℕ, zero, suc, ◌==◌, nat_lt, Bool, List, [], ◌∷◌, length, take, drop, if◌then◌else◌}
use Rattle.std.specs.Str.{bytes_eq}
use Rattle.geo_grammar.specs.Limits.{longest_line}
use Rattle.geo_grammar.specs.Faults.{line_fault}
use Rattle.geo_grammar.specs.Commands.{stored, line_says}
use Rattle.geo_grammar.specs.declared.fault.Fault.TheVariants.{BadData, LineTooLong, TooLarge}
use Rattle.geo_grammar.specs.declared.head.Head.{Head}
use Rattle.geo_grammar.specs.declared.line.Line as line
use Rattle.geo_grammar.specs.declared.line.Line.TheVariants.{Whole, Storage, Huge, Bad}
use Rattle.geo_grammar.specs.declared.item.Item.{Item}
use Rattle.geo_grammar.specs.declared.item.Item.TheVariants as item

-- a text has no line end, or a line and the rest behind its end
pub data Split : Type 0 where
  Open : Split
  Ends : (line rest : List ℕ) → Split

abbrev pub onto : ℕ → Split → Split
onto b Open = Open
onto b (Ends line rest) = Ends (b ∷ line) rest

-- the text up to its first newline
abbrev pub split_line : List ℕ → Split
split_line [] = Open
split_line (b ∷ bs) = if b == 10 then Ends [] bs else onto b (split_line bs)

abbrev pub is_return : List ℕ → Bool
is_return line = bytes_eq line (13 ∷ [])

-- a data block is good where a return alone stands between it and the next newline; if not, all up to there is skipped
abbrev pub block_items : (List ℕ → List Item) → Head → List ℕ → Split → List Item
block_items more head bytes Open = []
block_items more head bytes (Ends line rest) = (if is_return line then item.Request (stored head bytes) else item.Fault BadData) ∷ more rest

-- data that is too large is skipped, with all up to the next newline
abbrev pub skip_items : (List ℕ → List Item) → Split → List Item
skip_items more Open = []
skip_items more (Ends line rest) = item.Fault TooLarge ∷ more rest

-- what a line that says that gives, with the text behind it
abbrev pub said_items : (List ℕ → List Item) → List ℕ → line.Line → List Item
said_items more text (Whole request) = item.Request request ∷ more text
said_items more text (Bad why) = item.Fault (line_fault why) ∷ more text
said_items more text (Storage head) = block_items more head (take head.size text) (split_line (drop head.size text))
said_items more text (Huge size) = skip_items more (split_line (drop size text))

abbrev pub line_items : (List ℕ → List Item) → List ℕ → Split → List Item
line_items more text Open = if nat_lt longest_line (length text) then item.Fault LineTooLong ∷ [] else []
line_items more text (Ends line rest) = if nat_lt longest_line (length line) then item.Fault LineTooLong ∷ []
    else said_items more rest (line_says line)

-- at most that many items: that of the first line and its block, and then those of what follows
unfoldable pub items_in : ℕ → List ℕ → List Item
items_in zero text = []
items_in (suc n) text = line_items (items_in n) text (split_line text)

-- the items of a text: each takes a byte at least
abbrev pub items_of : List ℕ → List Item
items_of text = items_in (length text) text

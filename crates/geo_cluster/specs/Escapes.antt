-- The escapes of a script: \r, \n, \\ and \xhh, as bytes are printed and as a text is read.
use Rattle.std.specs.Prelude.{ℕ, ◌+◌, ◌*◌, ◌/◌, ◌%◌, ◌==◌, ◌<◌, nat_lt, nat_le, ◌&&◌, Bool, not, List, [], ◌∷◌, ◌++◌, length, Option, Some, None, if◌then◌else◌, codes}
use Rattle.std.specs.Option.{option_map}
use Rattle.std.specs.List.{list_all}
use Rattle.std.specs.Char.{digit_value}
use Rattle.geo_records.specs.Keys.{is_key_byte}
use Rattle.geo_cluster.specs.declared.script.escape.Spot.{Spot}
use Rattle.geo_cluster.specs.declared.script.escape.Spot.TheVariants.{Between, Backslash, Hex, HexDigit}
use Rattle.geo_cluster.specs.declared.script.escape.Transition.{Transition}
use Rattle.geo_cluster.specs.declared.script.escape.Transition.TheVariants.{Gives, Leads, Fails}

-- what can stand for itself: a printable ASCII byte
abbrev pub is_printable : ℕ → Bool
is_printable b = nat_le 32 b && nat_le b 126

-- the digit that writes a number below 16
abbrev pub hex_digit : ℕ → ℕ
hex_digit n = if nat_lt n 10 then n + 48 else n + 87

-- how a byte is printed
abbrev pub escaped_byte : ℕ → List ℕ
escaped_byte b =
    if b == 92 then codes "\\\\"
    else (if b == 13 then codes "\\r"
    else (if b == 10 then codes "\\n"
    else (if is_printable b then b ∷ []
    else 92 ∷ 120 ∷ hex_digit (b / 16) ∷ hex_digit (b % 16) ∷ [])))

-- a byte that is printed as it is
abbrev pub is_plain : ℕ → Bool
is_plain b = is_printable b && not (b == 92)

-- how bytes are printed
abbrev pub escaped : List ℕ → List ℕ
escaped [] = []
escaped (b ∷ bs) = escaped_byte b ++ escaped bs

-- what a byte does behind a backslash, and at each spot of a text
abbrev pub transition_escape : ℕ → Transition
transition_escape b = if b == 92 then Gives 92
    else (if b == 114 then Gives 13 else (if b == 110 then Gives 10 else (if b == 120 then Leads Hex else Fails)))

abbrev pub transition : Spot → ℕ → Transition
transition Between b = if b == 92 then Leads Backslash else Gives b
transition Backslash b = transition_escape b
transition Hex b = if nat_lt (digit_value b) 16 then Leads (HexDigit (digit_value b)) else Fails
transition (HexDigit high) b = if nat_lt (digit_value b) 16 then Gives (16 * high + digit_value b) else Fails

-- the bytes that a text spells from a spot on: none where an escape is none of the four, or not whole
abbrev pub ends_at : Spot → Option (List ℕ)
ends_at Between = Some []
ends_at Backslash = None
ends_at Hex = None
ends_at (HexDigit high) = None

-- a digit that was read is below 16
abbrev pub IsSmall : Spot → Type 0
IsSmall (HexDigit high) = high < 16
IsSmall Between = Unit {0}
IsSmall Backslash = Unit {0}
IsSmall Hex = Unit {0}

abbrev pub LeadsToSmall : Transition → Type 0
LeadsToSmall (Leads spot) = IsSmall spot
LeadsToSmall (Gives byte) = Unit {0}
LeadsToSmall Fails = Unit {0}

-- what a transition gives, with what the rest of the text spells from each spot
abbrev pub unescaped_on : Transition → (Spot → Option (List ℕ)) → Option (List ℕ)
unescaped_on (Gives byte) rest = option_map (λ bytes. byte ∷ bytes) (rest Between)
unescaped_on (Leads spot) rest = rest spot
unescaped_on Fails rest = None

abbrev pub unescaped_from : Spot → List ℕ → Option (List ℕ)
unescaped_from spot [] = ends_at spot
unescaped_from spot (b ∷ bs) = unescaped_on (transition spot b) (λ s. unescaped_from s bs)

-- the bytes that a text spells
abbrev pub unescaped : List ℕ → Option (List ℕ)
unescaped text = unescaped_from Between text

-- what a text spells, behind bytes that were spelt before it
abbrev pub behind : List ℕ → Option (List ℕ) → Option (List ℕ)
behind done more = option_map (λ bytes. done ++ bytes) more

-- a byte that begins no escape
abbrev pub is_no_backslash : ℕ → Bool
is_no_backslash b = not (b == 92)

-- how many they are, and whether all may stand in a key
abbrev pub spelling_of : List ℕ → Option (ℕ × Bool)
spelling_of text = option_map (λ bytes. (length bytes, list_all is_key_byte bytes)) (unescaped text)

-- Keys (memcached's protocol.txt): 1 to 250 bytes, none of them a control character or a space.
use Rattle.std.specs.Prelude.{ℕ, ◌≤◌, ◌==◌, nat_le, not, ◌&&◌, Bool, List, length}
use Rattle.std.specs.List.{list_all}
use Rattle.std.specs.Cmp.Lexicographic.{pointwise}

-- 0x21 to 0x7E and 0x80 on
abbrev pub is_key_byte : ℕ → Bool
is_key_byte byte = nat_le 33 byte && not (byte == 127)

abbrev pub is_key : List ℕ → Bool
is_key bytes = not (length bytes == 0) && (nat_le (length bytes) 250 && list_all is_key_byte bytes)

-- two keys are one
abbrev pub same_key : List ℕ → List ℕ → Bool
same_key = pointwise ◌==◌

-- a key is short enough to stand with its record, and then takes no memory of its own
abbrev pub IsShortKey : List ℕ → Type 0
IsShortKey key = length key ≤ 24

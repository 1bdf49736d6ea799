-- The words of a line and the numbers that they write (memcached's protocol.txt).
use Rattle.std.specs.Prelude.{ℕ, ℤ, pos, neg_ℤ, ◌-◌, ◌==◌, nat_le, ◌&&◌, Bool, true, false, List, [], ◌∷◌, length, take, filter, slice_index, Option, Some, None, if◌then◌else◌}
use Rattle.std.specs.Option.{option_map}
use Rattle.geo_requests.specs.Numbers.{is_filled, number_of}
use Rattle.std.specs.List.{slice_split}
use Rattle.std.specs.Str.{all_ascii_digits}
use Rattle.std.specs.Str.Parse.{digits_value_after}

-- a line without one return at its end
abbrev pub line_text : List ℕ → List ℕ
line_text line = if slice_index line (length line - 1) == 13 then take (length line - 1) line else line

abbrev pub is_space : ℕ → Bool
is_space byte = byte == 32

-- what stands between spaces, but for what is empty
abbrev pub words_of : List ℕ → List (List ℕ)
words_of line = filter is_filled (slice_split is_space line)

-- a number from -2^63 to 2^63 - 1, which may begin with a minus
abbrev pub signed_of : List ℕ → Option ℤ
signed_of [] = None
signed_of (b ∷ bs) = if b == 45 then option_map (λ n. neg_ℤ (pos n)) (number_of 9223372036854775808 bs)
    else option_map pos (number_of 9223372036854775807 (b ∷ bs))

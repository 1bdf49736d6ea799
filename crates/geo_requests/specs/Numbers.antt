-- The numbers that words of decimal digits write.
use Rattle.std.specs.Prelude.{ℕ, nat_le, ◌&&◌, Bool, true, false, List, [], ◌∷◌, Option, Some, None, if◌then◌else◌}
use Rattle.std.specs.Str.{all_ascii_digits}
use Rattle.std.specs.Str.Parse.{digits_value_after}

abbrev pub is_filled : List ℕ → Bool
is_filled [] = false
is_filled (byte ∷ bytes) = true

-- the number that decimal digits write behind those that wrote n, if it is at most `most`
abbrev pub number_after : ℕ → ℕ → List ℕ → Option ℕ
number_after most n digits =
    if all_ascii_digits digits && nat_le (digits_value_after 10 n digits) most then Some (digits_value_after 10 n digits) else None

-- the number that decimal digits write, leading zeros allowed, if it is at most `most`
abbrev pub number_of : ℕ → List ℕ → Option ℕ
number_of most word = if is_filled word then number_after most 0 word else None

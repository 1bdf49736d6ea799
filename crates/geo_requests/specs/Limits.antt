-- The limits of values and numbers.
use Rattle.std.specs.Prelude.{ℕ}

-- a value has at most a mebibyte
abbrev pub longest_value : ℕ
longest_value = 1048576

-- unique numbers, and what is added or taken away, are 64 bits
abbrev pub most_number : ℕ
most_number = 18446744073709551615

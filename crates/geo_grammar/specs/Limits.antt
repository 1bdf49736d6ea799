-- The limits of lines, numbers and data.
use Rattle.std.specs.Prelude.{ℕ}

-- a line has at most that many bytes before its newline
abbrev pub longest_line : ℕ
longest_line = 65536

-- a storage line announces at most that many bytes
abbrev pub most_bytes : ℕ
most_bytes = 2147483647

-- flags and the level of verbosity are 32 bits
abbrev pub most_flags : ℕ
most_flags = 4294967295

-- How long a value is at most: a mebibyte.
use Rattle.std.specs.Prelude.{ℕ}

abbrev pub longest_value : ℕ
longest_value = 1048576

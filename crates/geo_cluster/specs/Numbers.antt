-- The numbers of a script: decimal digits, with leading zeros as one likes and without a sign.
use Rattle.std.specs.Prelude.{ℕ, nat_lt, List, Option, Some, None, if◌then◌else◌}
use Rattle.std.specs.Option.{option_and_then}
use Rattle.geo_requests.specs.Numbers.{number_of}

abbrev pub at_least : ℕ → ℕ → Option ℕ
at_least least n = if nat_lt n least then None else Some n

-- the number that a word of decimal digits writes, if it is at least `least` and at most `most`
abbrev pub ranged_of : ℕ → ℕ → List ℕ → Option ℕ
ranged_of least most word = option_and_then (at_least least) (number_of most word)

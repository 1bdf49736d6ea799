-- A text split in two at a byte.
use Rattle.std.specs.Prelude.{ℕ, ◌==◌, Bool, List, [], ◌∷◌, Option, Some, None, if◌then◌else◌}
use Rattle.std.specs.Option.{option_map}

abbrev pub is_byte : ℕ → ℕ → Bool
is_byte byte b = b == byte

-- what stands before the first such byte, and what stands behind it, where there is one
abbrev pub split_at : ℕ → List ℕ → Option (List ℕ × List ℕ)
split_at byte [] = None
split_at byte (b ∷ bs) = if b == byte then Some ([], bs) else option_map (λ p. (b ∷ p.0, p.1)) (split_at byte bs)

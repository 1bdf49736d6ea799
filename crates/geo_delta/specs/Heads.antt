-- Sixteen bytes of a key as a number: where two differ, they compare as the keys do.
use Rattle.std.specs.Prelude.{◌≡◌, ℕ, zero, suc, List, [], ◌∷◌, ◌<◌, ◌==◌, nat_lt, cond, get_or, drop, map, ◌-◌, ◌^◌}
use Rattle.std.specs.Int.{w128, from_be_bytes}
use Rattle.geo_delta.specs.declared.headed.Headed.{Headed}

-- the first n, and zeros behind fewer
abbrev pub padded : ℕ → List ℕ → List ℕ
padded zero bytes = []
padded (suc n) bytes = get_or bytes 0 0 ∷ padded n (drop 1 bytes)

-- the first sixteen, the first of them the greatest digit
abbrev pub head_of : List ℕ → ℕ
head_of bytes = from_be_bytes w128 (padded 16 bytes)

-- all sixteen as great as can be
abbrev pub greatest_head : ℕ
greatest_head = 2 ^ 128 - 1

-- the head of what stands behind a beginning; bytes that begin otherwise are below all that begin so, or above all
abbrev pub head_behind : List ℕ → List ℕ → ℕ
head_behind [] bytes = head_of bytes
head_behind (b ∷ begin) [] = 0
head_behind (b ∷ begin) (x ∷ bytes) = cond (nat_lt x b) 0 (cond (x == b) (head_behind begin bytes) greatest_head)

abbrev pub AreBytes : List ℕ → Type 0
AreBytes bytes = (k : ℕ) → get_or bytes k 0 < 256

-- the key by itself
abbrev pub key_under : Headed → List ℕ
key_under h = h.key.now

abbrev pub keys_under : List Headed → List (List ℕ)
keys_under = map key_under

-- its number is taken behind this beginning
abbrev pub IsBehind : List ℕ → Headed → Type 0
IsBehind begin h = (h.head ≡ head_behind begin h.key.now) × AreBytes h.key.now

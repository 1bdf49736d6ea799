-- What the code's values are, as a stock.
use Rattle.std.specs.Prelude.{ℕ, List, map, length, Option}
use Rattle.sha2.specs.Sha256.{sha256}
use Rattle.std.specs.Map.{lookup, keys_of}
use Rattle.geo_records.specs.Keys.{same_key}
use Rattle.geo_values.specs.Stock.{Stock}
use Rattle.geo_values.specs.Links.{Kept, links_of, stock_of}

abbrev pub stock_in : Kept → Stock
stock_in v = stock_of (links_of v)

-- the keys that are held, each once, and how many they are
abbrev pub keys_in : Kept → List (List ℕ)
keys_in v = keys_of v.items

abbrev pub count_in : Kept → ℕ
count_in v = length (keys_in v)

-- SHA-256 and length of bytes
abbrev pub digest_of : List ℕ → List ℕ × ℕ
digest_of bytes = (sha256 bytes, length bytes)

-- of keys with a SHA-256 and a length each, those of one key
abbrev pub by_key : List (List ℕ × List ℕ × ℕ) → List (List ℕ × (List ℕ × ℕ))
by_key held = map (λ e. (e.0, (e.1, e.2))) held

abbrev pub digest_at : List (List ℕ × List ℕ × ℕ) → List ℕ → Option (List ℕ × ℕ)
digest_at held key = lookup (same_key key) (by_key held)

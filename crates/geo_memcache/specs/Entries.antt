-- Entries: what is visible of a key, and when it ends (memcached's protocol.txt, "Expiration times").
use Rattle.std.specs.Prelude.{ℕ, ℤ, pos, negsuc, zero, suc, ◌+◌, Bool, cond, ◌==◌, ◌||◌, nat_lt, nat_le, List, Option}
use Rattle.std.specs.Option.{option_map}
use Rattle.std.specs.Borrow.{Bor}
use Rattle.geo_memcache.specs.declared.entry.Entry as code

-- the moment at which an exptime that is given at another moment ends an entry: 0 is never, a negative one at once, up to
-- thirty days count from now, and a greater one is a moment itself
abbrev pub expiry_at : ℤ → ℕ → ℕ
expiry_at (pos zero) now = 0
expiry_at (pos (suc n)) now = cond (nat_le (suc n) 2592000) (now + suc n) (suc n)
expiry_at (negsuc n) now = 1

-- whether an entry with this expiry is live
abbrev pub is_live : ℕ → ℕ → Bool
is_live expiry now = (expiry == 0) || nat_lt now expiry

-- what is visible of a key
pub record Entry : Type 0 where
  pub bytes : List ℕ
  pub flags : ℕ
  pub expiry : ℕ
  pub unique : ℕ

-- the entry that is lent
abbrev pub entry_of : code.Entry → Entry
entry_of e = record { bytes = e.bytes.now; flags = e.flags; expiry = e.expiry; unique = e.unique }

abbrev pub present_of : Option (Bor code.Entry) → Option Entry
present_of present = option_map (λ e. entry_of e.now) present

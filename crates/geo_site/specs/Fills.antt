-- Bytes that are offered to a site: of a key that its version names and that it does not hold.
use Rattle.std.specs.Prelude.{◌≡◌, ℕ, zero, suc, Bool, true, false, cond, not, ◌&&◌, List, [], ◌∷◌, length, take, Option, None, Some, is_some, Result, Ok, Err}
use Rattle.std.specs.Ordering.{nat_cmp, is_lt}
use Rattle.std.specs.Cmp.Lexicographic.{slice_cmp}
use Rattle.std.specs.declared.alloc.AllocError.{AllocError}
use Rattle.geo_records.specs.Operations.{Register, version_in}
use Rattle.geo_records.specs.declared.version.Version.{Version}
use Rattle.geo_memcache.specs.Entries.{is_live}
use Rattle.geo_values.specs.Stock.{Stock, is_full, with_chunk, arrived}
use Rattle.geo_site.specs.declared.fill.Filled.{Filled}
use Rattle.geo_site.specs.declared.fill.Filled.TheVariants.{NotNamed, Held, Full, Done}
use Rattle.geo_site.specs.declared.site.Site.{Site}
use Rattle.geo_site.specs.Entries.{names}
use Rattle.geo_site.specs.Machine.{SiteState, Same, class_for, with_stock}
use Rattle.geo_site.specs.Sites.{state_in, Rests, Stays}

-- what comes of them: they are not named, bytes are held, their class is full, or they are held
abbrev pub filled_by : Bool → Bool → Bool → Filled
filled_by named held full = cond named (cond held Held (cond full Full Done)) NotNamed

abbrev pub filled_in : SiteState → List ℕ → List ℕ → Filled
filled_in st key bytes =
    filled_by (names (version_in (st.map key)) bytes) (is_some (st.stock.held key)) (is_full st.stock (class_for (length bytes)))

-- the bytes of a key that is not held come to their class, which has room for them
abbrev pub came : List ℕ → List ℕ → Stock → Stock
came key bytes stock = let class = class_for (length bytes) in arrived key bytes class (with_chunk class stock)

-- what a fill leaves: where it is done the bytes have come, and else nothing has changed
abbrev pub is_filled : Filled → Bool
is_filled NotNamed = false
is_filled Held = false
is_filled Full = false
is_filled Done = true

abbrev pub after_fill : Filled → List ℕ → List ℕ → SiteState → SiteState
after_fill filled key bytes st = with_stock (cond (is_filled filled) (came key bytes st.stock) st.stock) st

-- what may come of them, by whether they are named and whether any are held
abbrev pub FillsAs : Bool → Bool → Filled → Type 0
FillsAs named held NotNamed = named ≡ false
FillsAs named held Held = (named ≡ true) × (held ≡ true)
FillsAs named held Full = (named ≡ true) × (held ≡ false)
FillsAs named held Done = (named ≡ true) × (held ≡ false)

-- by its result: memory is wanted only for what would be held
abbrev pub FillResult : Site → Site → List ℕ → List ℕ → Result Filled AllocError → Type 0
FillResult old new key bytes (Ok filled) = (filled ≡ filled_in (state_in old) key bytes)
    × Same (after_fill filled key bytes (state_in old)) (state_in new)
FillResult old new key bytes (Err refused) = (filled_in (state_in old) key bytes ≡ Done) × Same (state_in old) (state_in new)

-- what a fill does: no version changes, nothing is counted, and no flush is carried out
pub record FillDoes (old new : Site) (key bytes : List ℕ) (result : Result Filled AllocError) : Type 0 where
  pub does : FillResult old new key bytes result
  pub rests : Rests old new
  pub stays : Stays old new

-- where a fill is done the bytes are held, and the version names them
abbrev pub FillShows : Site → List ℕ → List ℕ → Filled → Type 0
FillShows new key bytes filled = is_filled filled ≡ true
    → ((state_in new).stock.held key ≡ Some bytes) × (names (version_in ((state_in new).map key)) bytes ≡ true)

-- bytes are missing at a moment: the version is live, none are held, and the class of as many has room
abbrev pub lacks_by : ℕ → Option Version → Option (List ℕ) → Stock → Bool
lacks_by now None held stock = false
lacks_by now (Some v) held stock = is_live v.expiry now && (not (is_some held) && not (is_full stock (class_for v.length)))

abbrev pub is_missing : SiteState → ℕ → List ℕ → Bool
is_missing st now key = lacks_by now (version_in (st.map key)) (st.stock.held key) st.stock

-- a key is greater than another, where one is told, byte by byte
abbrev pub is_below : List ℕ → List ℕ → Bool
is_below a b = is_lt (slice_cmp nat_cmp a b)

abbrev pub is_after : Option (List ℕ) → List ℕ → Bool
is_after None key = true
is_after (Some before) key = is_below before key

-- the least key after another of which bytes are missing, if there is one
abbrev pub IsFirstMissing : SiteState → ℕ → Option (List ℕ) → Option (List ℕ) → Type 0
IsFirstMissing st now after None = (q : List ℕ) → is_after after q ≡ true → is_missing st now q ≡ false
IsFirstMissing st now after (Some key) = (is_after after key ≡ true) × (is_missing st now key ≡ true)
    × ((q : List ℕ) → is_after after q ≡ true → is_missing st now q ≡ true → is_below q key ≡ false)

-- the least keys after another of which bytes are missing, so many at most, in their order
abbrev pub AreFirstMissing : SiteState → ℕ → Option (List ℕ) → ℕ → List (List ℕ) → Type 0
AreFirstMissing st now after zero keys = keys ≡ []
AreFirstMissing st now after (suc most) [] = IsFirstMissing st now after None
AreFirstMissing st now after (suc most) (key ∷ keys) = IsFirstMissing st now after (Some key) × AreFirstMissing st now (Some key) most keys

-- the expiry that a register shows
abbrev pub expiry_shown : Register ℕ → ℕ
expiry_shown None = 0
expiry_shown (Some r) = r.1

-- of keys the least that passes a test, and comes before the one that was found, if one was
abbrev pub precedes : Option (List ℕ) → List ℕ → Bool
precedes None key = true
precedes (Some first) key = is_below key first

abbrev pub earlier : (List ℕ → Bool) → Option (List ℕ) → Option (List ℕ) → Option (List ℕ)
earlier test first None = first
earlier test first (Some key) = cond (precedes first key && test key) (Some key) first

abbrev pub is_sought : SiteState → ℕ → Option (List ℕ) → List ℕ → Bool
is_sought st now after key = is_after after key && is_missing st now key

-- each key comes after the one before it
abbrev pub Rises : Option (List ℕ) → List (List ℕ) → Type 0
Rises low [] = Unit {0}
Rises low (key ∷ keys) = (is_after low key ≡ true) × Rises (Some key) keys

-- a key comes to its place among rising keys
abbrev pub placed : List ℕ → List (List ℕ) → List (List ℕ)
placed key [] = key ∷ []
placed key (k ∷ ks) = cond (is_below key k) (key ∷ (k ∷ ks)) (k ∷ placed key ks)

-- a key that passes a test comes among the least, so many at most
abbrev pub noted : (List ℕ → Bool) → ℕ → List (List ℕ) → List ℕ → List (List ℕ)
noted test most found key = cond (test key) (take most (placed key found)) found

abbrev pub noted_at : (List ℕ → Bool) → ℕ → List (List ℕ) → Option (List ℕ) → List (List ℕ)
noted_at test most found None = found
noted_at test most found (Some key) = noted test most found key

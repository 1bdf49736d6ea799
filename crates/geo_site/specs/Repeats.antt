-- A value that a line shows more than once.
use Rattle.std.specs.Prelude.{◌≡◌, ℕ, Bool, List, [], ◌∷◌}
use Rattle.geo_requests.specs.declared.reply.Found.{Found}
use Rattle.geo_site.specs.Entries.{Visible, found_at}

-- what is found is what is visible of its key
abbrev pub Shows : Bool → Visible → Found → Type 0
Shows numbers visible found = found_at numbers found.key (visible found.key) ≡ found ∷ []

-- where it is this key's value, it has these bytes
abbrev pub Agrees : List ℕ → List ℕ → Found → Type 0
Agrees key bytes found = found.key ≡ key → found.bytes ≡ bytes

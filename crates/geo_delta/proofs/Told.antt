-- What changed at a site is told by its newest changes and by those further back.
use Rattle.std.proofs.Common.{◌≡◌, ℕ, Bool, true, false, List}
use Rattle.geo_records.specs.Operations.{Record}
use Rattle.geo_delta.specs.declared.changes.Changes.{Changes}
use Rattle.geo_delta.specs.Changes.{Traced, knows_record}
use Rattle.geo_delta.specs.Trails.{Trailed}
use Rattle.geo_delta.specs.Telling.{Tells}
use Rattle.geo_delta.proofs.Facts.{traced_prop}
use Rattle.geo_delta.proofs.Tracing.{traced_on}
use Rattle.geo_delta.proofs.Trailing.{trailed_prop, trailed_on}

-- it is a fact, and so can be kept beside what changed
pub tells_prop : (pending : List ℕ → Bool) (map : List ℕ → Record) (changes : Changes) → IsProp (Tells pending map changes)
tells_prop pending map changes = λ a b i. (traced_prop pending map changes.newest a.0 b.0 i, trailed_prop pending map changes.trail a.1 b.1 i)

-- a key's record may change where the key is to be noted later
pub tells_on : (pending later : List ℕ → Bool) (map new : List ℕ → Record) (changes : Changes)
    → ((key : List ℕ) → later key ≡ false → (pending key ≡ false) × ((v : List ℕ) → knows_record v (map key) ≡ true → knows_record v (new key) ≡ true))
    → Tells pending map changes → Tells later new changes
tells_on pending later map new changes h t = (traced_on pending later map new changes.newest h t.0, trailed_on pending later map new changes.trail h t.1)

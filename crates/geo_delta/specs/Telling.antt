-- What changed at a site, newest changes and those further back together.
use Rattle.std.specs.Prelude.{ℕ, List, Bool}
use Rattle.geo_records.specs.Operations.{Record}
use Rattle.geo_delta.specs.declared.changes.Changes.{Changes}
use Rattle.geo_delta.specs.Changes.{Traced}
use Rattle.geo_delta.specs.Trails.{Trailed}

-- both tell of what is kept of keys, but for keys that are still to be noted
abbrev pub Tells : (List ℕ → Bool) → (List ℕ → Record) → Changes → Type 0
Tells pending map changes = Traced pending map changes.newest × Trailed pending map changes.trail

use Rattle.std.proofs.Common.{ℕ, List, drop}
use Rattle.geo_records.specs.Operations.{Record}
use Rattle.geo_delta.specs.Changes.{KnowsBut, nothing_pending}
use Rattle.geo_delta.specs.Trails.{Trailed}
use Rattle.geo_site.specs.Noting.{is_listed}
use Rattle.geo_site.proofs.notes.note_behind.Given as goal

abbrev pub invariant-loop-changed : goal.invariant-loop-changed
invariant-loop-changed l = (map : List ℕ → Record) → KnowsBut nothing_pending l.after map → Trailed (is_listed l.records) map l.fn.trail → Trailed (is_listed (drop l.changed-index l.records)) map l.trail

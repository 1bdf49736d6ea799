use Rattle.std.proofs.Common.{◌≡◌, ◌≤◌, length}
use Rattle.geo_slabs.specs.Storage.{class_count}
use Rattle.geo_values.specs.Stock.{TestAnswers}
use Rattle.geo_values.specs.Links.{kept_in, links_in}
use Rattle.geo_values.proofs.Retained.{Retaining}
use Rattle.geo_values.proofs.parts.Parts.retain.Given as goal

abbrev pub invariant-loop-index : goal.invariant-loop-index
invariant-loop-index g l = (length l.self.classes.items ≡ class_count) × (length l.self.items.entries ≤ length l.fn.self.items.entries) × Retaining (TestAnswers g.F.Fn l.keep) (links_in l.fn.self) (kept_in l.self) l.index

use Rattle.std.proofs.Common.{◌||◌, ℕ, List, sym, subst}
use Rattle.geo_records.specs.Keys.{same_key}
use Rattle.geo_delta.specs.Trails.{Trailed}
use Rattle.geo_delta.proofs.trail.Trail.note.Goals as goal

pub returns-in-Ok-clause-trailed : goal.returns-in-Ok-clause-trailed
returns-in-Ok-clause-trailed c = λ pending at knows t.
    c.push.ensures.trailed pending at knows (subst (λ (k : List ℕ). Trailed (λ q. same_key q k || pending q) at c.args.self.now) (sym c.in-Ok.ensures.same) t)

use Rattle.std.proofs.Common.{◌∙◌, ap, sym, subst}
use Rattle.geo_site.specs.Standings.{who_of}
use Rattle.geo_history.specs.Keeping.{story_of, IsCounted}
use Rattle.geo_history.proofs.Eras.{renewed_kept, renewed_counted, renewed_who}
use Rattle.geo_history.proofs.kept.Kept.new_era.Goals as goal

pub invariant_of-self : goal.invariant_of-self
invariant_of-self c =
    let was = c.args.self.now in
    let new = c.new_era.new.self in
    let old = story_of was.parts in
    let does = c.new_era.ensures.does in
    let logged = was.parts.steps.logged in
    record {
      kept = renewed_kept logged old (story_of new) c.new_era.result does was.kept;
      counted = subst (λ counts. IsCounted new.opening new.steps.items counts) (ap (λ v. v.items) (sym c.new_era.ensures.counts)) (renewed_counted logged old (story_of new) was.parts.counts.items c.new_era.result does was.counted);
      who = renewed_who logged old (story_of new) c.new_era.result does ∙ was.who ∙ ap who_of (sym c.new_era.ensures.setup);
    }

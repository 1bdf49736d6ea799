use Rattle.std.proofs.Common.{sym, ◌∙◌, ap}
use Rattle.std.proofs.Math.Logic.{∥∥₁_map}
use Rattle.geo_history.specs.Keeping.{story_of}
use Rattle.geo_site.specs.Standings.{who_of}
use Rattle.geo_history.proofs.Calls.{goes_kept, fill_goes}
use Rattle.geo_history.proofs.kept.Kept.fill_for.Goals as goal

pub invariant_of-self : goal.invariant_of-self
invariant_of-self c =
    let old = c.args.self.now in
    let goes = fill_goes (story_of old.parts) (story_of c.fill_for.new.self) c.args.seat c.args.key.now c.args.bytes c.fill_for.result c.fill_for.ensures.does in
    record {
      kept = ∥∥₁_map old.kept (goes_kept goes);
      counted = c.fill_for.ensures.counted;
      who = goes.on.who ∙ old.who ∙ ap who_of (sym c.fill_for.ensures.setup);
    }

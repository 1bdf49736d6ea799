use Rattle.std.proofs.Common.{sym, ◌∙◌, ap}
use Rattle.std.proofs.Math.Logic.{∥∥₁_map}
use Rattle.geo_history.specs.Keeping.{story_of}
use Rattle.geo_site.specs.Standings.{who_of}
use Rattle.geo_history.proofs.Calls.{goes_kept, tick_goes}
use Rattle.geo_history.proofs.kept.Kept.tick_for.Goals as goal

pub invariant_of-self : goal.invariant_of-self
invariant_of-self c =
    let old = c.args.self.now in
    let goes = tick_goes (story_of old.parts) (story_of c.tick_for.new.self) c.args.seat c.args.now c.tick_for.result c.tick_for.ensures.does in
    record {
      kept = ∥∥₁_map old.kept (goes_kept goes);
      counted = c.tick_for.ensures.counted;
      who = goes.on.who ∙ old.who ∙ ap who_of (sym c.tick_for.ensures.setup);
    }

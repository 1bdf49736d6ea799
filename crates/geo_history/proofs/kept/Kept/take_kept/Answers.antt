use Rattle.std.proofs.Common.{sym, ◌∙◌, ap}
use Rattle.std.proofs.Math.Logic.{∥∥₁_map}
use Rattle.geo_history.specs.Keeping.{story_of}
use Rattle.geo_site.specs.Standings.{who_of}
use Rattle.geo_history.proofs.Calls.{goes_kept, take_goes}
use Rattle.geo_history.proofs.kept.Kept.take_kept.Goals as goal

pub invariant_of-self : goal.invariant_of-self
invariant_of-self c =
    let old = c.args.self.now in
    let goes = take_goes (story_of old.parts) (story_of c.take_kept.new.self) c.args.seat c.args.parcel c.take_kept.result c.take_kept.ensures.does in
    record {
      kept = ∥∥₁_map old.kept (goes_kept goes);
      counted = c.take_kept.ensures.counted;
      who = goes.on.who ∙ old.who ∙ ap who_of (sym c.take_kept.ensures.setup);
    }

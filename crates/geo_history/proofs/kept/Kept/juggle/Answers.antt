use Rattle.std.proofs.Common.{sym, ◌∙◌, ap}
use Rattle.std.proofs.Math.Logic.{∥∥₁_map}
use Rattle.geo_history.specs.Keeping.{story_of}
use Rattle.geo_site.specs.Standings.{who_of}
use Rattle.geo_history.proofs.Calls.{goes_kept, juggle_goes}
use Rattle.geo_history.proofs.kept.Kept.juggle.Goals as goal

pub invariant_of-self : goal.invariant_of-self
invariant_of-self c =
    let old = c.args.self.now in
    let goes = juggle_goes (story_of old.parts) (story_of c.juggle.new.self) c.args.class c.juggle.result c.juggle.ensures.does in
    record {
      kept = ∥∥₁_map old.kept (goes_kept goes);
      counted = c.juggle.ensures.counted;
      who = goes.on.who ∙ old.who ∙ ap who_of (sym c.juggle.ensures.setup);
    }

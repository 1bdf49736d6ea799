use Rattle.std.proofs.Common.{sym, ◌∙◌, ap}
use Rattle.std.proofs.Math.Logic.{∥∥₁_map}
use Rattle.geo_history.specs.Keeping.{story_of}
use Rattle.geo_site.specs.Standings.{who_of}
use Rattle.geo_history.proofs.Calls.{goes_kept, send_goes}
use Rattle.geo_history.proofs.kept.Kept.send_for.Goals as goal

pub invariant_of-self : goal.invariant_of-self
invariant_of-self c =
    let old = c.args.self.now in
    let goes = send_goes (story_of old.parts) (story_of c.send_for.new.self) c.args.seat c.args.to c.send_for.result c.send_for.ensures.does in
    record {
      kept = ∥∥₁_map old.kept (goes_kept goes);
      counted = c.send_for.ensures.counted;
      who = goes.on.who ∙ old.who ∙ ap who_of (sym c.send_for.ensures.setup);
    }

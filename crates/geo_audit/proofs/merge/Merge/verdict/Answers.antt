use Rattle.std.proofs.Common.{subst}
use Rattle.geo_audit.specs.Verdicts.{HasMore}
use Rattle.geo_audit.specs.Merging.{AllTaken}
use Rattle.geo_audit.proofs.Judging.{judged_sound, judged_stuck}
use Rattle.geo_audit.proofs.merge.Merge.verdict.Goals as goal

pub returns-then-are_taken : goal.returns-then-are_taken
returns-then-are_taken c = (c.requires.fresh, judged_sound c.args.histories.now c.args.self.counts.items c.args.self.sent.places.items c.args.self.play.world.sites.items c.args.self.play.world.parcels.items c.args.self.play.events.items c.requires.merging.merged (subst (λ counts. AllTaken c.args.histories.now counts) c.deref.ensures.value c.if-are_taken.ensures))

pub returns : goal.returns
returns c = (c.requires.fresh, judged_stuck c.args.histories.now c.args.self.counts.items c.args.self.sent.places.items c.args.self.play.world.sites.items c.args.self.play.world.parcels.items c.args.self.play.events.items c.requires.merging.merged c.requires.halt (subst (λ counts. HasMore c.args.histories.now counts) c.deref.ensures.value c.if-are_taken.ensures))

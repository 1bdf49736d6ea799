use Rattle.std.proofs.Common.{refl, ap, ◌∙◌}
use Rattle.std.proofs.Math.ListN.{set}
use Rattle.std.proofs.lemmas.List.{set-get_or}
use Rattle.geo_dialogue.proofs.session.know_digests.Goals as goal

pub loop-at-init : goal.loop-at-init
loop-at-init c = refl

pub loop-at-preserved : goal.loop-at-preserved
loop-at-preserved c =
    ap (set c.loop-at.items c.loop-at.at) c.know_digest.ensures
    ∙ set-get_or c.loop-at.items c.loop-at.at c.index-items-at.result ∙ c.loop-at.invariant

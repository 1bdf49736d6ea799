use Rattle.std.proofs.Common.{◌≡◌}
use Rattle.geo_dialogue.proofs.session.know_digests.Given as goal

abbrev pub invariant-loop-at : goal.invariant-loop-at
invariant-loop-at l = l.items ≡ l.fn.items

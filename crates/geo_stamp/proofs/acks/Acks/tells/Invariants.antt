use Rattle.std.proofs.Common.{◌≡◌, true}
use Rattle.geo_stamp.specs.Acks.{each_site, tells_of}
use Rattle.geo_stamp.proofs.acks.Acks.tells.Given as goal

abbrev pub invariant-loop-before : goal.invariant-loop-before
invariant-loop-before l = each_site l.before (tells_of l.self l.site l.vector) ≡ true

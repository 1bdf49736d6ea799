use Rattle.std.proofs.Common.{◌≡◌, true}
use Rattle.geo_stamp.specs.Acks.{each_site, agrees_with}
use Rattle.geo_stamp.proofs.acks.Acks.agrees.Given as goal

abbrev pub invariant-loop-before : goal.invariant-loop-before
invariant-loop-before l = each_site l.before (agrees_with l.self l.own l.vector) ≡ true

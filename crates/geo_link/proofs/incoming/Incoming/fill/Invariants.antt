use Rattle.std.proofs.Common.{◌≡◌, ◌-◌, false, length}
use Rattle.geo_link.specs.Streams.{ReadsOn}
use Rattle.geo_link.proofs.incoming.Incoming.fill.Given as goal

abbrev pub invariant-loop-self : goal.invariant-loop-self
invariant-loop-self g l = record {
  reads : ReadsOn l.fn.self l.self;
  works : l.fn.self.failed ≡ false → l.self.failed ≡ false;
}

abbrev pub decreases-loop-self : goal.decreases-loop-self
decreases-loop-self g l = l.least - length l.self.waiting

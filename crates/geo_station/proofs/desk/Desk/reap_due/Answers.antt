use Rattle.std.proofs.Common.{◌≡◌, ◌+◌, true≢false, arith}
use Rattle.geo_station.proofs.Caring.{care_then}
use Rattle.geo_station.proofs.desk.Desk.reap_due.Goals as goal

pub returns-in-Some-false-clause-counted : goal.returns-in-Some-false-clause-counted
returns-in-Some-false-clause-counted g c = record {
  others = 1;
  few = omega arith;
  none = λ e. absurd (true≢false e);
  most = omega (arith, c.loop-count-test.true, c.loop-count.auto.count-end);
  is = omega (arith, c.loop-count.invariant.1, c.in-Some-false.ensures.some);
}

pub returns-in-Some-false-clause-noted : goal.returns-in-Some-false-clause-noted
returns-in-Some-false-clause-noted g c = care_then c.args.self.now.journal c.loop-count.self.journal c.reap.new.self.journal c.args.account.now.mark c.loop-count.account.mark c.reap.new.account.mark c.loop-count.invariant.2 c.reap.ensures.noted

pub returns-in-None-clause-noted : goal.returns-in-None-clause-noted
returns-in-None-clause-noted g c = care_then c.args.self.now.journal c.loop-count.self.journal c.reap.new.self.journal c.args.account.now.mark c.loop-count.account.mark c.reap.new.account.mark c.loop-count.invariant.2 c.reap.ensures.noted

pub loop-count-preserved : goal.loop-count-preserved
loop-count-preserved g c = (
  c.reap.ensures.undue,
  omega (arith, c.loop-count.invariant.1, c.in-Some-true.ensures.some),
  care_then c.args.self.now.journal c.loop-count.self.journal c.reap.new.self.journal c.args.account.now.mark c.loop-count.account.mark c.reap.new.account.mark c.loop-count.invariant.2 c.reap.ensures.noted,
)

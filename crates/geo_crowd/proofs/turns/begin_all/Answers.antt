use Rattle.std.proofs.Common.{◌<◌, get_or, length, refl, arith}
use Rattle.geo_crowd.specs.Crowds.{carried_in}
use Rattle.geo_crowd.proofs.Listed.{same_flags, flags_next}
use Rattle.geo_crowd.proofs.Passing.{begin_none, begin_next, begin_all}
use Rattle.geo_crowd.proofs.turns.begin_all.Goals as goal

pub loop-at-init : goal.loop-at-init
loop-at-init g c = record { begin = begin_none c.args.listed.now (carried_in c.args.roster.now.members); flags = same_flags c.args.roster.now.members }

pub loop-at-preserved : goal.loop-at-preserved
loop-at-preserved g c =
    let i = c.loop-at.invariant in
    let lt : c.loop-at.at < length c.args.listed.now = omega (arith, c.loop-at-test.true, c.loop-at.auto.at-end) in
    record {
      begin = begin_next c.args.listed.now c.loop-at.at (get_or c.args.listed.now c.loop-at.at 0) c.begin.result (carried_in c.args.roster.now.members) (carried_in c.loop-at.roster.members) (carried_in c.begin.new.self.members) lt refl i.begin c.begin.ensures.begins;
      flags = flags_next (get_or c.args.listed.now c.loop-at.at 0) c.args.roster.now.members c.loop-at.roster.members c.begin.new.self.members i.flags c.begin.ensures.listed c.begin.ensures.unlisted c.begin.ensures.others;
    }

pub returns-clause-begins : goal.returns-clause-begins
returns-clause-begins g c = begin_all c.args.listed.now c.loop-at.at (carried_in c.args.roster.now.members) (carried_in c.loop-at.roster.members) (omega (arith, c.loop-at-test.false, c.loop-at.auto.at-end)) c.loop-at.invariant.begin

use Rattle.std.proofs.Common.{◌<◌, get_or, length, refl, arith}
use Rattle.geo_crowd.specs.Crowds.{carried_in}
use Rattle.geo_crowd.proofs.Listed.{same_flags, flags_next}
use Rattle.geo_crowd.proofs.Passing.{go_on_none, go_on_next, go_on_all}
use Rattle.geo_crowd.proofs.turns.go_on_all.Goals as goal

pub loop-at-init : goal.loop-at-init
loop-at-init g c = record { goes = go_on_none g.B.Backend.answers g.B.Backend.refuses c.args.listed.now (carried_in c.args.roster.now.members) c.args.backend.now; flags = same_flags c.args.roster.now.members }

pub loop-at-preserved : goal.loop-at-preserved
loop-at-preserved g c =
    let i = c.loop-at.invariant in
    let lt : c.loop-at.at < length c.args.listed.now = omega (arith, c.loop-at-test.true, c.loop-at.auto.at-end) in
    record {
      goes = go_on_next g.B.Backend.answers g.B.Backend.refuses c.args.listed.now c.loop-at.at (get_or c.args.listed.now c.loop-at.at 0) c.go_on.result (carried_in c.args.roster.now.members) (carried_in c.loop-at.roster.members) (carried_in c.go_on.new.self.members) c.args.backend.now
          c.loop-at.backend c.go_on.new.backend lt refl i.goes c.go_on.ensures.goes;
      flags = flags_next (get_or c.args.listed.now c.loop-at.at 0) c.args.roster.now.members c.loop-at.roster.members c.go_on.new.self.members i.flags c.go_on.ensures.listed c.go_on.ensures.unlisted c.go_on.ensures.others;
    }

pub returns-clause-goes : goal.returns-clause-goes
returns-clause-goes g c = go_on_all g.B.Backend.answers g.B.Backend.refuses c.args.listed.now c.loop-at.at (carried_in c.args.roster.now.members) (carried_in c.loop-at.roster.members) c.args.backend.now c.loop-at.backend (omega (arith, c.loop-at-test.false, c.loop-at.auto.at-end)) c.loop-at.invariant.goes

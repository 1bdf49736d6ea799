use Rattle.std.proofs.Common.{refl, cond, arith, sym, subst}
use Rattle.geo_station.specs.Wholes.{NotesCare}
use Rattle.geo_station.proofs.Counting.{maintained}
use Rattle.geo_station.proofs.Caring.{care_flush, care_then}
use Rattle.geo_station.proofs.desk.Desk.maintain_in_era.Goals as goal

pub returns-clause-ok : goal.returns-clause-ok
returns-clause-ok g c =
    let reaps = c.reap_due-reaps.ensures.counted in
    record {
      others = 1;
      few = omega arith;
      removal = λ r. refl;
      reaps = reaps.most;
      is = maintained c.args.account.now.count c.tick.new.account.count c.reap_due-reaps.new.account.count c.remove.new.account.count (cond c.in-Ok.flushed 1 0) c.reap_due-reaps.result.count reaps.others c.in-Ok.ensures.told reaps.is (reaps.none c.if-reaps.false) c.in-Some.ensures.some;
    }

pub returns-then-reaps-clause-noted : goal.returns-then-reaps-clause-noted
returns-then-reaps-clause-noted g c =
    care_then c.args.self.now.journal c.tick.new.self.journal c.reap_due-reaps.new.self.journal c.args.account.now.mark c.tick.new.account.mark c.reap_due-reaps.new.account.mark
    (care_flush c.args.self.now.journal c.tick.new.self.journal c.args.account.now.mark c.tick.new.account.mark c.args.now (c.in-Ok.flushed, c.in-Ok.ensures.noted))
    c.reap_due-reaps.ensures.noted

pub returns-in_default-remove-clause-noted : goal.returns-in_default-remove-clause-noted
returns-in_default-remove-clause-noted g c =
    let journal = c.args.self.now.journal in
    let mark = c.args.account.now.mark in
    let reaped = care_then journal c.tick.new.self.journal c.reap_due-reaps.new.self.journal mark c.tick.new.account.mark c.reap_due-reaps.new.account.mark
    (care_flush journal c.tick.new.self.journal mark c.tick.new.account.mark c.args.now (c.in-Ok.flushed, c.in-Ok.ensures.noted)) c.reap_due-reaps.ensures.noted in
    care_then journal c.reap_due-reaps.new.self.journal c.remove.new.self.journal mark c.reap_due-reaps.new.account.mark c.remove.new.account.mark reaped c.remove.ensures.noted

pub returns-clause-noted : goal.returns-clause-noted
returns-clause-noted g c =
    let journal = c.args.self.now.journal in
    let mark = c.args.account.now.mark in
    let reaped = care_then journal c.tick.new.self.journal c.reap_due-reaps.new.self.journal mark c.tick.new.account.mark c.reap_due-reaps.new.account.mark
    (care_flush journal c.tick.new.self.journal mark c.tick.new.account.mark c.args.now (c.in-Ok.flushed, c.in-Ok.ensures.noted)) c.reap_due-reaps.ensures.noted in
    subst (λ all. NotesCare journal all mark c.remove.new.account.mark) (sym c.juggle-moves.ensures)
    (care_then journal c.reap_due-reaps.new.self.journal c.remove.new.self.journal mark c.reap_due-reaps.new.account.mark c.remove.new.account.mark reaped c.remove.ensures.noted)

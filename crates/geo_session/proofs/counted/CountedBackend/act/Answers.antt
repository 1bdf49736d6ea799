use Rattle.std.proofs.Common.{◌≡◌}
use Rattle.geo_requests.specs.declared.reply.Reply.{Reply}
use Rattle.geo_station.specs.declared.refusal.SeatSpent.{SeatSpent}
use Rattle.geo_session.specs.Seats.{AnswersCounted, RefusesCounted, asker}
use Rattle.geo_session.proofs.Answered.{answer_beside, refusal_beside}
use Rattle.geo_session.proofs.counted.CountedBackend.act.Goals as goal

pub returns-clause-some : goal.returns-clause-some
returns-clause-some g c =
    answer_beside (c.act_by.new.self.clock ≡ c.args.self.now.clock)
    (λ (r : Reply). AnswersCounted (g.C.Clock.shows c.args.self.now.clock.now) (asker c.args.self.now.seat c.args.self.now.last c.args.self.now.counts)
    (asker c.act_by.new.self.seat c.act_by.new.self.last c.act_by.new.self.counts) c.args.request r) c.act_by.result c.act_by.ensures.clock c.act_by.ensures.some

pub returns-clause-none : goal.returns-clause-none
returns-clause-none g c =
    refusal_beside (c.act_by.new.self.clock ≡ c.args.self.now.clock)
    (λ (spent : SeatSpent). RefusesCounted (g.C.Clock.shows c.args.self.now.clock.now) (asker c.args.self.now.seat c.args.self.now.last c.args.self.now.counts)
    (asker c.act_by.new.self.seat c.act_by.new.self.last c.act_by.new.self.counts) c.args.request spent) c.act_by.result c.act_by.ensures.clock c.act_by.ensures.none

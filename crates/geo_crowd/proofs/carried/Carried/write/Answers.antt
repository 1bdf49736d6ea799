use Rattle.std.proofs.Common.{inr, subst}
use Rattle.geo_crowd.specs.Carrying.{Carriage, MayWrite, Writes}
use Rattle.geo_crowd.proofs.Moves.{carries_sent}
use Rattle.geo_crowd.proofs.carried.Carried.write.Goals as goal

pub invariant_of-self : goal.invariant_of-self
invariant_of-self g c =
    carries_sent (g.S.Stream.contents c.self.inside.stream) (g.S.Stream.contents c.send-sent.new.stream) c.self.inside.session c.send-sent.new.session c.send-sent.result c.self.inside.outcome c.outcome-self-inside.result c.self.invariant
    c.send-sent.ensures.sends c.outcome-self-inside.ensures

pub returns : goal.returns
returns g c =
    let old : Carriage = record {
      left = g.S.Stream.remaining c.self.inside.stream;
      written = g.S.Stream.contents c.self.inside.stream;
      given = g.S.Stream.last_given c.self.inside.stream;
      accepted = g.S.Stream.last_accepted c.self.inside.stream;
      session = c.self.inside.session;
      outcome = c.self.inside.outcome;
    } in
    let new : Carriage = record {
      left = g.S.Stream.remaining c.send-sent.new.stream;
      written = g.S.Stream.contents c.send-sent.new.stream;
      given = g.S.Stream.last_given c.send-sent.new.stream;
      accepted = g.S.Stream.last_accepted c.send-sent.new.stream;
      session = c.send-sent.new.session;
      outcome = c.outcome-self-inside.result;
    } in
    let wrote : Writes old new = record {
      result = c.send-sent.result;
      ends = c.send-sent.ensures.ends;
      outcome = c.outcome-self-inside.ensures;
      sends = c.send-sent.ensures.sends;
      left = c.send-sent.ensures.stays;
      given = c.send-sent.ensures.given;
    } in
    let step : MayWrite old new = inr wrote in
    subst (λ (v : Carriage). MayWrite v new) c.self.view_is step

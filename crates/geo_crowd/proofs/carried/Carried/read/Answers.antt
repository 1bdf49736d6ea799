use Rattle.std.proofs.Common.{◌≡◌, true, sym, ap, subst, ◌∙◌, inr}
use Rattle.geo_dialogue.specs.Connections.{IsSettled}
use Rattle.geo_crowd.specs.Carrying.{Carriage, Hears, IsCarried, MayHear, MayRead}
use Rattle.geo_crowd.proofs.Moves.{carries_read}
use Rattle.geo_crowd.proofs.carried.Carried.read.Goals as goal

pub invariant_of-self : goal.invariant_of-self
invariant_of-self g c =
    let may = c.may_read.ensures c.if-not-may_read.false in
    let goes : c.self.inside.session.goes_on ≡ true = ap (λ (v : Carriage). v.session.goes_on) c.self.view_is ∙ may.goes_on in
    let settled : IsSettled c.self.inside.session = subst (λ (v : Carriage). IsSettled v.session) (sym c.self.view_is) may.settled in
    let kept = carries_read (g.S.Stream.contents c.self.inside.stream) c.self.inside.session c.take-came.new.session c.self.inside.outcome c.self.invariant goes settled c.take-came.result
    (g.S.Stream.remaining c.self.inside.stream) (g.S.Stream.remaining c.take-came.new.stream) (g.S.Stream.last_given c.take-came.new.stream) c.outcome-self-inside.result c.take-came.ensures.reads c.outcome-self-inside.ensures in
    subst (λ v. IsCarried v c.take-came.new.session c.outcome-self-inside.result) (sym c.take-came.ensures.stays) kept

pub returns : goal.returns
returns g c =
    let old : Carriage = record {
      left = g.S.Stream.remaining c.self.inside.stream;
      written = g.S.Stream.contents c.self.inside.stream;
      given = g.S.Stream.last_given c.self.inside.stream;
      accepted = g.S.Stream.last_accepted c.self.inside.stream;
      session = c.self.inside.session;
      outcome = c.self.inside.outcome;
    } in
    let new : Carriage = record {
      left = g.S.Stream.remaining c.take-came.new.stream;
      written = g.S.Stream.contents c.take-came.new.stream;
      given = g.S.Stream.last_given c.take-came.new.stream;
      accepted = g.S.Stream.last_accepted c.take-came.new.stream;
      session = c.take-came.new.session;
      outcome = c.outcome-self-inside.result;
    } in
    let may : MayRead old = subst MayRead (sym c.self.view_is) (c.may_read.ensures c.if-not-may_read.false) in
    let heard : Hears old new = record {
      may = may;
      result = c.take-came.result;
      reads = c.take-came.ensures.reads;
      outcome = c.outcome-self-inside.ensures;
      written = c.take-came.ensures.stays;
      accepted = c.take-came.ensures.accepted;
    } in
    let step : MayHear old new = inr heard in
    subst (λ (v : Carriage). MayHear v new) c.self.view_is step

use Rattle.std.proofs.Common.{sym, refl, subst, inr}
use Rattle.geo_crowd.specs.Carrying.{Carriage, CanGoOn, MayGoOn, Proceeds}
use Rattle.geo_crowd.proofs.Moves.{carries_gone, gone_by}
use Rattle.geo_crowd.proofs.carried.Carried.go_on.Goals as goal

pub invariant_of-self : goal.invariant_of-self
invariant_of-self g c =
    let can = rw c.if-not-may_go_on.false at c.may_go_on.ensures in
    let old : Carriage = record {
      left = g.S.Stream.remaining c.self.inside.stream;
      written = g.S.Stream.contents c.self.inside.stream;
      given = g.S.Stream.last_given c.self.inside.stream;
      accepted = g.S.Stream.last_accepted c.self.inside.stream;
      session = c.self.inside.session;
      outcome = c.self.inside.outcome;
    } in
    let here : CanGoOn old = subst CanGoOn (sym c.self.view_is) can in
    carries_gone g.B.Backend.answers g.B.Backend.refuses (g.S.Stream.contents c.self.inside.stream) c.self.inside.session c.go_along-gone.new.self c.self.inside.outcome c.args.backend.now c.go_along-gone.new.backend c.self.invariant here.waits
    c.go_along-gone.result c.outcome_behind-self-inside.result c.go_along-gone.ensures.ok c.go_along-gone.ensures.err c.outcome_behind-self-inside.ensures

pub returns : goal.returns
returns g c =
    let can = rw c.if-not-may_go_on.false at c.may_go_on.ensures in
    let old : Carriage = record {
      left = g.S.Stream.remaining c.self.inside.stream;
      written = g.S.Stream.contents c.self.inside.stream;
      given = g.S.Stream.last_given c.self.inside.stream;
      accepted = g.S.Stream.last_accepted c.self.inside.stream;
      session = c.self.inside.session;
      outcome = c.self.inside.outcome;
    } in
    let new : Carriage = record old { session = c.go_along-gone.new.self; outcome = c.outcome_behind-self-inside.result } in
    let here : CanGoOn old = subst CanGoOn (sym c.self.view_is) can in
    let proceeds : Proceeds g.B.Backend.answers g.B.Backend.refuses old new c.args.backend.now c.go_along-gone.new.backend = record {
      can = here;
      gone = gone_by g.B.Backend.answers g.B.Backend.refuses c.go_along-gone.result old new c.args.backend.now c.go_along-gone.new.backend c.go_along-gone.ensures.ok c.go_along-gone.ensures.far c.go_along-gone.ensures.err c.outcome_behind-self-inside.ensures;
      left = refl;
      written = refl;
      given = refl;
      accepted = refl;
    } in
    let step : MayGoOn g.B.Backend.answers g.B.Backend.refuses old new c.args.backend.now c.go_along-gone.new.backend = inr proceeds in
    subst (λ (v : Carriage). MayGoOn g.B.Backend.answers g.B.Backend.refuses v new c.args.backend.now c.go_along-gone.new.backend) c.self.view_is step

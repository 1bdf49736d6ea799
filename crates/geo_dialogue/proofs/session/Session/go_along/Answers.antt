use Rattle.std.proofs.Common.{◌≡◌, false, refl, sym, ap, subst, ◌∙◌}
use Rattle.geo_dialogue.specs.Connections.{Connection, GoesOn, BreaksOff}
use Rattle.geo_dialogue.proofs.Going.{connection_of, session_goes, session_breaks}
use Rattle.geo_dialogue.proofs.session.Session.go_along.Goals as goal

pub returns-in-Ok-clause-ok : goal.returns-in-Ok-clause-ok
returns-in-Ok-clause-ok g c =
    let i = c.self.inside in
    subst (λ (x : Connection). GoesOn g.B.Backend.answers x (connection_of i.requests c.go_on.new.self i.sent i.goes_on) c.args.backend.now c.go_on.new.backend) (c.self.view_is ∙ c.forget_sent.ensures)
    (session_goes g.B.Backend.answers i.requests i.pending c.go_on.new.self i.sent c.args.backend.now c.go_on.new.backend c.in-Ok.ensures.grows c.self.invariant.within i.goes_on c.in-Ok.ensures.ok)

pub returns-in-Err-clause-err : goal.returns-in-Err-clause-err
returns-in-Err-clause-err g c =
    let i = c.self.inside in
    subst (λ (x : Connection). BreaksOff g.B.Backend.answers g.B.Backend.refuses c.in-Err.fault x (connection_of i.requests c.let_go.new.self i.sent false) c.args.backend.now c.go_on.new.backend) (c.self.view_is ∙ c.forget_sent.ensures)
    (session_breaks g.B.Backend.answers i.requests i.pending c.go_on.new.self i.sent c.args.backend.now c.go_on.new.backend c.in-Err.ensures.grows c.self.invariant.within g.B.Backend.refuses c.in-Err.fault c.let_go.new.self i.goes_on c.in-Err.ensures.err
    c.let_go.ensures.answers c.let_go.ensures.waiting c.let_go.ensures.telling)

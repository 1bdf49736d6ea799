use Rattle.std.proofs.Common.{refl, sym, ap, ◌∙◌}
use Rattle.geo_grammar.specs.Protocol.{items_of}
use Rattle.geo_dialogue.specs.declared.answers.Course.TheVariants.{Open, Quits}
use Rattle.geo_dialogue.specs.declared.fault.SessionFault.TheVariants as fault_of
use Rattle.geo_dialogue.proofs.Lists.{at_err}
use Rattle.geo_dialogue.proofs.Pieces.{broken_before, broken_lost, broken_spent, answered_all}
use Rattle.geo_dialogue.proofs.session.answer_piece.Goals as goal

pub returns-in_err-items-clause-err : goal.returns-in_err-items-clause-err
returns-in_err-items-clause-err g c =
    let more = c.items_of_longer.ensures c.args.requests.now c.args.piece.now in
    at_err _ fault_of.Memory _ c.from_residual.ensures.1
    (broken_before g.B.Backend.answers g.B.Backend.refuses c.args.piece.now c.args.requests.now c.args.answers.now c.args.answers.now c.args.backend.now c.args.backend.now more.0 c.requires more.1 refl refl)

pub returns-in_err-course-clause-err : goal.returns-in_err-course-clause-err
returns-in_err-course-clause-err g c =
    let read = c.in_ok-items.ensures.text in
    at_err _ fault_of.Memory _ c.from_residual-in_err-course.ensures.1
    (broken_lost g.B.Backend.answers g.B.Backend.refuses c.args.piece.now c.args.requests.now c.feed.new.self c.in_ok-items.items.items c.args.answers.now c.answer_items.new.self c.args.backend.now c.answer_items.new.backend c.requires read
    (ap items_of (sym read) ∙ c.in_ok-items.ensures.items) c.in_err-course.ensures.err)

pub returns-in-Spent-clause-err : goal.returns-in-Spent-clause-err
returns-in-Spent-clause-err g c =
    let read = c.in_ok-items.ensures.text in
    broken_spent g.B.Backend.answers g.B.Backend.refuses c.args.piece.now c.args.requests.now c.feed.new.self c.in_ok-items.items.items c.args.answers.now c.answer_items.new.self c.args.backend.now c.answer_items.new.backend c.requires read
    (ap items_of (sym read) ∙ c.in_ok-items.ensures.items) (rw c.in-Spent.is at c.in_ok-course.ensures.ok)

pub returns-in-Quits-clause-ok : goal.returns-in-Quits-clause-ok
returns-in-Quits-clause-ok g c =
    let read = c.in_ok-items.ensures.text in
    let h = rw c.in-Quits.is at c.in_ok-course.ensures.ok in
    answered_all g.B.Backend.answers g.B.Backend.refuses c.args.piece.now c.args.requests.now c.feed.new.self c.in_ok-items.items.items c.args.answers.now c.answer_items.new.self c.args.backend.now c.answer_items.new.backend c.requires read
    (ap items_of (sym read) ∙ c.in_ok-items.ensures.items) Quits h h.course_is.1 h.course_is.2

pub returns-in-Open-clause-ok : goal.returns-in-Open-clause-ok
returns-in-Open-clause-ok g c =
    let read = c.in_ok-items.ensures.text in
    let h = rw c.in-Open.is at c.in_ok-course.ensures.ok in
    answered_all g.B.Backend.answers g.B.Backend.refuses c.args.piece.now c.args.requests.now c.feed.new.self c.in_ok-items.items.items c.args.answers.now c.answer_items.new.self c.args.backend.now c.answer_items.new.backend c.requires read
    (ap items_of (sym read) ∙ c.in_ok-items.ensures.items) Open h h.course_is.1 h.course_is.2

pub returns-in-Open-2-clause-ok : goal.returns-in-Open-2-clause-ok
returns-in-Open-2-clause-ok g c =
    let read = c.in_ok-items.ensures.text in
    let h = rw c.in-Open-2.is at c.in_ok-course.ensures.ok in
    answered_all g.B.Backend.answers g.B.Backend.refuses c.args.piece.now c.args.requests.now c.feed.new.self c.in_ok-items.items.items c.args.answers.now c.answer_items.new.self c.args.backend.now c.answer_items.new.backend c.requires read
    (ap items_of (sym read) ∙ c.in_ok-items.ensures.items) Open h h.course_is.1 h.course_is.2

use Rattle.std.proofs.Common.{sym, subst, ◌∙◌}
use Rattle.geo_dialogue.specs.Batches.{ServedPart}
use Rattle.geo_dialogue.specs.declared.fault.SessionFault.{SessionFault}
use Rattle.geo_dialogue.proofs.Lists.{at_err}
use Rattle.geo_dialogue.proofs.Pieces.{served, served_read, served_end, served_on, served_settled, served_part, unwritten, broken_blames}
use Rattle.geo_dialogue.proofs.serving.serve_piece.Goals as goal

pub returns-in_err-send_owed-clause-err : goal.returns-in_err-send_owed-clause-err
returns-in_err-send_owed-clause-err g c =
    let u = g.O.Write.contents c.args.writer.now.inner in
    let v = g.O.Write.contents c.send_owed.new.writer.inner in
    let part = unwritten g.B.Backend.answers g.B.Backend.refuses c.args.piece.now c.args.session.now c.take-taken.new.self c.send_owed.new.session c.args.backend.now c.take-taken.new.backend u v c.requires.paid c.send_owed.ensures.sends c.take-taken.result c.take-taken.ensures.ok c.take-taken.ensures.err in
    at_err _ c.in_err-send_owed.field-0.0 _ c.from_residual.ensures.1
    (subst (λ (f : SessionFault). ServedPart g.B.Backend.answers g.B.Backend.refuses f c.args.piece.now c.args.session.now.read c.args.backend.now c.take-taken.new.backend u v) (sym c.in_err-send_owed.ensures.err) part)

pub returns-clause-ok : goal.returns-clause-ok
returns-clause-ok g c = served g.B.Backend.answers g.B.Backend.refuses c.args.piece.now c.args.session.now c.take-taken.new.self c.send_owed.new.session c.args.backend.now c.take-taken.new.backend _ _ c.requires.paid c.send_owed.ensures.sends c.take-taken.result c.take-taken.ensures.ok c.in_ok-send_owed.ensures.ok

pub returns-clause-read : goal.returns-clause-read
returns-clause-read g c = served_read g.B.Backend.answers g.B.Backend.refuses c.args.piece.now c.args.session.now c.take-taken.new.self c.send_owed.new.session c.args.backend.now c.take-taken.new.backend _ _ c.requires.paid c.send_owed.ensures.sends c.take-taken.result c.take-taken.ensures.ok

pub returns-clause-end : goal.returns-clause-end
returns-clause-end g c = served_end g.B.Backend.answers g.B.Backend.refuses c.args.piece.now c.args.session.now c.take-taken.new.self c.send_owed.new.session c.args.backend.now c.take-taken.new.backend _ _ c.requires.paid c.send_owed.ensures.sends c.take-taken.result c.take-taken.ensures.end

pub returns-clause-goes_on : goal.returns-clause-goes_on
returns-clause-goes_on g c = served_on g.B.Backend.answers g.B.Backend.refuses c.args.piece.now c.args.session.now c.take-taken.new.self c.send_owed.new.session c.args.backend.now c.take-taken.new.backend _ _ c.requires.paid c.send_owed.ensures.sends c.take-taken.result c.take-taken.ensures.goes_on

pub returns-clause-err : goal.returns-clause-err
returns-clause-err g c = served_part g.B.Backend.answers g.B.Backend.refuses c.args.piece.now c.args.session.now c.take-taken.new.self c.send_owed.new.session c.args.backend.now c.take-taken.new.backend _ _ c.requires.paid c.send_owed.ensures.sends c.take-taken.result c.take-taken.ensures.err c.in_ok-send_owed.ensures.ok

pub returns-clause-unread : goal.returns-clause-unread
returns-clause-unread g c = (broken_blames g.B.Backend.answers g.B.Backend.refuses c.args.piece.now c.args.session.now c.take-taken.new.self c.args.backend.now c.take-taken.new.backend c.take-taken.result c.take-taken.ensures.err).0

pub returns-clause-blames : goal.returns-clause-blames
returns-clause-blames g c = λ fresh. c.in_ok-send_owed.ensures.works fresh ∙ sym (broken_blames g.B.Backend.answers g.B.Backend.refuses c.args.piece.now c.args.session.now c.take-taken.new.self c.args.backend.now c.take-taken.new.backend c.take-taken.result c.take-taken.ensures.err).1

pub returns-clause-settled : goal.returns-clause-settled
returns-clause-settled g c = served_settled g.B.Backend.answers g.B.Backend.refuses c.args.piece.now c.args.session.now c.take-taken.new.self c.send_owed.new.session c.args.backend.now c.take-taken.new.backend _ _ c.requires.paid c.send_owed.ensures.sends c.take-taken.result c.take-taken.ensures.ok

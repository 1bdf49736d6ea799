use Rattle.std.proofs.Common.{refl, sym, ap, subst, ◌∙◌, ◌≡◌, cond, [], List, length}
use Rattle.std.specs.Option.{unwrap_or}
use Rattle.geo_grammar.specs.Quitting.{is_quit, until_quit}
use Rattle.geo_dialogue.specs.declared.fault.SessionFault.TheVariants.{Memory}
use Rattle.geo_dialogue.specs.Connections.{GoesOn}
use Rattle.geo_dialogue.specs.Pendings.{debt_of, with_item}
use Rattle.geo_dialogue.proofs.Lists.{at_err}
use Rattle.geo_dialogue.proofs.Going.{lost_one, refused_one, whole_one, part_one, as_long, no_shorter}
use Rattle.geo_dialogue.proofs.pending.Pending.answer.Goals as goal

pub returns-in_err-begun-clause-err : goal.returns-in_err-begun-clause-err
returns-in_err-begun-clause-err g c = at_err _ Memory _ c.from_residual.ensures.1
    (lost_one g.B.Backend.answers g.B.Backend.refuses c.args.item c.args.self.now (record c.args.self.now { answers = c.begin_item.new.self }) c.begin_item.new.self c.args.backend.now c.begin_item.new.backend c.requires refl c.in_err-begun.ensures.err)

pub returns-in-Refused-clause-err : goal.returns-in-Refused-clause-err
returns-in-Refused-clause-err g c =
    refused_one g.B.Backend.answers g.B.Backend.refuses c.args.item c.args.self.now c.end_waiting.new.self c.begin_item.new.self c.args.backend.now c.begin_item.new.backend c.requires c.end_waiting.ensures.answers
    (rw c.in-Refused.is at c.in_ok-begun.ensures.ok)

pub returns-in-Part-clause-ok : goal.returns-in-Part-clause-ok
returns-in-Part-clause-ok g c =
    let set = c.begin_telling.ensures in
    let part = rw c.in-Part.is at c.in_ok-begun.ensures.ok in
    subst (λ b. GoesOn g.B.Backend.answers (with_item c.args.item c.args.self.now) (debt_of c.begin_telling.new.self) c.args.backend.now b) (sym c.rest.ensures)
    (part_one g.B.Backend.answers g.B.Backend.refuses c.args.item c.args.self.now c.begin_telling.new.self c.begin_item.new.self c.args.backend.now c.begin_item.new.backend c.requires
    (set.answers ∙ c.end_waiting.ensures.answers) c.in-Part.telling part (ap (λ x. unwrap_or x []) set.telling)
    (ap (λ x. until_quit x.items) set.waiting ∙ c.end_waiting.ensures.waiting ∙ ap (λ b. cond b [] (until_quit c.args.self.now.waiting.items)) c.is_quit-quits.ensures))

pub returns-in-Whole-clause-ok : goal.returns-in-Whole-clause-ok
returns-in-Whole-clause-ok g c =
    whole_one g.B.Backend.answers g.B.Backend.refuses c.args.item c.args.self.now c.end_waiting.new.self c.begin_item.new.self c.args.backend.now c.begin_item.new.backend c.requires c.end_waiting.ensures.answers
    (rw c.in-Whole.is at c.in_ok-begun.ensures.ok) (c.end_waiting.ensures.telling ∙ c.requires)
    (c.end_waiting.ensures.waiting ∙ ap (λ b. cond b [] (until_quit c.args.self.now.waiting.items)) c.is_quit-quits.ensures)

use Rattle.std.proofs.Common.{◌+◌, ◌<◌, ◌≤◌, refl, ap, length, arith}
use Rattle.std.specs.VecDeque.{deque_len}
use Rattle.geo_dialogue.specs.Pendings.{debt_of}
use Rattle.geo_dialogue.specs.declared.fault.SessionFault.TheVariants.{Memory}
use Rattle.geo_dialogue.proofs.Lists.{at_err}
use Rattle.geo_dialogue.proofs.Going.{going_then, going_by_telling, telling_fails, breaks_then, in_front, fails_in_front}
use Rattle.geo_dialogue.proofs.pending.Pending.go_on.Goals as goal

pub returns-in_err-tell_on-clause-err : goal.returns-in_err-tell_on-clause-err
returns-in_err-tell_on-clause-err g c =
    let p = c.args.self.now in
    let q = c.tell_on.new.self in
    let s = c.args.backend.now in
    at_err _ Memory _ c.from_residual.ensures.1
    (breaks_then g.B.Backend.answers g.B.Backend.refuses Memory (debt_of p) (debt_of q) (debt_of q) s s s (going_by_telling g.B.Backend.answers p q s c.tell_on.ensures.tells) (telling_fails g.B.Backend.answers g.B.Backend.refuses (debt_of q) s c.in_err-tell_on.ensures.asks))

pub loop-self-smaller : goal.loop-self-smaller
loop-self-smaller g c =
    let stood = ap (λ w. deque_len w) c.tell_on-in-loop-self.ensures.tells.waiting in
    omega (arith, c.in-Some.ensures.len, c.in_ok-answer.ensures.fewer, stood)

pub loop-self-preserved : goal.loop-self-preserved
loop-self-preserved g c =
    let i = c.loop-self.invariant in
    let p = c.loop-self.self in
    let popped = record p { waiting = c.pop_front.new.self } in
    let q = c.answer.new.self in
    let r = c.tell_on-in-loop-self.new.self in
    let tells = c.tell_on-in-loop-self.ensures.tells in
    record {
      went = going_then g.B.Backend.answers (debt_of c.args.self.now) (debt_of p) (debt_of r) c.args.backend.now c.loop-self.backend c.answer.new.backend i.went
          (going_then g.B.Backend.answers (debt_of p) (debt_of q) (debt_of r) c.loop-self.backend c.answer.new.backend c.answer.new.backend
          (in_front g.B.Backend.answers c.in-Some.item p popped (debt_of q) c.loop-self.backend c.answer.new.backend c.in-Some.ensures.items refl refl c.in_ok-answer.ensures.ok)
          (going_by_telling g.B.Backend.answers q r c.answer.new.backend tells));
      grows = omega (arith, i.grows, c.in_ok-answer.ensures.grows, tells.grows);
      far = c.in_ok-tell_on-2.ensures.far;
    }

pub returns-in_err-answer-clause-err : goal.returns-in_err-answer-clause-err
returns-in_err-answer-clause-err g c =
    let i = c.loop-self.invariant in
    let p = c.loop-self.self in
    let popped = record p { waiting = c.pop_front.new.self } in
    let q = c.answer.new.self in
    let fault = c.in_err-answer.field-0.0 in
    at_err _ fault _ c.from_residual-in_err-answer.ensures.1
    (breaks_then g.B.Backend.answers g.B.Backend.refuses fault (debt_of c.args.self.now) (debt_of p) (debt_of q) c.args.backend.now c.loop-self.backend c.answer.new.backend i.went
    (fails_in_front g.B.Backend.answers g.B.Backend.refuses fault c.in-Some.item p popped (debt_of q) c.loop-self.backend c.answer.new.backend c.in-Some.ensures.items refl refl c.in_err-answer.ensures.err))

pub returns-in_err-tell_on-2-clause-err : goal.returns-in_err-tell_on-2-clause-err
returns-in_err-tell_on-2-clause-err g c =
    let i = c.loop-self.invariant in
    let p = c.loop-self.self in
    let popped = record p { waiting = c.pop_front.new.self } in
    let q = c.answer.new.self in
    let r = c.tell_on-in-loop-self.new.self in
    let tells = c.tell_on-in-loop-self.ensures.tells in
    let went = going_then g.B.Backend.answers (debt_of c.args.self.now) (debt_of p) (debt_of r) c.args.backend.now c.loop-self.backend c.answer.new.backend i.went
    (going_then g.B.Backend.answers (debt_of p) (debt_of q) (debt_of r) c.loop-self.backend c.answer.new.backend c.answer.new.backend
    (in_front g.B.Backend.answers c.in-Some.item p popped (debt_of q) c.loop-self.backend c.answer.new.backend c.in-Some.ensures.items refl refl c.in_ok-answer.ensures.ok)
    (going_by_telling g.B.Backend.answers q r c.answer.new.backend tells)) in
    at_err _ Memory _ c.from_residual-in_err-tell_on-2.ensures.1
    (breaks_then g.B.Backend.answers g.B.Backend.refuses Memory (debt_of c.args.self.now) (debt_of r) (debt_of r) c.args.backend.now c.answer.new.backend c.answer.new.backend went (telling_fails g.B.Backend.answers g.B.Backend.refuses (debt_of r) c.answer.new.backend c.in_err-tell_on-2.ensures.asks))

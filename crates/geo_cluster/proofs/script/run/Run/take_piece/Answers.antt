use Rattle.std.proofs.Common.{arith, refl, ◌≡◌, ◌++◌, ◌∷◌, [], List, ℕ, sym, ap, subst, ◌∙◌, append_assoc, append-nil}
use Rattle.geo_cluster.specs.Lines.{ended_in, left_in}
use Rattle.geo_cluster.specs.Runs.{Stops}
use Rattle.geo_cluster.proofs.Cutting.{cut_some_says, cut_none_says}
use Rattle.geo_cluster.proofs.Playing.{at_err, advance_none, advance_then, stop_after, stop_more}
use Rattle.geo_cluster.proofs.script.run.Run.take_piece.Goals as goal

pub returns-in_err-end_line-clause-err : goal.returns-in_err-end_line-clause-err
returns-in_err-end_line-clause-err g c =
    let a = c.args.self.now in
    let b = c.loop-front.self in
    let inv = c.loop-front.invariant in
    let front = c.in-Some.front.now in
    let back = c.in-Some.back.now in
    let cut = cut_some_says c.loop-front.rest.now b.unfinished.items front back c.in-Some.ensures in
    let line = b.unfinished.items ++ front in
    let fault = c.in_err-end_line.field-0.0 in
    let u = g.W.Write.contents c.args.writer.now.inner in
    let v = g.W.Write.contents c.loop-front.writer.inner in
    let w = g.W.Write.contents c.end_line.new.writer.inner in
    let waits = c.end_line.new.self.out.items in
    let split : (inv.done ++ line ∷ []) ++ ended_in [] back ≡ ended_in a.unfinished.items c.args.piece.now =
    append_assoc inv.done (line ∷ []) (ended_in [] back) ∙ ap (λ (x : List (List ℕ)). inv.done ++ x) (sym cut.ended) ∙ sym inv.ended in
    at_err _ fault _ c.from_residual.ensures.1
    (subst (λ (x : List (List ℕ)). Stops fault a x u w waits) split
    (stop_more fault a (inv.done ++ line ∷ []) (ended_in [] back) u w waits
    (stop_after fault a b inv.done (line ∷ []) u v w waits inv.advances c.in_err-end_line.ensures.err)))

pub loop-front-smaller : goal.loop-front-smaller
loop-front-smaller g c = (cut_some_says c.loop-front.rest.now c.loop-front.self.unfinished.items c.in-Some.front.now c.in-Some.back.now c.in-Some.ensures).shorter

pub loop-front-preserved : goal.loop-front-preserved
loop-front-preserved g c =
    let a = c.args.self.now in
    let b = c.loop-front.self in
    let d = c.end_line.new.self in
    let inv = c.loop-front.invariant in
    let front = c.in-Some.front.now in
    let back = c.in-Some.back.now in
    let cut = cut_some_says c.loop-front.rest.now b.unfinished.items front back c.in-Some.ensures in
    let line = b.unfinished.items ++ front in
    let ended = c.in_ok-end_line.ensures.ended in
    record {
      done = inv.done ++ line ∷ [];
      ended = inv.ended ∙ ap (λ (x : List (List ℕ)). inv.done ++ x) cut.ended ∙ sym (append_assoc inv.done (line ∷ []) (ended_in [] back)) ∙ ap (λ (x : List ℕ). (inv.done ++ line ∷ []) ++ ended_in x back) (sym ended.0);
      left = inv.left ∙ cut.left ∙ ap (λ (x : List ℕ). left_in x back) (sym ended.0);
      advances = advance_then a b d inv.done (line ∷ []) (g.W.Write.contents c.args.writer.now.inner) (g.W.Write.contents c.loop-front.writer.inner) (g.W.Write.contents c.end_line.new.writer.inner) inv.advances c.in_ok-end_line.ensures.ok;
      room = omega (arith, inv.room, cut.shorter, c.in_ok-end_line.ensures.room.0, c.in_ok-end_line.ensures.room.1);
      wide = omega (arith, inv.wide, c.in_ok-end_line.ensures.room.1);
      few = omega (arith, inv.few, ended.1, cut.shorter);
    }

pub returns-clause-ok : goal.returns-clause-ok
returns-clause-ok g c =
    let a = c.args.self.now in
    let b = c.loop-front.self in
    let inv = c.loop-front.invariant in
    let uncut = cut_none_says c.loop-front.rest.now b.unfinished.items c.in_default.ensures in
    let all : ended_in a.unfinished.items c.args.piece.now ≡ inv.done = inv.ended ∙ ap (λ (x : List (List ℕ)). inv.done ++ x) uncut.ended ∙ append-nil inv.done in
    λ p st.
    let h = inv.advances p st in
    rw all (record { text = h.text; progress = h.progress; plays = h.plays; stands = h.stands; count = h.count; prints = h.prints })

pub returns-clause-left : goal.returns-clause-left
returns-clause-left g c =
    let uncut = cut_none_says c.loop-front.rest.now c.loop-front.self.unfinished.items c.in_default.ensures in
    c.in-Ok.ensures.items ∙ sym (c.loop-front.invariant.left ∙ uncut.left)

pub loop-front-init : goal.loop-front-init
loop-front-init g c = record { done = []; ended = refl; left = refl; advances = advance_none c.args.self.now (g.W.Write.contents c.args.writer.now.inner); room = c.requires.room; wide = omega arith; few = omega arith }

pub end_line-requires-clause-room : goal.end_line-requires-clause-room
end_line-requires-clause-room g c =
    let within = (cut_some_says c.loop-front.rest.now c.loop-front.self.unfinished.items c.in-Some.front.now c.in-Some.back.now c.in-Some.ensures).within in
    let room = c.loop-front.invariant.room in
    omega (arith, room, within)

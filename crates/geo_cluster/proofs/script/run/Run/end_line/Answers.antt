use Rattle.std.proofs.Common.{rules, refl, ◌≡◌, ◌+◌, ◌++◌, ◌∷◌, [], List, ℕ, subst}
use Rattle.geo_cluster.specs.Runs.{Advances, EndsAtLine, PlaysOn}
use Rattle.geo_cluster.proofs.Playing.{at_err, of_no_writer, stop_line, stop_written, advance_one, advance_roomy, advance_written}
use Rattle.geo_cluster.proofs.script.run.Run.end_line.Goals as goal

pub returns-in_err-play_line-clause-failed : goal.returns-in_err-play_line-clause-failed
returns-in_err-play_line-clause-failed g c = at_err _ c.in_err-play_line.field-0.0 _ c.from_residual.ensures.1 (of_no_writer c.in_err-play_line.field-0.0 _ c.in_err-play_line.ensures.failed)

pub returns-in_err-play_line-clause-err : goal.returns-in_err-play_line-clause-err
returns-in_err-play_line-clause-err g c =
    let a = c.args.self.now in
    let whole = a.unfinished.items ++ c.args.front.now in
    let line : c.as_slice.result.now ≡ whole = search rules in
    let fault = c.in_err-play_line.field-0.0 in
    let err = c.in_err-play_line.ensures.err in
    at_err _ fault _ c.from_residual.ensures.1
    (stop_line fault a whole _ c.play_line.new.self.out.items (λ p st. subst (λ (x : List ℕ). EndsAtLine fault p x (a.lines + 1)) line (err.1 p st)) err.0)

pub returns-in_err-flush-clause-err : goal.returns-in_err-flush-clause-err
returns-in_err-flush-clause-err g c =
    let a = c.args.self.now in
    let b = c.play_line.new.self in
    let whole = a.unfinished.items ++ c.args.front.now in
    let line : c.as_slice.result.now ≡ whole = search rules in
    let ok = c.in_ok-play_line.ensures.ok in
    let fault = c.in_err-flush.field-0.0 in
    let err = c.in_err-flush.ensures.err in
    let u = g.W.Write.contents c.args.writer.now.inner in
    let one : Advances a b (whole ∷ []) u u = advance_one a b whole u (λ p st. subst (λ (x : List ℕ). PlaysOn p x a.out.items b.out.items b.cluster) line (ok p st)) c.in_ok-play_line.ensures.rest.0 in
    at_err _ fault _ c.from_residual-in_err-flush.ensures.1
    (stop_written fault a b (whole ∷ []) u u (g.W.Write.contents c.flush.new.writer.inner) c.flush.new.self.out.items err.1.0 err.0 one err.1.1 c.in_err-flush.ensures.empty)

pub returns-in_ok-flush-clause-ok : goal.returns-in_ok-flush-clause-ok
returns-in_ok-flush-clause-ok g c =
    let a = c.args.self.now in
    let b = c.play_line.new.self in
    let whole = a.unfinished.items ++ c.args.front.now in
    let line : c.as_slice.result.now ≡ whole = search rules in
    let ok = c.in_ok-play_line.ensures.ok in
    let u = g.W.Write.contents c.args.writer.now.inner in
    let one : Advances a b (whole ∷ []) u u = advance_one a b whole u (λ p st. subst (λ (x : List ℕ). PlaysOn p x a.out.items b.out.items b.cluster) line (ok p st)) c.in_ok-play_line.ensures.rest.0 in
    advance_written a _ c.flush.new.self (whole ∷ []) u u (g.W.Write.contents c.flush.new.writer.inner) (advance_roomy a b _ (whole ∷ []) u u one refl) c.in_ok-flush.ensures.ok c.in_ok-flush.ensures.empty c.in_ok-flush.ensures.rest

pub returns-else-len-ge-BATCH-clause-ok : goal.returns-else-len-ge-BATCH-clause-ok
returns-else-len-ge-BATCH-clause-ok g c =
    let a = c.args.self.now in
    let b = c.play_line.new.self in
    let whole = a.unfinished.items ++ c.args.front.now in
    let line : c.as_slice.result.now ≡ whole = search rules in
    let ok = c.in_ok-play_line.ensures.ok in
    let u = g.W.Write.contents c.args.writer.now.inner in
    let one : Advances a b (whole ∷ []) u u = advance_one a b whole u (λ p st. subst (λ (x : List ℕ). PlaysOn p x a.out.items b.out.items b.cluster) line (ok p st)) c.in_ok-play_line.ensures.rest.0 in
    advance_roomy a b _ (whole ∷ []) u u one refl

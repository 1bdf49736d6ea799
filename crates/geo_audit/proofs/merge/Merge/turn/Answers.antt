use Rattle.std.proofs.Common.{sym, subst, arith}
use Rattle.std.proofs.lemmas.Option.{slice_get_within}
use Rattle.geo_audit.specs.Misses.{Misses}
use Rattle.geo_audit.specs.Playing.{Always, Replays}
use Rattle.geo_audit.proofs.Judging.{there_of}
use Rattle.geo_audit.proofs.Playing.{match_true, match_false}
use Rattle.geo_audit.proofs.Turns.{goes_at, made_next, turn_less, turn_merged, turn_fails}
use Rattle.geo_audit.proofs.merge.Merge.turn.Goals as goal

pub returns-then-not-branch : goal.returns-then-not-branch
returns-then-not-branch c =
    let old = c.args.self.now in
    let h = c.index-histories-at.result in
    let step = c.in-Some.step.now in
    let goes = goes_at c.args.histories.now old c.args.at c.args.number c.index-count.result.now h step c.requires.merging c.requires.goes c.requires.there c.index-histories-at.is c.index-count.ensures c.in-Some.ensures in
    turn_fails c.args.histories.now old c.args.at c.args.number c.index-count.result.now h step c.requires.merging goes c.index-count.ensures
    (subst (λ site. Always old.play (λ w all. Misses w all site c.args.number step)) (c.requires.order c.args.at h goes.there) (match_false _ c.in_ok-replays.field-0 c.if-not-branch.true c.in_ok-replays.ensures))

pub note-requires-clause-made : goal.note-requires-clause-made
note-requires-clause-made c = made_next c.args.histories.now c.args.at c.index-count.result.now c.index-histories-at.result c.in-Some.step.now (there_of c.args.histories.now c.args.at c.index-histories-at.result c.requires.there c.index-histories-at.is) c.in-Some.ensures

pub overflow_add-count : goal.overflow_add-count
overflow_add-count c =
    let less = slice_get_within c.index-histories-at.result.steps.items c.index-count.result.now c.in-Some.step.now (sym c.in-Some.ensures) in
    let many = c.len-steps.ensures in
    let fits = c.len-steps.type_inv in
    omega (arith, less, many, fits)

pub returns : goal.returns
returns c =
    let old = c.args.self.now in
    let histories = c.args.histories.now in
    let h = c.index-histories-at.result in
    let step = c.in-Some.step.now in
    let count = c.index-count.result.now in
    let goes = goes_at histories old c.args.at c.args.number count h step c.requires.merging c.requires.goes c.requires.there c.index-histories-at.is c.index-count.ensures c.in-Some.ensures in
    let replays = match_true _ c.in_ok-replays.field-0 c.if-not-branch.false c.in_ok-replays.ensures in
    record {
      merging = record {
        merged = turn_merged histories old c.args.at c.args.number count h step c.requires.merging goes c.index-count.ensures c.replays.new.self c.note.new.self.places.items
            (subst (λ site. Replays old.play c.replays.new.self site c.args.number step) (c.requires.order c.args.at h goes.there) replays) c.in_ok-note.ensures.places;
        linked = c.in_ok-note.ensures.linked;
      };
      less = turn_less histories old c.args.at c.args.number count h step c.requires.merging goes c.index-count.ensures;
    }

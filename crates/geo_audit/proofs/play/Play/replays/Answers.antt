use Rattle.std.proofs.Common.{inl, sym, subst₂}
use Rattle.geo_audit.specs.Misses.{MissesBy}
use Rattle.geo_audit.specs.Playing.{Always, ComesAsTold}
use Rattle.geo_audit.proofs.Playing.{match_bool, match_true, if_ok}
use Rattle.geo_audit.proofs.Telling.{replays_for, misses_for}
use Rattle.geo_audit.proofs.play.Play.replays.Goals as goal

pub returns-then-not-is_plain : goal.returns-then-not-is_plain
returns-then-not-is_plain c = λ first none before p. inl c.if-not-is_plain.ensures

pub returns : goal.returns
returns c =
    let old = c.args.self.now in
    let site = c.args.site in
    let step = c.args.step.now in
    let a = c.is_undue.new.self in
    let b = c.lets_go.new.self in
    let new = c.answers.new.self in
    let stays = match_true _ c.in_ok-is_undue.field-0 c.if-not-branch.false c.in_ok-is_undue.ensures in
    let lets = match_true _ c.in_ok-lets_go.field-0 c.if-not-branch-2.false c.in_ok-lets_go.ensures in
    if_ok c.answers.result c.answers.ensures (λ done x. match_bool done x
    (λ y. replays_for old a site c.args.number step stays b lets new c.if-not-is_plain.ensures
    (subst₂ (λ s e. ComesAsTold b new s e step) (sym c.requires.site) c.in_ok-happening.ensures y))
    (λ y. misses_for old a site c.args.number step stays b lets
    (subst₂ (λ s e. Always b (λ w all. MissesBy w all s e step)) (sym c.requires.site) c.in_ok-happening.ensures y)))

use Rattle.std.proofs.Common.{refl}
use Rattle.std.proofs.lemmas.Result.{err_from_is_err_and}
use Rattle.geo_history.specs.Keeping.{story_of}
use Rattle.geo_history.proofs.Calls.{leaves_same, unfilled_leaves, fill_unmade}
use Rattle.geo_history.proofs.parts.Parts.fill_for.Goals as goal

pub returns-in_err-ready-clause-does : goal.returns-in_err-ready-clause-does
returns-in_err-ready-clause-does c =
    let p = err_from_is_err_and c.from_residual.result c.from_residual.ensures.1 in
    fill_unmade (story_of c.args.self.now) _ c.args.seat c.args.key.now c.args.bytes c.from_residual.result p.0 p.1 (leaves_same (story_of c.args.self.now) _ refl refl c.ready.ensures.items)

pub returns-in_err-copy-clause-does : goal.returns-in_err-copy-clause-does
returns-in_err-copy-clause-does c =
    let p = err_from_is_err_and c.from_residual-in_err-copy.result c.from_residual-in_err-copy.ensures.1 in
    fill_unmade (story_of c.args.self.now) _ c.args.seat c.args.key.now c.args.bytes c.from_residual-in_err-copy.result p.0 p.1 (leaves_same (story_of c.args.self.now) _ refl refl c.ready.ensures.items)

pub returns-in_err-filled-clause-does : goal.returns-in_err-filled-clause-does
returns-in_err-filled-clause-does c =
    let p = err_from_is_err_and c.from_residual-in_err-filled.result c.from_residual-in_err-filled.ensures.1 in
    fill_unmade (story_of c.args.self.now) _ c.args.seat c.args.key.now c.args.bytes c.from_residual-in_err-filled.result p.0 p.1 (unfilled_leaves (story_of c.args.self.now) _ c.args.key.now c.args.bytes _ c.in_err-filled.ensures refl c.ready.ensures.items)

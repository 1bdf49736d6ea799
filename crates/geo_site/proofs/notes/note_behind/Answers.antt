use Rattle.std.proofs.Common.{◌≡◌, ℕ, List, ◌∷◌, ◌+◌, drop, sym, ap, ◌∙◌, subst}
use Rattle.std.proofs.lemmas.List.{drop_more, drop_all}
use Rattle.geo_versions.specs.Maps.{Rec}
use Rattle.geo_delta.specs.Trails.{Trailed}
use Rattle.geo_site.specs.Noting.{is_listed}
use Rattle.geo_site.proofs.notes.note_behind.Goals as goal

pub loop-changed-preserved : goal.loop-changed-preserved
loop-changed-preserved c =
    let records = c.args.records.now in
    let i = c.loop-changed.changed-index in
    let e = c.loop-changed-item.result in
    let rest = drop (i + 1) records in
    let next : drop i records ≡ e ∷ rest = drop_more records i e c.loop-changed-test.true ∙ ap (λ (x : List ℕ × Rec). x ∷ rest) (sym c.loop-changed-item.is) in
    λ map knows t. c.note.ensures.trailed (is_listed rest) map knows
    (subst (λ (es : List (List ℕ × Rec)). Trailed (is_listed es) map c.loop-changed.trail) next (c.loop-changed.invariant map knows t))

pub returns : goal.returns
returns c = λ map knows t. subst (λ (es : List (List ℕ × Rec)). Trailed (is_listed es) map c.loop-changed.trail) (drop_all c.loop-changed.changed-index c.args.records.now c.loop-changed-test.false) (c.loop-changed.invariant map knows t)

use Rattle.std.proofs.Common.{◌≡◌, ℕ, List, ◌∷◌, ◌+◌, drop, sym, ap, ◌∙◌, subst}
use Rattle.std.proofs.lemmas.List.{drop_more, drop_all}
use Rattle.geo_versions.specs.Maps.{Rec}
use Rattle.geo_delta.specs.Changes.{Traced}
use Rattle.geo_site.specs.Noting.{is_listed}
use Rattle.geo_site.proofs.Noting.{traced_either}
use Rattle.geo_site.proofs.notes.note_newest.Goals as goal

pub loop-changed-preserved : goal.loop-changed-preserved
loop-changed-preserved c =
    let records = c.args.records.now in
    let i = c.loop-changed.changed-index in
    let e = c.loop-changed-item.result in
    let rest = drop (i + 1) records in
    let next : drop i records ≡ e ∷ rest = drop_more records i e c.loop-changed-test.true ∙ ap (λ (x : List ℕ × Rec). x ∷ rest) (sym c.loop-changed-item.is) in
    λ map knows t. traced_either c.note.result (is_listed rest) map e.0 c.args.after.now c.loop-changed.changes c.note.new.self c.note.ensures.kept c.note.ensures.lost knows
    (subst (λ (es : List (List ℕ × Rec)). Traced (is_listed es) map c.loop-changed.changes) next (c.loop-changed.invariant map knows t))

pub returns : goal.returns
returns c = λ map knows t. subst (λ (es : List (List ℕ × Rec)). Traced (is_listed es) map c.loop-changed.changes) (drop_all c.loop-changed.changed-index c.args.records.now c.loop-changed-test.false) (c.loop-changed.invariant map knows t)

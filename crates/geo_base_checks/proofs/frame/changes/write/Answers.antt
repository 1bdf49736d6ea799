use Rattle.std.proofs.Common.{◌≡◌, ◌||◌, ℕ, List, false, Some, cond, ap, sym, refl, ◌∙◌, subst}
use Rattle.geo_records.specs.Keys.{same_key}
use Rattle.geo_records.specs.Operations.{Record, above_both, record_joined}
use Rattle.geo_versions.specs.Maps.{floor_in, record_in}
use Rattle.geo_delta.specs.Changes.{Traced, knows_record, nothing_pending}
use Rattle.geo_delta.proofs.Tracing.{either_false, traced_one}
use Rattle.geo_delta.proofs.Trailing.{trailed_on}
use Rattle.geo_base_checks.proofs.frame.changes.write.Goals as goal

pub returns : goal.returns
returns c =
    let site = c.args.site.now in
    let stamp = c.args.stamp in
    let key = c.args.key.now in
    let map = record_in site.versions in
    let new = record_in c.write.new.self in
    let same : (q : List ℕ) → same_key q key ≡ false → new q ≡ map q = λ q other. c.in_ok-write.ensures.ok q ∙ ap (λ t. cond {A = Record} t (above_both (floor_in site.versions) (record_joined (map q) (Some (stamp, c.args.body), Some (stamp, 0)))) (map q)) other in
    let knows = c.in_ok-knows_all.ensures c.if-not-branch.false in (
      subst (Traced nothing_pending new) (sym (c.if-not-note.ensures.kept refl)) (traced_one map new key c.raise.new.self site.changes.newest same knows c.requires.0),
      c.if-not-note-2.ensures.trailed nothing_pending new knows
          (trailed_on nothing_pending (λ q. same_key q key || nothing_pending q) map new site.changes.trail
          (λ q out. (refl, λ v known. ap (knows_record v) (same q (either_false (same_key q key) false out).0) ∙ known)) c.requires.1),
    )

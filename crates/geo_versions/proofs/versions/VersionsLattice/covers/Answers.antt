use Rattle.std.proofs.Common.{rules, ◌≡◌, ◌∙◌, sym, ap, List, ℕ, true≢false}
use Rattle.geo_maps.specs.Maps.{get}
use Rattle.geo_records.specs.Keys.{same_key}
use Rattle.geo_records.proofs.Normal.{same_normal}
use Rattle.geo_records.specs.Operations.{above_both, record_joined}
use Rattle.geo_versions.specs.Records.{record_at}
use Rattle.geo_versions.proofs.Cut.{shown_above, covered_above}
use Rattle.geo_versions.proofs.versions.VersionsLattice.covers.Goals as goal

pub returns-then-eq : goal.returns-then-eq
returns-then-eq c =
    let v = c.args.self.now in
    let w = c.args.other.now in
    let same : c.later.result ≡ v.floor = search rules in
    let floor = sym c.later.ensures ∙ same in
    let one = λ (q : List ℕ). covered_above v.floor (record_at v.records q) (record_at w.records q) _ (v.above q) (shown_above v.floor (get same_key w.records q)) in (
      λ t. same_normal _ _ ((λ i. (floor i, λ q. above_both (floor i) (record_joined (record_at v.records q) (record_at w.records q)))) ∙ (λ i. (v.floor, λ q. (sym (one q) ∙ c.covers_shown.ensures.0 t q) i))),
      λ h. c.covers_shown.ensures.1 (λ q. one q ∙ ap (λ f. above_both f (record_joined (record_at v.records q) (record_at w.records q))) (sym floor) ∙ ap (λ n. n.0.1 q) h),
    )

pub returns-else-eq : goal.returns-else-eq
returns-else-eq c = (
  λ t. absurd (true≢false (sym t ∙ c.if-eq.false)),
  λ h. let same : c.later.result ≡ c.args.self.now.floor = c.later.ensures ∙ ap (λ n. n.0.0) h in search rules,
)

use Rattle.std.proofs.Common.{◌≡◌, refl, sym, ◌∙◌, subst, true≢false}
use Rattle.geo_records.specs.Operations.{above_both, record_joined}
use Rattle.geo_versions.specs.Maps.{floor_in, record_in, listed_at}
use Rattle.geo_values.specs.Held.{stock_in}
use Rattle.geo_values.specs.Links.{Kept}
use Rattle.geo_values.specs.Stock as stocks
use Rattle.geo_site.specs.Machine.{settled}
use Rattle.geo_site.proofs.Stocking.{stock_kept}
use Rattle.geo_site.proofs.exchange.join_both.Goals.{then-few, else-few}
use Rattle.geo_site.proofs.exchange.join_both.Goals as goal

-- where the records were few, their keys alone were looked at
pub returns-else-not-few-clause-kept : goal.returns-else-not-few-clause-kept
returns-else-not-few-clause-kept c = elim c.if-few.branch [
  | then-few w ↦
      let old = c.args.versions.now in
      let few = w.as_slice-then-few.result.now in
      let records : few ≡ c.into_vec.result.items = w.as_slice-then-few.ensures ∙ sym c.into_vec.ensures in
      let floor : floor_in old ≡ floor_in c.join_records.new.self = sym (c.join_records.ensures.floor ∙ c.if-not-few.ensures.still refl) in
      stock_kept (λ q. above_both (floor_in old) (record_joined (record_in old q) (listed_at few q))) (record_in c.join_records.new.self) (stock_in c.args.values.now) (stock_in c.if-few.values)
      (λ q. (λ i. above_both (floor i) (record_joined (record_in old q) (listed_at (records i) q))) ∙ sym (c.join_records.ensures.records q))
      (subst (λ (values : Kept). stocks.Same (settled (λ q. above_both (floor_in old) (record_joined (record_in old q) (listed_at few q))) (stock_in c.args.values.now)) (stock_in values)) (sym w.values-is) w.drop_outdated.ensures.kept)
  | else-few w ↦ absurd (true≢false (sym c.if-not-few.false ∙ w.if-few.false))
]

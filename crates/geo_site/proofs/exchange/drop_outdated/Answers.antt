use Rattle.std.proofs.Common.{◌≡◌, ◌+◌, ℕ, List, take, sym, ap, ◌∙◌, subst, arith}
use Rattle.std.proofs.lemmas.List.{take_all}
use Rattle.geo_versions.specs.Maps.{Rec, floor_in, record_in, rec_means}
use Rattle.geo_values.specs.Links.{Kept}
use Rattle.geo_values.specs.Held.{stock_in, count_in}
use Rattle.geo_values.specs.Stock as stocks
use Rattle.geo_site.specs.Machine.{settled, stays_by}
use Rattle.geo_site.proofs.Outdated.{version_joined, map_joined, outdated_first, one_kept, one_dropped}
use Rattle.geo_site.proofs.exchange.drop_outdated.Goals.{then-not-is_current, else-not-is_current}
use Rattle.geo_site.proofs.exchange.drop_outdated.Goals as goal

pub loop-key-init : goal.loop-key-init
loop-key-init c = let v = c.args.versions.now in (omega arith, outdated_first (floor_in v) (record_in v) (stock_in c.args.values.now) v.above c.requires.settled)

pub loop-key-preserved : goal.loop-key-preserved
loop-key-preserved c =
    let v = c.args.versions.now in
    let e = c.loop-key-item.result in
    let first = stock_in c.args.values.now in
    let now = stock_in c.loop-key.values in
    let records = c.args.records.now in
    let says : c.is_current.result ≡ stays_by (version_joined (floor_in v) (record_in v e.0) (rec_means e.1)) (now.held e.0) = c.is_current.ensures in
    let fewer = c.loop-key.invariant.0 in
    elim c.if-not-is_current.branch [
      | then-not-is_current w ↦
          let out = w.drop_key.ensures in
          let counts = out.counts in
          let is = ap count_in w.values-is in (
            omega (arith, fewer, counts, is),
            subst (λ (values : Kept). stocks.Same (settled (map_joined (floor_in v) (record_in v) (take (c.loop-key.key-index + 1) records)) first) (stock_in values)) (sym w.values-is)
                (one_dropped (floor_in v) (record_in v) first v.above c.requires.settled records c.requires.rising c.loop-key.key-index e c.loop-key-test.true c.loop-key-item.is now c.loop-key.invariant.1 (stock_in w.drop_key.new.self) (sym w.if-not-is_current.true ∙ says) out.dropped),
          )
      | else-not-is_current w ↦
          let is = ap count_in w.values-is in (
            omega (arith, fewer, is),
            subst (λ (values : Kept). stocks.Same (settled (map_joined (floor_in v) (record_in v) (take (c.loop-key.key-index + 1) records)) first) (stock_in values)) (sym w.values-is)
                (one_kept (floor_in v) (record_in v) first v.above c.requires.settled records c.requires.rising c.loop-key.key-index e c.loop-key-test.true c.loop-key-item.is now c.loop-key.invariant.1 (sym w.if-not-is_current.false ∙ says)),
          )
    ]

pub returns-clause-kept : goal.returns-clause-kept
returns-clause-kept c =
    let v = c.args.versions.now in
    subst (λ (records : List (List ℕ × Rec)). stocks.Same (settled (map_joined (floor_in v) (record_in v) records) (stock_in c.args.values.now)) (stock_in c.loop-key.values)) (take_all c.loop-key.key-index c.args.records.now c.loop-key-test.false) c.loop-key.invariant.1

use Rattle.std.proofs.Common.{arith, refl, sym, ap, subst, ◌∙◌, ◌+◌, List, length, length-append}
use Rattle.geo_site.specs.declared.setup.Setup.{Setup}
use Rattle.geo_cluster.specs.Effects.{AreTold}
use Rattle.geo_cluster.proofs.Setting.{told_more}
use Rattle.geo_cluster.proofs.script.setups.told.Goals as goal

pub loop-index-preserved : goal.loop-index-preserved
loop-index-preserved c =
    let a = c.args in
    let inv = c.loop-index.invariant in
    let items = c.in_ok-push.ensures.items in
    let many = inv.many in
    record {
      many = ap (λ (xs : List Setup). length xs) items ∙ length-append c.loop-index.setups.items _ ∙ ap (λ n. n + 1) many;
      told = subst (λ (xs : List Setup). AreTold 1 a.sites a.pages a.max a.reap xs) (sym items)
          (told_more 1 a.sites a.pages a.max a.reap c.loop-index.setups.items _ inv.told (record { site = omega (arith, many); sites_are = refl; pages_are = refl; most_is = refl; reap_is = refl }));
    }

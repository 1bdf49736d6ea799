use Rattle.std.proofs.Common.{◌≡◌, ℕ, ◌+◌, ◌-◌, true, cond, not, [], ◌∷◌, ◌++◌, length, Some, sym, ap, ◌∙◌, subst, arith, slice_get}
use Rattle.std.proofs.lemmas.List.{length-append}
use Rattle.geo_site.specs.declared.site.Site.{Site}
use Rattle.geo_world.specs.Setups.{are_setups, limits_at, limits_of, start}
use Rattle.geo_world.specs.Agreement.{Agrees}
use Rattle.geo_world.specs.Doing.{EachOpens}
use Rattle.geo_world.proofs.Worlds.{numbered_get, limits_read, numbered_all}
use Rattle.geo_world.specs.Tables.{empty_tables, Keep}
use Rattle.geo_world.proofs.Keeping.{keep_open}
use Rattle.geo_world.proofs.Opening.{Silent, silent_of, each_more, at_most_16, agrees_open, opens_more}
use Rattle.geo_world.proofs.world.World.open.Goals as goal

pub loop-setup-preserved : goal.loop-setup-preserved
loop-setup-preserved c =
    let xs = c.deref-setup-items.result.now in
    let same : xs ≡ c.args.setups.items = c.deref-setup-items.ensures.value in
    let good : are_setups xs ≡ true = ap are_setups same ∙ ap are_setups (sym c.deref.ensures.value) ∙ sym c.if-not-are_good.ensures in
    let i = c.loop-setup.setup-index in
    let inv = c.loop-setup.invariant in
    let n = length xs in
    let all = numbered_all xs good in
    let lt = c.loop-setup-test.true in
    let e = c.in-Ok-new.ensures in
    let m : 1 + i ≡ i + 1 = omega arith in
    let place : i ≡ 1 + i - 1 = omega arith in
    let items : c.push.new.self.items ≡ c.loop-setup.sites.items ++ c.in-Ok-new.site ∷ [] = c.push.ensures.items ∙ ap (λ b. cond b (c.loop-setup.sites.items ++ c.in-Ok-new.site ∷ []) c.loop-setup.sites.items) (c.is_err.ensures.negation ∙ ap not c.if-is_err.false) in
    record {
      many = let l = ap length items in let a = length-append c.loop-setup.sites.items (c.in-Ok-new.site ∷ []) in let h = inv.many in omega (arith, l, a, h);
      opens = subst (EachOpens xs) (sym items) (opens_more xs c.loop-setup.sites.items i _ c.in-Ok-new.site inv.many lt e inv.opens);
      each = subst (λ ys. (j number : ℕ) (site : Site) → number ≡ j + 1 → slice_get ys j ≡ Some site → Silent n number site (limits_of xs number)) (sym items)
          (each_more (limits_of xs) n i c.loop-setup.sites.items c.in-Ok-new.site inv.many inv.each (subst (λ k. Silent n k c.in-Ok-new.site (limits_of xs k)) m (silent_of n (1 + i) _ _ _ (limits_of xs (1 + i)) _ c.in-Ok-new.site e.4 e.5 e.6 e.7 e.8 e.9 e.0.1 (numbered_get n 1 xs i _ all lt).site (numbered_get n 1 xs i _ all lt).sites_are (limits_read xs i _ lt ∙ ap (limits_at xs) place))));
    }

pub returns-clause-opens : goal.returns-clause-opens
returns-clause-opens c =
    let xs = c.deref-setup-items.result.now in
    let same : xs ≡ c.args.setups.items = c.deref-setup-items.ensures.value in
    let good : are_setups c.args.setups.items ≡ true = ap are_setups (sym c.deref.ensures.value) ∙ sym c.if-not-are_good.ensures in
    let inv = c.loop-setup.invariant in
    let many : length c.loop-setup.sites.items ≡ length xs = let h = inv.many in let a = c.loop-setup.auto.setup-index-end in let f = c.loop-setup-test.false in omega (arith, h, a, f) in
    (good, many ∙ ap length same, subst (λ ys. Agrees c.loop-setup.sites.items c.new-2.result.items (start ys)) same (agrees_open (limits_of xs) c.loop-setup.sites.items c.new-2.result.items (length xs) many (at_most_16 xs (ap are_setups same ∙ good)) c.new-2.ensures.items inv.each))

pub returns-clause-each : goal.returns-clause-each
returns-clause-each c = subst (λ xs. EachOpens xs c.loop-setup.sites.items) c.deref-setup-items.ensures.value c.loop-setup.invariant.opens

pub returns-clause-empty : goal.returns-clause-empty
returns-clause-empty c =
    let xs = c.deref-setup-items.result.now in
    let same : xs ≡ c.args.setups.items = c.deref-setup-items.ensures.value in
    subst (λ ys. Keep c.loop-setup.sites.items c.new-2.result.items (empty_tables (length ys))) same (keep_open (limits_of xs) c.loop-setup.sites.items c.new-2.result.items (length xs) c.new-2.ensures.items c.loop-setup.invariant.each)

use Rattle.std.proofs.Common.{◌≡◌, ◌+◌, take, cond, not, ◌||◌, [], ◌∷◌, ◌++◌, length, refl, sym, ap, ◌∙◌, subst, arith}
use Rattle.geo_world.proofs.Serving.{all_serve}
use Rattle.geo_world.proofs.Sound.{sound_nothing}
use Rattle.geo_world.specs.Setups.{limits_of, start}
use Rattle.geo_world.specs.Tables.{empty_tables}
use Rattle.geo_world.specs.There.{all_there}
use Rattle.geo_world.specs.Running.{wants_memory}
use Rattle.std.specs.List.{list_any}
use Rattle.geo_world.specs.Doing.{RunsAlone}
use Rattle.geo_world.proofs.Alone.{alone_first, alone_more, all_alone}
use Rattle.geo_world.proofs.Paging.{run_pages}
use Rattle.geo_world.proofs.Surviving.{survivors_stable}
use Rattle.geo_world.proofs.Running.{HasRun, any_more, lacks_at, run_more, in_time_at, first_run, all_run, shows, same_versions}
use Rattle.geo_world.proofs.run.run_schedule.Goals as goal

pub loop-index-init : goal.loop-index-init
loop-index-init c =
    let e = c.in_ok-world.ensures in
    record {
      run = subst (λ ts. HasRun (start c.args.setups.items) (empty_tables (length c.args.setups.items)) c.in_ok-world.world.sites.items c.in_ok-world.world.parcels.items c.args.events.now ts 0) (sym c.new-traces.ensures.items) (first_run (start c.args.setups.items) (empty_tables (length c.args.setups.items)) c.in_ok-world.world.sites.items c.in_ok-world.world.parcels.items c.args.events.now e.opens.2 e.empty);
      alone = subst (λ ts. RunsAlone c.args.setups.items [] ts c.in_ok-world.world.sites.items) (sym c.new-traces.ensures.items) (alone_first c.args.setups.items c.in_ok-world.world.sites.items e.opens.1 e.each);
      many = e.opens.1;
      good = e.opens.0;
      named = ap (λ n. all_there n 0 c.args.events.now) (ap length (sym c.deref.ensures.value) ∙ c.deref.ensures.len ∙ sym c.len.ensures) ∙ c.in_default.ensures;
      wanted = ap (list_any wants_memory) (sym c.new-traces.ensures.items);
    }

pub step-requires : goal.step-requires
step-requires c = record { moment = in_time_at c.args.events.now c.loop-index.index c.index-events-index.result c.requires.moments c.loop-index-test.true c.index-events-index.is }

pub loop-index-preserved : goal.loop-index-preserved
loop-index-preserved c =
    let inv = c.loop-index.invariant in
    let e = c.in-Ok.ensures in
    let items : c.push.new.self.items ≡ c.loop-index.traces.items ++ c.in-Ok.trace ∷ [] = c.push.ensures.items ∙ ap (λ b. cond b (c.loop-index.traces.items ++ c.in-Ok.trace ∷ []) c.loop-index.traces.items) (c.is_err.ensures.negation ∙ ap not c.if-is_err.false) in
    record {
      run = subst (λ ts. HasRun (start c.args.setups.items) (empty_tables (length c.args.setups.items)) c.step.new.self.sites.items c.step.new.self.parcels.items c.args.events.now ts (c.loop-index.index + 1)) (sym items)
          (run_more (start c.args.setups.items) (empty_tables (length c.args.setups.items)) c.loop-index.world.sites.items c.step.new.self.sites.items c.loop-index.world.parcels.items c.step.new.self.parcels.items c.args.events.now c.loop-index.traces.items c.loop-index.index c.index-events-index.result c.in-Ok.trace
          inv.run c.loop-index-test.true c.index-events-index.is e.as_many e.does.0 e.does.1 e.tables);
      alone = subst (λ ts. RunsAlone c.args.setups.items (take (c.loop-index.index + 1) c.args.events.now) ts c.step.new.self.sites.items) (sym items)
          (alone_more c.args.setups.items c.loop-index.world.sites.items c.step.new.self.sites.items c.args.events.now c.loop-index.traces.items c.loop-index.index c.index-events-index.result c.in-Ok.trace inv.alone c.loop-index-test.true c.index-events-index.is e.alone);
      many = e.as_many ∙ inv.many;
      good = inv.good;
      named = inv.named;
      wanted = (λ i. inv.wanted i || c.wanted_memory-wanted.ensures i) ∙ sym (any_more c.loop-index.traces.items c.in-Ok.trace) ∙ ap (list_any wants_memory) (sym items);
    }

pub returns-clause-alone : goal.returns-clause-alone
returns-clause-alone c = all_alone c.args.setups.items c.loop-index.world.sites.items c.args.events.now c.loop-index.traces.items c.loop-index.index (omega arith) c.loop-index.invariant.alone

pub returns-clause-pages : goal.returns-clause-pages
returns-clause-pages c =
    let run = all_alone c.args.setups.items c.loop-index.world.sites.items c.args.events.now c.loop-index.traces.items c.loop-index.index (omega arith) c.loop-index.invariant.alone in
    run_pages c.args.setups.items run.first c.args.events.now c.loop-index.traces.items c.loop-index.world.sites.items run.opened run.each

pub returns-clause-agrees : goal.returns-clause-agrees
returns-clause-agrees c = (all_run (start c.args.setups.items) (empty_tables (length c.args.setups.items)) c.loop-index.world.sites.items c.loop-index.world.parcels.items c.args.events.now c.loop-index.traces.items c.loop-index.index (omega arith) (omega arith) c.loop-index.invariant.run).agrees

pub returns-clause-keep : goal.returns-clause-keep
returns-clause-keep c = (all_run (start c.args.setups.items) (empty_tables (length c.args.setups.items)) c.loop-index.world.sites.items c.loop-index.world.parcels.items c.args.events.now c.loop-index.traces.items c.loop-index.index (omega arith) (omega arith) c.loop-index.invariant.run).keep

pub returns-clause-tallies : goal.returns-clause-tallies
returns-clause-tallies c = (all_run (start c.args.setups.items) (empty_tables (length c.args.setups.items)) c.loop-index.world.sites.items c.loop-index.world.parcels.items c.args.events.now c.loop-index.traces.items c.loop-index.index (omega arith) (omega arith) c.loop-index.invariant.run).tallies

pub returns-clause-versions : goal.returns-clause-versions
returns-clause-versions c = λ k number site e at.
    let run = all_run (start c.args.setups.items) (empty_tables (length c.args.setups.items)) c.loop-index.world.sites.items c.loop-index.world.parcels.items c.args.events.now c.loop-index.traces.items c.loop-index.index (omega arith) (omega arith) c.loop-index.invariant.run in
    shows _ number site _ (run.agrees.each k number site e at)

pub returns-clause-equal : goal.returns-clause-equal
returns-clause-equal c = λ j k one other at_one at_other same.
    let run = all_run (start c.args.setups.items) (empty_tables (length c.args.setups.items)) c.loop-index.world.sites.items c.loop-index.world.parcels.items c.args.events.now c.loop-index.traces.items c.loop-index.index (omega arith) (omega arith) c.loop-index.invariant.run in
    same_versions one other _ _ (shows _ (j + 1) one _ (run.agrees.each j (j + 1) one refl at_one)) (shows _ (k + 1) other _ (run.agrees.each k (k + 1) other refl at_other)) same

pub returns-clause-survivors : goal.returns-clause-survivors
returns-clause-survivors c =
    let run = all_run (start c.args.setups.items) (empty_tables (length c.args.setups.items)) c.loop-index.world.sites.items c.loop-index.world.parcels.items c.args.events.now c.loop-index.traces.items c.loop-index.index (omega arith) (omega arith) c.loop-index.invariant.run in
    survivors_stable (length c.args.setups.items) (limits_of c.args.setups.items) c.args.events.now c.loop-index.traces.items run.lawful

pub returns-clause-served : goal.returns-clause-served
returns-clause-served c = λ apart.
    let run = all_run (start c.args.setups.items) (empty_tables (length c.args.setups.items)) c.loop-index.world.sites.items c.loop-index.world.parcels.items c.args.events.now c.loop-index.traces.items c.loop-index.index (omega arith) (omega arith) c.loop-index.invariant.run in
    all_serve (start c.args.setups.items) c.args.events.now c.loop-index.traces.items (sound_nothing (length c.args.setups.items) (limits_of c.args.setups.items)) run.lawful apart

use Rattle.std.proofs.Common.{◌≡◌, length, true, take}
use Rattle.geo_world.proofs.Running.{HasRun}
use Rattle.geo_world.specs.Setups.{are_setups, start}
use Rattle.geo_world.specs.Tables.{empty_tables}
use Rattle.geo_world.specs.There.{all_there}
use Rattle.geo_world.specs.Doing.{RunsAlone}
use Rattle.geo_world.specs.Running.{wants_memory}
use Rattle.std.specs.List.{list_any}
use Rattle.geo_world.proofs.run.run_schedule.Given as goal

abbrev pub invariant-loop-index : goal.invariant-loop-index
invariant-loop-index l = record {
  run : HasRun (start l.fn.setups.items) (empty_tables (length l.fn.setups.items)) l.world.sites.items l.world.parcels.items l.events l.traces.items l.index;
  alone : RunsAlone l.fn.setups.items (take l.index l.events) l.traces.items l.world.sites.items;
  many : length l.world.sites.items ≡ length l.fn.setups.items;
  good : are_setups l.fn.setups.items ≡ true;
  named : all_there (length l.fn.setups.items) 0 l.events ≡ true;
  wanted : l.wanted ≡ list_any wants_memory l.traces.items;
}

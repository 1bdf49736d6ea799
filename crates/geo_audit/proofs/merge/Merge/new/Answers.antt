use Rattle.std.proofs.Common.{ap}
use Rattle.std.specs.Map.{lookup}
use Rattle.std.specs.HashMap.{get}
use Rattle.geo_audit.specs.Merging.{same_mark}
use Rattle.geo_audit.proofs.Judging.{merged_none}
use Rattle.geo_audit.proofs.Links.{linked_nothing}
use Rattle.geo_audit.proofs.merge.Merge.new.Goals as goal

pub returns : goal.returns
returns c = record {
  merged = merged_none c.args.histories.now _ _ c.args.play c.requires c.in_ok-counts.ensures c.new.ensures.places;
  linked = linked_nothing c.args.histories.now _ (λ mark. get same_mark c.new.result.last mark) c.new.ensures.places (λ q. ap (λ entries. lookup (same_mark q) entries) c.new.ensures.last);
}

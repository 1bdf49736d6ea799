use Rattle.std.proofs.Common.{◌∙◌}
use Rattle.geo_cluster.proofs.Happening.{prints_step}
use Rattle.geo_cluster.proofs.script.cluster.Cluster.happen.Goals as goal

pub returns-clause-does : goal.returns-clause-does
returns-clause-does c = prints_step c.args.self.now c.step.new.self c.args.event c.in_ok-trace.field-0 c.in-Some.trace c.len-parcels.result c.in_ok-trace_line.field-0.items
    c.in-Some.is c.in_ok-trace.ensures.does (c.len-parcels.ensures ∙ c.args.self.now.world.parcels.ok.0) c.in_ok-trace_line.ensures

use Rattle.std.proofs.Common.{Some}
use Rattle.geo_slabs.proofs.Kept.{put_gives, put_new, put_keeps_held}
use Rattle.geo_base_checks.proofs.held.slabs.put.Goals as goal

pub returns-clause-holds : goal.returns-clause-holds
returns-clause-holds c = put_gives c.args.slabs.now c.put.new.self c.args.class c.args.bytes.now c.in-Some.chunk c.in-Some.ensures.put

pub returns-clause-fresh : goal.returns-clause-fresh
returns-clause-fresh c = put_new c.args.slabs.now c.put.new.self c.args.class c.args.bytes.now c.in-Some.chunk c.in-Some.ensures.put

pub returns-clause-keeps : goal.returns-clause-keeps
returns-clause-keeps c = put_keeps_held c.args.slabs.now c.put.new.self c.args.class c.args.bytes.now (Some c.in-Some.chunk) c.in-Some.ensures.put

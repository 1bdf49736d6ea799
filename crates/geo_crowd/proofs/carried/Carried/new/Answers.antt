use Rattle.geo_crowd.proofs.Moves.{carries_none}
use Rattle.geo_crowd.proofs.carried.Carried.new.Goals as goal

pub invariant_of-result : goal.invariant_of-result
invariant_of-result g c = carries_none (g.S.Stream.contents c.args.stream) c.new.result c.new.ensures

use Rattle.geo_equal.proofs.Covers.{covers_both, covers_not}
use Rattle.geo_equal.proofs.parcels.VectorEqual.equals.Goals as goal

pub returns-then-covers : goal.returns-then-covers
returns-then-covers c = covers_both _ _ _ (c.covers.ensures.0 c.if-covers.true) c.covers-then-covers.ensures

pub returns-else-covers : goal.returns-else-covers
returns-else-covers c = covers_not _ _ _ c.if-covers.false c.covers.ensures

use Rattle.geo_equal.proofs.Covers.{sets_both, sets_not}
use Rattle.geo_equal.proofs.parcels.RetiredEqual.equals.Goals as goal

pub returns-then-covers : goal.returns-then-covers
returns-then-covers c = sets_both _ _ _ (c.covers.ensures.0 c.if-covers.true) c.covers-then-covers.ensures

pub returns-else-covers : goal.returns-else-covers
returns-else-covers c = sets_not _ _ _ c.if-covers.false c.covers.ensures

use Rattle.geo_audit.proofs.Zeros.{tells_true}
use Rattle.geo_audit.proofs.opening.names_none.Goals as goal

pub returns : goal.returns
returns c = tells_true c.fits.result _ c.fits.ensures.fits

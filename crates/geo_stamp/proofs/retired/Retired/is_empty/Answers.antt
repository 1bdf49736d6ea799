use Rattle.std.proofs.Common.{suc, sym, ◌∙◌}
use Rattle.geo_stamp.proofs.Sets.{fits_of, none_in}
use Rattle.geo_stamp.proofs.retired.Retired.is_empty.Goals as goal

pub returns : goal.returns
returns c = (λ h. none_in c.args.self.now (sym c.fits.ensures.fits ∙ h), λ none. c.fits.ensures.fits ∙ fits_of 0 c.args.self.now (λ k _. none (suc k)))

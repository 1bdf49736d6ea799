use Rattle.std.proofs.Common.{arith, ap, sym, ◌∙◌}
use Rattle.geo_stamp.specs.Retired.{set_fits}
use Rattle.geo_stamp.proofs.Sets.{fits_of, not_fits, below_16}
use Rattle.geo_stamp.proofs.retired.Retired.fits.Goals as goal

pub returns-then-self-at-clause-fits : goal.returns-then-self-at-clause-fits
returns-then-self-at-clause-fits c = sym (not_fits c.args.sites c.self.inside.sites c.loop-at.at c.if-at-sites.true c.if-self-at.true) ∙ ap (set_fits c.args.sites) c.self.view_is

pub returns-clause-fits : goal.returns-clause-fits
returns-clause-fits c = sym (fits_of c.args.sites c.self.inside.sites (below_16 c.args.sites c.loop-at.at c.self.inside.sites c.self.invariant (omega arith) c.loop-at.invariant)) ∙ ap (set_fits c.args.sites) c.self.view_is

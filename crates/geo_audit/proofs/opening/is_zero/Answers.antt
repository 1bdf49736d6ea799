use Rattle.std.proofs.Common.{sym, ◌∙◌}
use Rattle.geo_audit.proofs.Zeros.{tells_zeros, other_zeros}
use Rattle.geo_audit.proofs.opening.is_zero.Goals as goal

pub returns-then-sites : goal.returns-then-sites
returns-then-sites c = tells_zeros c.args.vector.now c.args.sites c.greatest.result (sym c.sites.ensures.sites ∙ c.if-sites.true) c.greatest.ensures.greatest

pub returns-else-sites : goal.returns-else-sites
returns-else-sites c = other_zeros c.args.vector.now c.args.sites c.sites.result c.sites.ensures.sites c.if-sites.false

use Rattle.std.proofs.Common.{rules}
use Rattle.geo_versions.proofs.Sifting.{sifted_left}
use Rattle.geo_versions.proofs.removal.sift.Goals as goal

pub returns : goal.returns
returns c = sifted_left _ c.args.horizon _ (λ e b g d call. (search rules, (search rules, search rules))) _ _ c.retain_mut.ensures.filtered

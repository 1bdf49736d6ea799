-- The order of stamps is total.
use Rattle.std.proofs.Common.{ℕ, ap}
use Rattle.std.specs.Cmp.{IsTotalOrder}
use Rattle.std.specs.Ordering.{nat_cmp}
use Rattle.std.proofs.lemmas.Cmp.{then_total, on_total, nat_cmp_total}
use Rattle.std.proofs.lemmas.Map.Lookups.{exact_pairs, exact_unsigned, CmpEqualImpliesEq}
use Rattle.geo_stamp.specs.Stamps.{Moment, stamp_cmp}

-- the order tells all stamps apart, and is total
pub exact_stamps : CmpEqualImpliesEq stamp_cmp
exact_stamps a b h = ap (λ (p : ℕ × ℕ). record { time = p.0; site = p.1 })
    (exact_pairs nat_cmp nat_cmp exact_unsigned exact_unsigned (a.time, a.site) (b.time, b.site) h)

pub stamps_total : IsTotalOrder stamp_cmp
stamps_total = then_total (on_total (λ (s : Moment). s.time) nat_cmp_total) (on_total (λ (s : Moment). s.site) nat_cmp_total)

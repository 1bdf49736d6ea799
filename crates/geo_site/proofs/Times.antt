-- Stamps by their times.
use Rattle.std.proofs.Common.{◌≡◌, ℕ, ◌≤◌, ◌<◌, true, false, cond, true≢false, nat_lt, sym, ap, ◌∙◌, inl, inr, arith}
use Rattle.std.proofs.lemmas.Bool.{cases_lt}
use Rattle.std.proofs.lemmas.Bool.Decides.{nat_tests}
use Rattle.std.specs.declared.cmp.Ordering.TheVariants.{Less, Equal, Greater}
use Rattle.std.specs.Ordering.{ordering_then, is_lt, nat_cmp}
use Rattle.geo_stamp.specs.Stamps.{Moment, stamp_cmp}

pub earlier : (a b : Moment) → a.time < b.time → stamp_cmp a b ≡ Less
earlier a b lt = let h : nat_lt a.time b.time ≡ true = grind (arith, nat_tests) in ap (λ t. ordering_then (cond t Less (cond (Rattle.std.proofs.Common.nat_eq a.time b.time) Equal Greater)) (nat_cmp a.site b.site)) h

pub time_of : (y z : Moment) → is_lt (stamp_cmp y z) ≡ false → z.time ≤ y.time
time_of y z h = elim (cases_lt y.time z.time) [ inr le ↦ le | inl lt ↦ absurd (true≢false (sym (ap is_lt (earlier y z lt)) ∙ h)) ]

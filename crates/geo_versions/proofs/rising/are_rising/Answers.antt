use Rattle.std.proofs.Common.{rules}
use Rattle.std.specs.Ordering.{nat_cmp, is_lt}
use Rattle.std.specs.Cmp.Lexicographic.{slice_cmp}
use Rattle.std.proofs.lemmas.List.Sorted.{answers_always}
use Rattle.geo_versions.proofs.InOrder.{rising_told}
use Rattle.geo_versions.proofs.rising.are_rising.Goals as goal

pub returns : goal.returns
returns c = rising_told c.args.records.now c.is_sorted_by.result (c.is_sorted_by.ensures.cases (λ x y. is_lt (slice_cmp nat_cmp x.0 y.0)) (answers_always _ _ _ (λ f a r w call. search rules)))

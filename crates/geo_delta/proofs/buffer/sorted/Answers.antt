use Rattle.std.proofs.Common.{sym, ap, ◌∙◌, subst}
use Rattle.std.proofs.lemmas.List.Filters.{dedup_is}
use Rattle.std.proofs.lemmas.List.Sorted.{All-permutation, IsPermutation-map, list_any-IsPermutation}
use Rattle.std.specs.Cmp.Lexicographic.{slice_cmp}
use Rattle.std.specs.List.{list_any}
use Rattle.std.specs.List.Sorted.{IsStrictlySortedBy}
use Rattle.std.specs.Ordering.{nat_cmp}
use Rattle.geo_records.specs.Keys.{same_key}
use Rattle.geo_delta.specs.Heads.{IsBehind, key_under, keys_under}
use Rattle.geo_delta.proofs.Heads.{each_once, rises_once, same_headed}
use Rattle.geo_delta.proofs.buffer.sorted.Goals as goal

pub returns-clause-rising : goal.returns-clause-rising
returns-clause-rising c =
    let all = c.sort_unstable.new.self.items in
    let begin = c.requires.0 in
    subst (λ hs. IsStrictlySortedBy (slice_cmp nat_cmp) (keys_under hs)) (sym (dedup_is same_headed all c.dedup.new.self.items c.dedup.ensures.filtered))
    (rises_once begin all (All-permutation (IsBehind begin) c.args.keys.items all c.sort_unstable.ensures.permutation c.requires.1) c.sort_unstable.ensures.sorted)

pub returns-clause-same : goal.returns-clause-same
returns-clause-same c = λ q.
    let all = c.sort_unstable.new.self.items in
    ap (λ hs. list_any (same_key q) (keys_under hs)) (dedup_is same_headed all c.dedup.new.self.items c.dedup.ensures.filtered)
    ∙ each_once q all
    ∙ sym
    (list_any-IsPermutation (same_key q) (keys_under c.args.keys.items) (keys_under all) (IsPermutation-map key_under c.args.keys.items all c.sort_unstable.ensures.permutation))

use Rattle.std.proofs.Common.{rules, subst, sym, arith}
use Rattle.std.proofs.lemmas.List.Sorted.{All-permutation, IsNonDecreasingBy-from_sort_by_key, IsPermutation-sym, IsPermutation-trans, length_permutation}
use Rattle.geo_config.proofs.Numbering.{numbered_once_sorted}
use Rattle.geo_config.specs.Lawful.{AreNumbered, SiteIsInRange}
use Rattle.geo_config.proofs.order.sorted.Goals as goal

-- sorting keeps the sites, and the test that follows says where each of them stands
pub returns-clause-lawful : goal.returns-clause-lawful
returns-clause-lawful c =
    let was = c.requires in
    let moved = c.sort_unstable_by_key.ensures.permutation in
    let same = length_permutation c.args.config.sites.items c.sort_unstable_by_key.new.self.items moved in
    record {
      in_range = record {
        pages = was.pages;
        max_records = was.max_records;
        reap_after = was.reap_after;
        every = was.every;
        era = was.era;
        era_bytes = was.era_bytes;
        sessions = was.sessions;
        patience = was.patience;
        drain = was.drain;
        count = omega (arith, was.count, same);
        sites = All-permutation (SiteIsInRange c.args.config.link) _ _ moved was.sites;
      };
      numbered = subst AreNumbered c.as_slice.ensures.value (c.are_numbered.ensures.0 c.if-not-are_numbered.false);
    }

-- where some order of the sites is numbered, the sorted one is
pub returns-then-not-are_numbered-clause-refused : goal.returns-then-not-are_numbered-clause-refused
returns-then-not-are_numbered-clause-refused c = λ _ can.
    let was = c.args.config.sites.items in
    let now = c.sort_unstable_by_key.new.self.items in
    let moved = c.sort_unstable_by_key.ensures.permutation in
    let up = IsNonDecreasingBy-from_sort_by_key (λ s. s.number) now c.sort_unstable_by_key.ensures.sorted (λ a r q k. search rules) in
    let (ordered, same, numbered) = can in
    let reached = IsPermutation-trans ordered was now (IsPermutation-sym was ordered same) moved in
    let numbered_now : AreNumbered now = numbered_once_sorted ordered now reached up numbered in
    let is_true = c.are_numbered.ensures.1 (subst AreNumbered (sym c.as_slice.ensures.value) numbered_now) in
    absurd (cc (is_true, c.if-not-are_numbered.true))

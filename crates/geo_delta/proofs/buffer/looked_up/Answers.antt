use Rattle.std.proofs.Common.{◌≡◌, cond, None, [], ◌∷◌, ◌++◌, sym, ap, length, ◌∙◌, subst, arith}
use Rattle.std.specs.List.{All, list_any}
use Rattle.std.specs.List.Sorted.{IsStrictlySortedBy}
use Rattle.std.specs.Cmp.Lexicographic.{slice_cmp}
use Rattle.std.specs.Ordering.{nat_cmp}
use Rattle.geo_records.specs.Keys.{same_key}
use Rattle.geo_versions.specs.Maps.{Rising, rec_means, since, listed_at}
use Rattle.geo_records.specs.Operations.{Record}
use Rattle.geo_delta.specs.Heads.{keys_under}
use Rattle.geo_delta.proofs.Heads.{keys_push}
use Rattle.geo_delta.proofs.News.{news, found_is_news, one_more, none_more, news_rise, news_at, news_filled}
use Rattle.geo_maps.proofs.Showing.{rest_more, rest_none}
use Rattle.geo_delta.proofs.buffer.looked_up.Goals as goal

pub loop-headed-preserved-in_ok-push : goal.loop-headed-preserved-in_ok-push
loop-headed-preserved-in_ok-push g c =
    let base = c.args.base.now in
    let at = g.T.Lookup.record_of c.args.versions.now in
    let headed = c.in-Some.headed in
    let key = headed.key.now in
    let ks = keys_under c.loop-headed.yielded in
    let grown = ap (news base at) (sym (keys_push c.loop-headed.yielded headed)) in
    let steps = c.in-Some.ensures.steps.0 in
    record {
      all =
          one_more base at ks key c.in-Some-news_of.rec c.loop-headed.all.items _ c.loop-headed.invariant.all
          (c.in_ok-push.ensures.items ∙ ap (λ k. c.loop-headed.all.items ++ (k, c.in-Some-news_of.rec) ∷ []) (c.in_ok-copied.ensures.same ∙ c.key-key.ensures))
          (found_is_news base (at key) _ (c.in-Some-news_of.ensures.record ∙ ap (λ k. since base (at k)) c.key-key.ensures) c.in-Some-news_of.ensures.filled) ∙ grown;
      rest = rest_more c.loop-headed.yielded _ _ _ headed c.loop-headed.invariant.rest steps;
      left = let was = c.loop-headed.invariant.left in let gone = c.in-Some.ensures.steps.1 in let short = ap length steps in omega arith;
    }

pub loop-headed-preserved : goal.loop-headed-preserved
loop-headed-preserved g c =
    let base = c.args.base.now in
    let at = g.T.Lookup.record_of c.args.versions.now in
    let headed = c.in-Some.headed in
    let key = headed.key.now in
    let ks = keys_under c.loop-headed.yielded in
    let grown = ap (news base at) (sym (keys_push c.loop-headed.yielded headed)) in
    let steps = c.in-Some.ensures.steps.0 in
    record {
      all = none_more base at ks key c.loop-headed.all.items c.loop-headed.invariant.all (found_is_news base (at key) None (c.in_default.ensures.record ∙ ap (λ k. since base (at k)) c.key-key.ensures) tt) ∙ grown;
      rest = rest_more c.loop-headed.yielded _ _ _ headed c.loop-headed.invariant.rest steps;
      left = let was = c.loop-headed.invariant.left in let gone = c.in-Some.ensures.steps.1 in let short = ap length steps in omega arith;
    }

pub returns-clause-rising : goal.returns-clause-rising
returns-clause-rising g c =
    let none : c.loop-headed.yielded ≡ c.args.keys.items = rest_none _ _ _ c.loop-headed.invariant.rest (sym c.loop-headed.invariant.left ∙ c.in-None.ensures.steps.0) ∙ c.into_iter-headed-iterator.ensures.into_iter_gives.0 in
    subst Rising (sym c.loop-headed.invariant.all) (news_rise c.args.base.now (g.T.Lookup.record_of c.args.versions.now) (keys_under c.loop-headed.yielded) (subst (λ hs. IsStrictlySortedBy (slice_cmp nat_cmp) (keys_under hs)) (sym none) c.requires))

pub returns-clause-records : goal.returns-clause-records
returns-clause-records g c = λ q.
    let none : c.loop-headed.yielded ≡ c.args.keys.items = rest_none _ _ _ c.loop-headed.invariant.rest (sym c.loop-headed.invariant.left ∙ c.in-None.ensures.steps.0) ∙ c.into_iter-headed-iterator.ensures.into_iter_gives.0 in
    ap (λ es. listed_at es q) c.loop-headed.invariant.all ∙ news_at c.args.base.now (g.T.Lookup.record_of c.args.versions.now) (keys_under c.loop-headed.yielded) q
    ∙ ap (λ hs. cond {A = Record} (list_any (same_key q) (keys_under hs)) (since c.args.base.now (g.T.Lookup.record_of c.args.versions.now q)) (None, None)) none

pub returns-clause-filled : goal.returns-clause-filled
returns-clause-filled g c = subst (All (λ e. rec_means e.1 ≡ (None, None) → ⊥)) (sym c.loop-headed.invariant.all) (news_filled c.args.base.now (g.T.Lookup.record_of c.args.versions.now) (keys_under c.loop-headed.yielded))

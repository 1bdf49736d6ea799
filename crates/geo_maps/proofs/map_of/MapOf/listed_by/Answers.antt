use Rattle.std.proofs.Common.{◌≡◌, ◌∙◌, sym, refl, ap, arith, length, subst}
use Rattle.std.specs.List.{IsDistinct}
use Rattle.std.specs.List.Sorted.{IsStrictlySortedBy}
use Rattle.std.specs.Map.{keys_of, lookup}
use Rattle.std.specs.Option.{option_and_then}
use Rattle.geo_maps.proofs.Listing.{one_shown, none_shown, shown_distinct, shown_at}
use Rattle.geo_maps.proofs.Showing.{rest_more, rest_none, more_shown, shown_rising}
use Rattle.geo_maps.proofs.map_of.MapOf.listed_by.Goals as goal

pub loop-key-preserved-in-Continue-branch-3 : goal.loop-key-preserved-in-Continue-branch-3
loop-key-preserved-in-Continue-branch-3 g c =
    let show = g.S.Show.shown c.args.show.now in
    let key = c.in-Some.key in
    let value = c.in-Some.value in
    let steps = c.in-Some.ensures.steps.0 in
    record {
      all = more_shown (λ v. show v.now) c.loop-key.yielded key value c.loop-key.all.items _ c.loop-key.invariant.all (one_shown key key c.in-Some-show.item (show value.now) c.loop-key.all.items _ c.in_ok-push.ensures.items refl c.in-Some-show.ensures);
      rest = rest_more c.loop-key.yielded _ _ _ _ c.loop-key.invariant.rest steps;
      left = let was = c.loop-key.invariant.left in let gone = c.in-Some.ensures.steps.1 in let short = ap length steps in omega arith;
    }

pub loop-key-preserved : goal.loop-key-preserved
loop-key-preserved g c =
    let show = g.S.Show.shown c.args.show.now in
    let key = c.in-Some.key in
    let value = c.in-Some.value in
    let steps = c.in-Some.ensures.steps.0 in
    record {
      all = more_shown (λ v. show v.now) c.loop-key.yielded key value c.loop-key.all.items _ c.loop-key.invariant.all (none_shown key (show value.now) c.loop-key.all.items _ refl c.in_default.ensures);
      rest = rest_more c.loop-key.yielded _ _ _ _ c.loop-key.invariant.rest steps;
      left = let was = c.loop-key.invariant.left in let gone = c.in-Some.ensures.steps.1 in let short = ap length steps in omega arith;
    }

pub returns-clause-rising : goal.returns-clause-rising
returns-clause-rising g c =
    let showing = c.in_ok-showing.showing.items in
    let none : c.loop-key.yielded ≡ showing = rest_none _ _ _ c.loop-key.invariant.rest (sym c.loop-key.invariant.left ∙ c.in-None.ensures.steps.0) ∙ c.into_iter-key-iterator.ensures.into_iter_gives.0 in
    subst (λ xs. IsStrictlySortedBy g.K.Ord.cmp (keys_of xs)) (sym c.loop-key.invariant.all) (shown_rising (λ v. g.S.Show.shown c.args.show.now v.now) g.K.Ord.cmp c.loop-key.yielded (subst (λ xs. IsStrictlySortedBy g.K.Ord.cmp (keys_of xs)) (sym none) c.in_ok-showing.ensures.rising))

pub returns-clause-unique : goal.returns-clause-unique
returns-clause-unique g c =
    let eq = g.K.PartialEq.eq in
    let showing = c.in_ok-showing.showing.items in
    let none : c.loop-key.yielded ≡ showing = rest_none _ _ _ c.loop-key.invariant.rest (sym c.loop-key.invariant.left ∙ c.in-None.ensures.steps.0) ∙ c.into_iter-key-iterator.ensures.into_iter_gives.0 in
    subst (λ xs. IsDistinct eq (keys_of xs)) (sym c.loop-key.invariant.all) (shown_distinct (λ v. g.S.Show.shown c.args.show.now v.now) eq c.loop-key.yielded (subst (λ xs. IsDistinct eq (keys_of xs)) (sym none) c.in_ok-showing.ensures.unique))

pub returns-clause-shown : goal.returns-clause-shown
returns-clause-shown g c = λ q.
    let eq = g.K.PartialEq.eq in
    let show = g.S.Show.shown c.args.show.now in
    let showing = c.in_ok-showing.showing.items in
    let none : c.loop-key.yielded ≡ showing = rest_none _ _ _ c.loop-key.invariant.rest (sym c.loop-key.invariant.left ∙ c.in-None.ensures.steps.0) ∙ c.into_iter-key-iterator.ensures.into_iter_gives.0 in
    ap (lookup (eq q)) c.loop-key.invariant.all
    ∙ shown_at (λ v. show v.now) eq g.met.K.Eq.laws c.loop-key.yielded (subst (λ xs. IsDistinct eq (keys_of xs)) (sym none) c.in_ok-showing.ensures.unique) q
    ∙ ap (λ xs. option_and_then (λ v. show v.now) (lookup (eq q) xs)) none
    ∙ c.in_ok-showing.ensures.shown q

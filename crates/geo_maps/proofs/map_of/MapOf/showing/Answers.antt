use Rattle.std.proofs.Common.{rules, ◌∙◌, ap}
use Rattle.std.proofs.lemmas.List.Sorted.{ranks_by, answers_always}
use Rattle.std.specs.Option.{option_and_then}
use Rattle.geo_maps.proofs.Listing.{reordered_distinct, reordered_at, rises}
use Rattle.geo_maps.proofs.map_of.MapOf.showing.Goals as goal

pub returns-clause-rising : goal.returns-clause-rising
returns-clause-rising g c =
    let eq = g.K.PartialEq.eq in
    rises eq g.K.Ord.cmp g.met.K.Ord.total g.met.K.Ord.matches_eq c.sort_by.new.self.items
    (c.in_ok-sort_by.ensures.sorted _ (ranks_by g.met.K.Ord.total (λ e. e.0)) (answers_always _ _ _ (λ a r q k. search rules)))
    (reordered_distinct eq g.met.K.Eq.laws c.in_ok-all.all.items _ c.sort_by.ensures.permutation c.in_ok-all.ensures.unique)

pub returns-clause-unique : goal.returns-clause-unique
returns-clause-unique g c =
    let eq = g.K.PartialEq.eq in
    reordered_distinct eq g.met.K.Eq.laws c.in_ok-all.all.items _ c.sort_by.ensures.permutation c.in_ok-all.ensures.unique

pub returns-clause-shown : goal.returns-clause-shown
returns-clause-shown g c = λ q.
    let show = g.S.Show.shown c.args.show.now in
    let eq = g.K.PartialEq.eq in
    ap (option_and_then (λ v. show v.now)) (reordered_at eq g.met.K.Eq.laws c.in_ok-all.all.items _ c.sort_by.ensures.permutation c.in_ok-all.ensures.unique q)
    ∙ c.in_ok-all.ensures.shown q

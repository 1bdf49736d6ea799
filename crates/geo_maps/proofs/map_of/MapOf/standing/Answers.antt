use Rattle.std.proofs.Common.{◌≡◌, ◌∙◌, sym, refl, ap, arith, true≢false, subst, is_some, map}
use Rattle.std.proofs.lemmas.List.{take_all}
use Rattle.std.specs.List.{IsDistinct}
use Rattle.std.specs.Map.{lookup, keys_of}
use Rattle.std.specs.Option.{option_and_then}
use Rattle.geo_maps.specs.Maps.{get}
use Rattle.geo_maps.proofs.Listing.{shown_of, shown_more, shown_distinct, shown_at}
use Rattle.geo_maps.proofs.Showing.{plain, kept, one_kept, none_kept, plain_keys, plain_at, kept_at}
use Rattle.geo_maps.proofs.map_of.MapOf.standing.Goals.{in-Some+then-is_some+in_ok-twin+in_ok-push, in-Some+else-is_some, in_default}
use Rattle.geo_maps.proofs.map_of.MapOf.standing.Goals as goal

pub loop-i-preserved : goal.loop-i-preserved
loop-i-preserved g c =
    let show = g.S.Show.shown c.args.show.now in
    elim c.match-get_index.branch [
      | in-Some+then-is_some+in_ok-twin+in_ok-push w ↦
          let key = w.in-Some.key.now in
          let value = w.in-Some.value.now in
          shown_more (kept show) _ c.loop-i.i key value (map plain c.loop-i.all.items) _ w.in-Some.ensures.entry c.loop-i.invariant
          (one_kept show key w.in_ok-twin.field-0 value w.in-Some.value w.is_some.result c.loop-i.all.items _ (ap (λ x. x.items) w.all-is ∙ w.in_ok-push.ensures.items) w.in_ok-twin.ensures refl (w.is_some.ensures ∙ ap is_some w.show.ensures) w.if-is_some.true)
      | in-Some+else-is_some w ↦
          let key = w.in-Some.key.now in
          let value = w.in-Some.value.now in
          shown_more (kept show) _ c.loop-i.i key value (map plain c.loop-i.all.items) _ w.in-Some.ensures.entry c.loop-i.invariant
          (none_kept show key value w.is_some.result c.loop-i.all.items _ (ap (λ x. x.items) w.all-is) (w.is_some.ensures ∙ ap is_some w.show.ensures) w.if-is_some.false)
      | in_default w ↦ absurd (true≢false (sym (w.in_default.ensures.found.1 (omega arith))))
    ]

pub returns-clause-unique : goal.returns-clause-unique
returns-clause-unique g c =
    let show = kept (g.S.Show.shown c.args.show.now) in
    let es = c.self.inside.entries.entries in
    let all : map plain c.loop-i.all.items ≡ shown_of show es = c.loop-i.invariant ∙ ap (shown_of show) (take_all c.loop-i.i es (omega arith)) in
    let eq = g.K.PartialEq.eq in
    subst (IsDistinct eq) (ap keys_of (sym all) ∙ plain_keys c.loop-i.all.items) (shown_distinct show eq es c.len-i-end.ensures.unique)

pub returns-clause-shown : goal.returns-clause-shown
returns-clause-shown g c = λ q.
    let show = g.S.Show.shown c.args.show.now in
    let eq = g.K.PartialEq.eq in
    let es = c.self.inside.entries.entries in
    let unique = c.len-i-end.ensures.unique in
    let all : map plain c.loop-i.all.items ≡ shown_of (kept show) es = c.loop-i.invariant ∙ ap (shown_of (kept show)) (take_all c.loop-i.i es (omega arith)) in
    plain_at show (eq q) c.loop-i.all.items
    ∙ ap (λ xs. option_and_then show (lookup (eq q) xs)) all
    ∙ ap (option_and_then show) (shown_at (kept show) eq g.met.K.Eq.laws es unique q)
    ∙ kept_at show (lookup (eq q) es)
    ∙ ap (λ m. option_and_then show (get eq m q)) c.self.view_is

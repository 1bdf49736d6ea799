use Rattle.std.proofs.Common.{◌∙◌, sym, refl, ap, arith, subst, is_some, map, length, slice_get, ◌+◌}
use Rattle.std.specs.List.{IsDistinct}
use Rattle.std.specs.Map.{lookup}
use Rattle.std.specs.Option.{option_and_then}
use Rattle.geo_maps.specs.Maps.{get, HasAll}
use Rattle.geo_maps.proofs.Entries.{some_none, some_same}
use Rattle.geo_maps.proofs.Showing.{plain, kept, one_kept, none_kept, plain_keys, plain_at, kept_at}
use Rattle.geo_maps.proofs.Told.{Told, told_none, told_skip, told_next, told_all}
use Rattle.geo_maps.proofs.map_of.MapOf.as_they_came.Goals.{in-Some+in-Some-get_index+then-is_some+in_ok-twin+in_ok-push, in-Some+in-Some-get_index+else-is_some, in-Some+in_default-get_index, in_default}
use Rattle.geo_maps.proofs.map_of.MapOf.as_they_came.Goals as goal

pub loop-index-init : goal.loop-index-init
loop-index-init g c =
    let eq = g.K.PartialEq.eq in
    let es = c.self.inside.entries.entries in
    let came = c.args.coming.now.came.items in
    let show = kept (g.S.Show.shown c.args.show.now) in
    subst (λ xs. Told eq es came show 0 (map plain xs)) (sym c.new-all.ensures.items) (told_none eq es came show)

pub loop-index-preserved : goal.loop-index-preserved
loop-index-preserved g c =
    let show = g.S.Show.shown c.args.show.now in
    let eq = g.K.PartialEq.eq in
    let laws = g.met.K.Eq.laws in
    let es = c.self.inside.entries.entries in
    let unique = c.len-count.ensures.unique in
    let order = c.args.coming.now.order.items in
    let came = c.args.coming.now.came.items in
    let has = subst (λ m. HasAll order came (length m.entries)) (sym c.self.view_is) c.requires.all in
    let i = c.loop-index.index in
    let out = map plain c.loop-index.all.items in
    let told = c.loop-index.invariant in
    elim c.match-standing.branch [
      | in-Some+in-Some-get_index+then-is_some+in_ok-twin+in_ok-push w ↦
          let key = w.in-Some-get_index.key.now in
          let value = w.in-Some-get_index.value.now in
          told_next eq laws es unique order came has (kept show) i w.in-Some.place key value out told (sym w.in-Some-get_index.ensures.entry) w.in-Some.ensures.0 w.in-Some.ensures.1 _
          (one_kept show key w.in_ok-twin.field-0 value w.in-Some-get_index.value w.is_some.result c.loop-index.all.items _ (ap (λ x. x.items) w.all-is ∙ w.in_ok-push.ensures.items) w.in_ok-twin.ensures refl (w.is_some.ensures ∙ ap is_some w.show.ensures) w.if-is_some.true)
      | in-Some+in-Some-get_index+else-is_some w ↦
          let key = w.in-Some-get_index.key.now in
          let value = w.in-Some-get_index.value.now in
          told_next eq laws es unique order came has (kept show) i w.in-Some.place key value out told (sym w.in-Some-get_index.ensures.entry) w.in-Some.ensures.0 w.in-Some.ensures.1 _
          (none_kept show key value w.is_some.result c.loop-index.all.items _ (ap (λ x. x.items) w.all-is) (w.is_some.ensures ∙ ap is_some w.show.ensures) w.if-is_some.false)
      | in-Some+in_default-get_index w ↦
          subst (λ a. Told eq es came (kept show) (i + 1) (map plain a.items)) (sym w.all-is)
          (told_skip eq laws es unique order came has (kept show) i out told (λ p k v there leads at.
          some_none (sym there ∙ ap (λ n. slice_get es n) (some_same (sym leads ∙ w.in-Some.ensures.0)) ∙ sym w.in_default-get_index.ensures.entry)))
      | in_default w ↦
          subst (λ a. Told eq es came (kept show) (i + 1) (map plain a.items)) (sym w.all-is)
          (told_skip eq laws es unique order came has (kept show) i out told (λ p k v there leads at. w.in_default.ensures p leads at))
    ]

pub returns-clause-unique : goal.returns-clause-unique
returns-clause-unique g c = subst (IsDistinct g.K.PartialEq.eq) (plain_keys c.loop-index.all.items) c.loop-index.invariant.distinct

pub returns-clause-shown : goal.returns-clause-shown
returns-clause-shown g c = λ q.
    let show = g.S.Show.shown c.args.show.now in
    let eq = g.K.PartialEq.eq in
    let es = c.self.inside.entries.entries in
    let order = c.args.coming.now.order.items in
    let came = c.args.coming.now.came.items in
    let has = subst (λ m. HasAll order came (length m.entries)) (sym c.self.view_is) c.requires.all in
    let out = map plain c.loop-index.all.items in
    plain_at show (eq q) c.loop-index.all.items
    ∙ ap (option_and_then show) (told_all eq g.met.K.Eq.laws es c.len-count.ensures.unique order came has (kept show) c.loop-index.index out c.loop-index.invariant (omega arith) q)
    ∙ kept_at show (lookup (eq q) es)
    ∙ ap (λ m. option_and_then show (get eq m q)) c.self.view_is

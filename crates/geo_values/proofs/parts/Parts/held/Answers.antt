use Rattle.std.proofs.Common.{rules, ◌≡◌, ◌∙◌, sym, ap, arith, true≢false}
use Rattle.std.proofs.lemmas.List.{take_all}
use Rattle.std.proofs.lemmas.List.Sorted.{ranks_by, answers_always}
use Rattle.std.proofs.lemmas.Cmp.{nat_list_cmp_total}
use Rattle.geo_maps.proofs.Listing.{shown_of}
use Rattle.geo_values.specs.Held.{by_key}
use Rattle.geo_values.specs.Links.{links_in}
use Rattle.geo_values.proofs.Digests.{shows, listed-more, listed-rising, listed-at}
use Rattle.geo_values.proofs.Found.{held_fits}
use Rattle.geo_values.proofs.Linked.{holds_some}
use Rattle.geo_values.proofs.parts.Parts.held.Goals.{in-Some+in_ok-twin+in_ok-push, in_default}
use Rattle.geo_values.proofs.parts.Parts.held.Goals as goal

pub loop-index-init : goal.loop-index-init
loop-index-init c = ap by_key c.in_ok-all.ensures.items

pub bytes-requires : goal.bytes-requires
bytes-requires c = holds_some c.requires.linked c.in-Some.key.now c.in-Some.item.now c.in-Some.ensures.value

pub overflow_cast-length : goal.overflow_cast-length
overflow_cast-length c = omega (arith, held_fits (links_in c.args.self.now) c.requires.linked c.in-Some.key.now c.in-Some.item.now c.in-Some.ensures.value c.bytes.result.now c.bytes.ensures)

pub loop-index-preserved : goal.loop-index-preserved
loop-index-preserved c =
    let slabs = c.args.self.now.slabs in
    let es = c.args.self.now.items.entries in
    elim c.match-get_index.branch [
      | in-Some+in_ok-twin+in_ok-push w ↦
          let key = w.in-Some.key.now in
          let item = w.in-Some.item.now in
          listed-more slabs es c.loop-index.index key w.in_ok-twin.field-0 item c.loop-index.all.items _ (c.requires.linked.sound key item w.in-Some.ensures.value) w.bytes.result.now w.bytes.ensures w.in-Some.ensures.entry c.loop-index.invariant w.in_ok-twin.ensures (ap (λ x. x.items) w.all-is ∙ w.in_ok-push.ensures.items)
      | in_default w ↦ absurd (true≢false (sym (w.in_default.ensures.found.1 (omega arith))))
    ]

pub returns-clause-rising : goal.returns-clause-rising
returns-clause-rising c =
    let slabs = c.args.self.now.slabs in
    let es = c.args.self.now.items.entries in
    let whole : by_key c.loop-index.all.items ≡ shown_of (shows slabs) es = c.loop-index.invariant ∙ ap (shown_of (shows slabs)) (take_all c.loop-index.index es (omega arith)) in
    listed-rising slabs es c.len-index-end.ensures.unique c.loop-index.all.items c.sort_by.new.self.items whole c.sort_by.ensures.permutation
    (c.in_ok-sort_by.ensures.sorted _ (ranks_by nat_list_cmp_total (λ e. e.0)) (answers_always _ _ _ (λ a r q k. search rules)))

pub returns-clause-held : goal.returns-clause-held
returns-clause-held c = λ q.
    let slabs = c.args.self.now.slabs in
    let es = c.args.self.now.items.entries in
    let whole : by_key c.loop-index.all.items ≡ shown_of (shows slabs) es = c.loop-index.invariant ∙ ap (shown_of (shows slabs)) (take_all c.loop-index.index es (omega arith)) in
    listed-at slabs es c.len-index-end.ensures.unique c.loop-index.all.items c.sort_by.new.self.items whole c.sort_by.ensures.permutation q

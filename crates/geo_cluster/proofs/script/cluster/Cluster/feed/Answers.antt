use Rattle.std.proofs.Common.{arith, refl, ap, ◌∙◌, ◌≡◌, ◌-◌, ◌<◌, ℕ, List, length, Some, slice_get}
use Rattle.std.proofs.lemmas.Option.{slice_get_read}
use Rattle.geo_cluster.specs.Prints.{client_text}
use Rattle.geo_cluster.proofs.Setting.{is_there}
use Rattle.geo_cluster.proofs.Feeding.{connected_stands, feeds, feeds_not}
use Rattle.geo_cluster.proofs.script.cluster.Cluster.feed.Goals as goal

pub returns-then-not-branch-clause-does : goal.returns-then-not-branch-clause-does
returns-then-not-branch-clause-does c = λ p st.
    feeds_not p _ c.answer_all.new.self c.args.site c.feed.new.self c.in_ok-items.items.items c.new-answer.result.items c.answer_all.new.answer.items c.in_ok-answer_all.field-0
    (connected_stands p c.args.self.now _ c.args.site c.feed.new.self st refl refl refl) c.in_ok-answer_all.ensures c.if-not-branch.true

pub returns-clause-does : goal.returns-clause-does
returns-clause-does c = λ p st.
    let s = c.args.site in
    let connections = c.args.self.now.connections.items in
    let was = c.index_mut.result.now in
    let within : s - 1 < length connections = omega (arith, c.if-at-len.false, c.len.ensures) in
    let at : slice_get connections (s - 1) ≡ Some was = slice_get_read connections (length connections) (s - 1) was refl within c.index_mut.ensures.value in
    let many : length connections ≡ length p.setups = ap (λ cs. length cs) st.connections ∙ st.clients in
    let prints = c.in_ok-answer_line.ensures ∙ ap (λ (x : List ℕ). client_text s x) c.as_slice.ensures.value in
    feeds p c.args.self.now _ c.answer_all.new.self s was c.feed.new.self c.args.bytes.now c.in_ok-items.items.items c.new-answer.result.items c.answer_all.new.answer.items c.in_ok-answer_line.field-0.items c.in_ok-answer_all.field-0 st
    (connected_stands p c.args.self.now _ s c.feed.new.self st refl refl refl) (is_there (length p.setups) s c.requires (omega (arith, within, many, c.requires))) at c.in_ok-items.ensures c.new-answer.ensures.items c.in_ok-answer_all.ensures prints

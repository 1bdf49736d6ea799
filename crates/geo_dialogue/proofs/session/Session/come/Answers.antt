use Rattle.std.proofs.Common.{◌≡◌, ◌++◌, List, ℕ, refl, sym, ap, subst, ◌∙◌, length}
use Rattle.std.proofs.lemmas.List.{with_items_is}
use Rattle.geo_grammar.specs.Protocol.{items_of}
use Rattle.geo_grammar.specs.declared.item.Item.{Item}
use Rattle.geo_grammar.specs.Quitting.{has_quit, until_quit}
use Rattle.geo_dialogue.specs.Connections.{Connection, Comes, IsEnd}
use Rattle.geo_dialogue.proofs.Pieces.{acted_behind}
use Rattle.geo_dialogue.proofs.Going.{come_end, stays_by, none_by, connection_of}
use Rattle.geo_dialogue.proofs.session.Session.come.Goals as goal

pub invariant_of-self-2 : goal.invariant_of-self-2
invariant_of-self-2 c =
    let stays = c.self.invariant.stays (ap (λ (x : Connection). x.goes_on) c.self.view_is ∙ c.requires.goes_on) in
    let read = c.in_ok-items.ensures.text in
    let known : c.know_digests.new.items ≡ c.in_ok-items.items.items = c.know_digests.ensures ∙ c.as_mut_slice.ensures.value in
    let same = with_items_is c.in_ok-items.items c.know_digests.new.items (ap (λ (l : List Item). length l) known ∙ sym c.in_ok-items.items.ok.0) ∙ known in
    let brings = ap items_of (sym read) ∙ c.in_ok-items.ensures.items in
    let quits = c.brings_quit.ensures ∙ ap has_quit (c.as_slice.ensures.value ∙ same) in
    let ends = come_end c.self.inside.requests c.args.piece.now c.feed.new.self c.in_ok-items.items.items c.brings_quit.result c.ended.result stays read brings quits c.ended.ensures in
    record {
      within = c.self.invariant.within;
      stays = λ on. stays_by c.end_by-brought.result (items_of c.feed.new.self) (none_by c.end_by-brought.result c.is_none-self-inside.result c.is_none-self-inside.ensures on) (subst (λ e. IsEnd (items_of c.feed.new.self) e) (sym c.end_by-brought.ensures) ends);
    }

pub returns-clause-ok : goal.returns-clause-ok
returns-clause-ok c =
    let stays = c.self.invariant.stays (ap (λ (x : Connection). x.goes_on) c.self.view_is ∙ c.requires.goes_on) in
    let read = c.in_ok-items.ensures.text in
    let known : c.know_digests.new.items ≡ c.in_ok-items.items.items = c.know_digests.ensures ∙ c.as_mut_slice.ensures.value in
    let same = with_items_is c.in_ok-items.items c.know_digests.new.items (ap (λ (l : List Item). length l) known ∙ sym c.in_ok-items.items.ok.0) ∙ known in
    let brings = ap items_of (sym read) ∙ c.in_ok-items.ensures.items in
    let pending = record c.self.inside.pending { waiting = c.from_vec.result } in
    let new = connection_of c.feed.new.self pending c.self.inside.sent c.is_none-self-inside.result in
    subst (λ (x : Connection). Comes c.args.piece.now x new) c.self.view_is (record {
      came = acted_behind c.self.inside.requests c.args.piece.now c.in_ok-items.items.items stays brings ∙ ap (λ x. items_of c.self.inside.requests ++ until_quit x) (sym (c.from_vec.ensures.items ∙ same));
      stays = ap (λ (x : List ℕ). connection_of x pending c.self.inside.sent c.is_none-self-inside.result) read;
    })

pub returns-clause-end : goal.returns-clause-end
returns-clause-end c =
    let stays = c.self.invariant.stays (ap (λ (x : Connection). x.goes_on) c.self.view_is ∙ c.requires.goes_on) in
    let read = c.in_ok-items.ensures.text in
    let known : c.know_digests.new.items ≡ c.in_ok-items.items.items = c.know_digests.ensures ∙ c.as_mut_slice.ensures.value in
    let same = with_items_is c.in_ok-items.items c.know_digests.new.items (ap (λ (l : List Item). length l) known ∙ sym c.in_ok-items.items.ok.0) ∙ known in
    let brings = ap items_of (sym read) ∙ c.in_ok-items.ensures.items in
    let quits = c.brings_quit.ensures ∙ ap has_quit (c.as_slice.ensures.value ∙ same) in
    subst (λ e. IsEnd (items_of c.feed.new.self) e) (sym c.end_by-brought.ensures)
    (come_end c.self.inside.requests c.args.piece.now c.feed.new.self c.in_ok-items.items.items c.brings_quit.result c.ended.result stays read brings quits c.ended.ensures)

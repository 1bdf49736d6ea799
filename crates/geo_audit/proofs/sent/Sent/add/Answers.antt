use Rattle.std.proofs.Common.{◌≡◌, ◌∙◌, ap, cond, length, Some, sym, subst, rules}
use Rattle.std.specs.HashMap.{get}
use Rattle.geo_audit.specs.declared.sent.Place.{Place}
use Rattle.geo_audit.specs.Merging.{same_mark, IsLinked}
use Rattle.geo_audit.proofs.Links.{on_ok, linked_more}
use Rattle.geo_audit.proofs.sent.Sent.add.Goals as goal

pub returns-clause-linked : goal.returns-clause-linked
returns-clause-linked c =
    let many : c.len-number.result ≡ length c.args.self.now.places.items = search rules in
    let place : Place = record { history = c.args.history; step = c.args.step; mark = c.mark_of-mark.result; before = c.last_with-before.result } in
    on_ok c.note_last.result c.note_last.ensures (λ noted.
    subst (λ l. IsLinked c.args.histories.now l (λ mark. get same_mark c.note_last.new.last mark)) (sym c.in_ok-push.ensures.items)
    (linked_more c.args.histories.now c.args.self.now.places.items (λ mark. get same_mark c.args.self.now.last mark) (λ mark. get same_mark c.note_last.new.last mark) place c.args.parcel.now c.requires.linked c.requires.made c.mark_of-mark.ensures c.last_with-before.ensures
    (λ q. noted q ∙ ap (λ n. cond (same_mark c.mark_of-mark.result q) (Some n) (get same_mark c.args.self.now.last q)) many)))

use Rattle.std.proofs.Common.{arith, ◌≡◌, ◌≤◌, ◌∙◌, ℕ, List, length, Some, refl, sym, subst, ap, is_some, cond}
use Rattle.indexmap.specs.IndexMap.{get}
use Rattle.geo_records.specs.Keys.{same_key}
use Rattle.geo_slabs.specs.Storage.{chunk_bytes, so_long, with_held}
use Rattle.geo_lru.specs.Lists.{entered, left}
use Rattle.geo_lru.proofs.Calls.{if_refused}
use Rattle.geo_values.specs.Steps.{rewritten}
use Rattle.geo_values.specs.declared.parts.Item.{Item}
use Rattle.geo_values.specs.Stock.{no_items}
use Rattle.geo_values.proofs.Linked.{can_go, holds_some}
use Rattle.geo_values.proofs.Rewritten.{is_written, is_as_before, class_set, class_set_back}
use Rattle.geo_values.proofs.parts.Parts.renew.Goals as goal

pub replace-requires-clause-held : goal.replace-requires-clause-held
replace-requires-clause-held c = holds_some c.requires.linked c.args.key.now c.in-Some.item.now (sym c.in-Some.ensures.value)

pub replace-requires-clause-fits : goal.replace-requires-clause-fits
replace-requires-clause-fits c =
    let home : c.in-Some.item.now.chunk.class ≡ c.args.class = (c.requires.linked.sound c.args.key.now c.in-Some.item.now (sym c.in-Some.ensures.value)).class ∙ c.if-item-class.false in
    subst (λ (b : List ℕ). length b ≤ chunk_bytes c.in-Some.item.now.chunk.class) (sym c.bytes.ensures)
    (subst (λ k. length c.args.blob.now ≤ chunk_bytes k) (sym home) c.requires.class.1)

pub returns-in_err-renew-clause-unchanged : goal.returns-in_err-renew-clause-unchanged
returns-in_err-renew-clause-unchanged c =
    let was = c.in-Some.item.now in
    let here = sym c.in-Some.ensures.value in
    let written = (c.get_mut.follows.holds was).3 (ap is_some here) in
    if_refused c.from_residual.result _ (record {
      item = is_as_before (get same_key c.args.self.now.items) (get same_key (c.get_mut.follows.lender was)) c.args.key.now was written.0 here;
      key = λ _. refl;
      storage = refl;
      lists = class_set_back c.args.self.now.classes.items was.class c.index_mut.result.now c.renew.new.self no_items
          (omega (arith, (can_go c.requires.linked c.args.key.now was here).class, c.requires.classes)) c.index_mut.ensures.value c.in_err-renew.ensures.unchanged;
    })

pub returns-clause-renews : goal.returns-clause-renews
returns-clause-renews c =
    let was = c.in-Some.item.now in
    let here = sym c.in-Some.ensures.value in
    let new : Item = record { number = was.number; digest = c.digest-item.result; class = was.class; chunk = c.replace.new.chunk } in
    let is : new ≡ rewritten was c.args.blob.now = λ i. record {
      number = was.number;
      digest = c.digest-item.ensures i;
      class = was.class;
      chunk = (c.replace.ensures.chunk ∙ ap (so_long was.chunk) c.bytes.ensures) i;
    } in
    let written = (c.get_mut.follows.holds new).3 (ap is_some here) in
    record {
      item = was;
      is = here;
      class_is = c.if-item-class.false;
      done = record {
        item = subst (λ (item : Item). (q : List ℕ) → get same_key (c.get_mut.follows.lender new) q ≡ cond (same_key q c.args.key.now) (Some item) (get same_key c.args.self.now.items q)) is
            (is_written (get same_key c.args.self.now.items) (get same_key (c.get_mut.follows.lender new)) c.args.key.now new written.0);
        key = λ _. refl;
        storage = c.replace.ensures.holds ∙ ap (λ (b : List ℕ). with_held c.args.self.now.slabs was.chunk.class was.chunk.number (Some b)) c.bytes.ensures;
        lists = class_set c.args.self.now.classes.items was.class c.index_mut.result.now c.renew.new.self no_items
            (omega (arith, (can_go c.requires.linked c.args.key.now was here).class, c.requires.classes)) c.index_mut.ensures.value
            (λ l. entered was.number (left was.number l)) c.in_ok-renew.ensures.renewed;
      };
    }

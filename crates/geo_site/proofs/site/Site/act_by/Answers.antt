use Rattle.std.proofs.Common.{◌≡◌, true, false, refl, sym, ap, ◌∙◌, subst}
use Rattle.geo_site.specs.Entries.{is_due, is_stuck}
use Rattle.geo_site.specs.Machine.{IsRecordCount, IsHeldCount}
use Rattle.geo_site.specs.Sites.{state_in, clock_in, waiting_in, reply_in, RequestDoesBy, ActDoes}
use Rattle.geo_site.proofs.Acting.{unchanged}
use Rattle.geo_site.proofs.Due.{due_after}
use Rattle.geo_site.proofs.Telling.{full_does, stuck_told}
use Rattle.geo_site.proofs.site.Site.act_by.Goals as goal

pub returns-then-has_due_flush : goal.returns-then-has_due_flush
returns-then-has_due_flush c =
    let old = c.args.self.now in
    let mid = c.flush_due.new.self in
    let now = c.args.now in
    let request = c.args.request.now in
    let said = c.plain.ensures.reply in
    let stuck : is_stuck (waiting_in old) (clock_in old) now ≡ true = sym (due_after (waiting_in old) (clock_in old) now) ∙ ap (λ w. is_due w now) (sym c.flush_due.ensures.flush.waiting) ∙ sym c.if-has_due_flush.ensures in
    let does : ActDoes old mid now request c.plain.result.reply = record {
      mid = mid;
      flush = c.flush_due.ensures.flush;
      recorded = subst (λ n. IsRecordCount (state_in mid).map n) c.records-records.ensures.count c.records-records.ensures.records;
      held = subst (λ n. IsHeldCount (state_in mid).stock.held n) c.items-items.ensures.count c.items-items.ensures.held;
      does = subst (λ t. RequestDoesBy t mid mid now request c.plain.result.reply) (sym stuck) (said, unchanged (state_in mid), (refl, refl), (refl, refl, refl));
    } in
    record { does = record { does = does; told = stuck_told mid c.args.with_copies now request c.plain.result said c.plain.ensures.told } }

pub returns : goal.returns
returns c =
    let old = c.args.self.now in
    let mid = c.flush_due.new.self in
    let new = c.answer.new.self in
    let now = c.args.now in
    let request = c.args.request.now in
    let free : is_stuck (waiting_in old) (clock_in old) now ≡ false = sym (due_after (waiting_in old) (clock_in old) now) ∙ ap (λ w. is_due w now) (sym c.flush_due.ensures.flush.waiting) ∙ sym c.if-has_due_flush.ensures in
    let does : ActDoes old new now request (reply_in c.answer.result) = record {
      mid = mid;
      flush = c.flush_due.ensures.flush;
      recorded = subst (λ n. IsRecordCount (state_in mid).map n) c.records-records.ensures.count c.records-records.ensures.records;
      held = subst (λ n. IsHeldCount (state_in mid).stock.held n) c.items-items.ensures.count c.items-items.ensures.held;
      does = subst (λ t. RequestDoesBy t mid new now request (reply_in c.answer.result)) (sym free) (record {
        answer = c.answer.ensures.answer;
        done = c.answer.ensures.done;
        refused = c.answer.ensures.refused;
        counts = c.answer.ensures.counts;
        victim = c.answer.ensures.victim;
        waiting = c.answer.ensures.waiting;
        stays = c.answer.ensures.stays;
      });
    } in
    record { does = full_does old new now request c.args.with_copies c.answer.result does c.answer.ensures.told }

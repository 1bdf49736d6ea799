use Rattle.std.proofs.Common.{rules, ap, ◌∙◌, ◌≡◌, Result, Ok, Err, sym, subst, refl}
use Rattle.geo_history.specs.Stories.{story_in}
use Rattle.geo_history.specs.Keeping.{TickForDoes, ActForDoes, SendForDoes, TakeForDoes, FillForDoes, RetireForDoes, RemoveForDoes, ReapForDoes}
use Rattle.geo_site.specs.declared.event.Event.TheVariants.{Command, Send, Take, Remove, Tick, Reap, Fill, Retire}
use Rattle.geo_site.specs.declared.event.Answer.TheVariants.{Replied, Sent, SendRefused, Taken as Took, TakeRefused, Removed, Ticked, Reaped, ReapRefused, Filled as FilledAs, Retired, RetireRefused}
use Rattle.geo_station.specs.Wholes.{TicksOnce, NotesOne}
use Rattle.geo_station.proofs.Stepping.{StepsOne, one_made, one_whole, one_noted, tick_one, tick_still, act_one, act_still, send_one, unsent_one, take_one, untaken_one, take_still, fill_one, fill_still, retire_one, unretired_one, remove_one, reap_one, unreaped_one, reap_still, same_still}
use Rattle.geo_site.specs.declared.refusal.ReapError.TheVariants.{ClockEnded, Memory}
use Rattle.geo_station.proofs.Caring.{care_one}
use Rattle.geo_station.proofs.desk.Desk.reap.Goals as goal

pub book-requires-clause-made : goal.book-requires-clause-made
book-requires-clause-made g c =
    let before = c.args.account.now.mark in
    let old = story_in c.args.self.now.kept in
    let new = story_in c.reap_for.new.self in
    let key = c.args.key.now in
    let does = subst (λ n. ReapForDoes old new n c.args.now key (Ok c.in-Ok.is_deleted)) c.number.ensures c.in-Ok.ensures.does in
    let one : StepsOne old new before.number (Reap c.args.now key) (Reaped c.in-Ok.is_deleted) = reap_one old new before.number c.args.now key c.in-Ok.is_deleted c.requires.undue does in
    one_made old new before.number (Reap c.args.now key) (Reaped c.in-Ok.is_deleted) one

pub invariant_of-self-clause-whole : goal.invariant_of-self-clause-whole
invariant_of-self-clause-whole g c =
    let before = c.args.account.now.mark in
    let old = story_in c.args.self.now.kept in
    let new = story_in c.reap_for.new.self in
    let key = c.args.key.now in
    let does = subst (λ n. ReapForDoes old new n c.args.now key (Ok c.in-Ok.is_deleted)) c.number.ensures c.in-Ok.ensures.does in
    let one : StepsOne old new before.number (Reap c.args.now key) (Reaped c.in-Ok.is_deleted) = reap_one old new before.number c.args.now key c.in-Ok.is_deleted c.requires.undue does in
    one_whole old new before.number (Reap c.args.now key) (Reaped c.in-Ok.is_deleted) c.args.self.now.journal c.book.new.journal before c.book.new.self.mark one c.book.ensures.noted c.args.self.now.whole

pub returns-in-Ok-clause-noted : goal.returns-in-Ok-clause-noted
returns-in-Ok-clause-noted g c =
    let before = c.args.account.now.mark in
    let old = story_in c.args.self.now.kept in
    let new = story_in c.reap_for.new.self in
    let key = c.args.key.now in
    let does = subst (λ n. ReapForDoes old new n c.args.now key (Ok c.in-Ok.is_deleted)) c.number.ensures c.in-Ok.ensures.does in
    let one : StepsOne old new before.number (Reap c.args.now key) (Reaped c.in-Ok.is_deleted) = reap_one old new before.number c.args.now key c.in-Ok.is_deleted c.requires.undue does in
    care_one c.args.self.now.journal c.book.new.journal before c.book.new.self.mark (Reap c.args.now key) (Reaped c.in-Ok.is_deleted) refl (one_noted old new (Reap c.args.now key) (Reaped c.in-Ok.is_deleted) c.args.self.now.journal c.book.new.journal before c.book.new.self.mark one c.book.ensures.noted c.book.ensures.agree)

pub invariant_of-self-in-Err-ClockEnded-clause-whole : goal.invariant_of-self-in-Err-ClockEnded-clause-whole
invariant_of-self-in-Err-ClockEnded-clause-whole g c =
    let before = c.args.account.now.mark in
    let old = story_in c.args.self.now.kept in
    let new = story_in c.reap_for.new.self in
    let key = c.args.key.now in
    let does : ReapForDoes old new before.number c.args.now key (Err ClockEnded) = subst (λ n. ReapForDoes old new n c.args.now key (Err ClockEnded)) c.number.ensures
    (subst (λ r. ReapForDoes old new c.number.result c.args.now key r) (c.in-Err-ClockEnded.is ∙ ap Err c.in-Err-ClockEnded.field-0-is) c.reap_for.ensures.does) in
    let one : StepsOne old new before.number (Reap c.args.now key) (ReapRefused ClockEnded) = unreaped_one old new before.number c.args.now key c.requires.undue does in
    one_whole old new before.number (Reap c.args.now key) (ReapRefused ClockEnded) c.args.self.now.journal c.book-in-Err-ClockEnded.new.journal before c.book-in-Err-ClockEnded.new.self.mark one c.book-in-Err-ClockEnded.ensures.noted c.args.self.now.whole

pub returns-in-Err-ClockEnded-clause-noted : goal.returns-in-Err-ClockEnded-clause-noted
returns-in-Err-ClockEnded-clause-noted g c =
    let before = c.args.account.now.mark in
    let old = story_in c.args.self.now.kept in
    let new = story_in c.reap_for.new.self in
    let key = c.args.key.now in
    let does : ReapForDoes old new before.number c.args.now key (Err ClockEnded) = subst (λ n. ReapForDoes old new n c.args.now key (Err ClockEnded)) c.number.ensures
    (subst (λ r. ReapForDoes old new c.number.result c.args.now key r) (c.in-Err-ClockEnded.is ∙ ap Err c.in-Err-ClockEnded.field-0-is) c.reap_for.ensures.does) in
    let one : StepsOne old new before.number (Reap c.args.now key) (ReapRefused ClockEnded) = unreaped_one old new before.number c.args.now key c.requires.undue does in
    care_one c.args.self.now.journal c.book-in-Err-ClockEnded.new.journal before c.book-in-Err-ClockEnded.new.self.mark (Reap c.args.now key) (ReapRefused ClockEnded) refl
    (one_noted old new (Reap c.args.now key) (ReapRefused ClockEnded) c.args.self.now.journal c.book-in-Err-ClockEnded.new.journal before c.book-in-Err-ClockEnded.new.self.mark one c.book-in-Err-ClockEnded.ensures.noted c.book-in-Err-ClockEnded.ensures.agree)

pub invariant_of-self-in-Err-Memory : goal.invariant_of-self-in-Err-Memory
invariant_of-self-in-Err-Memory g c = record {
  total = search rules;
  parts = search rules;
  amount = search rules;
  few = search rules;
  whole = reap_still (story_in c.args.self.now.kept) (story_in c.reap_for.new.self) c.number.result c.args.now c.args.key.now c.args.self.now.journal c.requires.undue
      (subst (λ r. ReapForDoes (story_in c.args.self.now.kept) (story_in c.reap_for.new.self) c.number.result c.args.now c.args.key.now r) (c.in-Err-Memory.is ∙ ap Err c.in-Err-Memory.field-0-is) c.reap_for.ensures.does)
      c.args.self.now.whole;
}

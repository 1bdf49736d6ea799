use Rattle.std.proofs.Common.{rules, ◌+◌, ◌≡◌, Result, Ok, Err, sym, subst, refl}
use Rattle.geo_history.specs.Stories.{story_in}
use Rattle.geo_history.specs.Keeping.{TickForDoes, ActForDoes, SendForDoes, TakeForDoes, FillForDoes, RetireForDoes, RemoveForDoes, ReapForDoes}
use Rattle.geo_site.specs.declared.event.Event.TheVariants.{Command, Send, Take, Remove, Tick, Reap, Fill, Retire}
use Rattle.geo_site.specs.declared.event.Answer.TheVariants.{Replied, Sent, SendRefused, Taken as Took, TakeRefused, Removed, Ticked, Reaped, ReapRefused, Filled as FilledAs, Retired, RetireRefused}
use Rattle.geo_journal.specs.Marks.{Noted}
use Rattle.geo_station.specs.Wholes.{TicksOnce, NotesOne}
use Rattle.geo_station.proofs.Stepping.{StepsOne, one_made, one_whole, one_noted, tick_one, tick_still, act_one, act_still, send_one, unsent_one, take_one, untaken_one, take_still, fill_one, fill_still, retire_one, unretired_one, remove_one, reap_one, unreaped_one, reap_still, same_still, untaken_notes}
use Rattle.geo_station.proofs.desk.Desk.take_in_era.Goals as goal

pub book-requires-clause-made : goal.book-requires-clause-made
book-requires-clause-made g c =
    let before = c.args.account.now.mark in
    let old = story_in c.args.self.now.kept in
    let new = story_in c.take_kept.new.self in
    let does = subst (λ n. TakeForDoes old new n c.args.parcel (Ok c.in-Ok.taken)) c.number.ensures c.in-Ok.ensures.does in
    let one : StepsOne old new before.number (Take c.args.parcel) (Took c.in-Ok.taken) = take_one old new before.number c.args.parcel c.in-Ok.taken does in
    one_made old new before.number (Take c.args.parcel) (Took c.in-Ok.taken) one

pub invariant_of-self-clause-whole : goal.invariant_of-self-clause-whole
invariant_of-self-clause-whole g c =
    let before = c.args.account.now.mark in
    let old = story_in c.args.self.now.kept in
    let new = story_in c.take_kept.new.self in
    let does = subst (λ n. TakeForDoes old new n c.args.parcel (Ok c.in-Ok.taken)) c.number.ensures c.in-Ok.ensures.does in
    let one : StepsOne old new before.number (Take c.args.parcel) (Took c.in-Ok.taken) = take_one old new before.number c.args.parcel c.in-Ok.taken does in
    one_whole old new before.number (Take c.args.parcel) (Took c.in-Ok.taken) c.args.self.now.journal c.book.new.journal before c.book.new.self.mark one c.book.ensures.noted c.args.self.now.whole

pub returns-in-Ok-clause-noted : goal.returns-in-Ok-clause-noted
returns-in-Ok-clause-noted g c =
    let before = c.args.account.now.mark in
    let old = story_in c.args.self.now.kept in
    let new = story_in c.take_kept.new.self in
    let does = subst (λ n. TakeForDoes old new n c.args.parcel (Ok c.in-Ok.taken)) c.number.ensures c.in-Ok.ensures.does in
    let one : StepsOne old new before.number (Take c.args.parcel) (Took c.in-Ok.taken) = take_one old new before.number c.args.parcel c.in-Ok.taken does in
    one_noted old new (Take c.args.parcel) (Took c.in-Ok.taken) c.args.self.now.journal c.book.new.journal before c.book.new.self.mark one c.book.ensures.noted c.book.ensures.agree

pub invariant_of-self-in-Memory : goal.invariant_of-self-in-Memory
invariant_of-self-in-Memory g c = record {
  total = search rules;
  parts = search rules;
  amount = search rules;
  few = search rules;
  whole = take_still (story_in c.args.self.now.kept) (story_in c.take_kept.new.self) c.number.result c.args.parcel c.in-Err.refused c.args.self.now.journal c.in-Memory.is c.in-Err.ensures.does c.args.self.now.whole;
}

pub book-requires-in_default-clause-made : goal.book-requires-in_default-clause-made
book-requires-in_default-clause-made g c =
    let before = c.args.account.now.mark in
    let old = story_in c.args.self.now.kept in
    let new = story_in c.take_kept.new.self in
    let refused = c.in-Err.refused in
    let does = subst (λ n. TakeForDoes old new n c.args.parcel (Err refused)) c.number.ensures c.in-Err.ensures.does in
    let one : StepsOne old new before.number (Take c.args.parcel) (TakeRefused refused.why) = untaken_one old new before.number c.args.parcel refused c.in_default.not-Memory does in
    one_made old new before.number (Take c.args.parcel) (TakeRefused refused.why) one

pub invariant_of-self-in_default-clause-whole : goal.invariant_of-self-in_default-clause-whole
invariant_of-self-in_default-clause-whole g c =
    let before = c.args.account.now.mark in
    let old = story_in c.args.self.now.kept in
    let new = story_in c.take_kept.new.self in
    let refused = c.in-Err.refused in
    let does = subst (λ n. TakeForDoes old new n c.args.parcel (Err refused)) c.number.ensures c.in-Err.ensures.does in
    let one : StepsOne old new before.number (Take c.args.parcel) (TakeRefused refused.why) = untaken_one old new before.number c.args.parcel refused c.in_default.not-Memory does in
    one_whole old new before.number (Take c.args.parcel) (TakeRefused refused.why) c.args.self.now.journal c.book-in_default.new.journal before c.book-in_default.new.self.mark one c.book-in_default.ensures.noted c.args.self.now.whole

pub invariant_of-self-in_default-clause-parts : goal.invariant_of-self-in_default-clause-parts
invariant_of-self-in_default-clause-parts g c =
    let before = c.args.account.now.mark in
    let old = story_in c.args.self.now.kept in
    let new = story_in c.take_kept.new.self in
    let refused = c.in-Err.refused in
    let does = subst (λ n. TakeForDoes old new n c.args.parcel (Err refused)) c.number.ensures c.in-Err.ensures.does in
    let one : StepsOne old new before.number (Take c.args.parcel) (TakeRefused refused.why) = untaken_one old new before.number c.args.parcel refused c.in_default.not-Memory does in
    let noted = one_noted old new (Take c.args.parcel) (TakeRefused refused.why) c.args.self.now.journal c.book-in_default.new.journal before c.book-in_default.new.self.mark one c.book-in_default.ensures.noted c.book-in_default.ensures.agree in
    subst (λ (all : Noted). c.args.self.now.rest.parts + all.given ≡ c.args.self.now.seats) (sym noted.all) c.args.self.now.parts

pub returns-in_default-clause-noted : goal.returns-in_default-clause-noted
returns-in_default-clause-noted g c =
    let before = c.args.account.now.mark in
    let old = story_in c.args.self.now.kept in
    let new = story_in c.take_kept.new.self in
    let refused = c.in-Err.refused in
    let does = subst (λ n. TakeForDoes old new n c.args.parcel (Err refused)) c.number.ensures c.in-Err.ensures.does in
    let one : StepsOne old new before.number (Take c.args.parcel) (TakeRefused refused.why) = untaken_one old new before.number c.args.parcel refused c.in_default.not-Memory does in
    untaken_notes c.args.self.now.journal c.book-in_default.new.journal before c.book-in_default.new.self.mark c.args.parcel refused.why c.in_default.not-Memory
    (one_noted old new (Take c.args.parcel) (TakeRefused refused.why) c.args.self.now.journal c.book-in_default.new.journal before c.book-in_default.new.self.mark one c.book-in_default.ensures.noted c.book-in_default.ensures.agree)

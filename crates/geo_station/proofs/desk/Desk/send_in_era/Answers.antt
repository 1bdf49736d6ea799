use Rattle.std.proofs.Common.{rules, ◌≡◌, Result, Ok, Err, sym, subst, refl}
use Rattle.geo_history.specs.Stories.{story_in}
use Rattle.geo_history.specs.Keeping.{TickForDoes, ActForDoes, SendForDoes, TakeForDoes, FillForDoes, RetireForDoes, RemoveForDoes, ReapForDoes}
use Rattle.geo_site.specs.declared.event.Event.TheVariants.{Command, Send, Take, Remove, Tick, Reap, Fill, Retire}
use Rattle.geo_site.specs.declared.event.Answer.TheVariants.{Replied, Sent, SendRefused, Taken as Took, TakeRefused, Removed, Ticked, Reaped, ReapRefused, Filled as FilledAs, Retired, RetireRefused}
use Rattle.geo_station.specs.Wholes.{TicksOnce, NotesOne}
use Rattle.geo_station.proofs.Stepping.{StepsOne, one_made, one_whole, one_noted, tick_one, tick_still, act_one, act_still, send_one, unsent_one, take_one, untaken_one, take_still, fill_one, fill_still, retire_one, unretired_one, remove_one, reap_one, unreaped_one, reap_still, same_still, unsent_notes}
use Rattle.geo_station.proofs.desk.Desk.send_in_era.Goals as goal

pub invariant_of-self-clause-whole : goal.invariant_of-self-clause-whole
invariant_of-self-clause-whole g c =
    let before = c.args.account.now.mark in
    let old = story_in c.args.self.now.kept in
    let new = story_in c.send_for.new.self in
    let does = subst (λ n. SendForDoes old new n c.args.to (Ok c.in-Ok.parcels)) c.number.ensures c.in-Ok.ensures.does in
    let one : StepsOne old new before.number (Send c.args.to) (Sent c.in-Ok.parcels.0) = send_one old new before.number c.args.to c.in-Ok.parcels does in
    one_whole old new before.number (Send c.args.to) (Sent c.in-Ok.parcels.0) c.args.self.now.journal c.book.new.journal before c.book.new.self.mark one c.book.ensures.noted c.args.self.now.whole

pub returns-in-Ok-clause-noted : goal.returns-in-Ok-clause-noted
returns-in-Ok-clause-noted g c =
    let before = c.args.account.now.mark in
    let old = story_in c.args.self.now.kept in
    let new = story_in c.send_for.new.self in
    let does = subst (λ n. SendForDoes old new n c.args.to (Ok c.in-Ok.parcels)) c.number.ensures c.in-Ok.ensures.does in
    let one : StepsOne old new before.number (Send c.args.to) (Sent c.in-Ok.parcels.0) = send_one old new before.number c.args.to c.in-Ok.parcels does in
    one_noted old new (Send c.args.to) (Sent c.in-Ok.parcels.0) c.args.self.now.journal c.book.new.journal before c.book.new.self.mark one c.book.ensures.noted c.book.ensures.agree

pub book-requires-in-Err-clause-made : goal.book-requires-in-Err-clause-made
book-requires-in-Err-clause-made g c =
    let before = c.args.account.now.mark in
    let old = story_in c.args.self.now.kept in
    let new = story_in c.send_for.new.self in
    let does = subst (λ n. SendForDoes old new n c.args.to (Err c.in-Err.why)) c.number.ensures c.in-Err.ensures.does in
    let one : StepsOne old new before.number (Send c.args.to) (SendRefused c.in-Err.why) = unsent_one old new before.number c.args.to c.in-Err.why (search rules) does in
    one_made old new before.number (Send c.args.to) (SendRefused c.in-Err.why) one

pub invariant_of-self-in-Err-clause-whole : goal.invariant_of-self-in-Err-clause-whole
invariant_of-self-in-Err-clause-whole g c =
    let before = c.args.account.now.mark in
    let old = story_in c.args.self.now.kept in
    let new = story_in c.send_for.new.self in
    let does = subst (λ n. SendForDoes old new n c.args.to (Err c.in-Err.why)) c.number.ensures c.in-Err.ensures.does in
    let one : StepsOne old new before.number (Send c.args.to) (SendRefused c.in-Err.why) = unsent_one old new before.number c.args.to c.in-Err.why (search rules) does in
    one_whole old new before.number (Send c.args.to) (SendRefused c.in-Err.why) c.args.self.now.journal c.book-in-Err.new.journal before c.book-in-Err.new.self.mark one c.book-in-Err.ensures.noted c.args.self.now.whole

pub returns-in-Err-clause-noted : goal.returns-in-Err-clause-noted
returns-in-Err-clause-noted g c =
    let before = c.args.account.now.mark in
    let old = story_in c.args.self.now.kept in
    let new = story_in c.send_for.new.self in
    let does = subst (λ n. SendForDoes old new n c.args.to (Err c.in-Err.why)) c.number.ensures c.in-Err.ensures.does in
    let one : StepsOne old new before.number (Send c.args.to) (SendRefused c.in-Err.why) = unsent_one old new before.number c.args.to c.in-Err.why (search rules) does in
    unsent_notes c.args.self.now.journal c.book-in-Err.new.journal before c.book-in-Err.new.self.mark c.args.to c.in-Err.why (search rules)
    (one_noted old new (Send c.args.to) (SendRefused c.in-Err.why) c.args.self.now.journal c.book-in-Err.new.journal before c.book-in-Err.new.self.mark one c.book-in-Err.ensures.noted c.book-in-Err.ensures.agree)

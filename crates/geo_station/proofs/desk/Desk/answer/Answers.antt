use Rattle.std.proofs.Common.{rules, ◌≡◌, Result, Ok, Err, sym, subst, refl}
use Rattle.geo_history.specs.Stories.{story_in}
use Rattle.geo_history.specs.Keeping.{TickForDoes, ActForDoes, SendForDoes, TakeForDoes, FillForDoes, RetireForDoes, RemoveForDoes, ReapForDoes}
use Rattle.geo_site.specs.declared.event.Event.TheVariants.{Command, Send, Take, Remove, Tick, Reap, Fill, Retire}
use Rattle.geo_site.specs.declared.event.Answer.TheVariants.{Replied, Sent, SendRefused, Taken as Took, TakeRefused, Removed, Ticked, Reaped, ReapRefused, Filled as FilledAs, Retired, RetireRefused}
use Rattle.geo_station.specs.Wholes.{TicksOnce, NotesOne}
use Rattle.geo_station.proofs.Stepping.{StepsOne, one_made, one_whole, one_noted, tick_one, tick_still, act_one, act_still, send_one, unsent_one, take_one, untaken_one, take_still, fill_one, fill_still, retire_one, unretired_one, remove_one, reap_one, unreaped_one, reap_still, same_still}
use Rattle.geo_station.proofs.desk.Desk.answer.Goals as goal

pub book-requires-clause-made : goal.book-requires-clause-made
book-requires-clause-made g c =
    let before = c.args.account.now.mark in
    let old = story_in c.args.self.now.kept in
    let new = story_in c.act_for.new.self in
    let does = subst (λ n. ActForDoes old new n c.args.now c.args.request (Ok c.in-Ok.replies)) c.number.ensures c.in-Ok.ensures.does in
    let one : StepsOne old new before.number (Command c.args.now c.args.request) (Replied c.in-Ok.replies.0) = act_one old new before.number c.args.now c.args.request c.in-Ok.replies c.requires.undue does in
    one_made old new before.number (Command c.args.now c.args.request) (Replied c.in-Ok.replies.0) one

pub invariant_of-self-clause-whole : goal.invariant_of-self-clause-whole
invariant_of-self-clause-whole g c =
    let before = c.args.account.now.mark in
    let old = story_in c.args.self.now.kept in
    let new = story_in c.act_for.new.self in
    let does = subst (λ n. ActForDoes old new n c.args.now c.args.request (Ok c.in-Ok.replies)) c.number.ensures c.in-Ok.ensures.does in
    let one : StepsOne old new before.number (Command c.args.now c.args.request) (Replied c.in-Ok.replies.0) = act_one old new before.number c.args.now c.args.request c.in-Ok.replies c.requires.undue does in
    one_whole old new before.number (Command c.args.now c.args.request) (Replied c.in-Ok.replies.0) c.args.self.now.journal c.book.new.journal before c.book.new.self.mark one c.book.ensures.noted c.args.self.now.whole

pub returns-in-Ok-clause-noted : goal.returns-in-Ok-clause-noted
returns-in-Ok-clause-noted g c =
    let before = c.args.account.now.mark in
    let old = story_in c.args.self.now.kept in
    let new = story_in c.act_for.new.self in
    let does = subst (λ n. ActForDoes old new n c.args.now c.args.request (Ok c.in-Ok.replies)) c.number.ensures c.in-Ok.ensures.does in
    let one : StepsOne old new before.number (Command c.args.now c.args.request) (Replied c.in-Ok.replies.0) = act_one old new before.number c.args.now c.args.request c.in-Ok.replies c.requires.undue does in
    one_noted old new (Command c.args.now c.args.request) (Replied c.in-Ok.replies.0) c.args.self.now.journal c.book.new.journal before c.book.new.self.mark one c.book.ensures.noted c.book.ensures.agree

pub invariant_of-self-in-Err-1 : goal.invariant_of-self-in-Err-1
invariant_of-self-in-Err-1 g c = record {
  total = search rules;
  parts = search rules;
  amount = search rules;
  few = search rules;
  whole = act_still (story_in c.args.self.now.kept) (story_in c.act_for.new.self) c.number.result c.args.now c.args.request c.in-Err.refused c.args.self.now.journal c.requires.undue c.in-Err.ensures.does c.args.self.now.whole;
}

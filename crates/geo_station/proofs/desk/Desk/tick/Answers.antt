use Rattle.std.proofs.Common.{◌≡◌, Result, Ok, Err, sym, subst, refl}
use Rattle.geo_history.specs.Stories.{story_in}
use Rattle.geo_history.specs.Keeping.{TickForDoes, ActForDoes, SendForDoes, TakeForDoes, FillForDoes, RetireForDoes, RemoveForDoes, ReapForDoes}
use Rattle.geo_site.specs.declared.event.Event.TheVariants.{Command, Send, Take, Remove, Tick, Reap, Fill, Retire}
use Rattle.geo_site.specs.declared.event.Answer.TheVariants.{Replied, Sent, SendRefused, Taken as Took, TakeRefused, Removed, Ticked, Reaped, ReapRefused, Filled as FilledAs, Retired, RetireRefused}
use Rattle.geo_station.specs.Wholes.{TicksOnce, NotesOne}
use Rattle.geo_station.proofs.Stepping.{StepsOne, one_made, one_whole, one_noted, tick_one, tick_still, act_one, act_still, send_one, unsent_one, take_one, untaken_one, take_still, fill_one, fill_still, retire_one, unretired_one, remove_one, reap_one, unreaped_one, reap_still, same_still}
use Rattle.geo_station.proofs.desk.Desk.tick.Goals as goal

pub invariant_of-self-then-flushed-clause-whole : goal.invariant_of-self-then-flushed-clause-whole
invariant_of-self-then-flushed-clause-whole g c =
    let before = c.args.account.now.mark in
    let old = story_in c.args.self.now.kept in
    let new = story_in c.tick_for.new.self in
    let does = subst (λ n. TickForDoes old new n c.args.now (Ok c.in_ok-flushed.flushed)) c.number.ensures c.in_ok-flushed.ensures.does in
    one_whole old new before.number (Tick c.args.now) (Ticked _) c.args.self.now.journal c.book.new.journal before c.book.new.self.mark
    (tick_one old new before.number c.args.now c.in_ok-flushed.flushed c.if-flushed.true does) c.book.ensures.noted c.args.self.now.whole

pub invariant_of-self-else-flushed-clause-whole : goal.invariant_of-self-else-flushed-clause-whole
invariant_of-self-else-flushed-clause-whole g c =
    let old = story_in c.args.self.now.kept in
    let new = story_in c.tick_for.new.self in
    tick_still old new c.number.result c.args.now c.in_ok-flushed.flushed c.args.self.now.journal c.if-flushed.false c.in_ok-flushed.ensures.does c.args.self.now.whole

pub returns-then-flushed-clause-noted : goal.returns-then-flushed-clause-noted
returns-then-flushed-clause-noted g c =
    let before = c.args.account.now.mark in
    let old = story_in c.args.self.now.kept in
    let new = story_in c.tick_for.new.self in
    let does = subst (λ n. TickForDoes old new n c.args.now (Ok c.in_ok-flushed.flushed)) c.number.ensures c.in_ok-flushed.ensures.does in
    subst (λ b. TicksOnce b c.args.self.now.journal c.book.new.journal before c.book.new.self.mark c.args.now) (sym c.if-flushed.true)
    (one_noted old new (Tick c.args.now) (Ticked _) c.args.self.now.journal c.book.new.journal before c.book.new.self.mark
    (tick_one old new before.number c.args.now c.in_ok-flushed.flushed c.if-flushed.true does) c.book.ensures.noted c.book.ensures.agree)

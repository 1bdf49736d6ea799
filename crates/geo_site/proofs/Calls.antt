-- What each call does is a step of the machine.
use Rattle.std.proofs.Common.{◌≡◌, ◌≢◌, ℕ, Bool, true, false, List, Option, None, Some, Ok, Err, Result, refl, sym, ap, ◌∙◌, subst, subst₂}
use Rattle.std.specs.declared.alloc.AllocError.{AllocError}
use Rattle.geo_slabs.specs.Storage.{class_count}
use Rattle.geo_delta.specs.declared.parcel.Parcel.{Parcel}
use Rattle.geo_requests.specs.declared.request.Request.{Request}
use Rattle.geo_requests.specs.declared.reply.Reply.TheVariants.{OutOfMemory}
use Rattle.geo_site.specs.declared.site.Site.{Site}
use Rattle.geo_site.specs.declared.acted.Acted.{Acted}
use Rattle.geo_site.specs.declared.fill.Filled.{Filled}
use Rattle.geo_site.specs.declared.exchange.Taken.{Taken}
use Rattle.geo_site.specs.declared.exchange.Refused.{Refused}
use Rattle.geo_site.specs.declared.refusal.SendError.{SendError}
use Rattle.geo_site.specs.declared.refusal.SendError.TheVariants as sends
use Rattle.geo_site.specs.declared.refusal.TakeError.{TakeError}
use Rattle.geo_site.specs.declared.refusal.TakeError.TheVariants as takes
use Rattle.geo_site.specs.declared.refusal.ReapError.{ReapError}
use Rattle.geo_site.specs.declared.refusal.ReapError.TheVariants as reaps
use Rattle.geo_site.specs.declared.refusal.RetireError.{RetireError}
use Rattle.geo_site.specs.declared.refusal.RetireError.TheVariants as retire
use Rattle.geo_site.specs.declared.event.Event.TheVariants.{Command, Evict, Send, Take, Remove, Tick, Reap, Fill, Retire}
use Rattle.geo_site.specs.declared.event.Answer.TheVariants.{Replied, Evicted, Sent, SendRefused, Taken as Took, TakeRefused, Removed, Ticked, Reaped, ReapRefused, Filled as FilledAs, Retired, RetireRefused}
use Rattle.geo_site.specs.Entries.{due_acts, flushes_due, is_stuck}
use Rattle.geo_site.specs.Fills.{FillDoes}
use Rattle.geo_site.specs.Machine.{SiteState, Same, issue_all, with_stock, IsRecordCount, IsHeldCount}
use Rattle.geo_site.specs.Sites.{state_in, heard_in, waiting_in, counts_in, clock_in, limits_of, record_count, held_count, Rests, Stays, FlushDoes, RequestDoesBy, ActDoes, ActFullDoes, TickDoes, ReapDoes, SendDoes, TakeDoes, RetireDoes, JuggleDoes}
use Rattle.geo_site.specs.Standings.{Who, who_in, Standing, standing_in}
use Rattle.geo_site.specs.Steps.{StepsTo, StandsAsBefore, flushed_in, ActSteps, SendSteps, UntakenSteps, TakeSteps, TickSteps, ReapSteps, FillSteps, RetireSteps}
use Rattle.geo_site.proofs.Stocking.{state_path}
use Rattle.geo_site.proofs.Issuing.{stands_same, flush_stands, undue_stands}
use Rattle.geo_site.proofs.Leading.{flush_leads, command_leads, send_leads, unsent_leads, retired_leads, take_leads, untaken_leads, fill_leads, retire_leads, unretired_leads, reap_leads, unreaped_leads}

pub who_by : (old new : Site) → new.number ≡ old.number → limits_of new ≡ limits_of old → who_in new ≡ who_in old
who_by old new n l = λ i. record { number = n i; limits = l i }

-- nothing of a site changes but for the order in which bytes go
pub stands : (old new : Site) → Same (state_in old) (state_in new) → Rests old new → Stays old new → StandsAsBefore old new
stands old new same rests stays = stands_same (state_in old) new (heard_in old) (waiting_in old) (counts_in old) same stays.2 rests.1 rests.0

-- a due flush, and then nothing more
pub flush_still : (old mid new : Site) (now : ℕ) → FlushDoes old mid now → Same (state_in mid) (state_in new) → Rests mid new → Stays mid new → FlushDoes old new now
flush_still old mid new now flush same rests stays = record {
  issued = subst (λ (st : SiteState). Same (issue_all old.number (due_acts (waiting_in old) (clock_in old) now) (state_in old)) st) (sym (state_path (state_in mid) (state_in new) same)) flush.issued;
  waiting = rests.1 ∙ flush.waiting;
  counts = rests.0 ∙ flush.counts;
  stays = (stays.0 ∙ flush.stays.0, stays.1 ∙ flush.stays.1, stays.2 ∙ flush.stays.2);
}

-- where memory is wanted for a request, only the flush before it is done
pub refused_by : (b : Bool) (old mid new : Site) (now : ℕ) (request : Request) → FlushDoes old mid now → RequestDoesBy b mid new now request OutOfMemory → FlushDoes old new now
refused_by true old mid new now request flush d = flush_still old mid new now flush d.1 d.2 d.3
refused_by false old mid new now request flush d = flush_still old mid new now flush (d.refused refl) (d.counts, d.waiting) d.stays

-- from where a site stands once its due flush is carried out
module _ (old mid new : Site) (now : ℕ) (flush : FlushDoes old mid now) (P : Who → Standing → Type 0) where
  pub behind : P (who_in mid) (standing_in mid) → P (who_in old) (flushed_in old now)
  behind = subst₂ P (who_by old mid flush.stays.0 flush.stays.1) (flush_stands old mid now flush)

pub act_steps : (old new : Site) (now : ℕ) (request : Request) (wanted : Bool) (result : Result Acted AllocError) → ActFullDoes old new now request wanted result → ActSteps old new now request result
act_steps old new now request wanted (Ok acted) tells =
    let does = tells.does in
    let told = tells.told in
    behind old does.mid new now does.flush (λ w st. StepsTo w st (Command now request) (Replied acted.reply) acted.victim acted.made (standing_in new))
    (command_leads old new now request acted.reply acted.victim acted.made does told.said told.victim told.made)
act_steps old new now request wanted (Err refused) does =
    flush_stands old new now (refused_by (is_stuck (waiting_in old) (clock_in old) now) old does.mid new now request does.flush does.does)

pub send_steps : (site : Site) (to : ℕ) (result : Result Parcel SendError) → SendDoes site to result → SendSteps site to result
send_steps site to (Ok parcel) does = send_leads site to parcel does
send_steps site to (Err sends.NoSuchSite) does = unsent_leads site to does
send_steps site to (Err sends.Retired) does = retired_leads site to does
send_steps site to (Err sends.Memory) does = tt

pub take_steps : (old new : Site) (parcel : Parcel) (result : Result Taken Refused) → TakeDoes old new parcel result → Rests old new → IsHeldCount (state_in old).stock.held (held_count old) → IsHeldCount (state_in new).stock.held (held_count new) → TakeSteps old new parcel result
take_steps old new parcel (Ok taken) does rests before after = take_leads old new parcel taken does rests before after
take_steps old new parcel (Err refused) does rests before after = by refused.why refl
  where
    untaken : (why : TakeError) → refused.why ≡ why → why ≢ takes.Memory → StepsTo (who_in old) (standing_in old) (Take parcel) (TakeRefused why) None None (standing_in new)
    untaken why is other = subst (λ w. StepsTo (who_in old) (standing_in old) (Take parcel) (TakeRefused w) None None (standing_in new)) is (untaken_leads old new parcel refused (λ e. other (sym is ∙ e)) does rests)

    by : (why : TakeError) → refused.why ≡ why → UntakenSteps old new parcel why
    by takes.NotForMe is = untaken takes.NotForMe is (λ e. cc)
    by takes.UnknownSite is = untaken takes.UnknownSite is (λ e. cc)
    by takes.Retired is = untaken takes.Retired is (λ e. cc)
    by takes.Gap is = untaken takes.Gap is (λ e. cc)
    by takes.Memory is = stands_same (state_in old) new (heard_in old) (waiting_in old) (counts_in old) does.2 does.3 rests.1 rests.0

pub tick_steps : (old new : Site) (now : ℕ) (done : Bool) → TickDoes old new now done → TickSteps old new now done
tick_steps old new now true does = flush_leads old new now does.flush (sym does.said)
tick_steps old new now false does = (sym does.said, undue_stands old new now does.flush (sym does.said))

pub reap_steps : (old new : Site) (now : ℕ) (key : List ℕ) (result : Result Bool ReapError) → ReapDoes old new now key result → ReapSteps old new now key result
reap_steps old new now key (Ok done) does =
    behind old does.mid new now does.flush (λ w st. StepsTo w st (Reap now key) (Reaped done) None None (standing_in new)) (reap_leads old new now key done does)
reap_steps old new now key (Err reaps.ClockEnded) does =
    behind old does.mid new now does.flush (λ w st. StepsTo w st (Reap now key) (ReapRefused reaps.ClockEnded) None None (standing_in new)) (unreaped_leads old new now key does)
reap_steps old new now key (Err reaps.Memory) does = does.does

pub fill_steps : (old new : Site) (key bytes : List ℕ) (result : Result Filled AllocError) → FillDoes old new key bytes result → FillSteps old new key bytes result
fill_steps old new key bytes (Ok filled) does = fill_leads old new key bytes filled does
fill_steps old new key bytes (Err refused) does = stands old new does.does.1 does.rests does.stays

pub retire_steps : (old new : Site) (other : ℕ) (result : Result Bool RetireError) → RetireDoes old new other result → Rests old new → RetireSteps old new other result
retire_steps old new other (Ok fresh) does rests = retire_leads old new other fresh does rests
retire_steps old new other (Err retire.NoSuchSite) does rests = unretired_leads old new other does rests
retire_steps old new other (Err retire.Memory) does rests = does

pub juggle_stands : (old new : Site) (class : ℕ) (result : Result Bool AllocError) → JuggleDoes old new class result → Rests old new → Stays old new → StandsAsBefore old new
juggle_stands old new class (Ok moved) does rests stays =
    stands_same (with_stock (Rattle.geo_values.specs.Stock.juggled_in class (state_in old).stock) (state_in old)) new (heard_in old) (waiting_in old) (counts_in old) does.1 stays.2 rests.1 rests.0
juggle_stands old new class (Err refused) does rests stays = stands old new does.1 rests stays

-- What is told beside a reply: copies, a victim, and what was made.
use Rattle.std.proofs.Common.{◌≡◌, ℕ, ℤ, Bool, true, false, cond, List, [], ◌∷◌, Option, None, Some, refl, sym, ap, ◌∙◌, subst, true≢false}
use Rattle.std.specs.Prelude.{Result, Ok, Err, IfOk}
use Rattle.std.specs.declared.alloc.AllocError.{AllocError}
use Rattle.geo_requests.specs.declared.request.Request.{Request}
use Rattle.geo_requests.specs.declared.reply.Reply.TheVariants.{ClockEnded}
use Rattle.geo_records.specs.Operations.{Act}
use Rattle.geo_records.specs.Operations.Act.{Flush}
use Rattle.geo_memcache.specs.Entries.{Entry}
use Rattle.geo_memcache.specs.Decisions.{deletes, touches, decided}
use Rattle.geo_memcache.specs.Asks.{request_of}
use Rattle.geo_memcache.specs.declared.ask.Ask.{Ask}
use Rattle.geo_memcache.specs.declared.ask.Ask.TheVariants.{Store, Fetch, FetchTouch, Delete, Touch, Arith}
use Rattle.geo_site.specs.declared.site.Site.{Site}
use Rattle.geo_site.specs.declared.acted.Acted.{Acted}
use Rattle.geo_site.specs.declared.acted.Beside.{Beside}
use Rattle.geo_memcache.specs.declared.decision.Decision.{Decision}
use Rattle.geo_memcache.specs.declared.decision.Effect.{Effect}
use Rattle.geo_site.specs.Entries.{acts_of, is_done, made_of, made_on, flushes_now, flush_acts}
use Rattle.geo_site.specs.Machine.{visible_in}
use Rattle.geo_site.specs.Sites.{state_in, issued_in, victim_in, reply_in, twice, ActDoes, TellsBeside, TellsPlain, ActFullDoes}
use Rattle.geo_site.specs.Changes.{is_change, bytes_in, TellsChange, TellsEffect}

-- what was answered, with what is told, is what a command does by its result
pub full_does : (old new : Site) (now : ℕ) (request : Request) (wanted : Bool) (result : Result Acted AllocError) (does : ActDoes old new now request (reply_in result))
    → IfOk result (TellsBeside does.mid wanted (issued_in does.mid now request) (made_on now (visible_in (state_in does.mid) now) request)) → ActFullDoes old new now request wanted result
full_does old new now request wanted (Ok acted) does told = record { does = does; told = told }
full_does old new now request wanted (Err refused) does told = does

-- nothing is made by a delete, and nothing by a touch
delete_makes : (present : Option Entry) → made_of (deletes present).1 ≡ None
delete_makes None = refl
delete_makes (Some e) = refl

touch_makes : (exptime : ℤ) (now : ℕ) (present : Option Entry) → made_of (touches exptime now present).1 ≡ None
touch_makes exptime now None = refl
touch_makes exptime now (Some e) = refl

-- what is told of a change is told of the request that asks for it
pub change_told : (old : Site) (now : ℕ) (key : List ℕ) (ask : Ask) (noreply : Bool) (wanted : Bool) (result : Result Acted AllocError) → is_change ask ≡ true
    → IfOk result (TellsChange old wanted key (bytes_in ask) (decided (visible_in (state_in old) now key) now ask))
    → IfOk result (TellsBeside old wanted (issued_in old now (request_of key ask noreply)) (made_on now (visible_in (state_in old) now) (request_of key ask noreply)))
change_told old now key (Store verb flags exptime unique bytes) noreply wanted result h told = told
change_told old now key (Fetch numbers) noreply wanted result h told = absurd (true≢false (sym h))
change_told old now key (FetchTouch exptime numbers) noreply wanted result h told = absurd (true≢false (sym h))
change_told old now key Delete noreply wanted result h told = subst (λ made. IfOk result (TellsBeside old wanted (issued_in old now (request_of key Delete noreply)) made)) (delete_makes (visible_in (state_in old) now key)) told
change_told old now key (Touch exptime) noreply wanted result h told = subst (λ made. IfOk result (TellsBeside old wanted (issued_in old now (request_of key (Touch exptime) noreply)) made)) (touch_makes exptime now (visible_in (state_in old) now key)) told
change_told old now key (Arith up by) noreply wanted result h told = told

-- nothing is told where nothing is stored
neither : {A : Type 0} (t : Bool) (x : Option A) → x ≡ None → None ≡ cond {A = Option A} t x None
neither true x h = sym h
neither false x h = refl

pub plain_told : (site : Site) (wanted : Bool) (acts : List Act) (acted : Acted) → victim_in site acts ≡ None → TellsPlain wanted acted → TellsBeside site wanted acts None acted
plain_told site wanted acts acted none told = record {
  said = told.said;
  copies = told.copies;
  victim = told.victim ∙ neither (is_done acted.reply) (victim_in site acts) none;
  made = told.made ∙ neither (is_done acted.reply) None refl;
}

pub each_plain_told : (site : Site) (wanted : Bool) (acts : List Act) (result : Result Acted AllocError) → victim_in site acts ≡ None → IfOk result (TellsPlain wanted) → IfOk result (TellsBeside site wanted acts None)
each_plain_told site wanted acts (Ok acted) none told = plain_told site wanted acts acted none told
each_plain_told site wanted acts (Err refused) none told = told

-- a flush has no victim
pub flush_keeps : (site : Site) (now : ℕ) (delay : ℤ) → victim_in site (flush_acts delay now) ≡ None
flush_keeps site now delay = by (flushes_now delay now)
  where
    by : (t : Bool) → victim_in site (cond {A = List Act} t (Flush ∷ []) []) ≡ None
    by true = refl
    by false = refl

-- nothing is done where the clock has ended
pub stuck_told : (site : Site) (wanted : Bool) (now : ℕ) (request : Request) (acted : Acted) → acted.reply ≡ ClockEnded → TellsPlain wanted acted
    → TellsBeside site wanted (issued_in site now request) (made_on now (visible_in (state_in site) now) request) acted
stuck_told site wanted now request acted is told = record {
  said = told.said;
  copies = told.copies;
  victim = told.victim ∙ ap (λ r. cond (is_done r) (victim_in site (issued_in site now request)) None) (sym is);
  made = told.made ∙ ap (λ r. cond (is_done r) (made_on now (visible_in (state_in site) now) request) None) (sym is);
}

-- what is told of an effect is told with the reply that was decided
pub reply_told : (old : Site) (wanted : Bool) (key bytes : List ℕ) (d : Decision) (effect : Effect) (beside : Beside) (acted : Acted) → is_done acted.reply ≡ true → acted.copies ≡ twice wanted acted.reply
    → acted.victim ≡ beside.victim → acted.made ≡ beside.made → TellsEffect old key bytes effect beside → effect ≡ d.effect → TellsChange old wanted key bytes d acted
reply_told old wanted key bytes d effect beside acted done copies victim made told is = record {
  said = λ refused. true≢false (sym done ∙ ap is_done refused);
  copies = copies;
  victim = victim ∙ told.0 ∙ ap (λ e. victim_in old (acts_of key bytes e)) is ∙ ap (λ t. cond t (victim_in old (acts_of key bytes d.effect)) None) (sym done);
  made = made ∙ told.1 ∙ ap made_of is ∙ ap (λ t. cond t (made_of d.effect) None) (sym done);
}

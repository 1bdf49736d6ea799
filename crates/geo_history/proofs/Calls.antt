-- What each call leaves of a site with its history is one again.
use Rattle.std.proofs.Common.{◌≡◌, ◌≢◌, inl, inr, ℕ, ◌+◌, Bool, true, false, cond, List, [], ◌∷◌, ◌++◌, Option, None, Some, Result, Ok, Err, refl, ap, sym, ◌∙◌, subst, subst₂, ◌<◌, ◌≤◌, arith, append_assoc}
use Rattle.std.specs.declared.alloc.AllocError.{AllocError}
use Rattle.geo_delta.specs.declared.parcel.Parcel.{Parcel}
use Rattle.geo_requests.specs.declared.request.Request.{Request}
use Rattle.geo_requests.specs.declared.reply.Reply.{Reply}
use Rattle.geo_site.specs.declared.site.Site.{Site}
use Rattle.geo_site.specs.declared.exchange.Taken.{Taken}
use Rattle.geo_site.specs.declared.exchange.Refused.{Refused}
use Rattle.geo_site.specs.declared.refusal.SendError.{SendError}
use Rattle.geo_site.specs.declared.refusal.SendError.TheVariants as sends
use Rattle.geo_site.specs.declared.refusal.TakeError.{TakeError}
use Rattle.geo_site.specs.declared.refusal.TakeError.TheVariants as takes
use Rattle.geo_site.specs.declared.refusal.ReapError.{ReapError}
use Rattle.geo_site.specs.declared.refusal.ReapError.TheVariants as reaps
use Rattle.geo_site.specs.declared.refusal.RetireError.{RetireError}
use Rattle.geo_site.specs.declared.refusal.RetireError.TheVariants as retire
use Rattle.geo_requests.specs.declared.reply.Reply.TheVariants.{OutOfMemory}
use Rattle.geo_site.specs.declared.acted.Acted.{Acted}
use Rattle.geo_site.specs.declared.fill.Filled.{Filled}
use Rattle.geo_site.specs.Fills.{FillDoes}
use Rattle.geo_site.specs.Entries.{is_stuck, is_done, made_on, due_acts}
use Rattle.geo_site.specs.Machine.{SiteState, Same, visible_in}
use Rattle.geo_site.specs.Sites.{state_in, heard_in, waiting_in, counts_in, clock_in, limits_of, issued_in, victim_in, twice, Rests, Stays, Remains, FlushDoes, RequestDoesBy, ActDoes, ActTells, ActFullDoes, ReapDoes, SendDoes, TakeDoes}
use Rattle.geo_site.proofs.Stocking.{state_path, unchanged}
use Rattle.std.proofs.lemmas.List.{append-nil}
use Rattle.geo_site.specs.declared.event.Event.TheVariants.{Command, Evict, Send, Take, Remove, Reap, Fill, Retire}
use Rattle.geo_site.specs.declared.event.Event.{Event}
use Rattle.geo_history.specs.declared.step.Step.{Step}
use Rattle.geo_site.specs.declared.event.Answer.{Answer}
use Rattle.geo_site.specs.declared.event.Answer.TheVariants.{Replied, Evicted, Sent, SendRefused, Taken as Took, TakeRefused, Removed, Reaped, ReapRefused, Filled as FilledAs, Retired, RetireRefused}
use Rattle.geo_site.specs.Standings.{who_in, standing_in}
use Rattle.geo_history.specs.Keeping.{Story, most_steps, made_by, step_with, step_of, is_flush_due, flush_count, flush_steps, number_after, IsKept, GoesOn, ReapsFor, DoesNothing, LeavesAll, ActsFor, ActForDoes, SendForDoes, TakesFor, RefusedFor, TakeForDoes, RemoveForDoes, EvictForDoes, FillForDoes, RetireForDoes, TickForDoes, ReapForDoes, JuggleForDoes}
use Rattle.geo_site.proofs.Issuing.{stands_same, flush_again, stuck_same}
use Rattle.geo_site.proofs.Leading.{command_leads, send_leads, unsent_leads, retired_leads, retire_leads, unretired_leads, take_leads, untaken_leads, remove_leads, evict_leads, fill_leads, reap_leads, unreaped_leads}
use Rattle.geo_history.proofs.Keeps.{Continues, continues_kept, continues_more, continues_still, continues_after, flush_continues, made_flushed}

-- it is the same site, which went on with some steps
pub record Goes (old new : Story) : Type 0 where
  pub more : List Step
  pub on : Continues old new more

-- so its history is still one
pub goes_kept : {old new : Story} → Goes old new → IsKept old → IsKept new
goes_kept {old} {new} goes kept = continues_kept old new goes.more goes.on kept

goes_by : {old new : Story} {more : List Step} → Continues old new more → Goes old new
goes_by {old} {new} {more} c = record { more = more; on = c }

goes_same : (old new : Story) → new ≡ old → Goes old new
goes_same old new same = record {
  more = [];
  on = record {
    goes_on = record { opening = ap (λ (s : Story). s.opening) same; more = ap (λ (s : Story). s.steps) same ∙ sym (append-nil old.steps) };
    who = ap (λ (s : Story). who_in s.site) same;
    replays = ap (λ (s : Story). standing_in s.site) same;
    numbered = λ seat. refl;
  };
}

goes_nothing : (old new : Story) (seat now : ℕ) → DoesNothing old new seat now → Goes old new
goes_nothing old new seat now (inl same) = goes_same old new same
goes_nothing old new seat now (inr does) = goes_by (flush_continues old new seat now does)

goes_all : (old new : Story) → LeavesAll old new → Goes old new
goes_all old new d = goes_by (continues_still old new d.stays.0 d.stays.1 (stands_same (state_in old.site) new.site (heard_in old.site) (waiting_in old.site) (counts_in old.site) d.same d.stays.2 d.rests.1 d.rests.0) d.goes_on)

-- ---- a command
request_stays : (b : Bool) (mid new : Site) (now : ℕ) (request : Request) (reply : Reply) → RequestDoesBy b mid new now request reply → Stays mid new
request_stays true mid new now request reply d = d.3
request_stays false mid new now request reply d = d.stays

pub act_goes : (old new : Story) (seat now : ℕ) (request : Request) (result : Result (Reply × Reply) AllocError) → ActForDoes old new seat now request result → Goes old new
act_goes old new seat now request (Ok replies) d =
    let does = d.does in
    let mid = does.mid in
    let stays = request_stays (is_stuck (waiting_in old.site) (clock_in old.site) now) mid new.site now request replies.0 does.does in
    let victim = cond {A = Option (List ℕ)} (is_done replies.0) (victim_in mid (issued_in mid now request)) None in
    let made = cond {A = Option (List ℕ × ℕ)} (is_done replies.0) (made_on now (visible_in (state_in mid) now) request) None in
    goes_by (continues_after old new seat now mid does.flush (Command now request) (Replied replies.0) victim made stays.0 stays.1
    (command_leads old.site new.site now request replies.0 victim made does d.said refl refl) d.goes_on)
act_goes old new seat now request (Err refused) d = goes_nothing old new seat now d

-- ---- sending and taking
pub send_goes : (old new : Story) (seat to : ℕ) (result : Result (Parcel × Parcel) SendError) → SendForDoes old new seat to result → Goes old new
send_goes old new seat to (Ok parcels) d = goes_by (continues_more old new seat (Send to) (Sent parcels.0) None None (ap (λ (s : Site). s.number) d.2) (ap limits_of d.2)
    (subst (λ (s : Site). Rattle.geo_site.specs.Steps.StepsTo (who_in old.site) (standing_in old.site) (Send to) (Sent parcels.0) None None (standing_in s)) (sym d.2) (send_leads old.site to parcels.0 d.0)) d.3)
send_goes old new seat to (Err sends.NoSuchSite) d = goes_by (continues_more old new seat (Send to) (SendRefused sends.NoSuchSite) None None (ap (λ (s : Site). s.number) d.1) (ap limits_of d.1)
    (subst (λ (s : Site). Rattle.geo_site.specs.Steps.StepsTo (who_in old.site) (standing_in old.site) (Send to) (SendRefused sends.NoSuchSite) None None (standing_in s)) (sym d.1) (unsent_leads old.site to d.0)) d.2)
send_goes old new seat to (Err sends.Retired) d = goes_by (continues_more old new seat (Send to) (SendRefused sends.Retired) None None (ap (λ (s : Site). s.number) d.1) (ap limits_of d.1)
    (subst (λ (s : Site). Rattle.geo_site.specs.Steps.StepsTo (who_in old.site) (standing_in old.site) (Send to) (SendRefused sends.Retired) None None (standing_in s)) (sym d.1) (retired_leads old.site to d.0)) d.2)
send_goes old new seat to (Err sends.Memory) d = goes_same old new d

pub take_goes : (old new : Story) (seat : ℕ) (parcel : Parcel) (result : Result Taken Refused) → TakeForDoes old new seat parcel result → Goes old new
take_goes old new seat parcel (Ok taken) d = goes_by (continues_more old new seat (Take parcel) (Took taken) None None d.remains.0 d.remains.1 (take_leads old.site new.site parcel taken d.does d.rests d.held_before d.held_after) d.goes_on)
take_goes old new seat parcel (Err refused) d = by refused.why refl d
  where
    untaken : (why : TakeError) → refused.why ≡ why → why ≢ takes.Memory → TakesFor old new seat parcel (Err refused) (TakeRefused why) → Goes old new
    untaken why is other d = goes_by (continues_more old new seat (Take parcel) (TakeRefused why) None None d.remains.0 d.remains.1
        (subst (λ w. Rattle.geo_site.specs.Steps.StepsTo (who_in old.site) (standing_in old.site) (Take parcel) (TakeRefused w) None None (standing_in new.site)) is (untaken_leads old.site new.site parcel refused (λ e. other (sym is ∙ e)) d.does d.rests)) d.goes_on)

    by : (why : TakeError) → refused.why ≡ why → RefusedFor old new seat parcel refused why → Goes old new
    by takes.NotForMe is d = untaken takes.NotForMe is (λ e. cc) d
    by takes.UnknownSite is d = untaken takes.UnknownSite is (λ e. cc) d
    by takes.Retired is d = untaken takes.Retired is (λ e. cc) d
    by takes.Gap is d = untaken takes.Gap is (λ e. cc) d
    by takes.Memory is d = goes_all old new d.0

-- ---- what is dropped, and flushed
pub remove_goes : (old new : Story) (seat : ℕ) (result : Result ℕ AllocError) → RemoveForDoes old new seat result → Goes old new
remove_goes old new seat (Ok count) d = goes_by (continues_more old new seat Remove (Removed count) None None d.does.stays.0 d.does.stays.1 (remove_leads old.site new.site count d.does d.recorded_before d.recorded_after) d.goes_on)
remove_goes old new seat (Err refused) d = goes_same old new d

pub evict_goes : (old new : Story) (seat : ℕ) (key : List ℕ) (result : Result Bool AllocError) → EvictForDoes old new seat key result → Goes old new
evict_goes old new seat key (Ok done) d = goes_by (continues_more old new seat (Evict key) (Evicted done) None None d.0.stays.0 d.0.stays.1 (evict_leads old.site new.site key done d.0) d.1)
evict_goes old new seat key (Err refused) d = goes_same old new d

pub fill_goes : (old new : Story) (seat : ℕ) (key bytes : List ℕ) (result : Result Filled AllocError) → FillForDoes old new seat key bytes result → Goes old new
fill_goes old new seat key bytes (Ok filled) d = goes_by (continues_more old new seat (Fill key bytes) (FilledAs filled) None None d.0.stays.0 d.0.stays.1 (fill_leads old.site new.site key bytes filled d.0) d.1)
fill_goes old new seat key bytes (Err refused) d = goes_all old new d

pub retire_goes : (old new : Story) (seat other : ℕ) (result : Result Bool RetireError) → RetireForDoes old new seat other result → Goes old new
retire_goes old new seat other (Ok fresh) d = goes_by (continues_more old new seat (Retire other) (Retired fresh) None None d.remains.0 d.remains.1 (retire_leads old.site new.site other fresh d.does d.rests) d.goes_on)
retire_goes old new seat other (Err retire.NoSuchSite) d = goes_by (continues_more old new seat (Retire other) (RetireRefused retire.NoSuchSite) None None d.remains.0 d.remains.1 (unretired_leads old.site new.site other d.does d.rests) d.goes_on)
retire_goes old new seat other (Err retire.Memory) d = goes_same old new d

pub tick_goes : (old new : Story) (seat now : ℕ) (result : Result Bool AllocError) → TickForDoes old new seat now result → Goes old new
tick_goes old new seat now (Ok done) d = goes_nothing old new seat now (inr d.1)
tick_goes old new seat now (Err refused) d = goes_same old new d

-- ---- a reap
pub reap_goes : (old new : Story) (seat now : ℕ) (key : List ℕ) (result : Result Bool ReapError) → ReapForDoes old new seat now key result → Goes old new
reap_goes old new seat now key (Ok done) d =
    let does = d.does in
    let mid = does.mid in
    goes_by (continues_after old new seat now mid does.flush (Reap now key) (Reaped done) None None does.stays.0 does.stays.1 (reap_leads old.site new.site now key done does) d.goes_on)
reap_goes old new seat now key (Err reaps.ClockEnded) d =
    let does = d.does in
    let mid = does.mid in
    goes_by (continues_after old new seat now mid does.flush (Reap now key) (ReapRefused reaps.ClockEnded) None None does.stays.0 does.stays.1 (unreaped_leads old.site new.site now key does) d.goes_on)
reap_goes old new seat now key (Err reaps.Memory) d = goes_nothing old new seat now d

-- ---- a juggle changes the order in which bytes go, and nothing else
pub juggle_goes : (old new : Story) (class : ℕ) (result : Result Bool AllocError) → JuggleForDoes old new class result → Goes old new
juggle_goes old new class result d = goes_by (continues_still old new d.stays.0 d.stays.1 (by result d.does) d.goes_on)
  where
    by : (result : Result Bool AllocError) → Rattle.geo_site.specs.Sites.JuggleDoes old.site new.site class result → standing_in new.site ≡ standing_in old.site
    by (Ok moved) does = stands_same (Rattle.geo_site.specs.Machine.with_stock (Rattle.geo_values.specs.Stock.juggled_in class (state_in old.site).stock) (state_in old.site)) new.site (heard_in old.site) (waiting_in old.site) (counts_in old.site) does.1 d.stays.2 d.rests.1 d.rests.0
    by (Err refused) does = stands_same (state_in old.site) new.site (heard_in old.site) (waiting_in old.site) (counts_in old.site) does.1 d.stays.2 d.rests.1 d.rests.0

-- ---- a due flush, and then the rest
flush_still : (old mid new : Site) (now : ℕ) → FlushDoes old mid now → Same (state_in mid) (state_in new) → Rests mid new → Stays mid new → FlushDoes old new now
flush_still old mid new now flush same rests stays = record {
  issued = subst (λ (st : SiteState). Same (Rattle.geo_site.specs.Machine.issue_all old.number (due_acts (waiting_in old) (clock_in old) now) (state_in old)) st) (sym (state_path (state_in mid) (state_in new) same)) flush.issued;
  waiting = rests.1 ∙ flush.waiting;
  counts = rests.0 ∙ flush.counts;
  stays = (stays.0 ∙ flush.stays.0, stays.1 ∙ flush.stays.1, stays.2 ∙ flush.stays.2);
}

-- where memory is wanted for a request, only the flush before it is done
refused_by : (b : Bool) (old mid new : Site) (now : ℕ) (request : Request) → FlushDoes old mid now → RequestDoesBy b mid new now request OutOfMemory → FlushDoes old new now
refused_by true old mid new now request flush d = flush_still old mid new now flush d.1 d.2 d.3
refused_by false old mid new now request flush d = flush_still old mid new now flush (d.refused refl) (d.counts, d.waiting) d.stays

pub refused_act : (old mid new : Site) (now : ℕ) (request : Request) (wanted : Bool) (e : AllocError) → FlushDoes old mid now → ActFullDoes mid new now request wanted (Err e) → FlushDoes old new now
refused_act old mid new now request wanted e flush d = refused_by (is_stuck (waiting_in mid) (clock_in mid) now) old d.mid new now request (flush_again old mid d.mid now flush d.flush) d.does

-- the steps of both
goes_both : (old mid new : Story) (seat now : ℕ) (event : Event) (answer : Answer) (victim : Option (List ℕ)) (made : Option (List ℕ × ℕ)) → GoesOn old mid (flush_steps old seat now) → GoesOn mid new (step_with seat (made_by mid seat + 1) event answer victim made ∷ [])
    → GoesOn old new (flush_steps old seat now ++ step_with seat (number_after old seat now) event answer victim made ∷ [])
goes_both old mid new seat now event answer victim made one two = record {
  opening = two.opening ∙ one.opening;
  more = two.more ∙ ap (λ (ss : List Step). ss ++ step_with seat (made_by mid seat + 1) event answer victim made ∷ []) one.more
      ∙ append_assoc old.steps (flush_steps old seat now) (step_with seat (made_by mid seat + 1) event answer victim made ∷ [])
      ∙ ap (λ n. old.steps ++ (flush_steps old seat now ++ step_with seat (n + 1) event answer victim made ∷ [])) (made_flushed old mid seat now one);
}

module _ (old mid new : Story) (seat now : ℕ) (flush : FlushDoes old.site mid.site now) (first : GoesOn old mid (flush_steps old seat now)) where
  pub acts_for : (request : Request) (wanted : Bool) (acted : Acted) (replies : Reply × Reply) → ActTells mid.site new.site now request wanted acted → replies ≡ (acted.reply, acted.reply)
      → GoesOn mid new (step_with seat (made_by mid seat + 1) (Command now request) (Replied acted.reply) acted.victim acted.made ∷ []) → ActsFor old new seat now request replies
  acts_for request wanted acted replies tells are on =
      let d = tells.does in
      let told = tells.told in
      let whole : ActDoes old.site new.site now request acted.reply = record {
        mid = d.mid;
        flush = flush_again old.site mid.site d.mid now flush d.flush;
        recorded = d.recorded;
        held = d.held;
        does = subst (λ b. RequestDoesBy b d.mid new.site now request acted.reply) (stuck_same old.site mid.site now flush) d.does;
      } in
      let Steps = λ (v : Option (List ℕ)) (m : Option (List ℕ × ℕ)). GoesOn old new (flush_steps old seat now ++ step_with seat (number_after old seat now) (Command now request) (Replied acted.reply) v m ∷ []) in
      subst (λ (rs : Reply × Reply). ActsFor old new seat now request rs) (sym are) (record {
        does = whole;
        equal = refl;
        said = told.said;
        goes_on = subst₂ Steps told.victim told.made (goes_both old mid new seat now (Command now request) (Replied acted.reply) acted.victim acted.made first on);
      })

  pub reaps_for : (key : List ℕ) (result : Result Bool ReapError) (answer : Answer) → ReapDoes mid.site new.site now key result → GoesOn mid new (step_of seat (made_by mid seat + 1) (Reap now key) answer ∷ []) → ReapsFor old new seat now key result answer
  reaps_for key result answer d on = record {
    does = record { mid = d.mid; flush = flush_again old.site mid.site d.mid now flush d.flush; does = d.does; rests = d.rests; stays = d.stays };
    goes_on = goes_both old mid new seat now (Reap now key) answer None None first on;
  }

-- how many steps there are after it
pub made_after : (old mid : Story) (seat now : ℕ) → GoesOn old mid (flush_steps old seat now) → made_by old seat + flush_count old now + 1 ≤ most_steps → made_by mid seat < most_steps
made_after old mid seat now on room = let h = made_flushed old mid seat now on in omega (arith, h, room)

pub few_flushes : (story : Story) (now : ℕ) → flush_count story now ≤ 1
few_flushes story now = by (is_flush_due story now)
  where
    by : (t : Bool) → cond t 1 0 ≤ 1
    by true = omega arith
    by false = omega arith

-- the copies of a reply are that reply
pub two_copies : (two : Reply × Reply) (reply : Reply) (copies : Option (Reply × Reply)) → copies ≡ Some two → copies ≡ twice true reply → two ≡ (reply, reply)
two_copies two reply copies some is = let both : Some two ≡ Some (reply, reply) = sym some ∙ is in cc

-- all is left as it is
pub leaves_same : (old new : Story) → new.site ≡ old.site → new.opening ≡ old.opening → new.steps ≡ old.steps → LeavesAll old new
leaves_same old new site opening steps = subst (λ (s : Story). LeavesAll old s) (λ i. record { site = sym site i; opening = sym opening i; steps = sym steps i }) (record {
  same = unchanged (state_in old.site);
  rests = (refl, refl);
  stays = (refl, refl, refl);
  goes_on = record { opening = refl; more = sym (append-nil old.steps) };
})

-- a take for which memory was wanted
pub untaken_leaves : (old new : Story) (parcel : Parcel) (refused : Refused) → TakeDoes old.site new.site parcel (Err refused) → Rests old.site new.site → Remains old.site new.site → new.opening ≡ old.opening → new.steps ≡ old.steps → LeavesAll old new
untaken_leaves old new parcel refused does rests remains opening steps = record {
  same = does.2;
  rests = rests;
  stays = (remains.0, remains.1, does.3);
  goes_on = record { opening = opening; more = steps ∙ sym (append-nil old.steps) };
}

-- bytes that would be held, for which memory was wanted
pub unfilled_leaves : (old new : Story) (key bytes : List ℕ) (refused : AllocError) → FillDoes old.site new.site key bytes (Err refused) → new.opening ≡ old.opening → new.steps ≡ old.steps → LeavesAll old new
unfilled_leaves old new key bytes refused does opening steps = record {
  same = does.does.1;
  rests = does.rests;
  stays = does.stays;
  goes_on = record { opening = opening; more = steps ∙ sym (append-nil old.steps) };
}

pub fill_unmade : (old new : Story) (seat : ℕ) (key bytes : List ℕ) (result : Result Filled AllocError) (e : AllocError) → result ≡ Err e → LeavesAll old new → FillForDoes old new seat key bytes result
fill_unmade old new seat key bytes result e is left = subst (λ (r : Result Filled AllocError). FillForDoes old new seat key bytes r) (sym is) left

-- Each call at a site leads from where it stands to where it stands then, with the answer that the call gave.
use Rattle.std.proofs.Common.{◌≡◌, ◌≢◌, ◌⊎◌, ℕ, Bool, true, false, cond, List, [], length, Option, None, Some, Ok, Err, refl, sym, ap, ◌∙◌, subst, inl, inr, true≢false}
use Rattle.std.specs.Prelude.{is_some}
use Rattle.std.specs.Cmp.Lexicographic.{same_text}
use Rattle.geo_records.specs.Keys.{same_key}
use Rattle.geo_records.specs.Operations.{Act, version_in}
use Rattle.geo_records.specs.Operations.Act.{Delete}
use Rattle.geo_delta.specs.declared.parcel.Parcel.{Parcel}
use Rattle.geo_requests.specs.declared.request.Request.{Request}
use Rattle.geo_requests.specs.declared.reply.Reply.{Reply}
use Rattle.geo_requests.specs.declared.reply.Reply.TheVariants.{OutOfMemory}
use Rattle.geo_site.specs.declared.site.Site.{Site}
use Rattle.geo_site.specs.declared.exchange.Taken.{Taken}
use Rattle.geo_site.specs.declared.exchange.Refused.{Refused}
use Rattle.geo_site.specs.declared.refusal.SendError.TheVariants.{NoSuchSite}
use Rattle.geo_site.specs.declared.refusal.SendError.TheVariants as sends
use Rattle.geo_site.specs.declared.refusal.RetireError.TheVariants as retire
use Rattle.geo_site.specs.declared.refusal.TakeError.{TakeError}
use Rattle.geo_site.specs.declared.refusal.TakeError.TheVariants as takes
use Rattle.geo_site.specs.declared.refusal.ReapError.TheVariants.{ClockEnded}
use Rattle.geo_site.specs.Entries.{Counts, names, accesses, counted, evicted_on, waits_after, flushes_due, is_stuck, is_reapable, reap_acts, owed, made_on, is_done}
use Rattle.geo_values.specs.Stock.{is_full}
use Rattle.geo_site.specs.declared.fill.Filled.{Filled}
use Rattle.geo_site.specs.Fills.{FillDoes, is_filled, came}
use Rattle.geo_site.proofs.Filling.{came_held, fills_as}
use Rattle.geo_site.specs.Machine as machine
use Rattle.geo_site.specs.Machine.{VictimOf, SiteState, Same, class_for, accessed, visible_in, removed, without, is_victim, IsRecordCount, IsHeldCount}
use Rattle.geo_site.specs.Sites.{state_in, heard_in, waiting_in, counts_in, clock_in, basis_in, record_count, held_count, issued_in, victim_in, horizon_in, HasIssued, HasIssuedAfter, FirstVictimFits, Rests, Stays, Remains, FlushDoes, RequestDoes, RequestDoesBy, ActDoes, ReapDoes, TakeDoes, RemoveDoes, RetireDoes, EvictDoes, SendDoes, IsSent as SiteSends}
use Rattle.geo_site.proofs.Victims.{one_quiet, request_goes, victim_fits}
use Rattle.geo_site.specs.declared.event.Event.TheVariants.{Command, Evict, Send, Take, Remove, Tick, Reap, Fill, Retire}
use Rattle.geo_site.specs.declared.event.Answer.TheVariants.{Replied, Evicted, Sent, SendRefused, Taken as Took, TakeRefused, Removed, Ticked, Reaped, ReapRefused, Filled as FilledAs, Retired, RetireRefused}
use Rattle.geo_stamp.specs.Acks.{retires as holds_retired, looked}
use Rattle.geo_site.specs.Standings.{who_in, Standing, standing_in, table_of, issue_all, lets_go, carries_out, evicts, admits}
use Rattle.geo_site.specs.Tables.{looked_at}
use Rattle.geo_site.specs.Steps.{Requested, Commanded, RefusesFor, IsSent, StepsTo}
use Rattle.geo_site.proofs.Issuing.{standing_at, stands_same, quiet_stands, goes_stands, accessed_stands, beside, flush_stands, none_due, stuck_same, take_stands}

-- ---- a flush that is due
pub flush_leads : (old new : Site) (now : ℕ) → FlushDoes old new now → flushes_due (waiting_in old) (clock_in old) now ≡ true → StepsTo (who_in old) (standing_in old) (Tick now) (Ticked true) None None (standing_in new)
flush_leads old new now does due = (refl, refl, (refl, due, flush_stands old new now does))

-- ---- a request
-- the reply that was owed, where it isn't want of memory
is_owed : (reply other : Reply) (P : Type 0) → reply ≢ OutOfMemory → (reply ≡ other) ⊎ ((reply ≡ OutOfMemory) × P) → reply ≡ other
is_owed reply other P said (inl e) = e
is_owed reply other P said (inr e) = absurd (said e.0)

module _ (old new : Site) (now : ℕ) (request : Request) (reply : Reply) (victim : Option (List ℕ)) (made : Option (List ℕ × ℕ)) where
  module _ (told : victim ≡ cond {A = Option (List ℕ)} (is_done reply) (victim_in old (issued_in old now request)) None) where
    request_victim : RequestDoes old new now request reply → VictimOf (state_in old).stock.held (cond {A = List Act} (is_done reply) (issued_in old now request) []) victim
    request_victim does = by (is_done reply) told does.victim
      where
        by : (t : Bool) → victim ≡ cond {A = Option (List ℕ)} t (victim_in old (issued_in old now request)) None → (t ≡ true → FirstVictimFits old (issued_in old now request)) → VictimOf (state_in old).stock.held (cond {A = List Act} t (issued_in old now request) []) victim
        by true is fits = victim_fits old (state_in old).stock.held (λ key. refl) (issued_in old now request) victim is (fits refl)
        by false is fits = subst (λ o. VictimOf (state_in old).stock.held [] o) (sym is) tt

    request_stands : RequestDoes old new now request reply → standing_in new ≡ cond (is_done reply) (carries_out (who_in old) now request victim (standing_in old)) (standing_in old)
    request_stands does = by (is_done reply) refl
      where
        Counted : Bool → Counts
        Counted t = cond t (evicted_on (victim_in old (issued_in old now request)) (counted (visible_in (state_in old) now) request (counts_in old))) (counts_in old)

        by : (t : Bool) → is_done reply ≡ t → standing_in new ≡ cond t (carries_out (who_in old) now request victim (standing_in old)) (standing_in old)
        by true e =
            let is : victim ≡ victim_in old (issued_in old now request) = told ∙ ap (λ t. cond {A = Option (List ℕ)} t (victim_in old (issued_in old now request)) None) e in
            let acts = issued_in old now request in
            let keys = accesses now (visible_in (state_in old) now) request in
            let from = accessed keys (state_in old) in
            let w = waits_after now request (waiting_in old) in
            let c = evicted_on victim (counted (visible_in (state_in old) now) request (counts_in old)) in
            stands_same (machine.issue_all old.number acts from) new (heard_in old) w c (does.done e) does.stays.2
            (does.waiting ∙ ap (λ t. cond t w (waiting_in old)) e)
            (does.counts ∙ ap Counted e ∙ ap (λ v. evicted_on v (counted (visible_in (state_in old) now) request (counts_in old))) (sym is))
            ∙ goes_stands (who_in old) (heard_in old) w c acts from victim (request_goes old now (visible_in (state_in old) now) request victim is)
            ∙ ap (λ st. issue_all (who_in old) acts (lets_go victim st)) (accessed_stands (who_in old) (heard_in old) w c keys (state_in old))
            ∙ sym (beside (who_in old) acts (lets_go victim (standing_in old)) w c)
        by false e =
            stands_same (state_in old) new (heard_in old) (waiting_in old) (counts_in old) (does.refused e) does.stays.2
            (does.waiting ∙ ap (λ t. cond t (waits_after now request (waiting_in old)) (waiting_in old)) e) (does.counts ∙ ap Counted e)

    request_leads : IsRecordCount (state_in old).map (record_count old) → IsHeldCount (state_in old).stock.held (held_count old) → reply ≢ OutOfMemory → made ≡ cond (is_done reply) (made_on now (visible_in (state_in old) now) request) None → RequestDoes old new now request reply
        → Requested (who_in old) (standing_in old) (standing_in new) now request reply victim made
    request_leads recorded held said makes does = record {
      records = record_count old;
      items = held_count old;
      recorded = recorded;
      held = held;
      answer = is_owed reply (owed now (basis_in old now) request) _ said does.answer;
      victims = request_victim does;
      makes = makes;
      leads = request_stands does;
    }

-- a command after its due flush
module _ (old new : Site) (now : ℕ) (request : Request) (reply : Reply) (victim : Option (List ℕ)) (made : Option (List ℕ × ℕ)) (does : ActDoes old new now request reply) (said : reply ≢ OutOfMemory) where
  abbrev pub mid : Site
  mid = does.mid

  told_stuck : (A : Type 0) (v x : Option A) → v ≡ cond (is_done reply) x None → is_done reply ≡ false → v ≡ None
  told_stuck A v x h undone = h ∙ ap (λ t. cond {A = Option A} t x None) undone

  pub command_leads : victim ≡ cond {A = Option (List ℕ)} (is_done reply) (victim_in mid (issued_in mid now request)) None → made ≡ cond {A = Option (List ℕ × ℕ)} (is_done reply) (made_on now (visible_in (state_in mid) now) request) None
      → StepsTo (who_in mid) (standing_in mid) (Command now request) (Replied reply) victim made (standing_in new)
  command_leads told makes =
      let stuck = stuck_same old mid now does.flush in
      (none_due old mid now does.flush, by (is_stuck (waiting_in mid) (clock_in mid) now) (subst (λ t. RequestDoesBy t mid new now request reply) (sym stuck) does.does))
    where
      by : (t : Bool) → RequestDoesBy t mid new now request reply → Commanded t (who_in mid) (standing_in mid) (standing_in new) now request reply victim made
      by true d =
          let undone : is_done reply ≡ false = ap is_done d.0 in
          record {
            answer = d.0;
            none = told_stuck (List ℕ) victim (victim_in mid (issued_in mid now request)) told undone;
            plain = told_stuck (List ℕ × ℕ) made (made_on now (visible_in (state_in mid) now) request) makes undone;
            stays = stands_same (state_in mid) new (heard_in mid) (waiting_in mid) (counts_in mid) d.1 d.3.2 d.2.1 d.2.0;
          }
      by false d = request_leads mid new now request reply victim made told does.recorded does.held said makes d

-- ---- sending and taking
send_is : (site : Site) (to : ℕ) (parcel : Parcel) → SiteSends site to parcel → IsSent (who_in site) (standing_in site) to parcel
send_is site to parcel h = record { sender = h.sender; addressee = h.addressee; base = h.base; upto = h.upto; retired = h.retired; floor = h.floor; rising = h.rising; filled = h.filled; records = h.records }

pub send_leads : (site : Site) (to : ℕ) (parcel : Parcel) → SendDoes site to (Ok parcel) → StepsTo (who_in site) (standing_in site) (Send to) (Sent parcel) None None (standing_in site)
send_leads site to parcel does = (refl, refl, (does.0, does.1, send_is site to parcel does.2, refl))

pub unsent_leads : (site : Site) (to : ℕ) → SendDoes site to (Err NoSuchSite) → StepsTo (who_in site) (standing_in site) (Send to) (SendRefused NoSuchSite) None None (standing_in site)
unsent_leads site to does = (refl, refl, (does, refl))

pub retired_leads : (site : Site) (to : ℕ) → SendDoes site to (Err sends.Retired) → StepsTo (who_in site) (standing_in site) (Send to) (SendRefused sends.Retired) None None (standing_in site)
retired_leads site to does = (refl, refl, (does, refl))

pub take_leads : (old new : Site) (parcel : Parcel) (taken : Taken) → TakeDoes old new parcel (Ok taken) → Rests old new → IsHeldCount (state_in old).stock.held (held_count old) → IsHeldCount (state_in new).stock.held (held_count new)
    → StepsTo (who_in old) (standing_in old) (Take parcel) (Took taken) None None (standing_in new)
take_leads old new parcel taken does rests before after = (
  refl,
  refl,
  (
    does.0,
    record { rose = does.2; before = held_count old; after = held_count new; held_before = before; held_after = after; dropped = does.3 },
    take_stands (who_in old) parcel old new does.1 does.4 rests.1 rests.0,
  ),
)

pub untaken_leads : (old new : Site) (parcel : Parcel) (refused : Refused) → refused.why ≢ takes.Memory → TakeDoes old new parcel (Err refused) → Rests old new → StepsTo (who_in old) (standing_in old) (Take parcel) (TakeRefused refused.why) None None (standing_in new)
untaken_leads old new parcel refused other does rests =
    (refl, refl, (by refused.why other does.0, stands_same (state_in old) new (heard_in old) (waiting_in old) (counts_in old) does.2 does.3 rests.1 rests.0))
  where
    by : (why : TakeError) → why ≢ takes.Memory → Rattle.geo_site.specs.Sites.RefusesFor old parcel why → RefusesFor (who_in old) (standing_in old) parcel why
    by takes.NotForMe ne h = h
    by takes.UnknownSite ne h = h
    by takes.Retired ne h = h
    by takes.Gap ne h = h
    by takes.Memory ne h = absurd (ne refl)

-- ---- what is dropped
pub remove_leads : (old new : Site) (count : ℕ) → RemoveDoes old new count → IsRecordCount (state_in old).map (record_count old) → IsRecordCount (state_in new).map (record_count new) → StepsTo (who_in old) (standing_in old) Remove (Removed count) None None (standing_in new)
remove_leads old new count does before after = (
  refl,
  refl,
  (
    record { before = record_count old; after = record_count new; recorded_before = before; recorded_after = after; dropped = does.counted },
    stands_same (removed (horizon_in old) (state_in old)) new (heard_in old) (waiting_in old) (counts_in old) does.left does.stays.2 does.rests.1 does.rests.0,
  ),
)

none_held : (o : Option (List ℕ)) → is_some o ≡ false → o ≡ None
none_held None e = refl
none_held (Some x) e = absurd (true≢false e)

pub evict_leads : (old new : Site) (key : List ℕ) (done : Bool) → EvictDoes old new key done → StepsTo (who_in old) (standing_in old) (Evict key) (Evicted done) None None (standing_in new)
evict_leads old new key done does = (refl, refl, (does.told, by done refl))
  where
    from : Standing
    from = standing_at (machine.with_stock (Rattle.geo_values.specs.Stock.dropped key (state_in old).stock) (state_in old)) (heard_in old) (waiting_in old) (counts_in old)

    by : (t : Bool) → done ≡ t → standing_in new ≡ cond t (evicts key (standing_in old)) (standing_in old)
    by true e =
        stands_same (machine.with_stock (Rattle.geo_values.specs.Stock.dropped key (state_in old).stock) (state_in old)) new (heard_in old) (waiting_in old) (evicted_on (Some key) (counts_in old)) does.left does.stays.2 does.waiting
        (does.counts ∙ ap (λ t. cond t (evicted_on (Some key) (counts_in old)) (counts_in old)) e)
    by false e =
        let none = none_held ((state_in old).stock.held key) (sym does.told ∙ e) in
        stands_same (machine.with_stock (Rattle.geo_values.specs.Stock.dropped key (state_in old).stock) (state_in old)) new (heard_in old) (waiting_in old) (counts_in old) does.left does.stays.2 does.waiting
        (does.counts ∙ ap (λ t. cond t (evicted_on (Some key) (counts_in old)) (counts_in old)) e)
        ∙ (λ i. record { vector = (state_in old).vector; rows = heard_in old; floor = (state_in old).floor; map = (state_in old).map; held = λ q. missing q none (same_key q key) refl i; waiting = waiting_in old; counts = counts_in old })
      where
        missing : (q : List ℕ) → (state_in old).stock.held key ≡ None → (t : Bool) → same_key q key ≡ t → cond {A = Option (List ℕ)} t None ((state_in old).stock.held q) ≡ (state_in old).stock.held q
        missing q none true e = sym (ap (state_in old).stock.held (same_text q key (sym e)) ∙ none)
        missing q none false e = refl

-- ---- bytes that are offered
pub fill_leads : (old new : Site) (key bytes : List ℕ) (filled : Filled) → FillDoes old new key bytes (Ok filled) → StepsTo (who_in old) (standing_in old) (Fill key bytes) (FilledAs filled) None None (standing_in new)
fill_leads old new key bytes filled does = (
  refl,
  refl,
  (
    fills_as (names (version_in ((state_in old).map key)) bytes) (is_some ((state_in old).stock.held key)) (is_full (state_in old).stock (class_for (length bytes))) filled does.does.0,
    by (is_filled filled) does.does.1,
  ),
)
  where
    by : (t : Bool) → Same (machine.with_stock (cond t (came key bytes (state_in old).stock) (state_in old).stock) (state_in old)) (state_in new) → standing_in new ≡ cond t (admits key bytes (standing_in old)) (standing_in old)
    by true same =
        stands_same (machine.with_stock (came key bytes (state_in old).stock) (state_in old)) new (heard_in old) (waiting_in old) (counts_in old) same does.stays.2 does.rests.1 does.rests.0
        ∙ (λ i. record { vector = (state_in old).vector; rows = heard_in old; floor = (state_in old).floor; map = (state_in old).map; held = λ q. came_held key bytes (state_in old).stock q i; waiting = waiting_in old; counts = counts_in old })
    by false same = stands_same (state_in old) new (heard_in old) (waiting_in old) (counts_in old) same does.stays.2 does.rests.1 does.rests.0

-- ---- a site that is held for retired
pub retire_leads : (old new : Site) (other : ℕ) (fresh : Bool) → RetireDoes old new other (Ok fresh) → Rests old new → StepsTo (who_in old) (standing_in old) (Retire other) (Retired fresh) None None (standing_in new)
retire_leads old new other fresh does rests = (
  refl,
  refl,
  (
    does.0,
    does.1,
    stands_same (state_in old) new (looked (holds_retired (looked_at old.number (table_of (standing_in old))) other) old.number old.vector) (waiting_in old) (counts_in old) does.2 does.3 rests.1 rests.0,
  ),
)

pub unretired_leads : (old new : Site) (other : ℕ) → RetireDoes old new other (Err retire.NoSuchSite) → Rests old new → StepsTo (who_in old) (standing_in old) (Retire other) (RetireRefused retire.NoSuchSite) None None (standing_in new)
unretired_leads old new other does rests = (refl, refl, (does.0, stands_same (state_in old) new (heard_in old) (waiting_in old) (counts_in old) does.1 does.2 rests.1 rests.0))

-- ---- a reap after its due flush
module _ (old new : Site) (now : ℕ) (key : List ℕ) where
  pub reap_leads : (done : Bool) → (does : ReapDoes old new now key (Ok done)) → StepsTo (who_in does.mid) (standing_in does.mid) (Reap now key) (Reaped done) None None (standing_in new)
  reap_leads done does =
      let mid = does.mid in
      let acts = reap_acts mid.number (who_in mid).limits.reap_after now key (version_in ((state_in mid).map key)) in (
        refl,
        refl,
        (
          none_due old mid now does.flush,
          does.does.0,
          does.does.1,
          stands_same (machine.issue_all mid.number acts (state_in mid)) new (heard_in mid) (waiting_in mid) (counts_in mid) does.does.2 does.stays.2 does.rests.1 does.rests.0
              ∙ quiet_stands (who_in mid) (heard_in mid) (waiting_in mid) (counts_in mid) acts (state_in mid) (one_quiet (is_reapable mid.number (who_in mid).limits.reap_after now (version_in ((state_in mid).map key))) (Delete key) (λ st. refl)),
        ),
      )

  pub unreaped_leads : (does : ReapDoes old new now key (Err ClockEnded)) → StepsTo (who_in does.mid) (standing_in does.mid) (Reap now key) (ReapRefused ClockEnded) None None (standing_in new)
  unreaped_leads does =
      let mid = does.mid in
      (refl, refl, (none_due old mid now does.flush, does.does.0, stands_same (state_in mid) new (heard_in mid) (waiting_in mid) (counts_in mid) does.does.1 does.stays.2 does.rests.1 does.rests.0))

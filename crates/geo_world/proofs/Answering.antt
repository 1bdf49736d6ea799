-- What a site does at a command, a tick and a reap: first a flush that is due, and then the rest; and at an eviction and a fill.
use Rattle.std.proofs.Common.{◌≡◌, ◌≢◌, ◌⊎◌, ℕ, zero, suc, ◌+◌, ◌≤◌, Bool, true, false, cond, nat_le, List, [], ◌∷◌, length, Option, None, Some, Ok, Err, refl, sym, ap, ◌∙◌, subst, subst₂, arith, slice_get, slice_set, inl, inr, true≢false}
use Rattle.std.proofs.lemmas.List.{length-set}
use Rattle.std.specs.Prelude.{is_some}
use Rattle.std.specs.declared.alloc.AllocError.{AllocError}
use Rattle.geo_values.specs.Stock.{is_full}
use Rattle.geo_versions.specs.Maps.{has_register}
use Rattle.geo_records.specs.declared.version.Version.{Version}
use Rattle.geo_records.specs.Operations.{Act, latest, version_in, version_of}
use Rattle.geo_records.specs.Operations.Act.{Delete}
use Rattle.geo_delta.specs.declared.parcel.Parcel.{Parcel}
use Rattle.geo_requests.specs.declared.request.Request.{Request}
use Rattle.geo_requests.specs.declared.reply.Reply.{Reply}
use Rattle.geo_requests.specs.declared.reply.Reply.TheVariants.{OutOfMemory}
use Rattle.geo_site.specs.declared.site.Site.{Site}
use Rattle.geo_world.specs.declared.event.Event.TheVariants.{Command, Evict, Remove, Tick, Reap, Fill}
use Rattle.geo_world.specs.declared.event.Trace.TheVariants.{Replied, Evicted, Removed, Ticked, Reaped, ReapRefused, Filled as FilledAs, FillRefused}
use Rattle.geo_site.specs.declared.refusal.ReapError.{ReapError}
use Rattle.geo_site.specs.declared.refusal.ReapError.TheVariants.{ClockEnded, Memory}
use Rattle.geo_site.specs.Entries.{Basis, Counts, Visible, names, entry_in, issued, accesses, counted, evicted_on, waits_after, flushes_due, is_stuck, is_reapable, reap_acts, lacks, Answers, is_done}
use Rattle.geo_site.specs.declared.fill.Filled.{Filled}
use Rattle.geo_site.specs.declared.fill.Filled.TheVariants.{Done}
use Rattle.geo_site.specs.Fills.{FillDoes, FillsAs, filled_in, is_filled, came}
use Rattle.geo_site.proofs.Filling.{fills_as}
use Rattle.geo_site.specs.Machine.{Same, class_for, with_stock, removed, visible_in, IsRecordCount, IsHeldCount, VictimOf}
use Rattle.geo_site.specs.Sites.{state_in, basis_in, counts_in, waiting_in, clock_in, record_count, held_count, issued_in, victim_in, to_reap, reaped_in, Rests, Stays, HasIssued, HasIssuedAfter, FirstVictimFits, FlushDoes, RequestDoes, RequestDoesBy, ActDoes, TickDoes, ReapDoes, ReapResult, EvictDoes, RemoveDoes, heard_in, horizon_in}
use Rattle.geo_world.specs.Schedule.{Known, Stable, StableAt, issues_on, issues_by, carries_out, evicts, visible, basis, flushed, reaps_on, happens, RepliesTo, RepliesBy, ReapRefusedFor, FilledIn, fills, Lawful}
use Rattle.geo_world.specs.Holding.{UpTo}
use Rattle.geo_world.proofs.Stepping.{state_version, state_later, state_removes, state_same}
use Rattle.geo_world.proofs.Records.{holds_more}
use Rattle.geo_stamp.specs.Acks.{Heard, row_of, horizon_of}
use Rattle.geo_stamp.specs.Retired.{is_in}
use Rattle.geo_stamp.specs.Vectors.{entry_of, vector_joined}
use Rattle.geo_laws.proofs.Joins.{joined_same}
use Rattle.geo_world.specs.Agreement.{about, Stands, Agrees}
use Rattle.geo_world.specs.Tables.{OwesOver}
use Rattle.geo_world.proofs.Horizon.{OwnRises, stable_below}
use Rattle.geo_world.proofs.Moving.{answer_behind, answer_stable, own_moves}
use Rattle.geo_world.proofs.Bounding.{bounded_same, vector_was, vector_here, vector_there, rows_stay}
use Rattle.geo_world.specs.Bounds.{vectors, rows}
use Rattle.std.proofs.lemmas.Bool.{cases_eq}
use Rattle.geo_world.proofs.Worlds.{some_none}
use Rattle.geo_site.proofs.Victims.{AreQuiet, one_quiet, request_goes, victim_fits}
use Rattle.geo_world.proofs.Changing.{agrees_changed, passed_still, count_same, agrees_still, agrees_acts, agrees_carried, agrees_flushed, agrees_evicted, agrees_missing, agrees_filled}

-- an element that is written twice
pub set_twice : {A : Type 0} (xs : List A) (k : ℕ) (x y : A) → slice_set (slice_set xs k x) k y ≡ slice_set xs k y
set_twice [] k x y = refl
set_twice (a ∷ xs) zero x y = refl
set_twice (a ∷ xs) (suc k) x y = ap (λ ys. a ∷ ys) (set_twice xs k x y)

pub get_set : {A : Type 0} (xs : List A) (k : ℕ) (x y : A) → slice_get xs k ≡ Some y → slice_get (slice_set xs k x) k ≡ Some x
get_set [] k x y h = absurd (some_none (sym h))
get_set (a ∷ xs) zero x y h = refl
get_set (a ∷ xs) (suc k) x y h = get_set xs k x y h

-- the victim that a site tells of: none but where the request was done
abbrev pub TellsVictim : Site → ℕ → Request → Reply → Option (List ℕ) → Type 0
TellsVictim site now request reply victim = victim ≡ cond {A = Option (List ℕ)} (is_done reply) (victim_in site (issued_in site now request)) None

-- ---- a request where no flush is due
module _ (sites : List Site) (parcels : List Parcel) (w : Known) (agrees : Agrees sites parcels w) (k s now : ℕ) (request : Request) (reply : Reply) (at_number : s ≡ k + 1) (hi : s ≤ length sites) (old new : Site) (got : slice_get sites k ≡ Some old) where
  pub seen : visible_in (state_in old) now ≡ visible w s now
  seen = λ i key. entry_in now (state_version (length sites) s (agrees.each k s old at_number got).horizon (state_in old) (w.at s) (w.held s) key (agrees.each k s old at_number got).state i) ((agrees.each k s old at_number got).state.same_held key i)

  basis_same : basis_in old now ≡ basis w s now (state_in old).map (record_count old) (held_count old)
  basis_same =
      let known = agrees.each k s old at_number got in
      let clock = known.state.tells.clock in
      λ i. record {
        visible = seen i;
        clock = clock i;
        recorded = λ key. has_register ((state_in old).map key);
        full = nat_le (known.limits i).max_records (record_count old);
        stats = record { curr_items = held_count old; get_hits = (known.counts i).hits; get_misses = (known.counts i).misses; evictions = (known.counts i).evictions; site = known.own i; clock = clock i; records = record_count old };
      }

  -- over what it keeps
  pub request_over : IsRecordCount (state_in old).map (record_count old) → IsHeldCount (state_in old).stock.held (held_count old) → RequestDoes old new now request reply → OwesOver w (state_in old).map s now request reply
  request_over recorded held does = record {
    records = record_count old;
    items = held_count old;
    recorded = recorded;
    held = count_same (λ key. is_some ((state_in old).stock.held key)) (λ key. is_some (w.held s key)) (held_count old) (λ key. ap is_some ((agrees.each k s old at_number got).state.same_held key)) held;
    answers = subst (λ (b : Basis). Answers now b request reply) basis_same does.answer;
  }

  pub request_lawful : IsRecordCount (state_in old).map (record_count old) → IsHeldCount (state_in old).stock.held (held_count old) → RequestDoes old new now request reply → RepliesTo w s now request reply
  request_lawful recorded held does =
      let st = agrees.each k s old at_number got in
      let stable = answer_stable sites parcels w agrees k s at_number hi old got in
      let reached = st.reached in
      let over = request_over recorded held does in
      record {
        kept = (state_in old).map;
        records = over.records;
        items = over.items;
        holds = λ key. holds_more (UpTo st.horizon) (Stable w s) (λ time le. subst (λ n. StableAt n (w.sets s) w.at time) (sym agrees.numbers) (stable_below (length sites) (w.sets s) w.at (horizon_of (heard_in old) s old.vector) time (omega (arith, le, reached)) stable)) ((state_in old).map key) (w.at s) key (st.state.holds key);
        recorded = over.recorded;
        held = over.held;
        answers = over.answers;
      }

  -- the victim of a request that was done; no other has one
  module _ (victim : Option (List ℕ)) (told : TellsVictim old now request reply victim) where
    pub request_victim : RequestDoes old new now request reply → VictimOf (w.held s) (issues_by w s now request reply) victim
    request_victim does = by (is_done reply) told does.victim
      where
        by : (t : Bool) → victim ≡ cond {A = Option (List ℕ)} t (victim_in old (issued_in old now request)) None → (t ≡ true → FirstVictimFits old (issued_in old now request)) → VictimOf (w.held s) (cond {A = List Act} t (issues_on w s now request) []) victim
        by true is fits = subst (λ (v : Visible). VictimOf (w.held s) (issued now v request) victim) seen (victim_fits old (w.held s) (agrees.each k s old at_number got).state.same_held (issued_in old now request) victim is (fits refl))
        by false is fits = subst (λ o. VictimOf (w.held s) [] o) (sym is) tt

    pub request_agrees : RequestDoes old new now request reply → Agrees (slice_set sites k new) parcels (cond (is_done reply) (carries_out w s now request victim) w)
    request_agrees does = by (is_done reply) refl
      where
        Counted : Bool → Counts
        Counted t = cond t (evicted_on (victim_in old (issued_in old now request)) (counted (visible_in (state_in old) now) request (counts_in old))) (counts_in old)

        by : (t : Bool) → is_done reply ≡ t → Agrees (slice_set sites k new) parcels (cond t (carries_out w s now request victim) w)
        by true e =
            let st = agrees.each k s old at_number got in
            let is : victim ≡ victim_in old (issued_in old now request) = told ∙ ap (λ t. cond {A = Option (List ℕ)} t (victim_in old (issued_in old now request)) None) e in
            agrees_carried sites parcels w agrees k s at_number hi old new got does.stays (accesses now (visible w s now) request) (issues_on w s now request) victim (evicted_on victim (counted (visible w s now) request (w.counts s))) (waits_after now request (w.waiting s))
            (request_goes old now (visible w s now) request victim (is ∙ ap (λ (v : Visible). victim_in old (issued now v request)) seen))
            (subst (λ (v : Visible). HasIssuedAfter (accesses now v request) old new (issued now v request)) seen (does.done e))
            (does.counts ∙ ap Counted e ∙ (λ i. evicted_on (sym is i) (counted (seen i) request (st.counts i))))
            (does.waiting ∙ ap (λ t. cond t (waits_after now request (waiting_in old)) (waiting_in old)) e ∙ ap (waits_after now request) st.waiting)
        by false e =
            agrees_still sites parcels w agrees k s at_number hi old new got does.stays (does.refused e)
            (does.counts ∙ ap Counted e, does.waiting ∙ ap (λ t. cond t (waits_after now request (waiting_in old)) (waiting_in old)) e)

-- ---- after a due flush
module _ (sites : List Site) (parcels : List Parcel) (w : Known) (agrees : Agrees sites parcels w) (k s now : ℕ) (at_number : s ≡ k + 1) (hi : s ≤ length sites) (old new : Site) (got : slice_get sites k ≡ Some old) where
  pub stuck_is : is_stuck (waiting_in old) (clock_in old) now ≡ is_stuck (w.waiting s) (latest (w.at s)) now
  stuck_is = let st = agrees.each k s old at_number got in let clock = st.state.tells.clock in λ i. is_stuck (st.waiting i) (clock i) now

  module _ (mid : Site) (flush : FlushDoes old mid now) where
    pub between : Agrees (slice_set sites k mid) parcels (flushed w s now)
    between = agrees_flushed sites parcels w agrees k s at_number hi old mid got flush.stays now flush

    pub there_still : s ≤ length (slice_set sites k mid)
    there_still = subst (λ n. s ≤ n) (sym (length-set sites k mid)) hi

    pub found_still : slice_get (slice_set sites k mid) k ≡ Some mid
    found_still = get_set sites k mid old got

    stands : Stands (length (slice_set sites k mid)) s mid (about (flushed w s now) s)
    stands = between.each k s mid at_number found_still

    after : (v : Known) → Agrees (slice_set (slice_set sites k mid) k new) parcels v → Agrees (slice_set sites k new) parcels v
    after v h = subst (λ (all : List Site). Agrees all parcels v) (set_twice sites k mid new) h

  -- ---- a command
  module _ (request : Request) (reply : Reply) (victim : Option (List ℕ)) (does : ActDoes old new now request reply) (told : TellsVictim does.mid now request reply victim) where
    pub command_lawful : Lawful w (Command s now request) (Replied reply victim)
    command_lawful = (subst (λ b. RepliesBy b (flushed w s now) s now request reply) stuck_is (by (is_stuck (waiting_in old) (clock_in old) now) does.does), fits (is_stuck (waiting_in old) (clock_in old) now) does.does)
      where
        by : (b : Bool) → RequestDoesBy b does.mid new now request reply → RepliesBy b (flushed w s now) s now request reply
        by true d = d.0
        by false d = request_lawful (slice_set sites k does.mid) parcels (flushed w s now) (between does.mid does.flush) k s now request reply at_number (there_still does.mid does.flush) does.mid new (found_still does.mid does.flush) does.recorded does.held d

        undone : (t : Bool) → t ≡ false → victim ≡ cond {A = Option (List ℕ)} t (victim_in does.mid (issued_in does.mid now request)) None → VictimOf ((flushed w s now).held s) (cond {A = List Act} t (issues_on (flushed w s now) s now request) []) victim
        undone true e is = absurd (true≢false e)
        undone false e is = subst (λ o. VictimOf ((flushed w s now).held s) [] o) (sym is) tt

        fits : (b : Bool) → RequestDoesBy b does.mid new now request reply → VictimOf ((flushed w s now).held s) (issues_by (flushed w s now) s now request reply) victim
        fits true d = undone (is_done reply) (ap is_done d.0) told
        fits false d = request_victim (slice_set sites k does.mid) parcels (flushed w s now) (between does.mid does.flush) k s now request reply at_number (there_still does.mid does.flush) does.mid new (found_still does.mid does.flush) victim told d

    pub command_agrees : Agrees (slice_set sites k new) parcels (happens w (Command s now request) (Replied reply victim))
    command_agrees = by (is_stuck (waiting_in old) (clock_in old) now) does.does
      where
        by : (b : Bool) → RequestDoesBy b does.mid new now request reply → Agrees (slice_set sites k new) parcels (happens w (Command s now request) (Replied reply victim))
        by true d = subst (λ t. Agrees (slice_set sites k new) parcels (cond t (carries_out (flushed w s now) s now request victim) (flushed w s now))) (sym (ap is_done d.0))
            (after does.mid does.flush (flushed w s now) (agrees_still (slice_set sites k does.mid) parcels (flushed w s now) (between does.mid does.flush) k s at_number (there_still does.mid does.flush) does.mid new (found_still does.mid does.flush) d.3 d.1 d.2))
        by false d = after does.mid does.flush (cond (is_done reply) (carries_out (flushed w s now) s now request victim) (flushed w s now))
            (request_agrees (slice_set sites k does.mid) parcels (flushed w s now) (between does.mid does.flush) k s now request reply at_number (there_still does.mid does.flush) does.mid new (found_still does.mid does.flush) victim told d)

  -- ---- a tick
  pub tick_lawful : (done : Bool) → TickDoes old new now done → Lawful w (Tick s now) (Ticked done)
  tick_lawful done does = let st = agrees.each k s old at_number got in let clock = st.state.tells.clock in does.said ∙ (λ i. flushes_due (st.waiting i) (clock i) now)

  pub tick_agrees : (done : Bool) → TickDoes old new now done → Agrees (slice_set sites k new) parcels (happens w (Tick s now) (Ticked done))
  tick_agrees done does = agrees_flushed sites parcels w agrees k s at_number hi old new got does.flush.stays now does.flush

  -- ---- a reap
  module _ (key : List ℕ) where
    module _ (mid : Site) (flush : FlushDoes old mid now) where
      version : version_in ((state_in mid).map key) ≡ version_of ((flushed w s now).at s) key
      version = state_version (length (slice_set sites k mid)) s (stands mid flush).horizon (state_in mid) ((flushed w s now).at s) ((flushed w s now).held s) key (stands mid flush).state

      reapable : to_reap mid now key ≡ is_reapable s ((flushed w s now).limits s).reap_after now (version_of ((flushed w s now).at s) key)
      reapable = let st = stands mid flush in λ i. is_reapable (st.own i) (st.limits i).reap_after now (version i)

      pub acts_are : reaped_in mid now key ≡ reaps_on (flushed w s now) s now key
      acts_are = let st = stands mid flush in λ i. reap_acts (st.own i) (st.limits i).reap_after now key (version i)

      lacks_is : lacks (clock_in mid) (reaped_in mid now key) ≡ lacks (latest ((flushed w s now).at s)) (reaps_on (flushed w s now) s now key)
      lacks_is = let clock = (stands mid flush).state.tells.clock in λ i. lacks (clock i) (acts_are i)

    reaps_quiet : (v : Known) → AreQuiet (reaps_on v s now key)
    reaps_quiet v = one_quiet (is_reapable s (v.limits s).reap_after now (version_of (v.at s) key)) (Delete key) (λ st. refl)

    pub reap_lawful : (done : Bool) → ReapDoes old new now key (Ok done) → Lawful w (Reap s now key) (Reaped done)
    reap_lawful done does = (does.does.0 ∙ reapable does.mid does.flush, sym (lacks_is does.mid does.flush) ∙ does.does.1)

    pub reap_agrees : (done : Bool) → ReapDoes old new now key (Ok done) → Agrees (slice_set sites k new) parcels (happens w (Reap s now key) (Reaped done))
    reap_agrees done does =
        after does.mid does.flush (happens w (Reap s now key) (Reaped done))
        (agrees_acts (slice_set sites k does.mid) parcels (flushed w s now) (between does.mid does.flush) k s at_number (there_still does.mid does.flush) does.mid new (found_still does.mid does.flush) does.stays (reaps_on (flushed w s now) s now key)
        (reaps_quiet (flushed w s now)) (subst (λ (acts : List Act). HasIssued does.mid new acts) (acts_are does.mid does.flush) does.does.2) does.rests)

    pub reap_refused_lawful : (why : ReapError) → ReapDoes old new now key (Err why) → Lawful w (Reap s now key) (ReapRefused why)
    reap_refused_lawful why does = by why does.does
      where
        by : (why : ReapError) → ReapResult does.mid new now key (Err why) → ReapRefusedFor (flushed w s now) s now key why
        by ClockEnded d = sym (lacks_is does.mid does.flush) ∙ d.0
        by Memory d = absurd d

    pub reap_refused_agrees : (why : ReapError) → ReapDoes old new now key (Err why) → Agrees (slice_set sites k new) parcels (happens w (Reap s now key) (ReapRefused why))
    reap_refused_agrees why does = by why does.does
      where
        by : (why : ReapError) → ReapResult does.mid new now key (Err why) → Agrees (slice_set sites k new) parcels (flushed w s now)
        by ClockEnded d = after does.mid does.flush (flushed w s now) (agrees_still (slice_set sites k does.mid) parcels (flushed w s now) (between does.mid does.flush) k s at_number (there_still does.mid does.flush) does.mid new (found_still does.mid does.flush) does.stays d.1 does.rests)
        by Memory d = absurd d

-- ---- an eviction
none_held : (o : Option (List ℕ)) → is_some o ≡ false → o ≡ None
none_held None h = refl
none_held (Some bytes) h = absurd (true≢false h)

module _ (sites : List Site) (parcels : List Parcel) (w : Known) (agrees : Agrees sites parcels w) (k s : ℕ) (at_number : s ≡ k + 1) (hi : s ≤ length sites) (old new : Site) (got : slice_get sites k ≡ Some old)
    (key : List ℕ) (done : Bool) (does : EvictDoes old new key done) where
  pub evict_lawful : Lawful w (Evict s key) (Evicted done)
  evict_lawful = does.told ∙ ap is_some ((agrees.each k s old at_number got).state.same_held key)

  pub evict_agrees : Agrees (slice_set sites k new) parcels (happens w (Evict s key) (Evicted done))
  evict_agrees = by done refl
    where
      Counted : Bool → Counts
      Counted t = cond t (evicted_on (Some key) (counts_in old)) (counts_in old)

      by : (t : Bool) → done ≡ t → Agrees (slice_set sites k new) parcels (cond t (evicts w s key) w)
      by true e =
          let st = agrees.each k s old at_number got in
          agrees_evicted sites parcels w agrees k s at_number hi old new got does.stays key done does (evicted_on (Some key) (w.counts s)) (does.counts ∙ ap Counted e ∙ ap (evicted_on (Some key)) st.counts)
      by false e = agrees_missing sites parcels w agrees k s at_number hi old new got does.stays key done does (none_held (w.held s key) (sym (does.told ∙ ap is_some ((agrees.each k s old at_number got).state.same_held key)) ∙ e)) (does.counts ∙ ap Counted e)

-- ---- bytes that are offered
module _ (sites : List Site) (parcels : List Parcel) (w : Known) (agrees : Agrees sites parcels w) (k s : ℕ) (at_number : s ≡ k + 1) (hi : s ≤ length sites) (old new : Site) (got : slice_get sites k ≡ Some old)
    (key bytes : List ℕ) where
  filled_known : (filled : Filled) → filled ≡ filled_in (state_in old) key bytes → FilledIn w s key bytes filled
  filled_known filled is =
      let st = agrees.each k s old at_number got in
      let version : version_in ((state_in old).map key) ≡ version_of (w.at s) key = state_version (length sites) s st.horizon (state_in old) (w.at s) (w.held s) key st.state in
      subst₂ (λ (v : Option Version) (o : Option (List ℕ)). FillsAs (names v bytes) (is_some o) filled) version (st.state.same_held key)
      (fills_as (names (version_in ((state_in old).map key)) bytes) (is_some ((state_in old).stock.held key)) (is_full (state_in old).stock (class_for (length bytes))) filled is)

  pub fill_lawful : (filled : Filled) → FillDoes old new key bytes (Ok filled) → Lawful w (Fill s key bytes) (FilledAs filled)
  fill_lawful filled does = filled_known filled does.does.0

  pub fill_refused_lawful : (refused : AllocError) → FillDoes old new key bytes (Err refused) → Lawful w (Fill s key bytes) FillRefused
  fill_refused_lawful refused does = filled_known Done (sym does.does.0)

  pub fill_agrees : (filled : Filled) → FillDoes old new key bytes (Ok filled) → Agrees (slice_set sites k new) parcels (happens w (Fill s key bytes) (FilledAs filled))
  fill_agrees filled does = by (is_filled filled) does.does.1
    where
      by : (t : Bool) → Same (with_stock (cond t (came key bytes (state_in old).stock) (state_in old).stock) (state_in old)) (state_in new) → Agrees (slice_set sites k new) parcels (cond t (fills w s key bytes) w)
      by true same = agrees_filled sites parcels w agrees k s at_number hi old new got does.stays key bytes same does.rests
      by false same = agrees_still sites parcels w agrees k s at_number hi old new got does.stays same does.rests

  pub fill_refused_agrees : (refused : AllocError) → FillDoes old new key bytes (Err refused) → Agrees (slice_set sites k new) parcels (happens w (Fill s key bytes) FillRefused)
  fill_refused_agrees refused does = agrees_still sites parcels w agrees k s at_number hi old new got does.stays does.does.1 does.rests

-- ---- a removal
module _ (sites : List Site) (parcels : List Parcel) (w : Known) (agrees : Agrees sites parcels w) (k s : ℕ) (at_number : s ≡ k + 1) (hi : s ≤ length sites) (old new : Site) (got : slice_get sites k ≡ Some old) where
  own_horizon : horizon_in old ≡ horizon_of (heard_in old) s old.vector
  own_horizon = let st = agrees.each k s old at_number got in ap (λ m. horizon_of (heard_in old) m old.vector) st.own

  pub remove_lawful : (horizon count : ℕ) → horizon ≡ horizon_in old → Lawful w (Remove s) (Removed horizon count)
  remove_lawful horizon count is =
      subst₂ (λ n h. StableAt n (w.sets s) w.at h) (sym agrees.numbers) (sym (is ∙ own_horizon)) (answer_stable sites parcels w agrees k s at_number hi old got)

  pub remove_agrees : (horizon count : ℕ) → RemoveDoes old new count → Agrees (slice_set sites k new) parcels (happens w (Remove s) (Removed horizon count))
  remove_agrees horizon count does =
      let st = agrees.each k s old at_number got in
      let n = length sites in
      let later = slice_set sites k new in
      let h = horizon_of (heard_in old) s old.vector in
      let left : Same (removed h (state_in old)) (state_in new) = subst (λ h. Same (removed h (state_in old)) (state_in new)) own_horizon does.left in
      let state = state_same n s h (removed h (state_in old)) (state_in new) (w.at s) (w.held s) (state_removes n s h (state_in old) (w.at s) (w.held s) (state_later n s st.horizon h (state_in old) (w.at s) (w.held s) st.state st.reached (answer_behind sites parcels w agrees k s at_number hi old got))) left in
      let vector : new.vector ≡ old.vector = left.vector in
      let rises : OwnRises s old.vector new.vector = record { many = ap length vector; others = λ j ne. ap (λ v. entry_of v j) vector; above = ap (λ v. vector_joined v old.vector) vector ∙ joined_same old.vector ∙ sym vector } in
      let heard = does.stays.2 in
      let moves = own_moves sites parcels w agrees k s at_number hi old got new rises (ap (λ (h : Heard). h.rows) heard) (ap (λ (h : Heard). h.told) heard) (λ j one has. ap (λ (h : Heard). is_in h.set j) heard ∙ has) in
      agrees_changed sites parcels w w agrees k s at_number hi old new got
      (record {
        own = does.stays.0 ∙ st.own;
        horizon = h;
        state = state;
        reached = let e : horizon_of (heard_in new) s new.vector ≡ h = (λ i. horizon_of (heard i) s (vector i)) in omega (arith, e);
        counts = does.rests.0 ∙ st.counts;
        waiting = does.rests.1 ∙ st.waiting;
        limits = does.stays.1 ∙ st.limits;
        set = ap (λ (h : Heard). h.set) heard ∙ st.set;
        rows = λ other first last. ap (λ (h : Heard). length (row_of h.rows other)) heard ∙ st.rows other first last;
      })
      (λ t ne. refl) refl refl (λ t op a. a)
      (bounded_same n (vectors sites) (vectors later) (rows sites) (rows later) parcels w.at w.at w.sent w.sent
      (λ t. elim (cases_eq t s) [
        | inl e ↦ ap (vectors later) e ∙ vector_here sites k s at_number hi old new got ∙ vector ∙ sym (vector_was sites k s at_number hi old new got) ∙ ap (vectors sites) (sym e)
        | inr ne ↦ vector_there sites k s at_number hi old new got t ne
      ]) (rows_stay sites k s at_number hi old new got (ap (λ (h : Heard). h.rows) heard)) (λ t. refl) refl agrees.bounds)
      moves (passed_still sites parcels w w agrees k s at_number hi old new got moves heard)

-- What each site keeps, event by event.
use Rattle.std.proofs.Common.{◌≡◌, ◌≢◌, ℕ, ◌+◌, ◌≤◌, Bool, true, false, cond, List, [], ◌∷◌, ◌++◌, length, Option, Some, Ok, Err, refl, sym, ap, ◌∙◌, subst, arith, slice_get, slice_set, slice_index_or, get_or, inl, inr}
use Rattle.std.proofs.lemmas.List.{get_or_append_left, length-append}
use Rattle.std.proofs.lemmas.Option.{slice_get_within}
use Rattle.std.proofs.Math.Seq.{get_or-append_seam}
use Rattle.geo_records.specs.Operations.{Act, latest}
use Rattle.geo_delta.specs.declared.parcel.Parcel.{Parcel}
use Rattle.geo_requests.specs.declared.request.Request.{Request}
use Rattle.geo_requests.specs.declared.reply.Reply.{Reply}
use Rattle.geo_site.specs.declared.site.Site.{Site}
use Rattle.geo_site.specs.declared.setup.Limits.{Limits}
use Rattle.geo_world.specs.declared.event.Event.TheVariants.{Command, Tick, Reap, Retire}
use Rattle.geo_world.specs.declared.event.Trace.TheVariants.{Replied, Ticked, Reaped, ReapRefused, Retired, RetireRefused}
use Rattle.geo_site.specs.declared.refusal.RetireError.{RetireError}
use Rattle.geo_site.specs.declared.refusal.RetireError.TheVariants as retire
use Rattle.geo_site.specs.declared.refusal.ReapError.{ReapError}
use Rattle.geo_site.specs.declared.refusal.ReapError.TheVariants.{ClockEnded, Memory}
use Rattle.std.specs.declared.alloc.AllocError.{AllocError}
use Rattle.geo_site.specs.declared.fill.Filled.{Filled}
use Rattle.geo_site.specs.Fills.{FillDoes, after_fill}
use Rattle.geo_site.specs.Entries.{issued, accesses, due_acts, is_stuck, is_done}
use Rattle.geo_site.specs.Machine.{SiteState, Same, fresh, issue, issue_all, accessed, take, removed, sifted_delta, visible_in, IsRecordCount}
use Rattle.geo_site.specs.Sites.{state_in, heard_in, looked_in, horizon_in, delta_of, clock_in, waiting_in, HasIssued, HasIssuedAfter, FlushDoes, RequestDoes, RequestDoesBy, ActDoes, TickDoes, ReapDoes, ReapResult, RemoveDoes, EvictDoes, RetireDoes, IsSent}
use Rattle.geo_world.specs.Schedule.{Known, issues_on, reaps_on, flushed}
use Rattle.geo_stamp.specs.Acks.{Heard, heard, looked, retires, none_heard}
use Rattle.geo_world.specs.Agreement.{Agrees}
use Rattle.geo_site.specs.Tables.{Table, brings_nothing, issue_all_at, take_at, remove_at, retire_at, brought_at, horizon_at, table_in, brought_in}
use Rattle.geo_world.specs.Tables.{Tables, empty_tables, keeps, issued_at, flushed_at, kept_after, Keep, OwesOver, OwesBy, CountsDropped}
use Rattle.geo_world.proofs.Worlds.{some_none, get_appended}
use Rattle.geo_world.proofs.Opening.{Silent}
use Rattle.geo_world.proofs.Changing.{get_written, put_here, put_there}
use Rattle.geo_world.proofs.Answering.{set_twice, seen, stuck_is, request_over, between, there_still, found_still, acts_are}

-- a state with what was heard
abbrev table_of : Heard → SiteState → Table
table_of all st = record { vector = st.vector; heard = all; floor = st.floor; kept = st.map }

table_same : (before after : Heard) (old new : SiteState) → after ≡ before → Same old new → table_of after new ≡ table_of before old
table_same before after old new e same = λ i. record { vector = same.vector i; heard = e i; floor = same.floor i; kept = λ key. same.map key i }

table_issues : (n : ℕ) (rows : Heard) (acts : List Act) (st : SiteState) → table_of rows (issue_all n acts st) ≡ issue_all_at n acts (table_of rows st)
table_issues n rows [] st = refl
table_issues n rows (act ∷ acts) st = table_issues n rows acts (issue n act st)

-- ---- at the start
pub keep_open : (limits : ℕ → Limits) (sites : List Site) (parcels : List Parcel) (n : ℕ) → parcels ≡ [] → ((k number : ℕ) (site : Site) → number ≡ k + 1 → slice_get sites k ≡ Some site → Silent n number site (limits number)) → Keep sites parcels (empty_tables n)
keep_open limits sites parcels n none each = record {
  each = λ k number site e got. let s = each k number site e got in table_same (none_heard n) (heard_in site) (fresh n s.pages) (state_in site) s.heard_none s.same;
  as_many = sym (ap length none);
  each_sent = λ p parcel got. absurd (some_none (sym got ∙ ap (λ ps. slice_get ps p) none));
}

-- ---- one site changes
module _ (sites : List Site) (parcels : List Parcel) (all : Tables) (keep : Keep sites parcels all) (k s : ℕ) (at_number : s ≡ k + 1) (old new : Site) (got : slice_get sites k ≡ Some old) where
  pub table_here : table_in old ≡ all.at s
  table_here = keep.each k s old at_number got

  pub keep_put : (t : Table) → table_in new ≡ t → Keep (slice_set sites k new) parcels (keeps all s t)
  keep_put t is = record {
    each = λ j number site e h. elim (get_written sites k new j site h) [
      | inl p ↦ let m : number ≡ s = let q = p.0 in omega arith in ap table_in p.1 ∙ is ∙ sym (put_here all.at s t) ∙ ap (keeps all s t).at (sym m)
      | inr p ↦ let ne : number ≢ s = let q = p.0 in omega arith in keep.each j number site e p.1 ∙ sym (put_there all.at s t number ne)
    ];
    as_many = keep.as_many;
    each_sent = keep.each_sent;
  }

  pub keep_same : table_in new ≡ table_in old → Keep (slice_set sites k new) parcels all
  keep_same is = record {
    each = λ j number site e h. elim (get_written sites k new j site h) [
      | inl p ↦ let m : number ≡ s = let q = p.0 in omega arith in ap table_in p.1 ∙ is ∙ table_here ∙ ap all.at (sym m)
      | inr p ↦ keep.each j number site e p.1
    ];
    as_many = keep.as_many;
    each_sent = keep.each_sent;
  }

  pub keep_still : heard_in new ≡ heard_in old → Same (state_in old) (state_in new) → Keep (slice_set sites k new) parcels all
  keep_still rows same = keep_same (table_same (heard_in old) (heard_in new) (state_in old) (state_in new) rows same)

  module _ (own : old.number ≡ s) (rows : heard_in new ≡ heard_in old) (acts : List Act) where
    pub keep_issued : HasIssued old new acts → Keep (slice_set sites k new) parcels (issued_at all s acts)
    keep_issued has = keep_put (issue_all_at s acts (all.at s))
        (table_same (heard_in old) (heard_in new) (issue_all old.number acts (state_in old)) (state_in new) rows has ∙ table_issues old.number (heard_in old) acts (state_in old) ∙ (λ i. issue_all_at (own i) acts (table_here i)))

    pub keep_issued_after : (keys : List (List ℕ)) → HasIssuedAfter keys old new acts → Keep (slice_set sites k new) parcels (issued_at all s acts)
    keep_issued_after keys has = keep_put (issue_all_at s acts (all.at s))
        (table_same (heard_in old) (heard_in new) (issue_all old.number acts (accessed keys (state_in old))) (state_in new) rows has ∙ table_issues old.number (heard_in old) acts (accessed keys (state_in old)) ∙ (λ i. issue_all_at (own i) acts (table_here i)))

  module _ (own : old.number ≡ s) where
    pub horizon_kept : (horizon : ℕ) → horizon ≡ horizon_in old → horizon ≡ horizon_at s (all.at s)
    horizon_kept horizon is = is ∙ (λ i. horizon_at (own i) (table_here i))

    module _ (count : ℕ) (does : RemoveDoes old new count) where
      removed_table : table_in new ≡ remove_at s (all.at s)
      removed_table = table_same (heard_in old) (heard_in new) (removed (horizon_in old) (state_in old)) (state_in new) does.stays.2 does.left ∙ (λ i. remove_at (own i) (table_here i))

      pub keep_removed : Keep (slice_set sites k new) parcels (keeps all s (remove_at s (all.at s)))
      keep_removed = keep_put (remove_at s (all.at s)) removed_table

      pub drops_kept : (many left : ℕ) → IsRecordCount (state_in old).map many → IsRecordCount (state_in new).map left → left + count ≡ many → CountsDropped (all.at s).kept (remove_at s (all.at s)).kept count
      drops_kept many left was is dropped = record {
        many = many;
        left = left;
        was = subst (λ (t : Table). IsRecordCount t.kept many) table_here was;
        is = subst (λ (t : Table). IsRecordCount t.kept left) removed_table is;
        dropped = dropped;
      }

  pub keep_evict : (key : List ℕ) (done : Bool) → EvictDoes old new key done → Keep (slice_set sites k new) parcels all
  keep_evict key done does = keep_same (table_same (heard_in old) (heard_in new) _ (state_in new) does.stays.2 does.left)

  pub keep_fill : (key bytes : List ℕ) (filled : Filled) → FillDoes old new key bytes (Ok filled) → Keep (slice_set sites k new) parcels all
  keep_fill key bytes filled does = keep_same (table_same (heard_in old) (heard_in new) (after_fill filled key bytes (state_in old)) (state_in new) does.stays.2 does.does.1)

  pub keep_not_filled : (key bytes : List ℕ) (refused : AllocError) → FillDoes old new key bytes (Err refused) → Keep (slice_set sites k new) parcels all
  keep_not_filled key bytes refused does = keep_still does.stays.2 does.does.1

  pub keep_taken : (p : ℕ) (parcel : Parcel) → slice_get parcels p ≡ Some parcel → old.number ≡ s → Same (take old.number (sifted_delta (horizon_in old) (delta_of parcel)) (state_in old)) (state_in new) → heard_in new ≡ looked (heard (looked_in old) parcel.from parcel.upto parcel.retired) old.number new.vector
      → Keep (slice_set sites k new) parcels (keeps all s (take_at s (slice_index_or all.sent p brings_nothing) (all.at s)))
  keep_taken p parcel got_parcel own same is =
      let brought = keep.each_sent p parcel got_parcel in
      let after = take old.number (sifted_delta (horizon_in old) (delta_of parcel)) (state_in old) in
      let hears = heard (looked_in old) parcel.from parcel.upto parcel.retired in
      keep_put (take_at s (slice_index_or all.sent p brings_nothing) (all.at s))
      (table_same (looked hears old.number after.vector) (heard_in new) after (state_in new) (is ∙ ap (looked hears old.number) same.vector) same ∙ (λ i. take_at (own i) (brought i) (table_here i)))

  module _ (other : ℕ) where
    pub keep_retired : (fresh : Bool) → old.number ≡ s → RetireDoes old new other (Ok fresh) → Keep (slice_set sites k new) parcels (keeps all s (retire_at s other (all.at s)))
    keep_retired fresh own does =
        keep_put (retire_at s other (all.at s))
        (table_same (looked (retires (looked_in old) other) old.number old.vector) (heard_in new) (state_in old) (state_in new) does.3 does.2 ∙ (λ i. retire_at (own i) other (table_here i)))

    pub keep_not_retired : (why : RetireError) → RetireDoes old new other (Err why) → Keep (slice_set sites k new) parcels all
    keep_not_retired retire.NoSuchSite does = keep_still does.2 does.1
    keep_not_retired retire.Memory does = absurd does

-- ---- a send
pub keep_sent : (sites : List Site) (parcels : List Parcel) (all : Tables) (k s to : ℕ) (site : Site) (parcel : Parcel) → Keep sites parcels all → s ≡ k + 1 → slice_get sites k ≡ Some site → site.number ≡ s → IsSent site to parcel
    → Keep sites (parcels ++ parcel ∷ []) (record { at = all.at; sent = all.sent ++ brought_at s to (all.at s) ∷ [] })
keep_sent sites parcels all k s to site parcel keep at_number got own sent =
    let b = brought_at s to (all.at s) in
    let d = brings_nothing in
    let here = keep.each k s site at_number got in
    let cut : brought_in parcel ≡ brought_at site.number to (table_in site) = (λ i. record { from = sent.sender i; set = sent.retired i; delta = record { upto = sent.upto i; floor = sent.floor i; map = λ key. sent.records key i } }) in
    let is : brought_in parcel ≡ b = cut ∙ (λ i. brought_at (own i) to (here i)) in
    record {
      each = keep.each;
      as_many = let h = keep.as_many in let x = length-append all.sent (b ∷ []) in let y = length-append parcels (parcel ∷ []) in omega (arith, h, x, y);
      each_sent = λ p x h. elim (get_appended parcels parcel p x h) [
        | inl q ↦ let lt = slice_get_within parcels p x q in let m = keep.as_many in keep.each_sent p x q ∙ sym (get_or_append_left all.sent (b ∷ []) d p (omega arith))
        | inr q ↦ let seam = get_or-append_seam all.sent b [] d in ap brought_in q.1 ∙ is ∙ sym (ap (λ p. get_or (all.sent ++ b ∷ []) p d) (q.0 ∙ sym keep.as_many) ∙ seam)
      ];
    }

-- ---- after a due flush
module _ (sites : List Site) (parcels : List Parcel) (w : Known) (agrees : Agrees sites parcels w) (all : Tables) (keep : Keep sites parcels all) (k s now : ℕ) (at_number : s ≡ k + 1) (hi : s ≤ length sites) (old new : Site) (got : slice_get sites k ≡ Some old) where
  pub own_number : old.number ≡ s
  own_number = (agrees.each k s old at_number got).own

  module _ (mid : Site) (flush : FlushDoes old mid now) where
    pub keep_flushed : Keep (slice_set sites k mid) parcels (flushed_at w all s now)
    keep_flushed =
        let st = agrees.each k s old at_number got in
        let clock = st.state.tells.clock in
        let acts : due_acts (waiting_in old) (clock_in old) now ≡ due_acts (w.waiting s) (latest (w.at s)) now = (λ i. due_acts (st.waiting i) (clock i) now) in
        keep_issued sites parcels all keep k s at_number old mid got own_number flush.stays.2 (due_acts (w.waiting s) (latest (w.at s)) now) (subst (HasIssued old mid) acts flush.issued)

    mid_number : mid.number ≡ s
    mid_number = flush.stays.0 ∙ own_number

    then_keep : (then : Tables) → Keep (slice_set (slice_set sites k mid) k new) parcels then → Keep (slice_set sites k new) parcels then
    then_keep then h = subst (λ (xs : List Site). Keep xs parcels then) (set_twice sites k mid new) h

    then_still : heard_in new ≡ heard_in mid → Same (state_in mid) (state_in new) → Keep (slice_set sites k new) parcels (flushed_at w all s now)
    then_still rows same = then_keep (flushed_at w all s now) (keep_still (slice_set sites k mid) parcels (flushed_at w all s now) keep_flushed k s at_number mid new (found_still sites parcels w agrees k s now at_number hi old new got mid flush) rows same)

  pub keep_tick : (done : Bool) → TickDoes old new now done → Keep (slice_set sites k new) parcels (kept_after w all (Tick s now) (Ticked done))
  keep_tick done does = keep_flushed new does.flush

  pub keep_command : (request : Request) (reply : Reply) (victim : Option (List ℕ)) → ActDoes old new now request reply → Keep (slice_set sites k new) parcels (kept_after w all (Command s now request) (Replied reply victim))
  keep_command request reply victim does = by (is_stuck (waiting_in old) (clock_in old) now) does.does
    where
      mid : Site
      mid = does.mid

      then : Tables
      then = flushed_at w all s now

      acts : List Act
      acts = issues_on (flushed w s now) s now request

      by_done : RequestDoes mid new now request reply → (t : Bool) → is_done reply ≡ t → Keep (slice_set sites k new) parcels (cond t (issued_at then s acts) then)
      by_done d true e =
          let shown = seen (slice_set sites k mid) parcels (flushed w s now) (between sites parcels w agrees k s now at_number hi old new got mid does.flush) k s now request reply at_number (there_still sites parcels w agrees k s now at_number hi old new got mid does.flush) mid new (found_still sites parcels w agrees k s now at_number hi old new got mid does.flush) in
          then_keep mid does.flush (issued_at then s acts)
          (keep_issued_after (slice_set sites k mid) parcels then (keep_flushed mid does.flush) k s at_number mid new (found_still sites parcels w agrees k s now at_number hi old new got mid does.flush) (mid_number mid does.flush) d.stays.2 acts
          (accesses now (visible_in (state_in mid) now) request) (subst (HasIssuedAfter (accesses now (visible_in (state_in mid) now) request) mid new) (λ i. issued now (shown i) request) (d.done e)))
      by_done d false e = then_still mid does.flush d.stays.2 (d.refused e)

      by : (b : Bool) → RequestDoesBy b mid new now request reply → Keep (slice_set sites k new) parcels (cond (is_done reply) (issued_at then s acts) then)
      by true d = subst (λ t. Keep (slice_set sites k new) parcels (cond t (issued_at then s acts) then)) (sym (ap is_done d.0)) (then_still mid does.flush d.3.2 d.1)
      by false d = by_done d (is_done reply) refl

  pub owes_command : (request : Request) (reply : Reply) → ActDoes old new now request reply → OwesBy (is_stuck (w.waiting s) (latest (w.at s)) now) (flushed w s now) ((flushed_at w all s now).at s).kept s now request reply
  owes_command request reply does = subst (λ b. OwesBy b (flushed w s now) ((flushed_at w all s now).at s).kept s now request reply) (stuck_is sites parcels w agrees k s now at_number hi old new got) (by (is_stuck (waiting_in old) (clock_in old) now) does.does)
    where
      by : (b : Bool) → RequestDoesBy b does.mid new now request reply → OwesBy b (flushed w s now) ((flushed_at w all s now).at s).kept s now request reply
      by true d = d.0
      by false d =
          let mid = does.mid in
          let met = between sites parcels w agrees k s now at_number hi old new got mid does.flush in
          let there = there_still sites parcels w agrees k s now at_number hi old new got mid does.flush in
          let found = found_still sites parcels w agrees k s now at_number hi old new got mid does.flush in
          subst (λ (t : Table). OwesOver (flushed w s now) t.kept s now request reply) (table_here (slice_set sites k mid) parcels (flushed_at w all s now) (keep_flushed mid does.flush) k s at_number mid new found)
          (request_over (slice_set sites k mid) parcels (flushed w s now) met k s now request reply at_number there mid new found does.recorded does.held d)

  module _ (key : List ℕ) where
    pub keep_reaped : (done : Bool) → ReapDoes old new now key (Ok done) → Keep (slice_set sites k new) parcels (kept_after w all (Reap s now key) (Reaped done))
    keep_reaped done does =
        let mid = does.mid in
        let then = flushed_at w all s now in
        let acts = reaps_on (flushed w s now) s now key in
        then_keep mid does.flush (issued_at then s acts)
        (keep_issued (slice_set sites k mid) parcels then (keep_flushed mid does.flush) k s at_number mid new (found_still sites parcels w agrees k s now at_number hi old new got mid does.flush) (mid_number mid does.flush) does.stays.2 acts
        (subst (HasIssued mid new) (acts_are sites parcels w agrees k s now at_number hi old new got key mid does.flush) does.does.2))

    pub keep_not_reaped : (why : ReapError) → ReapDoes old new now key (Err why) → Keep (slice_set sites k new) parcels (kept_after w all (Reap s now key) (ReapRefused why))
    keep_not_reaped why does = by why does.does
      where
        by : (why : ReapError) → ReapResult does.mid new now key (Err why) → Keep (slice_set sites k new) parcels (flushed_at w all s now)
        by ClockEnded d = then_still does.mid does.flush does.stays.2 d.1
        by Memory d = absurd d

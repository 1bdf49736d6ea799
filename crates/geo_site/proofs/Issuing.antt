-- What a site's calls make of what it stands at: the machine with its stock of values, seen without the order in which bytes go.
use Rattle.std.proofs.Common.{◌≡◌, ℕ, Bool, true, false, cond, ◌&&◌, not, List, [], ◌∷◌, Option, None, refl, sym, ap, ◌∙◌, subst}
use Rattle.geo_stamp.specs.Vectors.{greatest_of}
use Rattle.geo_stamp.specs.Acks.{Heard, heard, retires as holds_retired, looked}
use Rattle.geo_records.specs.Operations.{Act, version_in}
use Rattle.geo_records.specs.Operations.Act.{Flush}
use Rattle.geo_delta.specs.declared.parcel.Parcel.{Parcel}
use Rattle.geo_site.specs.declared.site.Site.{Site}
use Rattle.geo_site.specs.Entries.{Counts, named_by, is_due, lacks, flushes_due, is_stuck, due_acts, waits_on}
use Rattle.geo_site.specs.Machine as machine
use Rattle.geo_site.specs.Machine.{SiteState, Delta, Same, act_held, without, victim_by, clock_of, next_operation, map_after, act_stock, accessed, sifted_delta, removed}
use Rattle.geo_site.specs.Sites.{state_in, heard_in, waiting_in, counts_in, clock_in, delta_of, FlushDoes}
use Rattle.geo_site.proofs.Stocking.{state_path, settled_held, act_held_is}
use Rattle.geo_site.proofs.Victims.{AreQuiet, GoesFor, one_quiet, hit_held}
use Rattle.geo_site.specs.Standings.{Who, who_in, Standing, standing_in, horizon_at, held_by, issue, issue_all, lets_go, waits, counts_as, flushed, takes, table_of}
use Rattle.geo_site.specs.Tables.{looked_at}

-- a state of the machine with what stands beside it
abbrev pub standing_at : SiteState → Heard → Option ℕ → Counts → Standing
standing_at st rows waiting counts = record { vector = st.vector; rows = rows; floor = st.floor; map = st.map; held = st.stock.held; waiting = waiting; counts = counts }

-- two sites of which all is one stand at one place
pub stands_same : (st : SiteState) (site : Site) (rows : Heard) (waiting : Option ℕ) (counts : Counts) → Same st (state_in site) → heard_in site ≡ rows → waiting_in site ≡ waiting → counts_in site ≡ counts → standing_in site ≡ standing_at st rows waiting counts
stands_same st site rows waiting counts same r w c = let path = state_path st (state_in site) same in λ i. standing_at (path i) (r i) (w i) (c i)

-- where none go all is as it was
pub none_go : (st : Standing) → lets_go None st ≡ st
none_go st = refl

-- ---- issuing
module _ (who : Who) (rows : Heard) (waiting : Option ℕ) (counts : Counts) where
  held_after : (act : Act) (st : SiteState) → (machine.issue who.number act st).stock.held ≡ held_by (map_after st (next_operation (clock_of st) who.number act)) (act_held act (without (victim_by act st.stock) st.stock.held))
  held_after act st = let map = map_after st (next_operation (clock_of st) who.number act) in
      λ i q. (settled_held map (act_stock act st.stock) q ∙ ap (named_by (version_in (map q))) (act_held_is act st.stock q)) i

  -- an operation, for which the bytes of a victim go
  pub issue_stands : (act : Act) (st : SiteState) → standing_at (machine.issue who.number act st) rows waiting counts ≡ issue who act (lets_go (victim_by act st.stock) (standing_at st rows waiting counts))
  issue_stands act st = let held = held_after act st in
      λ i. record { vector = (machine.issue who.number act st).vector; rows = rows; floor = (machine.issue who.number act st).floor; map = (machine.issue who.number act st).map; held = held i; waiting = waiting; counts = counts }

  -- any number, for which none go
  pub quiet_stands : (acts : List Act) (st : SiteState) → AreQuiet acts → standing_at (machine.issue_all who.number acts st) rows waiting counts ≡ issue_all who acts (standing_at st rows waiting counts)
  quiet_stands [] st quiet = refl
  quiet_stands (act ∷ acts) st quiet =
      quiet_stands acts (machine.issue who.number act st) quiet.1
      ∙ ap (issue_all who acts) (issue_stands act st ∙ ap (λ v. issue who act (lets_go v (standing_at st rows waiting counts))) (quiet.0 st))

  -- any number, for whose first the bytes of a victim go
  pub goes_stands : (acts : List Act) (st : SiteState) (victim : Option (List ℕ)) → GoesFor acts st victim → standing_at (machine.issue_all who.number acts st) rows waiting counts ≡ issue_all who acts (lets_go victim (standing_at st rows waiting counts))
  goes_stands [] st victim goes = ap (λ v. lets_go v (standing_at st rows waiting counts)) (sym goes.first)
  goes_stands (act ∷ acts) st victim goes =
      quiet_stands acts (machine.issue who.number act st) goes.rest
      ∙ ap (issue_all who acts) (issue_stands act st ∙ ap (λ v. issue who act (lets_go v (standing_at st rows waiting counts))) (sym goes.first))

  -- keys that are found
  pub accessed_stands : (keys : List (List ℕ)) (st : SiteState) → standing_at (accessed keys st) rows waiting counts ≡ standing_at st rows waiting counts
  accessed_stands keys st = λ i. record { vector = st.vector; rows = rows; floor = st.floor; map = st.map; held = λ q. hit_held keys st q i; waiting = waiting; counts = counts }

-- what waits and what is counted stays beside what is issued
pub beside : (who : Who) (acts : List Act) (st : Standing) (w : Option ℕ) (c : Counts) → waits w (counts_as c (issue_all who acts st)) ≡ issue_all who acts (waits w (counts_as c st))
beside who [] st w c = refl
beside who (act ∷ acts) st w c = beside who acts (issue who act st) w c

pub beside_waits : (who : Who) (acts : List Act) (st : Standing) (w : Option ℕ) → waits w (issue_all who acts st) ≡ issue_all who acts (waits w st)
beside_waits who [] st w = refl
beside_waits who (act ∷ acts) st w = beside_waits who acts (issue who act st) w

-- ---- a due flush
-- one that is due is carried out
pub flush_stands : (old new : Site) (now : ℕ) → FlushDoes old new now → standing_in new ≡ flushed (who_in old) now (standing_in old)
flush_stands old new now does =
    let acts = due_acts (waiting_in old) (clock_in old) now in
    let w = waits_on (waiting_in old) (clock_in old) now in
    stands_same (machine.issue_all old.number acts (state_in old)) new (heard_in old) w (counts_in old) does.issued does.stays.2 does.waiting does.counts
    ∙ quiet_stands (who_in old) (heard_in old) w (counts_in old) acts (state_in old) (one_quiet (flushes_due (waiting_in old) (clock_in old) now) Flush (λ st. refl))
    ∙ sym (beside_waits (who_in old) acts (standing_in old) w)

-- where none is due nothing changes
pub undue_stays : (old new : Site) (now : ℕ) → FlushDoes old new now → flushes_due (waiting_in old) (clock_in old) now ≡ false → Same (state_in old) (state_in new) × (waiting_in new ≡ waiting_in old)
undue_stays old new now does calm = (
  subst (λ t. Same (machine.issue_all old.number (cond {A = List Act} t (Flush ∷ []) []) (state_in old)) (state_in new)) calm does.issued,
  does.waiting ∙ ap (λ t. cond {A = Option ℕ} t None (waiting_in old)) calm,
)

pub undue_stands : (old new : Site) (now : ℕ) → FlushDoes old new now → flushes_due (waiting_in old) (clock_in old) now ≡ false → standing_in new ≡ standing_in old
undue_stands old new now does calm =
    let same = undue_stays old new now does calm in
    stands_same (state_in old) new (heard_in old) (waiting_in old) (counts_in old) same.0 does.stays.2 same.1 does.counts

-- the clock of a state that is one with another
clock_same : (old new : Site) → Same (state_in old) (state_in new) → clock_in new ≡ clock_in old
clock_same old new same = ap greatest_of same.vector

-- after it none is due
pub none_due : (old new : Site) (now : ℕ) → FlushDoes old new now → flushes_due (waiting_in new) (clock_in new) now ≡ false
none_due old new now does = by (flushes_due (waiting_in old) (clock_in old) now) refl
  where
    by : (t : Bool) → flushes_due (waiting_in old) (clock_in old) now ≡ t → flushes_due (waiting_in new) (clock_in new) now ≡ false
    by true e = ap (λ w. flushes_due w (clock_in new) now) (does.waiting ∙ ap (λ t. cond {A = Option ℕ} t None (waiting_in old)) e)
    by false e = let same = undue_stays old new now does e in (λ i. flushes_due (same.1 i) (clock_same old new same.0 i) now) ∙ e

both_not : (a b : Bool) → a && not b ≡ true → a && b ≡ false
both_not true true h = sym h
both_not true false h = refl
both_not false b h = refl

-- and it leaves a site without a stamp for a due flush just where it was one
pub stuck_same : (old new : Site) (now : ℕ) → FlushDoes old new now → is_stuck (waiting_in new) (clock_in new) now ≡ is_stuck (waiting_in old) (clock_in old) now
stuck_same old new now does = by (flushes_due (waiting_in old) (clock_in old) now) refl
  where
    by : (t : Bool) → flushes_due (waiting_in old) (clock_in old) now ≡ t → is_stuck (waiting_in new) (clock_in new) now ≡ is_stuck (waiting_in old) (clock_in old) now
    by true e = ap (λ w. is_stuck w (clock_in new) now) (does.waiting ∙ ap (λ t. cond {A = Option ℕ} t None (waiting_in old)) e) ∙ sym (both_not (is_due (waiting_in old) now) (lacks (clock_in old) (Flush ∷ [])) e)
    by false e = let same = undue_stays old new now does e in λ i. is_stuck (same.1 i) (clock_same old new same.0 i) now

-- a second one does nothing more
pub flush_again : (old mid new : Site) (now : ℕ) → FlushDoes old mid now → FlushDoes mid new now → FlushDoes old new now
flush_again old mid new now one two =
    let same = undue_stays mid new now two (none_due old mid now one) in
    record {
      issued = subst (λ (st : SiteState). Same (machine.issue_all old.number (due_acts (waiting_in old) (clock_in old) now) (state_in old)) st) (sym (state_path (state_in mid) (state_in new) same.0)) one.issued;
      waiting = same.1 ∙ one.waiting;
      counts = two.counts ∙ one.counts;
      stays = (two.stays.0 ∙ one.stays.0, two.stays.1 ∙ one.stays.1, two.stays.2 ∙ one.stays.2);
    }

-- ---- what a parcel brings, and what is dropped
pub take_stands : (who : Who) (parcel : Parcel) (old new : Site) → Same (machine.take who.number (sifted_delta (horizon_at who (standing_in old)) (delta_of parcel)) (state_in old)) (state_in new)
    → heard_in new ≡ looked (heard (looked_at who.number (table_of (standing_in old))) parcel.from parcel.upto parcel.retired) who.number new.vector → waiting_in new ≡ waiting_in old → counts_in new ≡ counts_in old
    → standing_in new ≡ takes who parcel (standing_in old)
take_stands who parcel old new same rows waiting counts =
    let d = sifted_delta (horizon_at who (standing_in old)) (delta_of parcel) in
    let after = machine.take who.number d (state_in old) in
    let told = looked (heard (looked_at who.number (table_of (standing_in old))) parcel.from parcel.upto parcel.retired) who.number after.vector in
    stands_same after new told (waiting_in old) (counts_in old) same (rows ∙ ap (looked (heard (looked_at who.number (table_of (standing_in old))) parcel.from parcel.upto parcel.retired) who.number) same.vector) waiting counts
    ∙ (λ i. record { vector = after.vector; rows = told; floor = after.floor; map = after.map; held = λ q. settled_held after.map (state_in old).stock q i; waiting = waiting_in old; counts = counts_in old })

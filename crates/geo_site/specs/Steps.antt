-- What a site may answer to an event where it stands, and where that leads.
use Rattle.std.specs.Prelude.{IsTrue, ◌↔◌, ◌≡◌, ◌≢◌, ℕ, ◌+◌, ◌≤◌, Bool, true, false, not, cond, List, [], length, Option, None, is_some, Result, Ok, Err}
use Rattle.std.specs.List.{All}
use Rattle.std.specs.declared.alloc.AllocError.{AllocError}
use Rattle.geo_stamp.specs.Acks.{row_of}
use Rattle.geo_stamp.specs.Retired.{is_in}
use Rattle.geo_stamp.specs.Vectors.{vector_joined}
use Rattle.geo_versions.specs.Maps.{Rising, listed_at, rec_means, since}
use Rattle.geo_delta.specs.declared.parcel.Parcel.{Parcel}
use Rattle.geo_requests.specs.declared.request.Request.{Request}
use Rattle.geo_requests.specs.declared.reply.Reply.{Reply}
use Rattle.geo_requests.specs.declared.reply.Reply.TheVariants.{ClockEnded}
use Rattle.geo_site.specs.declared.site.Site.{Site}
use Rattle.geo_site.specs.declared.acted.Acted.{Acted}
use Rattle.geo_site.specs.declared.fill.Filled.{Filled}
use Rattle.geo_site.specs.declared.exchange.Taken.{Taken}
use Rattle.geo_site.specs.declared.exchange.Refused.{Refused}
use Rattle.geo_site.specs.declared.refusal.SendError.{SendError}
use Rattle.geo_site.specs.declared.refusal.SendError.TheVariants as sends
use Rattle.geo_site.specs.declared.refusal.TakeError.{TakeError}
use Rattle.geo_site.specs.declared.refusal.TakeError.TheVariants as takes
use Rattle.geo_site.specs.declared.refusal.ReapError.{ReapError}
use Rattle.geo_site.specs.declared.refusal.ReapError.TheVariants as reaps
use Rattle.geo_site.specs.declared.refusal.RetireError.{RetireError}
use Rattle.geo_site.specs.declared.refusal.RetireError.TheVariants as retire
use Rattle.geo_site.specs.Fills.{FillsAs, is_filled}
use Rattle.geo_site.specs.Entries.{names, flushes_due, is_stuck, is_done, is_reapable, lacks, owed, made_on}
use Rattle.geo_site.specs.Machine.{VictimOf, IsRecordCount, IsHeldCount}
use Rattle.geo_site.specs.Sites.{is_sound}
use Rattle.geo_records.specs.Operations.{version_in}
use Rattle.geo_site.specs.declared.event.Event.{Event}
use Rattle.geo_site.specs.declared.event.Event.TheVariants.{Command, Evict, Send, Take, Remove, Tick, Reap, Fill, Retire}
use Rattle.geo_site.specs.declared.event.Answer.{Answer}
use Rattle.geo_site.specs.declared.event.Answer.TheVariants.{Replied, Evicted, Sent, SendRefused, Taken as Took, TakeRefused, Removed, Ticked, Reaped, ReapRefused, Filled as FilledAs, Retired, RetireRefused}
use Rattle.geo_site.specs.Standings.{Who, who_in, Standing, standing_in, clock_at, visible_at, basis_at, issued_at, issue_all, flushed, carries_out, takes as taken, removes, evicts, admits, retires, reaped_at}

-- a request where no flush is due: the reply is the one that is owed, and never want of memory
pub record Requested (who : Who) (old new : Standing) (now : ℕ) (request : Request) (reply : Reply) (victim : Option (List ℕ))
    (made : Option (List ℕ × ℕ)) : Type 0 where
  pub records : ℕ
  pub items : ℕ
  pub recorded : IsRecordCount old.map records
  pub held : IsHeldCount old.held items
  pub answer : reply ≡ owed now (basis_at who old now records items) request
  pub victims : VictimOf old.held (cond (is_done reply) (issued_at old now request) []) victim
  pub makes : made ≡ cond (is_done reply) (made_on now (visible_at old now) request) None
  pub leads : new ≡ cond (is_done reply) (carries_out who now request victim old) old

-- where a flush is due and no stamp is left for it, each request is answered so
pub record Stuck (old new : Standing) (reply : Reply) (victim : Option (List ℕ)) (made : Option (List ℕ × ℕ)) : Type 0 where
  pub answer : reply ≡ ClockEnded
  pub none : victim ≡ None
  pub plain : made ≡ None
  pub stays : new ≡ old

abbrev pub Commanded : Bool → Who → Standing → Standing → ℕ → Request → Reply → Option (List ℕ) → Option (List ℕ × ℕ) → Type 0
Commanded true who old new now request reply victim made = Stuck old new reply victim made
Commanded false who old new now request reply victim made = Requested who old new now request reply victim made

-- no flush is due for which there is a stamp: it was a step of its own
abbrev pub Undue : Standing → ℕ → Type 0
Undue st now = flushes_due st.waiting (clock_at st) now ≡ false

-- a parcel that it takes, and why it does not take one; want of memory left no step
abbrev pub Takes : Who → Standing → Parcel → Type 0
Takes who st parcel = (parcel.to ≡ who.number) × (is_sound (length st.vector) who.number parcel ≡ true)
    × (is_in st.rows.set parcel.from ≡ false) × (vector_joined st.vector parcel.base ≡ st.vector)

abbrev pub RefusesFor : Who → Standing → Parcel → TakeError → Type 0
RefusesFor who st parcel takes.NotForMe = parcel.to ≢ who.number
RefusesFor who st parcel takes.UnknownSite = (parcel.to ≡ who.number) × (is_sound (length st.vector) who.number parcel ≡ false)
RefusesFor who st parcel takes.Retired = (parcel.to ≡ who.number) × (is_sound (length st.vector) who.number parcel ≡ true)
    × (is_in st.rows.set parcel.from ≡ true)
RefusesFor who st parcel takes.Gap = (parcel.to ≡ who.number) × (is_sound (length st.vector) who.number parcel ≡ true)
    × (is_in st.rows.set parcel.from ≡ false) × (vector_joined st.vector parcel.base ≢ st.vector)
RefusesFor who st parcel takes.Memory = ⊥

-- what it tells of a take: whether the vector rose, and how many values it holds no longer
pub record TellsTake (old new : Standing) (parcel : Parcel) (told : Taken) : Type 0 where
  pub rose : IsTrue told.rose ↔ (vector_joined old.vector parcel.upto ≢ old.vector)
  pub before : ℕ
  pub after : ℕ
  pub held_before : IsHeldCount old.held before
  pub held_after : IsHeldCount new.held after
  pub dropped : after + told.dropped ≡ before

-- a parcel to another site, of all that is known and that it was not heard to know
abbrev pub IsOther : Who → Standing → ℕ → Type 0
IsOther who st to = (1 ≤ to) × (to ≤ length st.vector) × (to ≢ who.number)

pub record IsSent (who : Who) (st : Standing) (to : ℕ) (parcel : Parcel) : Type 0 where
  pub sender : parcel.from ≡ who.number
  pub addressee : parcel.to ≡ to
  pub base : parcel.base ≡ row_of st.rows.rows to
  pub upto : parcel.upto ≡ st.vector
  pub retired : parcel.retired ≡ st.rows.set
  pub floor : parcel.floor ≡ st.floor
  pub rising : Rising parcel.records
  pub filled : All (λ e. rec_means e.1 ≡ (None, None) → ⊥) parcel.records
  pub records : (q : List ℕ) → listed_at parcel.records q ≡ since (row_of st.rows.rows to) (st.map q)

abbrev pub SendRefuses : Who → Standing → ℕ → SendError → Type 0
SendRefuses who st to sends.NoSuchSite = IsOther who st to → ⊥
SendRefuses who st to sends.Retired = IsOther who st to × (is_in st.rows.set to ≡ true)
SendRefuses who st to sends.Memory = ⊥

-- a site that is held for retired from now on
abbrev pub RetireRefuses : Who → Standing → ℕ → RetireError → Type 0
RetireRefuses who st other retire.NoSuchSite = IsOther who st other → ⊥
RetireRefuses who st other retire.Memory = ⊥

-- how many records a removal drops
pub record Drops (old new : Standing) (count : ℕ) : Type 0 where
  pub before : ℕ
  pub after : ℕ
  pub recorded_before : IsRecordCount old.map before
  pub recorded_after : IsRecordCount new.map after
  pub dropped : after + count ≡ before

-- a reap where no flush is due deletes exactly a key that is to be reaped, and is refused exactly where no stamp is left for that
abbrev pub ReapRefuses : Who → Standing → ℕ → List ℕ → ReapError → Type 0
ReapRefuses who st now key reaps.ClockEnded = lacks (clock_at st) (reaped_at who st now key) ≡ true
ReapRefuses who st now key reaps.Memory = ⊥

-- where the site stands, an event has this answer and leads there; only a command has a victim, or makes bytes of older ones
abbrev pub Leads : Who → Standing → Event → Answer → Standing → Type 0
Leads who old (Evict key) (Evicted done) new = (done ≡ is_some (old.held key)) × (new ≡ cond done (evicts key old) old)
Leads who old (Send to) (Sent parcel) new = IsOther who old to × (is_in old.rows.set to ≡ false) × IsSent who old to parcel × (new ≡ old)
Leads who old (Send to) (SendRefused why) new = SendRefuses who old to why × (new ≡ old)
Leads who old (Take parcel) (Took told) new = Takes who old parcel × TellsTake old new parcel told × (new ≡ taken who parcel old)
Leads who old (Take parcel) (TakeRefused why) new = RefusesFor who old parcel why × (new ≡ old)
Leads who old Remove (Removed count) new = Drops old new count × (new ≡ removes who old)
Leads who old (Tick now) (Ticked done) new = (done ≡ true) × (flushes_due old.waiting (clock_at old) now ≡ true)
    × (new ≡ flushed who now old)
Leads who old (Reap now key) (Reaped done) new = Undue old now
    × (done ≡ is_reapable who.number who.limits.reap_after now (version_in (old.map key)))
    × (lacks (clock_at old) (reaped_at who old now key) ≡ false) × (new ≡ issue_all who (reaped_at who old now key) old)
Leads who old (Reap now key) (ReapRefused why) new = Undue old now × ReapRefuses who old now key why × (new ≡ old)
-- of bytes that are offered it holds what it names and has none of, but where their class is full: of chunks nothing stands here
Leads who old (Fill key bytes) (FilledAs filled) new = FillsAs (names (version_in (old.map key)) bytes) (is_some (old.held key)) filled
    × (new ≡ cond (is_filled filled) (admits key bytes old) old)
Leads who old (Retire other) (Retired fresh) new = IsOther who old other × (fresh ≡ not (is_in old.rows.set other))
    × (new ≡ retires who other old)
Leads who old (Retire other) (RetireRefused why) new = RetireRefuses who old other why × (new ≡ old)
Leads who old event answer new = ⊥

abbrev pub StepsTo : Who → Standing → Event → Answer → Option (List ℕ) → Option (List ℕ × ℕ) → Standing → Type 0
StepsTo who old (Command now request) (Replied reply) victim made new = Undue old now
    × Commanded (is_stuck old.waiting (clock_at old) now) who old new now request reply victim made
StepsTo who old (Command now request) answer victim made new = ⊥
StepsTo who old event answer victim made new = (victim ≡ None) × (made ≡ None) × Leads who old event answer new

-- a call at a site is this step, for which nobody's bytes go
abbrev pub IsStep : Site → Site → Event → Answer → Type 0
IsStep old new event answer = StepsTo (who_in old) (standing_in old) event answer None None (standing_in new)

-- a call that is no step leaves a site where it stood
abbrev pub StandsAsBefore : Site → Site → Type 0
StandsAsBefore old new = standing_in new ≡ standing_in old

-- where a site stands once a flush that is due is carried out, which is a step of its own
abbrev pub flushed_in : Site → ℕ → Standing
flushed_in site now = flushed (who_in site) now (standing_in site)

-- a call is this step behind a due flush
abbrev pub IsStepBehind : Site → Site → ℕ → Event → Answer → Option (List ℕ) → Option (List ℕ × ℕ) → Type 0
IsStepBehind old new now event answer victim made = StepsTo (who_in old) (flushed_in old now) event answer victim made (standing_in new)

-- what each call is, by its result: where memory was wanted it is no step
abbrev pub ActSteps : Site → Site → ℕ → Request → Result Acted AllocError → Type 0
ActSteps old new now request (Ok acted) = IsStepBehind old new now (Command now request) (Replied acted.reply) acted.victim acted.made
ActSteps old new now request (Err refused) = standing_in new ≡ flushed_in old now

abbrev pub SendSteps : Site → ℕ → Result Parcel SendError → Type 0
SendSteps site to (Ok parcel) = IsStep site site (Send to) (Sent parcel)
SendSteps site to (Err sends.NoSuchSite) = IsStep site site (Send to) (SendRefused sends.NoSuchSite)
SendSteps site to (Err sends.Retired) = IsStep site site (Send to) (SendRefused sends.Retired)
SendSteps site to (Err sends.Memory) = Unit {0}

abbrev pub UntakenSteps : Site → Site → Parcel → TakeError → Type 0
UntakenSteps old new parcel takes.NotForMe = IsStep old new (Take parcel) (TakeRefused takes.NotForMe)
UntakenSteps old new parcel takes.UnknownSite = IsStep old new (Take parcel) (TakeRefused takes.UnknownSite)
UntakenSteps old new parcel takes.Retired = IsStep old new (Take parcel) (TakeRefused takes.Retired)
UntakenSteps old new parcel takes.Gap = IsStep old new (Take parcel) (TakeRefused takes.Gap)
UntakenSteps old new parcel takes.Memory = StandsAsBefore old new

abbrev pub TakeSteps : Site → Site → Parcel → Result Taken Refused → Type 0
TakeSteps old new parcel (Ok taken) = IsStep old new (Take parcel) (Took taken)
TakeSteps old new parcel (Err refused) = UntakenSteps old new parcel refused.why

-- a tick where no flush is due for which there is a stamp is no step
abbrev pub TickSteps : Site → Site → ℕ → Bool → Type 0
TickSteps old new now true = IsStep old new (Tick now) (Ticked true)
TickSteps old new now false = Undue (standing_in old) now × StandsAsBefore old new

abbrev pub ReapSteps : Site → Site → ℕ → List ℕ → Result Bool ReapError → Type 0
ReapSteps old new now key (Ok done) = IsStepBehind old new now (Reap now key) (Reaped done) None None
ReapSteps old new now key (Err reaps.ClockEnded) = IsStepBehind old new now (Reap now key) (ReapRefused reaps.ClockEnded) None None
ReapSteps old new now key (Err reaps.Memory) = ⊥

abbrev pub FillSteps : Site → Site → List ℕ → List ℕ → Result Filled AllocError → Type 0
FillSteps old new key bytes (Ok filled) = IsStep old new (Fill key bytes) (FilledAs filled)
FillSteps old new key bytes (Err refused) = StandsAsBefore old new

abbrev pub RetireSteps : Site → Site → ℕ → Result Bool RetireError → Type 0
RetireSteps old new other (Ok fresh) = IsStep old new (Retire other) (Retired fresh)
RetireSteps old new other (Err retire.NoSuchSite) = IsStep old new (Retire other) (RetireRefused retire.NoSuchSite)
RetireSteps old new other (Err retire.Memory) = ⊥

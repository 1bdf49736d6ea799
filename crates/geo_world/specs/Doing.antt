-- What each event makes of its site, and of no other: what that site's own call says.
use Rattle.std.specs.Prelude.{Ok, Err, ◌≡◌, ◌≢◌, ℕ, zero, suc, ◌+◌, true, cond, List, [], ◌∷◌, length, Option, Some, None, slice_get}
use Rattle.geo_records.specs.Operations.{Act}
use Rattle.geo_records.specs.Operations.Act.{Write, Delete, Touch, Flush}
use Rattle.std.specs.declared.alloc.AllocError.{AllocError}
use Rattle.geo_slabs.specs.Storage.{class_count}
use Rattle.geo_values.specs.Stock.{Stock, dropped, is_full}
use Rattle.geo_delta.specs.declared.parcel.Parcel.{Parcel}
use Rattle.geo_requests.specs.declared.request.Request.{Request}
use Rattle.geo_requests.specs.declared.reply.Reply.{Reply}
use Rattle.geo_site.specs.declared.site.Site.{Site}
use Rattle.geo_site.specs.declared.setup.Setup.{Setup}
use Rattle.geo_site.specs.declared.exchange.Taken.{Taken as TakenOf}
use Rattle.geo_site.specs.declared.exchange.Refused.{Refused as RefusedOf}
use Rattle.geo_world.specs.declared.event.Event.{Event}
use Rattle.geo_world.specs.declared.event.Event.TheVariants.{Command, Evict, Send, Take, Remove, Tick, Reap, Fill, Retire}
use Rattle.geo_world.specs.declared.event.Trace.{Trace}
use Rattle.geo_world.specs.declared.event.Trace.TheVariants.{Replied, Evicted, Taken, TakeRefused, Removed, Ticked, Reaped, ReapRefused, Filled, FillRefused, Retired, RetireRefused}
use Rattle.geo_site.specs.Entries.{is_done}
use Rattle.geo_site.specs.Fills.{FillDoes}
use Rattle.geo_site.specs.Machine.{class_for}
use Rattle.geo_site.specs.Sites.{state_in, victim_in, issued_in, horizon_in, ActDoes, EvictDoes, TakeDoes, RemoveDoes, TickDoes, ReapDoes, RetireDoes, OpenDoes}

-- a victim goes only where the slab class of the bytes that are written is full, once the bytes that their key had are out
abbrev pub WasFull : Stock → List Act → Option (List ℕ) → Type 0
WasFull stock acts None = Unit {0}
WasFull stock [] (Some victim) = ⊥
WasFull stock (Write key bytes flags expiry ∷ acts) (Some victim) = is_full (dropped key stock) (class_for (length bytes)) ≡ true
WasFull stock (Delete key ∷ acts) (Some victim) = ⊥
WasFull stock (Touch key expiry ∷ acts) (Some victim) = ⊥
WasFull stock (Flush ∷ acts) (Some victim) = ⊥

-- what a site makes of a command, and whose bytes go for it
pub record Commands (old new : Site) (now : ℕ) (request : Request) (reply : Reply) (victim : Option (List ℕ)) : Type 0 where
  pub does : ActDoes old new now request reply
  pub victims : victim ≡ cond {A = Option (List ℕ)} (is_done reply) (victim_in does.mid (issued_in does.mid now request)) None
  pub full : WasFull (state_in does.mid).stock (issued_in does.mid now request) victim

-- what a site makes of a parcel that was sent, which it takes or refuses
pub record TakesOne (old new : Site) : Type 0 where
  pub parcel : Parcel
  pub taken : TakenOf
  pub does : TakeDoes old new parcel (Ok taken)

pub record RefusesOne (old new : Site) : Type 0 where
  pub parcel : Parcel
  pub refused : RefusedOf
  pub does : TakeDoes old new parcel (Err refused)

-- what a site makes of bytes that it would hold, where memory is wanted for that
pub record RefusesFill (old new : Site) (key bytes : List ℕ) : Type 0 where
  pub refused : AllocError
  pub does : FillDoes old new key bytes (Err refused)

-- what an event makes of its site
abbrev pub DoesThere : Site → Site → Event → Trace → Type 0
DoesThere old new (Command site now request) (Replied reply victim) = Commands old new now request reply victim
DoesThere old new (Evict site key) (Evicted done) = EvictDoes old new key done
DoesThere old new (Send site to) trace = new ≡ old
DoesThere old new (Take site parcel) Taken = TakesOne old new
DoesThere old new (Take site parcel) (TakeRefused why) = RefusesOne old new
DoesThere old new (Remove site) (Removed horizon count) = (horizon ≡ horizon_in old) × RemoveDoes old new count
DoesThere old new (Tick site now) (Ticked done) = TickDoes old new now done
DoesThere old new (Reap site now key) (Reaped done) = ReapDoes old new now key (Ok done)
DoesThere old new (Reap site now key) (ReapRefused why) = ReapDoes old new now key (Err why)
DoesThere old new (Fill site key bytes) (Filled filled) = FillDoes old new key bytes (Ok filled)
DoesThere old new (Fill site key bytes) FillRefused = RefusesFill old new key bytes
DoesThere old new (Retire site other) (Retired fresh) = RetireDoes old new other (Ok fresh)
DoesThere old new (Retire site other) (RetireRefused why) = RetireDoes old new other (Err why)
DoesThere old new event trace = ⊥

-- the site of an event
abbrev pub site_of : Event → ℕ
site_of (Command site now request) = site
site_of (Evict site key) = site
site_of (Send site to) = site
site_of (Take site parcel) = site
site_of (Remove site) = site
site_of (Tick site now) = site
site_of (Reap site now key) = site
site_of (Fill site key bytes) = site
site_of (Retire site other) = site

-- an event does so at its site, and changes no other
pub record DoesAlone (old new : List Site) (event : Event) (trace : Trace) : Type 0 where
  pub before : Site
  pub after : Site
  pub was : (k : ℕ) → site_of event ≡ k + 1 → slice_get old k ≡ Some before
  pub is : (k : ℕ) → site_of event ≡ k + 1 → slice_get new k ≡ Some after
  pub does : DoesThere before after event trace
  pub others : (k : ℕ) → site_of event ≢ k + 1 → slice_get new k ≡ slice_get old k

-- one after the other, from these sites to those
abbrev pub EachAlone : List Site → List Event → List Trace → List Site → Type 0
EachAlone first [] [] last = last ≡ first
EachAlone first [] (trace ∷ traces) last = ⊥
EachAlone first (event ∷ events) [] last = ⊥
EachAlone first (event ∷ events) (trace ∷ traces) last =
    (next : List Site) × DoesAlone first next event trace × EachAlone next events traces last

-- each site is what opening one with its setup makes
abbrev pub EachOpens : List Setup → List Site → Type 0
EachOpens setups sites = (k : ℕ) (setup : Setup) (site : Site) → slice_get setups k ≡ Some setup → slice_get sites k ≡ Some site
    → OpenDoes setup (Ok site)

-- sites were opened, and the events did this to them, one after the other
pub record RunsAlone (setups : List Setup) (events : List Event) (traces : List Trace) (sites : List Site) : Type 0 where
  pub first : List Site
  pub many : length first ≡ length setups
  pub opened : EachOpens setups first
  pub each : EachAlone first events traces sites

-- how many pages the slab classes below one have, and how many a site has with the spare ones
abbrev pub pages_below : (ℕ → ℕ) → ℕ → ℕ
pages_below pages zero = 0
pages_below pages (suc class) = pages_below pages class + pages class

abbrev pub pages_of : Stock → ℕ
pages_of stock = pages_below stock.pages class_count + stock.spare

-- each site has as many as its setup tells
abbrev pub HavePages : List Setup → List Site → Type 0
HavePages setups sites = (k : ℕ) (setup : Setup) (site : Site) → slice_get setups k ≡ Some setup → slice_get sites k ≡ Some site
    → pages_of (state_in site).stock ≡ setup.pages

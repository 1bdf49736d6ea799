-- Values that are served: each is what the operation wrote that the version names, unless two values have one SHA-256.
use Rattle.std.specs.Prelude.{◌≡◌, ◌⊎◌, ℕ, List, [], ◌∷◌, Some}
use Rattle.sha2.specs.Sha256.{sha256}
use Rattle.geo_records.specs.Operations.{Operation, Among, version_of}
use Rattle.geo_records.specs.Operations.Act.{Write}
use Rattle.geo_records.specs.declared.version.Version.{Version}
use Rattle.geo_requests.specs.declared.reply.Reply.{Reply}
use Rattle.geo_requests.specs.declared.reply.Found.{Found}
use Rattle.geo_site.specs.Entries.{values_in}
use Rattle.geo_world.specs.declared.event.Event.{Event}
use Rattle.geo_world.specs.declared.event.Event.TheVariants.{Command, Fill}
use Rattle.geo_world.specs.declared.event.Trace.{Trace}
use Rattle.geo_world.specs.declared.event.Trace.TheVariants.{Replied}
use Rattle.geo_world.specs.Schedule.{Known, flushed, happens}

-- somebody knows a write of the bytes
pub record Writing (ops : List Operation) (bytes : List ℕ) : Type 0 where
  pub op : Operation
  pub among : Among ops op
  pub key : List ℕ
  pub flags : ℕ
  pub expiry : ℕ
  pub is : op.act ≡ Write key bytes flags expiry

pub record Written (w : Known) (bytes : List ℕ) : Type 0 where
  pub site : ℕ
  pub writing : Writing (w.at site) bytes

-- an event offers the bytes to a site
abbrev pub Offers : Event → List ℕ → Type 0
Offers (Fill site key offered) bytes = offered ≡ bytes
Offers event bytes = ⊥

abbrev pub Offered : List Event → List ℕ → Type 0
Offered [] bytes = ⊥
Offered (event ∷ events) bytes = Offers event bytes ⊎ Offered events bytes

-- no two different values that were written, or offered in these events, have one digest
abbrev pub Apart : (List ℕ → Type 0) → Type 0
Apart P = (a b : List ℕ) → P a → P b → sha256 a ≡ sha256 b → a ≡ b

abbrev pub NoCollision : Known → List Event → Type 0
NoCollision w events = Apart (λ bytes. Written w bytes ⊎ Offered events bytes)

-- the entry is what the write wrote whose stamp the site's version of the key has, and no other operation has that stamp
pub record ServedBy (w : Known) (ops : List Operation) (entry : Found) : Type 0 where
  pub version : Version
  pub is_version : version_of ops entry.key ≡ Some version
  pub op : Operation
  pub among : Among ops op
  pub stamp : op.stamp ≡ version.stamp
  pub expiry : ℕ
  pub wrote : op.act ≡ Write entry.key entry.bytes entry.flags expiry
  pub alone : (t : ℕ) (other : Operation) → Among (w.at t) other → other.stamp ≡ op.stamp → other ≡ op

abbrev pub EachServed : Known → List Operation → List Found → Type 0
EachServed w ops [] = Unit {0}
EachServed w ops (entry ∷ found) = ServedBy w ops entry × EachServed w ops found

-- each value in a reply is what the named operation wrote, by what is known after a due flush
abbrev pub ReplyServes : Known → ℕ → Reply → Type 0
ReplyServes w site reply = EachServed w (w.at site) (values_in reply)

abbrev pub TraceServes : Known → Event → Trace → Type 0
TraceServes w (Command site now request) (Replied reply victim) = ReplyServes (flushed w site now) site reply
TraceServes w event trace = Unit {0}

abbrev pub AllServe : Known → List Event → List Trace → Type 0
AllServe w [] traces = Unit {0}
AllServe w (event ∷ events) [] = Unit {0}
AllServe w (event ∷ events) (trace ∷ traces) = TraceServes w event trace × AllServe (happens w event trace) events traces

-- One end of a link in memory.
use Rattle.std.specs.Prelude.{◌≡◌, ℕ, Bool, true, false, List, [], ◌∷◌, ◌++◌}
use Rattle.atomic_table.specs.Seated.{TableId}
use Rattle.atomic_table.specs.declared.badge.Badge.{Badge}
use Rattle.crossbeam_channel.specs.Claims.{Pass, view}
use Rattle.crossbeam_channel.specs.declared.flavors.array.Key.{Key}
use Rattle.geo_frame.specs.Payloads.{PayloadInRange, payload_of}
use Rattle.geo_frame.specs.declared.message.Message.{Message}
use Rattle.geo_link.specs.declared.fault.LinkError.{LinkError}
use Rattle.geo_link.specs.declared.fault.LinkError.TheVariants.{Closed}
use Rattle.geo_link.specs.declared.rule.Log.{Log}

-- which channel of all
pub record Channel : Type 0 where
  pub table : TableId
  pub key : Badge (Key Message)

-- the channel that it puts on, the channel that it gets from, all that it put, all that it got, and whether it was closed
pub record MemoryView : Type 0 where
  pub puts_on : Channel
  pub gets_from : Channel
  pub put : List Message
  pub got : List Message
  pub closed : Bool

-- so many messages wait at most
abbrev pub most_waiting : ℕ
most_waiting = 1024

abbrev pub put_by : Pass Message Log → List Message
put_by pass = (view pass).put

abbrev pub got_by : Pass Message Log → List Message
got_by pass = (view pass).got

abbrev pub MayPut : Pass Message Log → Type 0
MayPut pass = (view pass).puts ≡ true

abbrev pub MayGet : Pass Message Log → Type 0
MayGet pass = (view pass).gets ≡ true

-- a message was put behind all that was put
pub record PutsOne (old : MemoryView) (m : Message) (new : MemoryView) : Type 0 where
  pub was_open : old.closed ≡ false
  pub one : new ≡ record old { put = old.put ++ m ∷ [] }

-- a message was got behind all that was got
pub record GetsOne (old : MemoryView) (m : Message) (new : MemoryView) : Type 0 where
  pub was_open : old.closed ≡ false
  pub one : new ≡ record old { got = old.got ++ m ∷ [] }
  pub ranges : PayloadInRange (payload_of m)

-- nothing was put or got, since this end was closed or the other is gone
pub record FindsClosed (old : MemoryView) (error : LinkError) (new : MemoryView) : Type 0 where
  pub closed : error ≡ Closed
  pub stays : new ≡ old

-- what one put is what the other got, in the same order, and then what waits
pub record Arrives (put got : List Message) : Type 0 where
  pub waits : List Message
  pub order : put ≡ got ++ waits

-- Connections to a peer port.
use Rattle.std.specs.Prelude.{◌≡◌, ℕ, Option, List, take, drop}
use Rattle.geo_frame.specs.Payloads.{payload_of}
use Rattle.geo_frame.specs.Spelling.{IsFrameOf}
use Rattle.geo_frame.specs.declared.message.Message.{Message}
use Rattle.geo_link.specs.Streams.{StreamView, PutsFrame, started}

-- nothing was put on it yet
pub record HasBegun (link : StreamView) : Type 0 where
  pub unread : Option (List ℕ)
  pub written : Option (List ℕ)
  pub is : link ≡ started unread written

-- one message was put on it, by whoever connected
pub record HasGreeted (link : StreamView) : Type 0 where
  pub before : StreamView
  pub begun : HasBegun before
  pub greeting : Message
  pub puts : PutsFrame before greeting link

-- the frame of a message stands first of what came, and is taken
pub record TakesFirst (old new : List ℕ) (m : Message) : Type 0 where
  pub size : ℕ
  pub frame : IsFrameOf (take size old) (payload_of m)
  pub rest : new ≡ drop size old

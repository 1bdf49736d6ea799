-- A round: a parcel for each other site, over the link that leads there.
use Rattle.std.specs.Prelude.{◌≡◌, ◌≢◌, ◌⊎◌, ℕ, ◌+◌, ◌<◌, ◌≤◌, Bool, true, false, cond, List, [], ◌∷◌, length, take, drop, Ok, Err}
use Rattle.geo_delta.specs.Ranges.{InRange}
use Rattle.geo_delta.specs.declared.parcel.Parcel.{Parcel}
use Rattle.geo_frame.specs.declared.message.Message.{Message}
use Rattle.geo_frame.specs.declared.message.Message.TheVariants as message
use Rattle.geo_gossip.specs.declared.fault.GossipFault.{GossipFault}
use Rattle.geo_gossip.specs.declared.fault.GossipFault.TheVariants as faults
use Rattle.geo_gossip.specs.declared.rounds.Peer.{Peer}
use Rattle.geo_history.specs.Keeping.{most_steps}
use Rattle.geo_link.specs.declared.fault.LinkError.{LinkError}
use Rattle.geo_site.specs.declared.refusal.SendError.TheVariants as sends
use Rattle.geo_station.specs.Calls.{SendsBy}
use Rattle.geo_station.specs.Seats.{Seated}
use Rattle.geo_station.specs.declared.refusal.CallError.TheVariants.{SeatSpent, Site}

-- the seat has let go of the calls that it kept
abbrev pub emptied : Seated → Seated
emptied seat = record seat { calls = []; forgot = true }

-- of its calls the seat keeps the last alone, once it made one
abbrev pub KeepsLast : Seated → Seated → Type 0
KeepsLast old new = (new ≡ old) ⊎ (length new.calls ≤ 1)

-- the site made a parcel for the peer, and its link took it
pub record Took {K : Type 0} (puts : K → Message → K → Type 0) (old new : Peer K) (seat after : Seated) : Type 0 where
  pub parcel : Parcel
  pub ranges : InRange parcel
  pub addressee : parcel.to ≡ old.site
  pub sends : SendsBy (emptied seat) after old.site (Ok parcel)
  pub put : puts old.link (message.Parcel parcel) new.link
  pub site : new.site ≡ old.site

-- the site made a parcel for the peer, and its link refused it
pub record LinkFailed {K : Type 0} (put_fails : K → Message → LinkError → K → Type 0) (old new : Peer K)
    (seat after : Seated) : Type 0 where
  pub parcel : Parcel
  pub ranges : InRange parcel
  pub addressee : parcel.to ≡ old.site
  pub sends : SendsBy (emptied seat) after old.site (Ok parcel)
  pub why : LinkError
  pub failed : put_fails old.link (message.Parcel parcel) why new.link
  pub site : new.site ≡ old.site

-- the site knows no such peer
pub record IsUnknown {K : Type 0} (old new : Peer K) (seat after : Seated) : Type 0 where
  pub sends : SendsBy (emptied seat) after old.site (Err (Site sends.NoSuchSite))
  pub same : new ≡ old

-- the site holds the peer for retired
pub record IsRetired {K : Type 0} (old new : Peer K) (seat after : Seated) : Type 0 where
  pub sends : SendsBy (emptied seat) after old.site (Err (Site sends.Retired))
  pub same : new ≡ old

-- what becomes of a peer in a round, by whether a parcel was put
abbrev pub Served : {K : Type 0} → (K → Message → K → Type 0) → (K → Message → LinkError → K → Type 0) → Bool → Peer K → Peer K → Seated
    → Seated → Type 0
Served puts put_fails true old new seat after = Took puts old new seat after
Served puts put_fails false old new seat after = LinkFailed put_fails old new seat after
    ⊎ (IsUnknown old new seat after ⊎ IsRetired old new seat after)

-- peers are served one after the other, and so many parcels are put
unfoldable pub ServedAll : {K : Type 0} → (K → Message → K → Type 0) → (K → Message → LinkError → K → Type 0) → List (Peer K)
    → List (Peer K) → Seated → Seated → ℕ → Type 0
ServedAll puts put_fails [] [] seat after count = (after ≡ seat) × (count ≡ 0)
ServedAll puts put_fails (old ∷ olds) (new ∷ news) seat after count =
    (mid : Seated) × (put : Bool) × (more : ℕ) × Served puts put_fails put old new seat mid
    × ServedAll puts put_fails olds news mid after more
    × (count ≡ cond put 1 0 + more)
ServedAll puts put_fails olds news seat after count = ⊥

-- why no parcel could be made for a peer: a seat is spent once it has made all its steps, and no sooner
abbrev pub Unserved : GossipFault → ℕ → Seated → Seated → Type 0
Unserved faults.Memory site seat after = SendsBy (emptied seat) after site (Err (Site sends.Memory)) × (seat.steps ≢ most_steps)
Unserved faults.SeatSpent site seat after = SendsBy (emptied seat) after site (Err SeatSpent) × (most_steps ≤ seat.steps)

-- a round ends early: the peers before one are served, for that one no parcel can be made, and the others stay
pub record StopsEarly {K : Type 0} (puts : K → Message → K → Type 0) (put_fails : K → Message → LinkError → K
    → Type 0) (old new : List (Peer K)) (seat after : Seated)
    (why : GossipFault) : Type 0 where
  pub served : ℕ
  pub some : served < length old
  pub count : ℕ
  pub mid : Seated
  pub first : ServedAll puts put_fails (take served old) (take served new) seat mid count
  pub site : ℕ
  pub last : Unserved why site mid after
  pub rest : drop served new ≡ drop served old

-- A fetch: an ask for each of some missing bytes, at each other site, over the link that leads there.
use Rattle.std.specs.Prelude.{◌≡◌, ◌≢◌, ◌⊎◌, ℕ, ◌+◌, ◌≤◌, Bool, true, false, cond, List, [], ◌∷◌, ◌++◌, length, Option, None, Some, Ok, Result, IfOk, IfErr, Vec}
use Rattle.std.specs.Option.{IfSome}
use Rattle.std.specs.declared.alloc.AllocError.{AllocError}
use Rattle.std.specs.declared.alloc.Global.{Global}
use Rattle.sha2.specs.Sha256.{sha256}
use Rattle.geo_frame.specs.declared.message.Message.{Message}
use Rattle.geo_frame.specs.Payloads.{Payload, Wanted, PayloadInRange, payload_of, wanted}
use Rattle.geo_frame.specs.Payloads.Payload.{Asks, Offers}
use Rattle.geo_gossip.specs.Receiving.{turned}
use Rattle.geo_gossip.specs.declared.fetching.Silence.{Silence}
use Rattle.geo_gossip.specs.declared.fetching.Silence.TheVariants.{Left, Ended}
use Rattle.geo_gossip.specs.declared.rounds.Peer.{Peer}
use Rattle.geo_link.specs.declared.fault.LinkError.{LinkError}
use Rattle.geo_link.specs.declared.fault.LinkError.TheVariants as link
use Rattle.geo_site.specs.Fills.{is_filled}
use Rattle.geo_site.specs.declared.fill.Filled.{Filled}
use Rattle.geo_station.specs.Calls.{FillsBy}
use Rattle.geo_station.specs.Receipts.{LacksFirst}
use Rattle.geo_station.specs.Seats.{Seated}
use Rattle.geo_station.specs.declared.missing.Missing.{Missing}
use Rattle.geo_station.specs.declared.refusal.CallError.{CallError}

-- what a link does at each of its calls
pub record Ways (K : Type 0) : Type 1 where
  pub puts : K → Message → K → Type 0
  pub gets : K → Message → K → Type 0
  pub put_fails : K → Message → LinkError → K → Type 0
  pub get_fails : K → LinkError → K → Type 0
  pub closes : K → K → Type 0

abbrev pub ways : {K : Type 0} → (K → Message → K → Type 0) → (K → Message → K → Type 0) → (K → Message → LinkError → K → Type 0)
    → (K → LinkError → K → Type 0) → (K → K → Type 0) → Ways K
ways puts gets put_fails get_fails closes =
    record { puts = puts; gets = gets; put_fails = put_fails; get_fails = get_fails; closes = closes }

-- the ask at a site for bytes that are missing
abbrev pub ask_of : ℕ → Missing → Wanted
ask_of to m = wanted m.from to m.sites m.key m.digest

-- a message offers such bytes, or none
abbrev pub OffersThese : Wanted → Payload → Option (List ℕ) → Type 0
OffersThese w offer bytes = (offer ≡ Offers (turned w) bytes) × IfSome bytes (λ b. sha256 b ≡ w.digest)

-- an ask is put, and the offer that answers it got
pub record Exchanges {K : Type 0} (by : Ways K) (w : Wanted) (bytes : Option (List ℕ)) (old new : K) : Type 0 where
  pub ask : Message
  pub offer : Message
  pub mid : K
  pub asks : payload_of ask ≡ Asks w
  pub offers : OffersThese w (payload_of offer) bytes
  pub put : by.puts old ask mid
  pub got : by.gets mid offer new

-- no ask can be put, for there is no such other site
abbrev pub IsNoWay : {K : Type 0} → Wanted → K → K → Type 0
IsNoWay w old new = (PayloadInRange (Asks w) → ⊥) × (new ≡ old)

-- an ask is not put
pub record AskFails {K : Type 0} (by : Ways K) (w : Wanted) (why : LinkError) (old new : K) : Type 0 where
  pub ask : Message
  pub asks : payload_of ask ≡ Asks w
  pub failed : by.put_fails old ask why new

-- an ask is put, and nothing is got
pub record OfferFails {K : Type 0} (by : Ways K) (w : Wanted) (why : LinkError) (old new : K) : Type 0 where
  pub ask : Message
  pub mid : K
  pub asks : payload_of ask ≡ Asks w
  pub put : by.puts old ask mid
  pub failed : by.get_fails mid why new

-- an ask is put, another message than its offer is got, and the link is closed
pub record Strays {K : Type 0} (by : Ways K) (w : Wanted) (old new : K) : Type 0 where
  pub ask : Message
  pub other : Message
  pub mid : K
  pub far : K
  pub asks : payload_of ask ≡ Asks w
  pub put : by.puts old ask mid
  pub got : by.gets mid other far
  pub strays : (bytes : Option (List ℕ)) → OffersThese w (payload_of other) bytes → ⊥
  pub closed : by.closes far new

-- a peer is asked no more
abbrev pub Leaves : {K : Type 0} → Ways K → Wanted → K → K → Type 0
Leaves by w old new = IsNoWay w old new ⊎ (((why : LinkError) × AskFails by w why old new × (why ≢ link.Memory))
    ⊎ (((why : LinkError) × OfferFails by w why old new × (why ≢ link.Memory)) ⊎ Strays by w old new))

-- no peer is asked any more: memory was refused, or what came could not be put to the site
abbrev pub EndsAll : {K : Type 0} → Ways K → Wanted → K → K → Type 0
EndsAll by w old new = (new ≡ old) ⊎ (AskFails by w link.Memory old new ⊎ (OfferFails by w link.Memory old new
    ⊎ ((bytes : List ℕ) × (why : CallError AllocError) × Exchanges by w (Some bytes) old new)))

-- what came of an ask: bytes, to which the site answered this, or none
abbrev pub TellsThis : {K : Type 0} → Ways K → Option Filled → Wanted → K → K → Seated → Seated → Type 0
TellsThis by (Some filled) w old new seat after = ((bytes : List ℕ) × Exchanges by w (Some bytes) old new) × FillsBy seat after (Ok filled)
TellsThis by None w old new seat after = Exchanges by w None old new × (after ≡ seat)

-- what is missing still, and how many fills were done
abbrev pub still : Option Filled → Missing → List Missing
still (Some filled) m = []
still None m = m ∷ []

abbrev pub done_by : Option Filled → ℕ
done_by (Some filled) = cond (is_filled filled) 1 0
done_by None = 0

-- one peer is asked for these, one after the other; left are those that it hasn't
unfoldable pub AsksAll : {K : Type 0} → Ways K → ℕ → List Missing → List Missing → K → K → Seated → Seated → ℕ → Type 0
AsksAll by site [] left old new seat after count = (left ≡ []) × (new ≡ old) × (after ≡ seat) × (count ≡ 0)
AsksAll {K} by site (m ∷ asked) left old new seat after count =
    (told : Option Filled) × (mid : K) × (between : Seated) × (rest : List Missing) × (more : ℕ)
    × TellsThis by told (ask_of site m) old mid seat between × AsksAll by site asked rest mid new between after more
    × (left ≡ still told m ++ rest) × (count ≡ done_by told + more)

-- why no more is asked: all was, the peer is left, or nobody is asked any more
abbrev pub StopsAt : {K : Type 0} → Ways K → Bool → ℕ → List Missing → K → K → Type 0
StopsAt by true site [] old new = new ≡ old
StopsAt by true site (m ∷ rest) old new = Leaves by (ask_of site m) old new
StopsAt by false site [] old new = ⊥
StopsAt by false site (m ∷ rest) old new = EndsAll by (ask_of site m) old new

-- a peer brings nothing: it is left, or nobody is asked any more
abbrev pub IsSilent : {K : Type 0} → Ways K → Silence → Wanted → K → K → Type 0
IsSilent by Left w old new = Leaves by w old new
IsSilent by Ended w old new = EndsAll by w old new

-- a peer is asked for what is sought, up to where it is left; so many fills are done
pub record AsksPeer {K : Type 0} (by : Ways K) (goes_on : Bool) (sought left : List Missing) (old new : Peer K) (seat after : Seated)
    (count : ℕ) : Type 0 where
  pub site : new.site ≡ old.site
  pub asked : List Missing
  pub kept : List Missing
  pub rest : List Missing
  pub last : K
  pub split : sought ≡ asked ++ rest
  pub remain : left ≡ kept ++ rest
  pub all : AsksAll by old.site asked kept old.link last seat after count
  pub stops : StopsAt by goes_on old.site rest last new.link

-- peers are asked one after the other, each for what the ones before have not brought
unfoldable pub AsksPeers : {K : Type 0} → Ways K → List Missing → List Missing → List (Peer K) → List (Peer K) → Seated → Seated → ℕ
    → Type 0
AsksPeers by sought left [] [] seat after count = (left ≡ sought) × (after ≡ seat) × (count ≡ 0)
AsksPeers by sought left (old ∷ olds) (new ∷ news) seat after count =
    (between : List Missing) × (mid : Seated) × (first : ℕ) × (more : ℕ) × AsksPeer by true sought between old new seat mid first
    × AsksPeers by between left olds news mid after more × (count ≡ first + more)
AsksPeers by sought left olds news seat after count = ⊥

-- of the peers the first are asked, one is at which all ends, and the others stay
pub record EndsEarly {K : Type 0} (by : Ways K) (sought : List Missing) (olds news : List (Peer K)) (seat after : Seated) (count : ℕ)
    : Type 0 where
  pub before : List (Peer K)
  pub later : List (Peer K)
  pub asked : List (Peer K)
  pub old : Peer K
  pub new : Peer K
  pub between : List Missing
  pub left : List Missing
  pub mid : Seated
  pub first : ℕ
  pub more : ℕ
  pub split : olds ≡ before ++ old ∷ later
  pub result : news ≡ asked ++ new ∷ later
  pub all : AsksPeers by sought between before asked seat mid first
  pub last : AsksPeer by false between left old new mid after more
  pub counted : count ≡ first + more

-- each peer is asked for those of these that the ones before have not brought
abbrev pub AsksFor : {K : Type 0} → Ways K → List Missing → List (Peer K) → List (Peer K) → Seated → Seated → ℕ → Type 0
AsksFor by sought olds news seat after count =
    (left : List Missing) × (AsksPeers by sought left olds news seat after count ⊎ EndsEarly by sought olds news seat after count)

-- these are the least that a site lacks at a moment whose history leads to it, 64 at most; none where there was no memory to list them
pub record AreSought (now : ℕ) (sought : List Missing) : Type 0 where
  pub listed : Result (Vec Missing Global) AllocError
  pub lacking : LacksFirst now 64 listed
  pub these : IfOk listed (λ lacked. sought ≡ lacked.items)
  pub none : IfErr listed (λ refused. sought ≡ [])

-- at most 64 missing keys are sought, and each peer is asked for those that the ones before have not brought; or there was no memory
-- to seek any
pub record Fetches {K : Type 0} (by : Ways K) (now : ℕ) (olds news : List (Peer K)) (seat after : Seated) (count : ℕ) : Type 0 where
  pub sought : List Missing
  pub lacked : AreSought now sought
  pub few : length sought ≤ 64
  pub asks : ((news ≡ olds) × (after ≡ seat) × (count ≡ 0)) ⊎ AsksFor by sought olds news seat after count

-- Which lines can be carried out, and what each prints and leaves.
use Rattle.std.specs.Prelude.{◌≡◌, ◌≢◌, ℕ, ◌+◌, ◌-◌, ◌==◌, not, Bool, List, [], ◌∷◌, ◌++◌, length, slice_get, slice_set, Option, Some}
use Rattle.std.specs.List.{All}
use Rattle.std.specs.Map.{lookup}
use Rattle.geo_grammar.specs.Replies.{answer_bytes, fault_bytes}
use Rattle.geo_grammar.specs.declared.item.Item.{Item}
use Rattle.geo_grammar.specs.declared.item.Item.TheVariants.{Request, Fault}
use Rattle.geo_requests.specs.declared.request.Request as asked
use Rattle.geo_requests.specs.declared.reply.Reply.{Reply}
use Rattle.geo_requests.specs.declared.reply.Reply.TheVariants.{OutOfMemory}
use Rattle.geo_records.specs.Keys.{same_key}
use Rattle.geo_versions.specs.Maps.{Rising}
use Rattle.geo_records.specs.Operations.{Operation, floor_of, version_of}
use Rattle.geo_records.specs.declared.version.Version.{Version}
use Rattle.geo_world.specs.declared.event.Event.{Event}
use Rattle.geo_world.specs.declared.event.Event.TheVariants.{Command, Evict, Send, Take, Remove, Tick, Reap, Fill, Retire}
use Rattle.geo_world.specs.declared.event.Trace.{Trace}
use Rattle.geo_world.specs.declared.event.Trace.TheVariants.{Replied}
use Rattle.geo_site.specs.declared.setup.Setup.{Setup}
use Rattle.geo_world.specs.There.{is_site}
use Rattle.geo_cluster.specs.Sayings.{Said, SaysSites, SaysAt, SaysClient, SaysSend, SaysTake, SaysTick, SaysRemove, SaysReap, SaysEvict, SaysFill, SaysVersions, SaysRetire}
use Rattle.geo_cluster.specs.Prints.{client_text, versions_text, trace_text}
use Rattle.geo_cluster.specs.Connections.{IsNew, Brings}
use Rattle.geo_cluster.specs.Progress.{Progress, known_in, parcels_in, can_come, followed}
use Rattle.geo_cluster.specs.declared.script.connection.Connection.{Connection}

-- sites are set up once and before anything else, and a line names only sites and parcels that are there
abbrev pub can_carry : Progress → Said → Bool
can_carry p (SaysSites n pages most reap) = length p.setups == 0
can_carry p (SaysAt m) = not (length p.setups == 0)
can_carry p (SaysClient s bytes) = is_site (length p.setups) s
can_carry p (SaysSend s t) = can_come p (Send s t)
can_carry p (SaysTake s k) = can_come p (Take s k)
can_carry p (SaysTick s) = can_come p (Tick s p.moment)
can_carry p (SaysRemove s) = can_come p (Remove s)
can_carry p (SaysReap s key) = can_come p (Reap s p.moment key)
can_carry p (SaysEvict s key) = can_come p (Evict s key)
can_carry p (SaysFill s key bytes) = can_come p (Fill s key bytes)
can_carry p (SaysVersions s) = is_site (length p.setups) s
can_carry p (SaysRetire s t) = can_come p (Retire s t)

-- a site's number, of how many it is one, its pages for values, how many records it may keep, and for how many seconds behind their
-- end its own writes
pub record IsTold (number sites pages most reap : ℕ) (setup : Setup) : Type 0 where
  pub site : setup.site ≡ number
  pub sites_are : setup.sites ≡ sites
  pub pages_are : setup.pages ≡ pages
  pub most_is : setup.max_records ≡ most
  pub reap_is : setup.reap_after ≡ reap

-- from this number on
abbrev pub AreTold : ℕ → ℕ → ℕ → ℕ → ℕ → List Setup → Type 0
AreTold number sites pages most reap [] = Unit {0}
AreTold number sites pages most reap (setup ∷ setups) = IsTold number sites pages most reap setup
    × AreTold (number + 1) sites pages most reap setups

-- so many sites open, which know and hold nothing; nothing was sent, and no client has said anything
pub record SetsUp (old : Progress) (sites pages most reap : ℕ) (text : List ℕ) (new : Progress) : Type 0 where
  pub prints : text ≡ []
  pub many : length new.setups ≡ sites
  pub told : AreTold 1 sites pages most reap new.setups
  pub clients : length new.connections ≡ sites
  pub silent : All IsNew new.connections
  pub rest : new ≡ record { moment = old.moment; setups = new.setups; events = []; traces = []; connections = new.connections }

-- an event happens, and what came of it is printed
pub record Happens (old : Progress) (event : Event) (text : List ℕ) (new : Progress) : Type 0 where
  pub trace : Trace
  pub prints : trace_text (parcels_in old) trace ≡ Some text
  pub rest : new ≡ followed old event trace

-- a site answers an item of its client: a request is a command, and its reply is printed; a fault is no event
pub record Replies (old : Progress) (s : ℕ) (request : asked.Request) (text : List ℕ) (new : Progress) : Type 0 where
  pub reply : Reply
  pub victim : Option (List ℕ)
  pub got : reply ≢ OutOfMemory
  pub prints : text ≡ answer_bytes request reply
  pub rest : new ≡ followed old (Command s old.moment request) (Replied reply victim)

abbrev pub AnswersItem : Progress → ℕ → Item → List ℕ → Progress → Type 0
AnswersItem old s (Request request) text new = Replies old s request text new
AnswersItem old s (Fault fault) text new = (text ≡ fault_bytes fault) × (new ≡ old)

-- one after the other
abbrev pub AnswersItems : Progress → ℕ → List Item → List ℕ → Progress → Type 0
AnswersItems old s [] text new = (text ≡ []) × (new ≡ old)
AnswersItems old s (item ∷ items) text new = (mid : Progress) × (first : List ℕ) × (more : List ℕ) × AnswersItem old s item first mid
    × AnswersItems mid s items more new × (text ≡ first ++ more)

-- bytes come on the connection of a site's client, and the items that they bring are answered, on one line
abbrev pub connected : Progress → ℕ → Connection → Progress
connected p s c = record {
  moment = p.moment;
  setups = p.setups;
  events = p.events;
  traces = p.traces;
  connections = slice_set p.connections (s - 1) c;
}

pub record Feeds (old : Progress) (s : ℕ) (bytes text : List ℕ) (new : Progress) : Type 0 where
  pub was : Connection
  pub is : Connection
  pub items : List Item
  pub answer : List ℕ
  pub connection : slice_get old.connections (s - 1) ≡ Some was
  pub brings : Brings was bytes items is
  pub answers : AnswersItems (connected old s is) s items answer new
  pub prints : text ≡ client_text s answer

-- the floor and the versions that operations name are listed by rising key
pub record Lists (ops : List Operation) (text : List ℕ) : Type 0 where
  pub all : List (List ℕ × Version)
  pub rising : Rising all
  pub those : (key : List ℕ) → lookup (same_key key) all ≡ version_of ops key
  pub prints : text ≡ versions_text (floor_of ops) all

-- what a line that can be carried out prints, and what it leaves
abbrev pub SaidDoes : Progress → Said → List ℕ → Progress → Type 0
SaidDoes old (SaysSites n pages most reap) text new = SetsUp old n pages most reap text new
SaidDoes old (SaysAt m) text new =
    (text ≡ []) × (new ≡ record { moment = m; setups = old.setups; events = old.events; traces = old.traces; connections = old.connections })
SaidDoes old (SaysClient s bytes) text new = Feeds old s bytes text new
SaidDoes old (SaysSend s t) text new = Happens old (Send s t) text new
SaidDoes old (SaysTake s k) text new = Happens old (Take s k) text new
SaidDoes old (SaysTick s) text new = Happens old (Tick s old.moment) text new
SaidDoes old (SaysRemove s) text new = Happens old (Remove s) text new
SaidDoes old (SaysReap s key) text new = Happens old (Reap s old.moment key) text new
SaidDoes old (SaysEvict s key) text new = Happens old (Evict s key) text new
SaidDoes old (SaysFill s key bytes) text new = Happens old (Fill s key bytes) text new
SaidDoes old (SaysVersions s) text new = Lists ((known_in old).at s) text × (new ≡ old)
SaidDoes old (SaysRetire s t) text new = Happens old (Retire s t) text new

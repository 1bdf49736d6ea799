-- What a document says of the numbers, the link, the switches and the sites of a configuration.
use Rattle.std.specs.Prelude.{ℕ, ℤ, pos, ◌≡◌, Bool, true, false, Option, Some, None, option_and_then, option_map, List, [], ◌∷◌, map, IsPermutation, codes, string_bytes}
use Rattle.toml.specs.Data.{Data, array, table, Items, no_items, item, Members, as_bool, as_integer, as_str, get_member}
use Rattle.geo_config.specs.declared.settings.Config.{Config}
use Rattle.geo_config.specs.declared.settings.SiteConfig.{SiteConfig}
use Rattle.geo_config.specs.declared.settings.LinkKind.{LinkKind}
use Rattle.geo_config.specs.declared.settings.LinkKind.TheVariants as kind
use Rattle.geo_config.specs.declared.draft.Draft.{Draft}
use Rattle.geo_config.specs.declared.draft.SiteDraft.{SiteDraft}
use Rattle.geo_config.specs.declared.draft.WaitsDraft.{WaitsDraft}
use Rattle.geo_config.specs.Draft.{is_tcp}

-- what a value is as a number, and what stands for one that isn't there
abbrev pub number_or : Option ℤ → Option Data → Option ℤ
number_or default None = default
number_or default (Some value) = as_integer value

-- the number that a document says at a key
abbrev pub number_at : Members → List ℕ → Option ℤ → Option ℤ
number_at document key default = number_or default (get_member key document)

-- what a value is as a switch, and what stands for one that isn't there
abbrev pub switch_or : Bool → Option Data → Option Bool
switch_or default None = Some default
switch_or default (Some value) = as_bool value

-- whether a document says that something is on
abbrev pub switch_at : Members → List ℕ → Bool → Option Bool
switch_at document key default = switch_or default (get_member key document)

-- the text that a document says at a key
abbrev pub text_at : Members → List ℕ → Option (List ℕ)
text_at document key = option_and_then as_str (get_member key document)

-- how a link is written
abbrev pub link_text : LinkKind → List ℕ
link_text kind.Memory = codes "memory"
link_text kind.Tcp = codes "tcp"

-- a value names the link, and links are over memory where there is no value
abbrev pub LinkIs : Option Data → LinkKind → Type 0
LinkIs None link = link ≡ kind.Memory
LinkIs (Some value) link = as_str value ≡ Some (link_text link)

-- what one table of the sites says
pub record Row : Type 0 where
  pub number : ℤ
  pub client : List ℕ
  pub workers : ℤ
  pub peer : Option (List ℕ)

abbrev pub row_of : SiteConfig → Row
row_of s = record { number = pos s.number; client = string_bytes s.client; workers = pos s.workers; peer = option_map string_bytes s.peer }

abbrev pub row_of_draft : SiteDraft → Row
row_of_draft s = record { number = s.number; client = string_bytes s.client; workers = s.workers; peer = option_map string_bytes s.peer }

-- where sites connect to each other a row has an address for that, and else none is looked at
abbrev pub peer_at : Bool → Members → Option (List ℕ)
peer_at true row = text_at row (codes "peer")
peer_at false row = None

pub record Says (over_tcp : Bool) (row : Members) (r : Row) : Type 0 where
  pub number : number_at row (codes "number") None ≡ Some r.number
  pub client : text_at row (codes "client") ≡ Some r.client
  pub workers : number_at row (codes "workers") (Some (pos 4)) ≡ Some r.workers
  pub peer : peer_at over_tcp row ≡ r.peer

-- a value is a table that says this
abbrev pub IsRow : Bool → Data → Row → Type 0
IsRow over_tcp value r = (row : Members) × (value ≡ table row) × Says over_tcp row r

-- so many values say these, one after the other
abbrev pub AreRows : Bool → Items → List Row → Type 0
AreRows over_tcp no_items [] = Unit {0}
AreRows over_tcp no_items (r ∷ rows) = ⊥
AreRows over_tcp (item value values) [] = ⊥
AreRows over_tcp (item value values) (r ∷ rows) = IsRow over_tcp value r × AreRows over_tcp values rows

-- the array of the sites says these, and no more
pub record SitesSay (document : Members) (over_tcp : Bool) (rows : List Row) : Type 0 where
  pub values : Items
  pub stand : get_member (codes "site") document ≡ Some (array values)
  pub each : AreRows over_tcp values rows

-- the sites are those of the document's rows, in whichever order
pub record SitesAreOf (document : Members) (c : Config) : Type 0 where
  pub written : List SiteConfig
  pub say : SitesSay document (is_tcp c.link) (map row_of written)
  pub same : IsPermutation written c.sites.items

-- how many connections a document says, and nothing where it says nothing
abbrev pub SessionsAre : Option Data → Option ℕ → Type 0
SessionsAre None None = Unit {0}
SessionsAre None (Some n) = ⊥
SessionsAre (Some value) None = ⊥
SessionsAre (Some value) (Some n) = as_integer value ≡ Some (pos n)

-- the numbers, the link and the switches are those of the document, or their defaults, and this one for the connections
pub record IsOfBy (by_default : Option ℤ) (document : Members) (c : Config) : Type 0 where
  pub pages : number_at document (codes "pages") (Some (pos 64)) ≡ Some (pos c.pages)
  pub max_records : number_at document (codes "max_records") (Some (pos 100000)) ≡ Some (pos c.max_records)
  pub reap_after : number_at document (codes "reap_after") (Some (pos 60)) ≡ Some (pos c.reap_after)
  pub link : LinkIs (get_member (codes "link") document) c.link
  pub every : number_at document (codes "every") (Some (pos 100)) ≡ Some (pos c.every)
  pub era : number_at document (codes "era") (Some (pos 1000000)) ≡ Some (pos c.era)
  pub era_bytes : number_at document (codes "era_bytes") (Some (pos 268435456)) ≡ Some (pos c.era_bytes)
  pub sessions : number_at document (codes "sessions") by_default ≡ Some (pos c.sessions)
  pub fills : switch_at document (codes "fills") false ≡ Some c.fills
  pub audit : switch_at document (codes "audit") true ≡ Some c.audit
  pub patience : number_at document (codes "patience") (Some (pos 5000)) ≡ Some (pos c.patience)
  pub drain : number_at document (codes "drain") (Some (pos 5000)) ≡ Some (pos c.drain)

-- the same where the connections have no default
abbrev pub IsOf : Members → Config → Type 0
IsOf document c = IsOfBy None document c

-- how long is waited is what the document says, or the default
pub record WaitsAreOf (document : Members) (w : WaitsDraft) : Type 0 where
  pub patience : number_at document (codes "patience") (Some (pos 5000)) ≡ Some w.patience
  pub drain : number_at document (codes "drain") (Some (pos 5000)) ≡ Some w.drain

-- the same of a draft, whose link may be none
pub record DraftIsOf (by_default : Option ℤ) (document : Members) (d : Draft) : Type 0 where
  pub pages : number_at document (codes "pages") (Some (pos 64)) ≡ Some d.pages
  pub max_records : number_at document (codes "max_records") (Some (pos 100000)) ≡ Some d.max_records
  pub reap_after : number_at document (codes "reap_after") (Some (pos 60)) ≡ Some d.reap_after
  pub link : (link : LinkKind) → d.link ≡ Some link → LinkIs (get_member (codes "link") document) link
  pub every : number_at document (codes "every") (Some (pos 100)) ≡ Some d.every
  pub era : number_at document (codes "era") (Some (pos 1000000)) ≡ Some d.era
  pub era_bytes : number_at document (codes "era_bytes") (Some (pos 268435456)) ≡ Some d.era_bytes
  pub sessions : number_at document (codes "sessions") by_default ≡ Some d.sessions
  pub fills : switch_at document (codes "fills") false ≡ Some d.fills
  pub audit : switch_at document (codes "audit") true ≡ Some d.audit
  pub waits : WaitsAreOf document d.waits

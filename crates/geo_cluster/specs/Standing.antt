-- The code's sites, parcels and connections are what a script has come to, and what its calls do to that.
use Rattle.std.specs.Prelude.{◌≡◌, ℕ, ◌++◌, Bool, true, false, List, length, Option, MatchOption, Vec}
use Rattle.std.specs.declared.alloc.Global.{Global}
use Rattle.geo_grammar.specs.declared.item.Item.{Item}
use Rattle.geo_world.specs.Schedule.{Lawful}
use Rattle.geo_world.specs.declared.event.Event.{Event}
use Rattle.geo_world.specs.declared.event.Trace.{Trace}
use Rattle.geo_world.specs.Setups.{start}
use Rattle.geo_world.specs.There.{is_site}
use Rattle.geo_world.specs.Tables.{empty_tables}
use Rattle.geo_world.specs.Running.{HasAllRun}
use Rattle.geo_world.specs.Doing.{RunsAlone}
use Rattle.geo_cluster.specs.Sayings.{Said}
use Rattle.geo_cluster.specs.Progress.{Progress, known_in, can_come, followed}
use Rattle.geo_cluster.specs.Effects.{can_carry, SaidDoes, Happens, AnswersItems}
use Rattle.geo_cluster.specs.declared.script.cluster.Cluster.{Cluster}

-- its world has run the events, from the sites that the setups open
pub record Stands (p : Progress) (cluster : Cluster) : Type 0 where
  pub moment : cluster.moment ≡ p.moment
  pub connections : cluster.connections.items ≡ p.connections
  pub clients : length p.connections ≡ length p.setups
  pub sites : length cluster.world.sites.items ≡ length p.setups
  pub run : HasAllRun (start p.setups)
      (empty_tables (length p.setups)) cluster.world.sites.items cluster.world.parcels.items p.events p.traces
  pub alone : RunsAlone p.setups p.events p.traces cluster.world.sites.items

-- from whatever it stands at, one event happens with a trace that it can have, or it can't come
abbrev pub Steps : Cluster → Event → Option Trace → Cluster → Type 0
Steps old event outcome new = (p : Progress) → Stands p old
    → MatchOption outcome (can_come p event ≡ false) (λ trace. (can_come p event ≡ true) × Lawful (known_in p) event trace
    × Stands (followed p event trace) new)

-- what an event prints, if it can come
pub record PrintsEvent (p : Progress) (event : Event) (text : List ℕ) (new : Cluster) : Type 0 where
  pub progress : Progress
  pub comes : can_come p event ≡ true
  pub happens : Happens p event text progress
  pub stands : Stands progress new

abbrev pub EventDoes : Cluster → Event → Option (Vec ℕ Global) → Cluster → Type 0
EventDoes old event outcome new = (p : Progress) → Stands p old
    → MatchOption outcome (can_come p event ≡ false) (λ text. PrintsEvent p event text.items new)

-- items that are answered, behind what was answered before
pub record AnswersBehind (p : Progress) (s : ℕ) (items : List Item) (before after : List ℕ) (new : Cluster) : Type 0 where
  pub progress : Progress
  pub text : List ℕ
  pub answers : AnswersItems p s items text progress
  pub stands : Stands progress new
  pub printed : after ≡ before ++ text

-- they are, where there is a site of this number, which is told
abbrev pub AnswersFor : Cluster → ℕ → List Item → List ℕ → Bool → List ℕ → Cluster → Type 0
AnswersFor old s items before there after new = (p : Progress) → Stands p old → is_site (length p.setups) s ≡ true → (there ≡ true)
    × AnswersBehind p s items before after new

-- what comes of a line: it is carried out and prints a text, or it can't be
pub record CarriesOut (p : Progress) (line : Said) (text : List ℕ) (new : Cluster) : Type 0 where
  pub progress : Progress
  pub can : can_carry p line ≡ true
  pub carries : SaidDoes p line text progress
  pub stands : Stands progress new

abbrev pub LineDoes : Cluster → Said → Option (Vec ℕ Global) → Cluster → Type 0
LineDoes old line outcome new = (p : Progress) → Stands p old
    → MatchOption outcome (can_carry p line ≡ false) (λ text. CarriesOut p line text.items new)

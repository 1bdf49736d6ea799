-- The plain program's operations, as those of the definitions.
use Rattle.std.specs.Prelude.{◌≡◌, ℕ, ◌+◌, Bool, true, false, ◌&&◌, Result, Ok, Err, cond, List, [], ◌∷◌, Option, None, Some, map, slice_get}
use Rattle.std.specs.Borrow.{Bor}
use Rattle.geo_stamp.specs.Stamps.{Moment}
use Rattle.geo_records.specs.Keys.{same_key}
use Rattle.geo_site.specs.Entries.{Held, Visible, Counts, named_by, entry_in, lacks}
use Rattle.geo_world.specs.Schedule as spec_known
use Rattle.geo_world.specs.Schedule.{issues}
use Rattle.geo_plain.specs.declared.known.Known.{Known}
use Rattle.geo_plain.specs.declared.known.Sending.{Sending}
use Rattle.geo_plain.specs.declared.known.PlainError.{PlainError}
use Rattle.geo_plain.specs.declared.known.PlainError.TheVariants.{NotThere, ClockEnded, Memory}
use Rattle.geo_world.specs.declared.event.Event.{Event}
use Rattle.geo_world.specs.There.{is_there, is_in_time}
use Rattle.geo_records.specs.Operations as spec
use Rattle.geo_plain.specs.declared.operation.Act.{Act}
use Rattle.geo_plain.specs.declared.operation.Act.TheVariants.{Write, Delete, Touch, Flush}
use Rattle.geo_plain.specs.declared.operation.Operation.{Operation}
use Rattle.geo_plain.specs.declared.knowledge.Change.{Change}
use Rattle.geo_plain.specs.declared.knowledge.Change.TheVariants.{Wrote, Dropped, Settled}
use Rattle.geo_plain.specs.declared.knowledge.Knowledge.{Knowledge}

abbrev pub act_of : Act → spec.Act
act_of (Write w) = spec.Act.Write w.key w.bytes w.flags w.expiry
act_of (Delete key) = spec.Act.Delete key
act_of (Touch key expiry) = spec.Act.Touch key expiry
act_of Flush = spec.Act.Flush

-- an act is about its key
abbrev pub is_about : List ℕ → spec.Act → Bool
is_about key (spec.Act.Write k bytes flags expiry) = same_key k key
is_about key (spec.Act.Delete k) = same_key k key
is_about key (spec.Act.Touch k expiry) = same_key k key
is_about key spec.Act.Flush = false

abbrev pub acts_of : List Act → List spec.Act
acts_of = map act_of

abbrev pub operation_of : Operation → spec.Operation
operation_of op = record { stamp = op.stamp; act = act_of op.act }

abbrev pub operations_of : List Operation → List spec.Operation
operations_of = map operation_of

-- what a change does to what is held of a key
abbrev pub after : Change → List ℕ → Option (List ℕ) → Option (List ℕ)
after (Wrote own bytes) key held = cond (same_key key own) (Some bytes) held
after (Dropped own) key held = cond (same_key key own) None held
after (Settled ops) key held = named_by (spec.version_of (operations_of ops) key) held

-- the changes one after the other
abbrev pub held_after : List ℕ → Option (List ℕ) → List Change → Option (List ℕ)
held_after key held [] = held
held_after key held (change ∷ changes) = held_after key (after change key held) changes

-- a site's operations and changes are what it knows and holds
pub record Knows (site : Knowledge) (ops : List spec.Operation) (held : Held) : Type 0 where
  pub operations : operations_of site.ops.items ≡ ops
  pub holds : (key : List ℕ) → held_after key None site.changes.items ≡ held key

-- how many keys it found and did not find, and how many values it evicted
abbrev pub counts_of : Knowledge → Counts
counts_of site = record { hits = site.hits; misses = site.misses; evictions = site.evictions }

-- what is visible of a key at a moment, by what it knows and holds
abbrev pub shown : Knowledge → ℕ → Visible
shown site now key = entry_in now (spec.version_of (operations_of site.ops.items) key) (held_after key None site.changes.items)

-- nothing but its operations and what it holds changes
pub record KeepsCounts (old new : Knowledge) : Type 0 where
  pub counts : counts_of new ≡ counts_of old
  pub waiting : new.waiting ≡ old.waiting
  pub reap_after : new.reap_after ≡ old.reap_after
  pub retired : new.retired ≡ old.retired

-- an act with a stamp
abbrev pub stamped : Moment → spec.Act → spec.Operation
stamped stamp act = record { stamp = stamp; act = act }

-- the sites and what was sent are what is known
abbrev pub sent_of : Sending → spec_known.Sending
sent_of s = record { from = s.from; to = s.to; set = s.retired; ops = operations_of s.ops }

pub record Meets (sites : List Knowledge) (sent : List Sending) (w : spec_known.Known) : Type 0 where
  pub each : (k number : ℕ) (site : Knowledge) → number ≡ k + 1 → slice_get sites k ≡ Some site → Knows site (w.at number) (w.held number)
  pub counted : (k number : ℕ) (site : Knowledge) → number ≡ k + 1 → slice_get sites k ≡ Some site → counts_of site ≡ w.counts number
  pub waits : (k number : ℕ) (site : Knowledge) → number ≡ k + 1 → slice_get sites k ≡ Some site → site.waiting ≡ w.waiting number
  pub reaps : (k number : ℕ) (site : Knowledge) → number ≡ k + 1 → slice_get sites k ≡ Some site
      → site.reap_after ≡ (w.limits number).reap_after
  pub retires : (k number : ℕ) (site : Knowledge) → number ≡ k + 1 → slice_get sites k ≡ Some site → site.retired ≡ w.sets number
  pub sent_is : map sent_of sent ≡ w.sent

-- the bytes that are lent
abbrev pub lent : Option (Bor (List ℕ)) → Option (List ℕ)
lent None = None
lent (Some bytes) = Some bytes.now

-- what a change adds, by its result: the site issues these acts, or no stamp is left for them, or memory was wanted
abbrev pub ChangeAdds : Known → Known → ℕ → (spec_known.Known → List spec.Act) → Result (Unit {0}) PlainError → Type 0
ChangeAdds old new site acts (Ok done) = (w : spec_known.Known) → Meets old.sites.items old.sent.items w
    → Meets new.sites.items new.sent.items (issues w site (acts w))
ChangeAdds old new site acts (Err NotThere) = ⊥
ChangeAdds old new site acts (Err ClockEnded) = (w : spec_known.Known) → Meets old.sites.items old.sent.items w
    → lacks (spec.latest (w.at site)) (acts w) ≡ true
ChangeAdds old new site acts (Err Memory) = Unit {0}

-- an event that can be followed: it is there, and its moment is in range
abbrev pub can_follow : ℕ → ℕ → Event → Bool
can_follow sites parcels event = is_there sites parcels event && is_in_time event

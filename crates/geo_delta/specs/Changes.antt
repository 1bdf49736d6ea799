-- A ring of a site's newest changes, and how far back it tells all that was changed.
use Rattle.std.specs.Prelude.{◌≡◌, ℕ, zero, suc, ◌-◌, List, [], ◌∷◌, ◌++◌, length, Bool, true, false, not, ◌||◌, nat_le, Option, None, Some, refl}
use Rattle.std.specs.Coded.{Coded, code_by, coded×, coded_list, coded_ℕ}
use Rattle.std.specs.List.{list_any}
use Rattle.circular_buffer.specs.Buffer.{keep_last}
use Rattle.geo_stamp.specs.Stamps.{Moment}
use Rattle.geo_stamp.specs.Vectors.{zeros, entry_of}
use Rattle.geo_records.specs.Keys.{same_key}
use Rattle.geo_records.specs.Operations.{Record}
use Rattle.geo_versions.specs.Records.{is_unknown}

-- a vector knows both registers of a record
abbrev pub knows_record : List ℕ → Record → Bool
knows_record v r = not (is_unknown v r.0 || is_unknown v r.1)

-- and a floor
abbrev pub is_unknown_floor : List ℕ → Option Moment → Bool
is_unknown_floor v None = false
is_unknown_floor v (Some floor) = not (nat_le floor.time (entry_of v floor.site))

abbrev pub knows_floor : List ℕ → Option Moment → Bool
knows_floor v floor = not (is_unknown_floor v floor)

-- a key that was changed, and what its site knew after that
abbrev pub Noted : Type 0
Noted = List ℕ × List ℕ

-- a ring of changes, oldest first, and what was known after the newest change that is not in it
pub record Ring : Type 0 where
  pub changes : List Noted
  pub reach : List ℕ

abbrev pub ring_code : Coded Ring
ring_code = code_by (List Noted × List ℕ) (coded× (coded_list (coded× (coded_list coded_ℕ) (coded_list coded_ℕ))) (coded_list coded_ℕ))
    (λ r. (r.changes, r.reach)) (λ p. record { changes = p.0; reach = p.1 }) (λ _. refl)

-- how many changes a ring holds at most
abbrev pub most_changes : ℕ
most_changes = 4096

-- nothing was noted yet
abbrev pub first_ring : ℕ → Ring
first_ring sites = record { changes = []; reach = zeros sites }

-- what was known after so many of the changes, where the vector before the first is given
abbrev pub known_after : ℕ → List ℕ → List Noted → List ℕ
known_after zero reach changes = reach
known_after (suc n) reach [] = reach
known_after (suc n) reach (c ∷ changes) = known_after n c.1 changes

-- a key is changed, and a vector is known after that: the oldest change falls out where the ring is full, and its vector is
-- the new reach
abbrev pub noted : List ℕ → List ℕ → Ring → Ring
noted key after r =
    let changes = r.changes ++ (key, after) ∷ [] in
    record { changes = keep_last most_changes changes; reach = known_after (length changes - most_changes) r.reach changes }

-- nothing is kept
abbrev pub emptied : List ℕ → Ring
emptied after = record { changes = []; reach = after }

-- one of the changes is of the key
abbrev pub has_change : List Noted → List ℕ → Bool
has_change changes key = list_any (λ (c : Noted). same_key key c.0) changes

-- a vector knows the record of each key, but for those
abbrev pub KnowsBut : (List ℕ → Bool) → List ℕ → (List ℕ → Record) → Type 0
KnowsBut but v map = (key : List ℕ) → but key ≡ false → knows_record v (map key) ≡ true

-- what was known before each change knows the record of every key that has no later change and is not still to be noted
abbrev pub TracedFrom : (List ℕ → Bool) → (List ℕ → Record) → List ℕ → List Noted → Type 0
TracedFrom pending map reach [] = KnowsBut pending reach map
TracedFrom pending map reach (c ∷ changes) = KnowsBut (λ key. pending key || has_change (c ∷ changes) key) reach map
    × TracedFrom pending map c.1 changes

abbrev pub Traced : (List ℕ → Bool) → (List ℕ → Record) → Ring → Type 0
Traced pending map ring = TracedFrom pending map ring.reach ring.changes

-- no key is still to be noted
abbrev pub nothing_pending : List ℕ → Bool
nothing_pending key = false

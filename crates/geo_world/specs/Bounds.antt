-- What vectors promise along a schedule: whoever has an entry of a clock knows all that was issued up to it, and nobody is taken to
-- know more than it does. (The condition under which a delta may leave out what its base knows: Almeida et al. 2018.)
use Rattle.std.specs.Prelude.{◌≡◌, ℕ, zero, suc, ◌≤◌, Bool, List, [], ◌∷◌, Some, slice_get, slice_index_or}
use Rattle.geo_stamp.specs.Acks.{row_of, told_of}
use Rattle.geo_stamp.specs.Retired.{no_sites}
use Rattle.geo_stamp.specs.Vectors.{entry_of, vector_joined, Knows}
use Rattle.geo_records.specs.Operations.{Operation, Among, latest}
use Rattle.geo_delta.specs.declared.parcel.Parcel.{Parcel}
use Rattle.geo_site.specs.declared.site.Site.{Site}
use Rattle.geo_world.specs.Schedule.{Sending, never_sent}
use Rattle.geo_site.specs.Sites.{heard_in, retired_in}
use Rattle.geo_world.specs.Reports.{Views}

-- what the site with a number has, or this where there is none
abbrev pub at_number : {A : Type 0} → (Site → A) → A → List Site → ℕ → A
at_number f none sites zero = none
at_number f none [] (suc k) = none
at_number f none (site ∷ sites) (suc zero) = f site
at_number f none (site ∷ sites) (suc (suc k)) = at_number f none sites (suc k)

abbrev pub vectors : List Site → ℕ → List ℕ
vectors sites number = at_number (λ site. site.vector) [] sites number

-- whom a site holds for retired
abbrev pub sets : List Site → ℕ → List Bool
sets sites number = at_number retired_in no_sites sites number

-- what a site last heard of another, and whom that one told that it holds for retired
abbrev pub rows : List Site → ℕ → ℕ → List ℕ
rows sites number other = row_of (at_number (λ site. (heard_in site).rows) [] sites number) other

abbrev pub tolds : List Site → ℕ → ℕ → List Bool
tolds sites number other = told_of (at_number (λ site. (heard_in site).told) [] sites number) other

-- the greatest horizon that a site kept
abbrev pub reached : List Site → ℕ → ℕ
reached sites number = at_number (λ site. (heard_in site).reached) 0 sites number

abbrev pub views : List Site → Views
views sites = record { vector = vectors sites; set = sets sites; row = rows sites; told = tolds sites }

-- one vector knows all that the other knows
abbrev pub IsAbove : List ℕ → List ℕ → Type 0
IsAbove v u = vector_joined v u ≡ v

-- what was known when a parcel was sent
abbrev pub told_in : List Sending → ℕ → List Operation
told_in sent p = (slice_index_or sent p never_sent).ops

-- so many sites have these vectors, heard this of one another, and know these operations
pub record Bounded (sites : ℕ) (vector : ℕ → List ℕ) (heard : ℕ → ℕ → List ℕ) (parcels : List Parcel) (at : ℕ
    → List Operation) (sent : List Sending) : Type 0 where
  -- each operation is of one of the sites, and is known where it was issued
  pub first : (t : ℕ) (op : Operation) → Among (at t) op → 1 ≤ op.stamp.site
  pub last : (t : ℕ) (op : Operation) → Among (at t) op → op.stamp.site ≤ sites
  pub home : (t : ℕ) (op : Operation) → Among (at t) op → Among (at op.stamp.site) op
  -- a site knows all that was issued up to its entries, and has no entry past a clock
  pub complete : (r t : ℕ) (op : Operation) → Among (at t) op → Knows (vector r) op.stamp → Among (at r) op
  pub past : (r s : ℕ) → entry_of (vector r) s ≤ latest (at s)
  -- what was heard of a site it knows
  pub heard_known : (r s : ℕ) → 1 ≤ s → s ≤ sites → IsAbove (vector s) (heard r s)
  -- a parcel tells what its sender knows, all up to its entries, and its addressee knows the base
  pub sent_told : (p : ℕ) (parcel : Parcel) (op : Operation) → slice_get parcels p ≡ Some parcel → Among (told_in sent p) op
      → Among (at parcel.from) op
  pub sent_complete : (p t : ℕ) (parcel : Parcel) (op : Operation) → slice_get parcels p ≡ Some parcel → Among (at t) op
      → Knows parcel.upto op.stamp → Among (told_in sent p) op
  pub sent_upto : (p : ℕ) (parcel : Parcel) → slice_get parcels p ≡ Some parcel → IsAbove (vector parcel.from) parcel.upto
  pub sent_base : (p : ℕ) (parcel : Parcel) → slice_get parcels p ≡ Some parcel → IsAbove (vector parcel.to) parcel.base

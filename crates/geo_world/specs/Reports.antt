-- What sites tell one another of their vectors and of the sites that they hold for retired, and what that promises along a schedule.
-- (Acknowledgements: Almeida et al. 2018.)
use Rattle.std.specs.Prelude.{◌≡◌, ◌≢◌, ◌⊎◌, ℕ, ◌≤◌, Bool, true, false, List, Some, slice_get}
use Rattle.geo_stamp.specs.Retired.{is_in}
use Rattle.geo_stamp.specs.Vectors.{entry_of}
use Rattle.geo_delta.specs.declared.parcel.Parcel.{Parcel}

-- the vector and the set of each site, and what it heard of each other one's
pub record Views : Type 0 where
  pub vector : ℕ → List ℕ
  pub set : ℕ → List Bool
  pub row : ℕ → ℕ → List ℕ
  pub told : ℕ → ℕ → List Bool

-- the number of one of so many sites
abbrev pub OneOf : ℕ → ℕ → Type 0
OneOf sites j = (1 ≤ j) × (j ≤ sites)

-- of so many sites those in a set are in another one; none are
abbrev pub Within : ℕ → List Bool → List Bool → Type 0
Within sites a b = (j : ℕ) → OneOf sites j → is_in a j ≡ true → is_in b j ≡ true

abbrev pub HasNone : ℕ → List Bool → Type 0
HasNone sites set = (j : ℕ) → OneOf sites j → is_in set j ≡ false

-- no entry for one of so many sites is above that of another vector
abbrev pub Below : ℕ → List ℕ → List ℕ → Type 0
Below sites v u = (j : ℕ) → OneOf sites j → entry_of v j ≤ entry_of u j

abbrev pub WasSent : List Parcel → Parcel → Type 0
WasSent parcels parcel = (p : ℕ) × (slice_get parcels p ≡ Some parcel)

-- a site told this set with this row: one parcel that it sent has no less of the set, and no more of the row
pub record Tells (sites : ℕ) (parcels : List Parcel) (site : ℕ) (heard : List ℕ) (told : List Bool) : Type 0 where
  pub parcel : Parcel
  pub sent : WasSent parcels parcel
  pub from : parcel.from ≡ site
  pub set : Within sites told parcel.retired
  pub row : Below sites parcel.upto heard

-- a site told once that it holds these for retired, when it knew a retired one up to this time at most
pub record ToldBy (sites : ℕ) (parcels : List Parcel) (those : List Bool) (retired time site : ℕ) : Type 0 where
  pub parcel : Parcel
  pub sent : WasSent parcels parcel
  pub from : parcel.from ≡ site
  pub set : Within sites those parcel.retired
  pub entry : entry_of parcel.upto retired ≤ time

-- one parcel tells nothing that another does not
pub record Precedes (sites : ℕ) (one other : Parcel) : Type 0 where
  pub set : Within sites one.retired other.retired
  pub upto : Below sites one.upto other.upto

-- what is told of sets holds of the sites that tell it
pub record Reported (sites : ℕ) (x : Views) (parcels : List Parcel) : Type 0 where
  -- a site holds for retired whom it told that it does
  pub told : (s t : ℕ) → OneOf sites s → OneOf sites t → t ≢ s → Within sites (x.told s t) (x.set t)
  pub sent_set : (parcel : Parcel) → WasSent parcels parcel → Within sites parcel.retired (x.set parcel.from)
  -- row and set that a site heard of another are of one parcel, if that set has anyone
  pub report : (s t : ℕ) → OneOf sites s → OneOf sites t → t ≢ s
      → HasNone sites (x.told s t) ⊎ Tells sites parcels t (x.row s t) (x.told s t)
  -- the parcels of one sender follow one another
  pub chain : (one other : Parcel) → WasSent parcels one → WasSent parcels other → one.from ≡ other.from
      → Precedes sites one other ⊎ Precedes sites other one
  -- where each site outside of a set knows a site in it up to a time at most, or told once that it holds all of the set for retired when
  -- it did, none of them knows more of it now
  pub pinned : (set : List Bool) (retired time : ℕ) → OneOf sites retired → is_in set retired ≡ true
      → ((t : ℕ) → OneOf sites t → is_in set t ≡ false
      → (entry_of (x.vector t) retired ≤ time) ⊎ ToldBy sites parcels set retired time t)
      → (t : ℕ) → OneOf sites t → is_in set t ≡ false → entry_of (x.vector t) retired ≤ time

-- the sites outside of a set hold all of it for retired, and know equally much of those in it
pub record Closed (sites : ℕ) (x : Views) (set : List Bool) : Type 0 where
  pub told : (s : ℕ) → OneOf sites s → is_in set s ≡ false → Within sites set (x.set s)
  pub same : (s t r : ℕ) → OneOf sites s → is_in set s ≡ false → OneOf sites t → is_in set t ≡ false → OneOf sites r → is_in set r ≡ true
      → entry_of (x.vector s) r ≡ entry_of (x.vector t) r

-- the sites outside of a set know one another up to a time, and those in it too, unless it is closed
pub record Passed (sites : ℕ) (x : Views) (set : List Bool) (time : ℕ) : Type 0 where
  pub front : (s j : ℕ) → OneOf sites s → is_in set s ≡ false → OneOf sites j → is_in set j ≡ false → time ≤ entry_of (x.vector s) j
  pub rest : ((s j : ℕ) → OneOf sites s → is_in set s ≡ false → OneOf sites j → time ≤ entry_of (x.vector s) j) ⊎ Closed sites x set

-- a time that a site kept was passed by some set within its own that it is not in
pub record HasPassed (sites : ℕ) (x : Views) (site time : ℕ) : Type 0 where
  pub set : List Bool
  pub out : is_in set site ≡ false
  pub within : Within sites set (x.set site)
  pub passed : Passed sites x set time

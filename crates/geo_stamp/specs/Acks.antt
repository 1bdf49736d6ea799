-- What was heard of each site, its vector and the sites that it holds for retired; which sites a site holds for retired itself; and the
-- greatest horizon that it kept. What was heard of site j stands at index j - 1. (Acknowledgements: Almeida et al. 2018.)
use Rattle.std.specs.Prelude.{◌≡◌, ◌≤◌, ℕ, zero, suc, min, max, Bool, true, not, ◌&&◌, ◌||◌, ◌==◌, if◌then◌else◌, List, [], length, slice_index_or, slice_set, replicate}
use Rattle.geo_stamp.specs.Stamps.{last_time}
use Rattle.geo_stamp.specs.Vectors.{zeros, entry_of, vector_joined}
use Rattle.geo_stamp.specs.Retired.{no_sites, is_in, with_site, set_joined}

pub record Heard : Type 0 where
  pub rows : List (List ℕ)
  pub told : List (List Bool)
  pub set : List Bool
  pub reached : ℕ

-- the row of a site, or one without entries where there is none
abbrev pub row_of : List (List ℕ) → ℕ → List ℕ
row_of rows zero = []
row_of rows (suc j) = slice_index_or rows j []

-- the set that a site told
abbrev pub told_of : List (List Bool) → ℕ → List Bool
told_of told zero = no_sites
told_of told (suc j) = slice_index_or told j no_sites

-- nothing was heard, where there are so many sites
abbrev pub none_heard : ℕ → Heard
none_heard sites = record { rows = replicate 16 (zeros sites); told = replicate 16 no_sites; set = no_sites; reached = 0 }

-- a vector is joined into the row of its site
abbrev pub row_joined : List (List ℕ) → ℕ → List ℕ → List (List ℕ)
row_joined rows zero v = rows
row_joined rows (suc j) v = slice_set rows j (vector_joined (slice_index_or rows j []) v)

-- a set is joined into the one that its site told
abbrev pub told_joined : List (List Bool) → ℕ → List Bool → List (List Bool)
told_joined told zero set = told
told_joined told (suc j) set = slice_set told j (set_joined (slice_index_or told j no_sites) set)

-- a site tells its vector and its set, whose sites are held for retired then
abbrev pub heard : Heard → ℕ → List ℕ → List Bool → Heard
heard h site v set = record {
  rows = row_joined h.rows site v;
  told = told_joined h.told site set;
  set = set_joined h.set set;
  reached = h.reached;
}

-- a site is held for retired
abbrev pub retires : Heard → ℕ → Heard
retires h site = record { rows = h.rows; told = h.told; set = with_site h.set site; reached = h.reached }

-- what a site knows stands in the row of its own
abbrev pub with_own : List (List ℕ) → ℕ → List ℕ → List (List ℕ)
with_own rows zero v = rows
with_own rows (suc j) v = slice_set rows j v

-- it is so of each of the sites 1 to n
abbrev pub each_site : ℕ → (ℕ → Bool) → Bool
each_site zero f = true
each_site (suc n) f = f (suc n) && each_site n f

-- the least number of those of the sites 1 to n that are kept
abbrev pub least_of_sites : ℕ → (ℕ → Bool) → (ℕ → ℕ) → ℕ
least_of_sites zero keep f = last_time
least_of_sites (suc n) keep f = if keep (suc n) then min (f (suc n)) (least_of_sites n keep f) else least_of_sites n keep f

-- of a site, where it is in the set, a site told that, with the entry for it that this vector has
abbrev pub tells_of : Heard → ℕ → List ℕ → ℕ → Bool
tells_of h t v r = not (is_in h.set r) || (is_in (told_of h.told t) r && entry_of (row_of h.rows t) r == entry_of v r)

-- a site told all of the set
abbrev pub tells : Heard → ℕ → List ℕ → Bool
tells h t v = each_site (length v) (tells_of h t v)

-- it did so, where it is outside of the set and is another
abbrev pub agrees_with : Heard → ℕ → List ℕ → ℕ → Bool
agrees_with h own v t = t == own || is_in h.set t || tells h t v

-- each other site outside of a site's set told all of it, with the entry for each in it that the site has itself
abbrev pub agrees : Heard → ℕ → List ℕ → Bool
agrees h own v = each_site (length v) (agrees_with h own v)

-- the least entry in the row of a site, its own among them, with or without the entries for the sites in the set. There are as many sites
-- as its vector has entries
abbrev pub least_of_row : Bool → Heard → ℕ → List ℕ → ℕ → ℕ
least_of_row leave h own v t = least_of_sites (length v) (λ j. not (leave && is_in h.set j)) (entry_of (row_of (with_own h.rows own v) t))

-- and in the rows of all sites outside of the set
abbrev pub horizon_by : Bool → Heard → ℕ → List ℕ → ℕ
horizon_by leave h own v = least_of_sites (length v) (λ t. not (is_in h.set t)) (least_of_row leave h own v)

-- the horizon of a site that knows so much: the greatest that it kept, or what its rows give now, where that is greater. A site in its
-- own set answers the one that it kept
abbrev pub horizon_of : Heard → ℕ → List ℕ → ℕ
horizon_of h own v = if is_in h.set own then h.reached else max h.reached (horizon_by (agrees h own v) h own v)

-- the horizon is kept
abbrev pub looked : Heard → ℕ → List ℕ → Heard
looked h own v = record { rows = h.rows; told = h.told; set = h.set; reached = horizon_of h own v }

-- as many rows and sets as there can be sites, and no horizon above the last time
pub record AreKept (rows : List (List ℕ)) (told : List (List Bool)) (reached : ℕ) : Type 0 where
  pub rows_many : length rows ≡ 16
  pub told_many : length told ≡ 16
  pub range : reached ≤ last_time

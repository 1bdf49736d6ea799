-- Histories that begin with the start of their site.
use Rattle.std.specs.Prelude.{◌≡◌, ◌≤◌, ◌<◌, ℕ, true, List, [], None, Some, slice_get}
use Rattle.std.specs.List.{All}
use Rattle.geo_stamp.specs.Acks.{Heard, row_of, told_of}
use Rattle.geo_stamp.specs.Retired.{set_fits}
use Rattle.geo_stamp.specs.Vectors.{zeros}
use Rattle.geo_site.specs.declared.state.SiteState.{SiteState}
use Rattle.geo_history.specs.declared.history.History.{History}

-- no site told that it holds one for retired
abbrev pub IsUntold : Heard → Type 0
IsUntold h = (s : ℕ) → 1 ≤ s → s ≤ 16 → set_fits 0 (told_of h.told s) ≡ true

-- a site that knows, holds and counts nothing, where there are so many sites
pub record IsEmpty (sites : ℕ) (state : SiteState) : Type 0 where
  pub floor : state.floor ≡ None
  pub records : state.records ≡ []
  pub held : state.held ≡ []
  pub waiting : state.waiting ≡ None
  pub hits : state.hits ≡ 0
  pub misses : state.misses ≡ 0
  pub evictions : state.evictions ≡ 0
  pub vector : state.vector ≡ zeros sites
  pub rows : (s : ℕ) → 1 ≤ s → s ≤ 16 → row_of state.rows.rows s ≡ zeros sites
  pub told : IsUntold state.rows
  pub retired : set_fits 0 state.rows.set ≡ true
  pub reached : state.rows.reached ≡ 0

-- the first era, in which nothing was known and no seat had made a step
pub record OpensEmpty (history : History) : Type 0 where
  pub era : history.opening.era ≡ 0
  pub state : IsEmpty history.setup.sites history.opening.state
  pub counts : All (λ n. n ≡ 0) history.opening.counts.items

-- the first history that doesn't begin so is that of this site
pub record IsFirstLater (histories : List History) (site : ℕ) : Type 0 where
  pub place : ℕ
  pub history : History
  pub there : slice_get histories place ≡ Some history
  pub number : site ≡ history.setup.site
  pub later : OpensEmpty history → ⊥
  pub first : (k : ℕ) (h : History) → k < place → slice_get histories k ≡ Some h → OpensEmpty h

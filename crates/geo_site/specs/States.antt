-- Plain data that says what a site is.
use Rattle.std.specs.Prelude.{◌≡◌, ℕ, List, option_map}
use Rattle.geo_values.specs.Held.{digest_of, by_key, digest_at}
use Rattle.geo_versions.specs.Maps.{listed_at, Rising}
use Rattle.geo_site.specs.declared.site.Site.{Site}
use Rattle.geo_site.specs.declared.state.SiteState.{SiteState}
use Rattle.geo_site.specs.Sites.{state_in, heard_in, waiting_in, counts_in}

-- all that it knows and counts, and of the bytes that it holds their SHA-256 and length
pub record IsStateOf (site : Site) (state : SiteState) : Type 0 where
  pub vector : state.vector ≡ (state_in site).vector
  pub rows : state.rows ≡ heard_in site
  pub floor : state.floor ≡ (state_in site).floor
  pub map : (key : List ℕ) → listed_at state.records key ≡ (state_in site).map key
  pub held : (key : List ℕ) → digest_at state.held key ≡ option_map digest_of ((state_in site).stock.held key)
  pub waiting : state.waiting ≡ waiting_in site
  pub counts : record { hits = state.hits; misses = state.misses; evictions = state.evictions } ≡ counts_in site
  -- each key once, by rising key
  pub records_rise : Rising state.records
  pub held_rises : Rising (by_key state.held)

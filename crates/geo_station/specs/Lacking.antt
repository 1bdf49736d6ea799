-- What a site asks others for.
use Rattle.std.specs.Prelude.{◌≡◌, ℕ, Some, option_map, length, List}
use Rattle.geo_records.specs.Operations.{version_in}
use Rattle.geo_site.specs.Machine.{SiteState}
use Rattle.geo_station.specs.declared.missing.Missing.{Missing}

-- it is asked for by the site with a number, of as many sites as it knows, as its version names the bytes
pub record IsLackedBy (st : SiteState) (number : ℕ) (m : Missing) : Type 0 where
  pub from : m.from ≡ number
  pub sites : m.sites ≡ length st.vector
  pub named : option_map (λ v. v.digest) (version_in (st.map m.key)) ≡ Some m.digest

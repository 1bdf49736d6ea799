-- Which configurations the program may be given.
use Rattle.std.specs.Prelude.{ℕ, ◌≡◌, ◌+◌, ◌<◌, ◌≤◌, ◌↔◌, List, length, All, IsPermutation, IsSome, slice_index_or}
use Rattle.geo_config.specs.declared.settings.Config.{Config}
use Rattle.geo_config.specs.declared.settings.SiteConfig.{SiteConfig}
use Rattle.geo_config.specs.declared.settings.LinkKind.{LinkKind}
use Rattle.geo_config.specs.declared.settings.LinkKind.TheVariants as kind

-- one site is within its ranges, and has an address for other sites exactly if they connect to it
pub record SiteIsInRange (link : LinkKind) (s : SiteConfig) : Type 0 where
  pub number : (1 ≤ s.number) × (s.number ≤ 16)
  pub workers : (1 ≤ s.workers) × (s.workers ≤ 128)
  pub peer : IsSome s.peer ↔ (link ≡ kind.Tcp)

-- each number is within its range, whichever numbers the sites have
pub record IsInRange (c : Config) : Type 0 where
  pub pages : (15 ≤ c.pages) × (c.pages ≤ 65536)
  pub max_records : (1 ≤ c.max_records) × (c.max_records ≤ 1000000)
  pub reap_after : c.reap_after ≤ 2147483647
  pub every : (1 ≤ c.every) × (c.every ≤ 60000)
  pub era : (1000 ≤ c.era) × (c.era ≤ 1000000000)
  pub era_bytes : (1048576 ≤ c.era_bytes) × (c.era_bytes ≤ 1099511627776)
  pub sessions : (1 ≤ c.sessions) × (c.sessions ≤ 1048576)
  pub patience : (100 ≤ c.patience) × (c.patience ≤ 600000)
  pub drain : c.drain ≤ 600000
  pub count : (1 ≤ length c.sites.items) × (length c.sites.items ≤ 16)
  pub sites : All (SiteIsInRange c.link) c.sites.items

-- site k stands at index k - 1: so each number from 1 to their number stands exactly once
abbrev pub AreNumbered : List SiteConfig → Type 0
AreNumbered sites = (k : ℕ) (d : SiteConfig) → k < length sites → (slice_index_or sites k d).number ≡ k + 1

-- in some order they are so
abbrev pub CanBeNumbered : List SiteConfig → Type 0
CanBeNumbered sites = (ordered : List SiteConfig) × IsPermutation sites ordered × AreNumbered ordered

-- what the program may be given
pub record IsLawful (c : Config) : Type 0 where
  pub in_range : IsInRange c
  pub numbered : AreNumbered c.sites.items

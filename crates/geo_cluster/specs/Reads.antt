-- The Rust type of a line as what it stands for, without where it lies in memory.
use Rattle.std.specs.Prelude.{◌≢◌, ◌≤◌, ◌^◌}
use Rattle.geo_cluster.specs.Sayings.{Said, SaysSites, SaysAt, SaysClient, SaysSend, SaysTake, SaysTick, SaysRemove, SaysReap, SaysEvict, SaysFill, SaysVersions, SaysRetire}
use Rattle.geo_slabs.specs.Storage.{class_count, most_pages}
use Rattle.geo_cluster.specs.declared.script.line.ScriptLine.{ScriptLine}
use Rattle.geo_cluster.specs.declared.script.line.ScriptLine.TheVariants.{Sites, At, Client, Send, Take, Tick, Remove, Reap, Evict, Fill, Versions, Retire}

-- what a line says
abbrev pub said_by : ScriptLine → Said
said_by (Sites count pages max reap) = SaysSites count pages max reap
said_by (At moment) = SaysAt moment
said_by (Client site text) = SaysClient site text.items
said_by (Send from to) = SaysSend from to
said_by (Take site parcel) = SaysTake site parcel
said_by (Tick site) = SaysTick site
said_by (Remove site) = SaysRemove site
said_by (Reap site key) = SaysReap site key
said_by (Evict site key) = SaysEvict site key
said_by (Fill site key text) = SaysFill site key text.items
said_by (Versions site) = SaysVersions site
said_by (Retire site other) = SaysRetire site other

-- the numbers of sites are 1 to 16, pages 15 to 65,536, records at most 1 to 1,000,000, seconds of keeping at most 2^31 - 1, and
-- moments 1 to 2^40
abbrev pub IsInRange : ScriptLine → Type 0
IsInRange (Sites count pages max reap) = (1 ≤ count) × (count ≤ 16) × (class_count ≤ pages) × (pages ≤ most_pages) × (1 ≤ max) × (max ≤ 1000000)
    × (reap ≤ 2147483647)
IsInRange (At moment) = (1 ≤ moment) × (moment ≤ 2 ^ 40)
IsInRange (Client site text) = (1 ≤ site) × (site ≤ 16)
IsInRange (Send from to) = (1 ≤ from) × (from ≤ 16) × (1 ≤ to) × (to ≤ 16) × (from ≢ to)
IsInRange (Take site parcel) = (1 ≤ site) × (site ≤ 16)
IsInRange (Tick site) = (1 ≤ site) × (site ≤ 16)
IsInRange (Remove site) = (1 ≤ site) × (site ≤ 16)
IsInRange (Reap site key) = (1 ≤ site) × (site ≤ 16)
IsInRange (Evict site key) = (1 ≤ site) × (site ≤ 16)
IsInRange (Fill site key text) = (1 ≤ site) × (site ≤ 16)
IsInRange (Versions site) = (1 ≤ site) × (site ≤ 16)
IsInRange (Retire site other) = (1 ≤ site) × (site ≤ 16) × (1 ≤ other) × (other ≤ 16) × (site ≢ other)

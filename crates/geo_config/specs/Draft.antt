-- A document that was read: its sites have an address for other sites exactly if they connect to it.
use Rattle.std.specs.Prelude.{◌≡◌, Bool, true, false, Option, Some, None, is_some, All}
use Rattle.geo_config.specs.declared.draft.Draft.{Draft}
use Rattle.geo_config.specs.declared.draft.SiteDraft.{SiteDraft}
use Rattle.geo_config.specs.declared.settings.LinkKind.{LinkKind}
use Rattle.geo_config.specs.declared.settings.LinkKind.TheVariants as kind

abbrev pub is_tcp : LinkKind → Bool
is_tcp kind.Tcp = true
is_tcp kind.Memory = false

abbrev pub asks_for_tcp : Option LinkKind → Bool
asks_for_tcp (Some link) = is_tcp link
asks_for_tcp None = false

abbrev pub SiteDraftIsTied : Bool → SiteDraft → Type 0
SiteDraftIsTied over_tcp s = is_some s.peer ≡ over_tcp

abbrev pub DraftIsTied : Draft → Type 0
DraftIsTied d = All (SiteDraftIsTied (asks_for_tcp d.link)) d.sites.items

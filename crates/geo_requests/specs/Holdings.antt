-- The bytes of a value that a reply shows.
use Rattle.std.specs.Prelude.{ℕ, List}
use Rattle.geo_requests.specs.declared.holding.Holding.{Holding}
use Rattle.geo_requests.specs.declared.holding.Holding.TheVariants.{Lone, Joint}

abbrev pub held : Holding → List ℕ
held (Lone bytes) = bytes.items
held (Joint bytes) = bytes

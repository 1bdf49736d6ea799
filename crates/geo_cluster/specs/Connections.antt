-- The connection of a site's one client, and the items on it that are acted on.
use Rattle.std.specs.Prelude.{◌≡◌, ℕ, ◌||◌, false, if◌then◌else◌, List, [], ◌++◌}
use Rattle.geo_grammar.specs.Faults.{has_long_line}
use Rattle.geo_grammar.specs.Quitting.{has_quit, until_quit}
use Rattle.geo_grammar.specs.Protocol.{items_of}
use Rattle.geo_grammar.specs.declared.item.Item.{Item}
use Rattle.geo_cluster.specs.declared.script.connection.Connection.{Connection}

-- nothing came yet
abbrev pub IsNew : Connection → Type 0
IsNew c = (c.reader ≡ []) × (c.ended ≡ false)

-- what came on the connection that a client's next bytes go on with: where the last one has ended they open a new one
abbrev pub text_in : Connection → List ℕ
text_in c = if c.ended then [] else c.reader

-- the items that a client's bytes bring behind what came, up to a quit; a quit, or a line that is too long, ends the connection
pub record Brings (old : Connection) (bytes : List ℕ) (acted : List Item) (new : Connection) : Type 0 where
  pub brought : List Item
  pub brings : items_of (text_in old ++ bytes) ≡ items_of (text_in old) ++ brought
  pub acted_on : acted ≡ until_quit brought
  pub reader : new.reader ≡ text_in old ++ bytes
  pub ended : new.ended ≡ (has_quit brought || has_long_line (items_of (text_in old ++ bytes)))

-- Which items of a connection are acted on (memcached's protocol.txt, "quit").
use Rattle.std.specs.Prelude.{Bool, true, false, List, [], ◌∷◌, if◌then◌else◌}
use Rattle.std.specs.List.{list_any}
use Rattle.geo_grammar.specs.declared.item.Item.{Item}
use Rattle.geo_grammar.specs.declared.item.Item.TheVariants as item
use Rattle.geo_requests.specs.declared.request.Request.{Request}
use Rattle.geo_requests.specs.declared.request.Request.TheVariants as request

-- the client asks for the end of its connection
abbrev pub asks_to_quit : Request → Bool
asks_to_quit (request.Store verb key flags exptime unique bytes noreply) = false
asks_to_quit (request.Fetch keys numbers) = false
asks_to_quit (request.FetchTouch exptime keys numbers) = false
asks_to_quit (request.Delete key noreply) = false
asks_to_quit (request.Touch key exptime noreply) = false
asks_to_quit (request.Arith up key by noreply) = false
asks_to_quit (request.FlushAll delay noreply) = false
asks_to_quit request.ShowVersion = false
asks_to_quit (request.Verbosity noreply) = false
asks_to_quit request.Stats = false
asks_to_quit request.Quit = true

abbrev pub is_quit : Item → Bool
is_quit (item.Request request) = asks_to_quit request
is_quit (item.Fault fault) = false

abbrev pub has_quit : List Item → Bool
has_quit items = list_any is_quit items

-- the items that are acted on: those up to the first quit, and none behind it
abbrev pub until_quit : List Item → List Item
until_quit [] = []
until_quit (item ∷ items) = item ∷ (if is_quit item then [] else until_quit items)

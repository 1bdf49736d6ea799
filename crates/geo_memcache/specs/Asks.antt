-- A request about one key: the key, and what is asked of it.
use Rattle.std.specs.Prelude.{ℕ, Bool, List, [], ◌∷◌}
use Rattle.geo_requests.specs.declared.request.Request.{Request}
use Rattle.geo_requests.specs.declared.request.Request.TheVariants as request
use Rattle.geo_memcache.specs.declared.ask.Ask.{Ask}
use Rattle.geo_memcache.specs.declared.ask.Ask.TheVariants.{Store, Fetch, FetchTouch, Delete, Touch, Arith}

-- the request that asks this of a key alone; a fetch is always answered
abbrev pub request_of : List ℕ → Ask → Bool → Request
request_of key (Store verb flags exptime unique bytes) noreply = request.Store verb key flags exptime unique bytes.now noreply
request_of key (Fetch numbers) noreply = request.Fetch (key ∷ []) numbers
request_of key (FetchTouch exptime numbers) noreply = request.FetchTouch exptime (key ∷ []) numbers
request_of key Delete noreply = request.Delete key noreply
request_of key (Touch exptime) noreply = request.Touch key exptime noreply
request_of key (Arith up by) noreply = request.Arith up key by noreply

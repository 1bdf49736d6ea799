-- Kinds of requests.
use Rattle.std.specs.Prelude.{Bool, true, false}
use Rattle.geo_requests.specs.declared.request.Request.{Request}
use Rattle.geo_requests.specs.declared.request.Request.TheVariants.{Store, Fetch, FetchTouch, Delete, Touch, Arith, FlushAll, ShowVersion, Verbosity, Stats, Quit}

-- the request is about one key
abbrev pub is_of_one_key : Request → Bool
is_of_one_key (Store verb key flags exptime unique bytes noreply) = true
is_of_one_key (Fetch keys numbers) = false
is_of_one_key (FetchTouch exptime keys numbers) = false
is_of_one_key (Delete key noreply) = true
is_of_one_key (Touch key exptime noreply) = true
is_of_one_key (Arith up key by noreply) = true
is_of_one_key (FlushAll delay noreply) = false
is_of_one_key ShowVersion = false
is_of_one_key (Verbosity noreply) = false
is_of_one_key Stats = false
is_of_one_key Quit = false

-- the client wants no answer
abbrev pub is_noreply : Request → Bool
is_noreply (Store verb key flags exptime unique bytes noreply) = noreply
is_noreply (Fetch keys numbers) = false
is_noreply (FetchTouch exptime keys numbers) = false
is_noreply (Delete key noreply) = noreply
is_noreply (Touch key exptime noreply) = noreply
is_noreply (Arith up key by noreply) = noreply
is_noreply (FlushAll delay noreply) = noreply
is_noreply ShowVersion = false
is_noreply (Verbosity noreply) = noreply
is_noreply Stats = false
is_noreply Quit = false

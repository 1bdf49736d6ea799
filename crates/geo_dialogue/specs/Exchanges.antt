-- What a session says to its client, item by item.
use Rattle.std.specs.Prelude.{◌≡◌, ℕ, ◌+◌, min, List, [], ◌∷◌, map}
use Rattle.std.specs.List.{flat_map}
use Rattle.geo_requests.specs.Limits.{most_number}
use Rattle.geo_grammar.specs.Replies.{answer_bytes, fault_bytes}
use Rattle.geo_grammar.specs.declared.fault.Fault.{Fault}
use Rattle.geo_grammar.specs.declared.item.Item.{Item}
use Rattle.geo_grammar.specs.declared.item.Item.TheVariants as item
use Rattle.geo_requests.specs.declared.reply.Reply.{Reply}
use Rattle.geo_requests.specs.declared.request.Request.{Request}

-- an item, and what answers it: a request is put to the backend and gets its reply, a fault is told
pub data Exchange : Type 0 where
  Asked : (request : Request) (reply : Reply) → Exchange
  Told : (fault : Fault) → Exchange

abbrev pub item_in : Exchange → Item
item_in (Asked request reply) = item.Request request
item_in (Told fault) = item.Fault fault

abbrev pub items_in : List Exchange → List Item
items_in exchanges = map item_in exchanges

-- what the client gets
abbrev pub bytes_in : Exchange → List ℕ
bytes_in (Asked request reply) = answer_bytes request reply
bytes_in (Told fault) = fault_bytes fault

abbrev pub text_of : List Exchange → List ℕ
text_of exchanges = flat_map bytes_in exchanges

-- how often the backend has answered, in 64 bits, behind these too
abbrev pub count_after : ℕ → List Exchange → ℕ
count_after count [] = count
count_after count (Asked request reply ∷ exchanges) = count_after (min (count + 1) most_number) exchanges
count_after count (Told fault ∷ exchanges) = count_after count exchanges

-- the replies are those of one run of the backend: each request finds the state that the one before it left. A fault reaches no
-- backend
abbrev pub Runs : {S : Type 0} → (S → Request → Reply → S → Type 0) → S → List Exchange → S → Type 0
Runs answers old [] new = new ≡ old
Runs {S} answers old (Asked request reply ∷ exchanges) new = (mid : S) × answers old request reply mid × Runs answers mid exchanges new
Runs answers old (Told fault ∷ exchanges) new = Runs answers old exchanges new

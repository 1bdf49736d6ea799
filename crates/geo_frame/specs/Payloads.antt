-- What one site sends another, and which of it has a frame. (Sites: geo_delta. Keys and values: memcached's protocol.txt.)
use Rattle.std.specs.Prelude.{◌≡◌, ◌≤◌, ℕ, true, List, length, Option, option_map}
use Rattle.std.specs.Option.{IfSome}
use Rattle.geo_delta.specs.Ranges.{InRange, sites_fit}
use Rattle.geo_delta.specs.declared.parcel.Parcel.{Parcel}
use Rattle.geo_records.specs.Keys.{is_key}
use Rattle.geo_records.specs.Lengths.{longest_value}
use Rattle.geo_frame.specs.declared.message.Message.{Message}
use Rattle.geo_frame.specs.declared.message.Message.TheVariants as message
use Rattle.geo_frame.specs.declared.route.Route.{Route}

-- between which sites, of which key, and the digest that the bytes are to have
pub record Wanted : Type 0 where
  pub route : Route
  pub key : List ℕ
  pub digest : List ℕ

-- a message, but for the room that its bytes have: a parcel is told, bytes are asked for, or these or none are offered
pub data Payload : Type 0 where
  Tells : (parcel : Parcel) → Payload
  Asks : (wanted : Wanted) → Payload
  Offers : (wanted : Wanted) (bytes : Option (List ℕ)) → Payload

abbrev pub wanted : ℕ → ℕ → ℕ → List ℕ → List ℕ → Wanted
wanted from to sites key digest = record { route = record { from = from; to = to; sites = sites }; key = key; digest = digest }

abbrev pub payload_of : Message → Payload
payload_of (message.Parcel p) = Tells p
payload_of (message.Ask from to sites key digest) = Asks (wanted from to sites key digest)
payload_of (message.Offer from to sites key digest bytes) = Offers (wanted from to sites key digest) (option_map (λ v. v.items) bytes)

-- from one of 2 to 16 sites to another; a digest has 32 bytes
pub record WantedInRange (w : Wanted) : Type 0 where
  pub sites : sites_fit w.route.from w.route.to w.route.sites ≡ true
  pub key : is_key w.key ≡ true
  pub digest : length w.digest ≡ 32

abbrev pub PayloadInRange : Payload → Type 0
PayloadInRange (Tells p) = InRange p
PayloadInRange (Asks w) = WantedInRange w
PayloadInRange (Offers w bytes) = WantedInRange w × IfSome bytes (λ b. length b ≤ longest_value)

abbrev pub sender_of : Payload → ℕ
sender_of (Tells p) = p.from
sender_of (Asks w) = w.route.from
sender_of (Offers w bytes) = w.route.from

-- How many bytes steps keep: the lengths of what they own, and a fixed size for each step and for each thing that it lists.
use Rattle.std.specs.Prelude.{ℕ, ◌+◌, ◌-◌, ◌^◌, min, nat_le, Bool, false, List, length, sum_by, Option, None, Some}
use Rattle.geo_delta.specs.declared.parcel.Parcel.{Parcel}
use Rattle.geo_requests.specs.declared.reply.Found.{Found}
use Rattle.geo_requests.specs.declared.reply.Reply.{Reply}
use Rattle.geo_requests.specs.declared.reply.Reply.TheVariants.{Values}
use Rattle.geo_requests.specs.declared.request.Request.{Request}
use Rattle.geo_requests.specs.declared.request.Request.TheVariants.{Store, Fetch, FetchTouch, Delete, Touch, Arith}
use Rattle.geo_site.specs.declared.event.Event.{Event}
use Rattle.geo_site.specs.declared.event.Event.TheVariants.{Command, Evict, Send, Take, Remove, Tick, Reap, Fill, Retire}
use Rattle.geo_site.specs.declared.event.Answer.{Answer}
use Rattle.geo_site.specs.declared.event.Answer.TheVariants.{Replied, Sent}
use Rattle.geo_history.specs.declared.step.Step.{Step}

-- what stands for a step, for a list of keys and a key in it, for a value that is shown, and for a parcel and a record in it
abbrev pub step_size : ℕ
step_size = 320

abbrev pub list_size : ℕ
list_size = 160

abbrev pub key_size : ℕ
key_size = 48

abbrev pub found_size : ℕ
found_size = 256

abbrev pub parcel_size : ℕ
parcel_size = 512

abbrev pub record_size : ℕ
record_size = 160

abbrev pub key_bytes : List ℕ → ℕ
key_bytes key = key_size + length key

abbrev pub keys_bytes : List (List ℕ) → ℕ
keys_bytes keys = list_size + sum_by key_bytes keys

abbrev pub found_bytes : Found → ℕ
found_bytes found = found_size + (length found.key + length found.bytes)

abbrev pub record_bytes : {R : Type 0} → List ℕ × R → ℕ
record_bytes entry = record_size + length entry.0

abbrev pub parcel_bytes : Parcel → ℕ
parcel_bytes parcel = parcel_size + sum_by record_bytes parcel.records

abbrev pub request_bytes : Request → ℕ
request_bytes (Store verb key flags exptime unique bytes noreply) = length key + length bytes
request_bytes (Fetch keys numbers) = keys_bytes keys
request_bytes (FetchTouch exptime keys numbers) = keys_bytes keys
request_bytes (Delete key noreply) = length key
request_bytes (Touch key exptime noreply) = length key
request_bytes (Arith up key by noreply) = length key
request_bytes _ = 0

abbrev pub reply_bytes : Reply → ℕ
reply_bytes (Values found) = sum_by found_bytes found
reply_bytes _ = 0

abbrev pub event_bytes : Event → ℕ
event_bytes (Command now request) = request_bytes request
event_bytes (Evict key) = length key
event_bytes (Send to) = 0
event_bytes (Take parcel) = parcel_bytes parcel
event_bytes Remove = 0
event_bytes (Tick now) = 0
event_bytes (Reap now key) = length key
event_bytes (Fill key bytes) = length key + length bytes
event_bytes (Retire other) = 0

abbrev pub answer_bytes : Answer → ℕ
answer_bytes (Replied reply) = reply_bytes reply
answer_bytes (Sent parcel) = parcel_bytes parcel
answer_bytes _ = 0

abbrev pub victim_bytes : Option (List ℕ) → ℕ
victim_bytes None = 0
victim_bytes (Some key) = length key

abbrev pub step_bytes : Step → ℕ
step_bytes s = step_size + (event_bytes s.event + (answer_bytes s.answer + victim_bytes s.victim))

-- a number of bytes as far as it is counted
abbrev pub capped : ℕ → ℕ
capped bytes = min bytes (2 ^ 64 - 1)

abbrev pub kept_bytes : List Step → ℕ
kept_bytes steps = capped (sum_by step_bytes steps)

-- steps keep as many bytes as they may, or more; where nothing is said of that they never do
abbrev pub fills : Option ℕ → List Step → Bool
fills None steps = false
fills (Some most) steps = nat_le most (kept_bytes steps)

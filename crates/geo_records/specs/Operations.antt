-- Operations, and what a set of them means: the floor, and of each key the winner and the latest expiry. A set is a list of
-- which order and repetition do not matter. (Last writer wins by stamps: Lamport 1978; states that join: Almeida et al. 2018.)
use Rattle.std.specs.Prelude.{◌≡◌, ℕ, ◌⊎◌, max, length, Bool, true, cond, List, [], ◌∷◌, Option, None, Some}
use Rattle.std.specs.declared.cmp.Ordering.{Ordering}
use Rattle.std.specs.Ordering.{is_lt, nat_cmp}
use Rattle.sha2.specs.Sha256.{sha256}
use Rattle.geo_laws.specs.Registers.{newer, by_both}
use Rattle.geo_stamp.specs.Stamps.{Moment, stamp_cmp}
use Rattle.geo_records.specs.Keys.{same_key}
use Rattle.geo_records.specs.Bodies.{body_cmp}
use Rattle.geo_records.specs.declared.body.Body.{Body}
use Rattle.geo_records.specs.declared.body.Body.TheVariants.{Gone, Value}
use Rattle.geo_records.specs.declared.version.Version.{Version}

-- what an operation does; the bytes themselves belong to the write
pub data Act : Type 0 where
  Write : (key : List ℕ) (bytes : List ℕ) (flags : ℕ) (expiry : ℕ) → Act
  Delete : (key : List ℕ) → Act
  Touch : (key : List ℕ) (expiry : ℕ) → Act
  Flush : Act

-- an operation, with when and where it was issued
pub record Operation : Type 0 where
  pub stamp : Moment
  pub act : Act

-- a register: empty, or a content with its stamp
abbrev pub Register : Type 0 → Type 0
Register A = Option (Moment × A)

-- what is kept of a key: a body and an expiry
abbrev pub Record : Type 0
Record = Register Body × Register ℕ

-- the greater register, by stamp and then by content
abbrev pub body_joined : Register Body → Register Body → Register Body
body_joined = newer (by_both stamp_cmp body_cmp)

abbrev pub expiry_joined : Register ℕ → Register ℕ → Register ℕ
expiry_joined = newer (by_both stamp_cmp nat_cmp)

abbrev pub record_joined : Record → Record → Record
record_joined a b = (body_joined a.0 b.0, expiry_joined a.1 b.1)

-- the greater floor
abbrev pub floor_joined : Option Moment → Option Moment → Option Moment
floor_joined = newer stamp_cmp

-- what an operation leaves in the body register of a key
abbrev pub body_of : List ℕ → Operation → Register Body
body_of key op = elim op.act [
  | Write k bytes flags expiry ↦ cond (same_key key k) (Some (op.stamp, Value (sha256 bytes) flags (length bytes))) None
  | Delete k ↦ cond (same_key key k) (Some (op.stamp, Gone)) None
  | Touch k expiry ↦ None
  | Flush ↦ None
]

-- and in its expiry register: a delete's expiry is 0
abbrev pub expiry_of : List ℕ → Operation → Register ℕ
expiry_of key op = elim op.act [
  | Write k bytes flags expiry ↦ cond (same_key key k) (Some (op.stamp, expiry)) None
  | Delete k ↦ cond (same_key key k) (Some (op.stamp, 0)) None
  | Touch k expiry ↦ cond (same_key key k) (Some (op.stamp, expiry)) None
  | Flush ↦ None
]

-- the stamp of a flush
abbrev pub flush_of : Operation → Option Moment
flush_of op = elim op.act [ Write k bytes flags expiry ↦ None | Delete k ↦ None | Touch k expiry ↦ None | Flush ↦ Some op.stamp ]

-- the greatest of what the operations leave
abbrev pub newest : {A : Type 0} → (A → A → Ordering) → (Operation → Option A) → List Operation → Option A
newest cmp f [] = None
newest cmp f (op ∷ ops) = newer cmp (f op) (newest cmp f ops)

-- the floor: the greatest stamp of a flush, or none
abbrev pub floor_of : List Operation → Option Moment
floor_of = newest stamp_cmp flush_of

-- whether a stamp is above the floor
abbrev pub is_above : Option Moment → Moment → Bool
is_above None stamp = true
is_above (Some floor) stamp = is_lt (stamp_cmp floor stamp)

-- a register that is not above the floor counts for nothing
abbrev pub above : {A : Type 0} → Option Moment → Register A → Register A
above floor None = None
above floor (Some r) = cond (is_above floor r.0) (Some r) None

abbrev pub above_both : Option Moment → Record → Record
above_both floor r = (above floor r.0, above floor r.1)

-- the winner: the greatest write or delete of the key, if above the floor
abbrev pub winner : List Operation → List ℕ → Register Body
winner ops key = above (floor_of ops) (newest (by_both stamp_cmp body_cmp) (body_of key) ops)

-- the greatest write, delete or touch of the key, if above the floor: its stamp and expiry
abbrev pub latest_expiry : List Operation → List ℕ → Register ℕ
latest_expiry ops key = above (floor_of ops) (newest (by_both stamp_cmp nat_cmp) (expiry_of key) ops)

-- all that is kept of a key
abbrev pub record_of : List Operation → List ℕ → Record
record_of ops key = (winner ops key, latest_expiry ops key)

-- the greatest time of an operation, 0 where there is none; a new operation's time is one more (Lamport 1978)
abbrev pub latest : List Operation → ℕ
latest [] = 0
latest (op ∷ ops) = max op.stamp.time (latest ops)

-- whether the operation is among them
abbrev pub Among : List Operation → Operation → Type 0
Among [] op = ⊥
Among (o ∷ ops) op = (o ≡ op) ⊎ Among ops op

-- the same operations, in whatever order and however often
abbrev pub SameOperations : List Operation → List Operation → Type 0
SameOperations ks ls = (op : Operation) → (Among ks op → Among ls op) × (Among ls op → Among ks op)

-- a state: a floor, and what is kept of each key
abbrev pub State : Type 0
State = Option Moment × (List ℕ → Record)

abbrev pub state_of : List Operation → State
state_of ops = (floor_of ops, record_of ops)

-- the join of two states: the greater floor, per key the greater registers, and what is not above that floor dropped
abbrev pub state_joined : State → State → State
state_joined a b =
    let floor = floor_joined a.0 b.0 in
    (floor, λ key. above_both floor (record_joined (a.1 key) (b.1 key)))

-- the version that a record shows: where it has a value. With no expiry register it shows the expiry 0 with the value's stamp
abbrev pub version_in : Record → Option Version
version_in (None, e) = None
version_in (Some (s, Gone), e) = None
version_in (Some (s, Value d f l), None) = Some (record { stamp = s; digest = d; flags = f; length = l; expiry_stamp = s; expiry = 0 })
version_in (Some (s, Value d f l), Some (t, e)) =
    Some (record { stamp = s; digest = d; flags = f; length = l; expiry_stamp = t; expiry = e })

-- the version of a key that the operations name: it exists where the winner is a write
abbrev pub version_of : List Operation → List ℕ → Option Version
version_of ops key = version_in (record_of ops key)

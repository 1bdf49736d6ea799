-- A channel of messages: what was put is what was got, and then what waits.
use Rattle.std.specs.Prelude.{◌≡◌, ℕ, Bool, true, List, [], ◌∷◌, ◌++◌}
use mathlib.Core.Option.{some}
use lib.ListN.{get_elem?}
use Rattle.geo_frame.specs.Payloads.{PayloadInRange, payload_of}
use Rattle.geo_frame.specs.declared.message.Message.{Message}
use Rattle.geo_link.specs.declared.rule.Log.{Log}

abbrev pub log : Bool → Bool → List Message → List Message → Log
log puts gets put got = record { puts = puts; gets = gets; put = put; got = got }

-- a message is put behind those before
abbrev pub Puts : Log → Message → Log → Type 0
Puts old m new = new ≡ log old.puts old.gets (old.put ++ m ∷ []) old.got

-- a message is got behind those before
abbrev pub Gets : Log → Message → Log → Type 0
Gets old m new = (new ≡ log old.puts old.gets old.put (old.got ++ m ∷ [])) × PayloadInRange (payload_of m)

-- each is within the ranges
abbrev pub EachInRange : List Message → Type 0
EachInRange [] = Unit {0}
EachInRange (m ∷ ms) = PayloadInRange (payload_of m) × EachInRange ms

-- one pass at most may put, and one may get; they have the lists
abbrev pub HasRole : ℕ → ℕ → List Message → List Message → ℕ → Log → Type 0
HasRole putter getter put got pass v = (v.puts ≡ true → (pass ≡ putter) × (v.put ≡ put)) × (v.gets ≡ true → (pass ≡ getter) × (v.got ≡ got))

-- what waits, by what each pass knows
pub record KeepsOrder (waits : List Message) (views : List Log) : Type 0 where
  pub putter : ℕ
  pub getter : ℕ
  pub put : List Message
  pub got : List Message
  pub order : put ≡ got ++ waits
  pub ranges : EachInRange waits
  pub roles : (pass : ℕ) (v : Log) → get_elem? views pass ≡ some v → HasRole putter getter put got pass v

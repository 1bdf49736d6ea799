-- A reply of values that is told piece by piece.
use Rattle.std.specs.Prelude.{◌≤◌, ℕ, List, [], ◌∷◌, ◌++◌, length, drop, codes, Option, None, Some}
use Rattle.geo_grammar.specs.Replies.{found_bytes, reply_bytes}
use Rattle.geo_requests.specs.declared.reply.Found.{Found}
use Rattle.geo_requests.specs.declared.reply.Reply.TheVariants.{Values}

-- the text that is left of a value's bytes, of which so many are told
abbrev pub bytes_left : List ℕ → ℕ → List ℕ
bytes_left bytes told = drop told bytes ++ codes "\r\n"

-- the text that is left of a value: all of it where its line isn't told
abbrev pub value_left : Found → Option ℕ → List ℕ
value_left found None = found_bytes found
value_left found (Some told) = bytes_left found.bytes told

-- the text that is left of a reply with these values, of the first of which so much is told
abbrev pub text_left : List Found → Option ℕ → List ℕ
text_left found None = reply_bytes (Values found)
text_left [] (Some told) = []
text_left (first ∷ more) (Some told) = bytes_left first.bytes told ++ reply_bytes (Values more)

-- a value is begun only where there is one, and no more of it is told than it has
abbrev pub IsBegun : List Found → Option ℕ → Type 0
IsBegun found None = Unit {0}
IsBegun [] (Some told) = ⊥
IsBegun (first ∷ more) (Some told) = told ≤ length first.bytes

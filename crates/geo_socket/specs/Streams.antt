-- What a connection that never waits gives and takes.
use Rattle.std.specs.Prelude.{◌≡◌, ℕ, ◌<◌, ◌≤◌, List, [], length, take, Option, IfSome}
use Rattle.std.specs.Io.KnownBytes.{Appends, Consumes, IsAtEnd}
use Rattle.geo_socket.specs.declared.stream.Given.{Given}
use Rattle.geo_socket.specs.declared.stream.Given.TheVariants as given
use Rattle.geo_socket.specs.declared.stream.Accepted.{Accepted}
use Rattle.geo_socket.specs.declared.stream.Accepted.TheVariants as accepted

-- so many bytes of a list, and at least one
pub record IsCount (count : ℕ) (bytes : List ℕ) : Type 0 where
  pub some : 0 < count
  pub within : count ≤ length bytes

-- what was left before a read, what is left after it, and the buffer that it filled
abbrev pub Gives : Option (List ℕ) → Option (List ℕ) → List ℕ → Given → Type 0
Gives before after buffer (given.Bytes count) = IsCount count buffer × Consumes before after (take count buffer)
Gives before after buffer given.Later = Consumes before after []
Gives before after buffer given.End = Consumes before after [] × IsAtEnd after
Gives before after buffer given.Failed = Consumes before after []

-- what was written before a write, what after it, and the bytes that were offered
abbrev pub Accepts : Option (List ℕ) → Option (List ℕ) → List ℕ → Accepted → Type 0
Accepts before after bytes (accepted.Bytes count) = IsCount count bytes × Appends before after (take count bytes)
Accepts before after bytes accepted.Later = Appends before after []
Accepts before after bytes accepted.Failed = Appends before after []

-- what is known of the last one, if anything is, is that it was this
abbrev pub Was : {A : Type 0} → Option A → A → Type 0
Was known told = IfSome known (λ last. last ≡ told)

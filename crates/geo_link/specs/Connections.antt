-- A link whose connections come and go.
use Rattle.std.specs.Prelude.{◌≡◌, ◌⊎◌, Option, Some, None}
use Rattle.geo_link.specs.declared.fault.LinkError.{LinkError}
use Rattle.geo_link.specs.declared.fault.LinkError.TheVariants.{Closed, Frame, Io, Memory, TooLong}

-- the connection stays as it is, is let go, or is made anew
abbrev pub ComesOrGoes : {L : Type 0} → (L → Type 0) → Option L → Option L → Type 0
ComesOrGoes fresh old new = (new ≡ old) ⊎ ((new ≡ None) ⊎ ((connection : _) × fresh connection × (new ≡ Some connection)))

-- a call did this to the connection that stands, and leaves it standing
abbrev pub OnOne : {L : Type 0} → (L → L → Type 0) → Option L → Option L → Type 0
OnOne does old new = (before : _) × (after : _) × (old ≡ Some before) × does before after × (new ≡ Some after)

-- a put failed: a connection that has ended by it is never put on again, any other stands as the call left it
abbrev pub PutFailsOn : {L : Type 0} → (L → L → Type 0) → LinkError → Option L → Option L → Type 0
PutFailsOn fails Closed old new = (new ≡ old) ⊎ (new ≡ None)
PutFailsOn fails (Frame fault) old new = new ≡ None
PutFailsOn fails Io old new = new ≡ None
PutFailsOn fails Memory old new = OnOne fails old new
PutFailsOn fails TooLong old new = OnOne fails old new

-- The moments that a system's clock shows, in seconds.
use Rattle.std.specs.Prelude.{ℕ, ◌≤◌, ◌^◌}

abbrev pub IsMoment : ℕ → Type 0
IsMoment moment = (1 ≤ moment) × (moment ≤ 2 ^ 40)

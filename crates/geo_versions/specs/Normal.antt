-- Normal states are joined, floor by floor and key by key.
use Rattle.std.specs.Prelude.{None, refl}
use Rattle.geo_records.specs.Normal.{Normal}
use Rattle.geo_records.specs.Operations.{state_joined}
use Rattle.geo_records.proofs.Normal.{joined_normal}

abbrev pub normal_joined : Normal → Normal → Normal
normal_joined a b = (state_joined a.0 b.0, joined_normal a.0 b.0)

-- nothing known
abbrev pub nothing_known : Normal
nothing_known = ((None, λ _. (None, None)), λ _. refl)

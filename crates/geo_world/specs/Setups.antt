-- Setups of a cluster: those of sites 1 to n in order, each of which a site can be made of.
use Rattle.std.specs.Prelude.{ℕ, zero, suc, ◌+◌, ◌-◌, Bool, true, ◌==◌, ◌&&◌, nat_le, List, [], ◌∷◌, length}
use Rattle.geo_world.specs.Schedule.{Known, nothing_known}
use Rattle.geo_site.specs.declared.setup.Setup.{Setup}
use Rattle.geo_site.specs.declared.setup.Limits.{Limits}

abbrev pub is_setup : ℕ → ℕ → Setup → Bool
is_setup sites number setup =
    (setup.site == number) &&
    (setup.sites == sites) && nat_le 15 setup.pages && nat_le setup.pages 65536 && nat_le 1 setup.max_records && nat_le setup.max_records 1000000

abbrev pub are_numbered : ℕ → ℕ → List Setup → Bool
are_numbered sites number [] = true
are_numbered sites number (setup ∷ setups) = is_setup sites number setup && are_numbered sites (number + 1) setups

abbrev pub are_setups : List Setup → Bool
are_setups setups = nat_le 1 (length setups) && nat_le (length setups) 16 && are_numbered (length setups) 1 setups

-- what the site with this number is told at its start
abbrev pub limits_at : List Setup → ℕ → Limits
limits_at [] k = record { max_records = 0; reap_after = 0 }
limits_at (setup ∷ setups) zero = record { max_records = setup.max_records; reap_after = setup.reap_after }
limits_at (setup ∷ setups) (suc k) = limits_at setups k

abbrev pub limits_of : List Setup → ℕ → Limits
limits_of setups number = limits_at setups (number - 1)

-- at the start nothing is known
abbrev pub start : List Setup → Known
start setups = nothing_known (length setups) (limits_of setups)

use Rattle.geo_versions.proofs.Meaning.{state_normal}
use Rattle.geo_versions.proofs.laws.meaning_is_above_its_floor.Goals as goal

pub returns : goal.returns
returns c = state_normal

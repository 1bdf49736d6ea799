use Rattle.geo_versions.proofs.Meaning.{state_append, latest_append}
use Rattle.geo_versions.proofs.laws.union_is_join.Goals as goal

pub returns-clause-state : goal.returns-clause-state
returns-clause-state c = state_append

pub returns-clause-latest : goal.returns-clause-latest
returns-clause-latest c = latest_append

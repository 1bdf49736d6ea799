use Rattle.geo_versions.proofs.Meaning.{state_same, latest_same}
use Rattle.geo_versions.proofs.laws.equal_sets_mean_the_same.Goals as goal

pub returns-clause-state : goal.returns-clause-state
returns-clause-state c = state_same

pub returns-clause-latest : goal.returns-clause-latest
returns-clause-latest c = latest_same

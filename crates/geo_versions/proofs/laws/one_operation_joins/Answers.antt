use Rattle.geo_versions.proofs.Meaning.{floor_one, record_one}
use Rattle.geo_versions.proofs.laws.one_operation_joins.Goals as goal

pub returns-clause-floor : goal.returns-clause-floor
returns-clause-floor c = floor_one

pub returns-clause-records : goal.returns-clause-records
returns-clause-records c = record_one

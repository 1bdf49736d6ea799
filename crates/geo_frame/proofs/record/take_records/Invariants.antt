use Rattle.std.proofs.Common.{[]}
use Rattle.geo_frame.specs.Reading.{records_at}
use Rattle.geo_frame.proofs.Loops.{RecordsSoFar}
use Rattle.geo_frame.proofs.Memory.{FirstRead}
use Rattle.geo_frame.proofs.record.take_records.Given as goal

abbrev pub invariant-loop : goal.invariant-loop
invariant-loop l = record {
  reads : RecordsSoFar l.sites l.count l.counter l.records.items l.bytes.left.now (records_at l.sites l.count [] l.fn.bytes.left.now);
  first : FirstRead l.counter l.records.items l.bytes.left.now l.fn.bytes.left.now;
}

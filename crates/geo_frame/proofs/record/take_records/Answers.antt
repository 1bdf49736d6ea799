use Rattle.std.proofs.Common.{◌≡◌, ◌∙◌, [], ap, refl, arith}
use Rattle.std.proofs.lemmas.Result.{err_from_is_err_and}
use Rattle.geo_frame.specs.Reading.{records_at, last_key}
use Rattle.geo_frame.proofs.Loops.{records_start, records_go_on, records_end, records_done}
use Rattle.geo_frame.proofs.Memory.{first_of_record, first_on, first_read}
use Rattle.geo_frame.proofs.record.take_records.Goals as goal

pub loop-init : goal.loop-init
loop-init c = record {
  reads = records_start c.args.sites c.args.count c.new-records.result.items c.args.bytes.now.left.now c.new-records.ensures.items;
  first = (c.new-records.ensures.items, refl);
}

pub returns-in_err-record : goal.returns-in_err-record
returns-in_err-record c =
    let p = err_from_is_err_and c.from_residual.result c.from_residual.ensures.1 in
    let before : c.last_of.result.now ≡ last_key c.loop.records.items = c.last_of.ensures ∙ ap last_key c.as_slice.ensures.value in
    rw (p.1, p.2) (record {
      read = records_end c.args.sites c.args.count c.loop.counter c.loop.records.items c.loop.bytes.left.now c.in_err-record.field-0.0 (records_at c.args.sites c.args.count [] c.args.bytes.now.left.now) c.loop-test.true (rw (← before) c.in_err-record.ensures.read) c.loop.invariant.reads;
      memory = λ m. ((let lt = c.loop-test.true in omega (arith, lt)), first_read c.loop.counter c.loop.records.items c.loop.bytes.left.now c.args.bytes.now.left.now c.loop.invariant.first (rw (← before) (c.in_err-record.ensures.memory m)));
    })

pub returns-in_err-push-clause-memory : goal.returns-in_err-push-clause-memory
returns-in_err-push-clause-memory c =
    let p = err_from_is_err_and c.from_residual-in_err-push.result c.from_residual-in_err-push.ensures.1 in
    let before : c.last_of.result.now ≡ last_key c.loop.records.items = c.last_of.ensures ∙ ap last_key c.as_slice.ensures.value in
    rw p.1 (λ m. ((let lt = c.loop-test.true in omega (arith, lt)), first_of_record c.args.sites c.loop.counter c.loop.records.items c.loop.bytes.left.now c.args.bytes.now.left.now (c.in_ok-record.record, c.take_record.new.bytes.left.now) c.loop.invariant.first (rw (← before) c.in_ok-record.ensures.read)))

pub loop-preserved : goal.loop-preserved
loop-preserved c =
    let before : c.last_of.result.now ≡ last_key c.loop.records.items = c.last_of.ensures ∙ ap last_key c.as_slice.ensures.value in
    record {
      reads = records_go_on c.args.sites c.args.count c.loop.counter c.loop.records.items c.push.new.self.items c.loop.bytes.left.now c.take_record.new.bytes.left.now c.in_ok-record.record (records_at c.args.sites c.args.count [] c.args.bytes.now.left.now) c.loop-test.true
          (rw (← before) c.in_ok-record.ensures.read)
          c.in_ok-push.ensures.items c.loop.invariant.reads;
      first = first_on c.loop.counter _ c.push.new.self.items c.take_record.new.bytes.left.now c.args.bytes.now.left.now refl
          (first_of_record c.args.sites c.loop.counter c.loop.records.items c.loop.bytes.left.now c.args.bytes.now.left.now (c.in_ok-record.record, c.take_record.new.bytes.left.now) c.loop.invariant.first (rw (← before) c.in_ok-record.ensures.read));
    }

pub returns-clause-read : goal.returns-clause-read
returns-clause-read c = records_done c.args.sites c.args.count c.loop.counter c.loop.records.items c.loop.bytes.left.now _ c.loop-test.false c.loop.invariant.reads

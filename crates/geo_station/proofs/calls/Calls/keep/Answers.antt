use Rattle.std.proofs.Common.{ap, sym, ◌∙◌}
use Rattle.geo_station.specs.Seats.{call_of, calls_bytes}
use Rattle.geo_station.proofs.Counting.{calls_more}
use Rattle.geo_station.proofs.calls.Calls.keep.Goals as goal

pub invariant_of-self : goal.invariant_of-self
invariant_of-self c = record {
  counted =
      calls_more c.args.self.now.list.items (call_of c.args.event c.args.answer) c.args.self.now.bytes c.saturating_add-sized.result c.event_bytes.result c.saturating_add-asked.result c.answer_bytes.result c.saturating_add-all.result
      c.args.self.now.counted c.saturating_add-sized.ensures c.event_bytes.ensures c.saturating_add-asked.ensures c.answer_bytes.ensures c.saturating_add-all.ensures
      ∙ ap calls_bytes (sym c.push_reserved.ensures.items);
}

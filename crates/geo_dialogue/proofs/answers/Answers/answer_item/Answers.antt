use Rattle.std.proofs.Common.{refl, sym}
use Rattle.geo_dialogue.specs.Exchanges.{Told}
use Rattle.geo_dialogue.proofs.Lists.{on_err}
use Rattle.geo_dialogue.proofs.Talks.{fault_said}
use Rattle.geo_dialogue.proofs.answers.Answers.answer_item.Goals as goal

pub returns-in_err-extend_from_slice-in-Fault-clause-err : goal.returns-in_err-extend_from_slice-in-Fault-clause-err
returns-in_err-extend_from_slice-in-Fault-clause-err g c = on_err c.from_residual.result _ (record { exchange = Told c.in-Fault.fault; came = sym c.in-Fault.is; run = refl; text = c.in_err-extend_from_slice-in-Fault.ensures.items; count = refl })

pub returns-in_ok-extend_from_slice-in-Fault-clause-ok : goal.returns-in_ok-extend_from_slice-in-Fault-clause-ok
returns-in_ok-extend_from_slice-in-Fault-clause-ok g c = record {
  exchange = Told c.in-Fault.fault;
  came = sym c.in-Fault.is;
  run = refl;
  adds = record { text = fault_said c.in-Fault.fault _ _ c.fault_text.result.now c.in_ok-extend_from_slice-in-Fault.ensures.items c.fault_text.ensures; count = refl };
}

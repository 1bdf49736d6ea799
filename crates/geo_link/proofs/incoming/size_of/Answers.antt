use Rattle.std.proofs.Common.{Result, Ok, Err, sym, ap, subst, ◌∙◌, ℕ}
use Rattle.geo_frame.specs.declared.message.Message.{Message}
use Rattle.geo_frame.specs.declared.fault.FrameFault.{FrameFault}
use Rattle.geo_link.proofs.Heads.{TellsHead, tells_front, tells_fault}
use Rattle.geo_link.proofs.incoming.size_of.Goals as goal

pub unreachable-requires-in_default-decode : goal.unreachable-requires-in_default-decode
unreachable-requires-in_default-decode c =
    let told = tells_front c.args.bytes.now c.split_at.result.0.now c.decode.result c.split_at.ensures.front c.requires c.decode.ensures.exact c.decode.ensures.memory in
    subst (λ (r : Result Message FrameFault). TellsHead r c.args.bytes.now) c.in_default-decode.is told

pub returns-in-Short : goal.returns-in-Short
returns-in-Short c =
    let told = tells_front c.args.bytes.now c.split_at.result.0.now c.decode.result c.split_at.ensures.front c.requires c.decode.ensures.exact c.decode.ensures.memory in
    let is = c.in-Err.is ∙ ap (λ (f : FrameFault). Err f) c.in-Short.is in
    subst (λ (r : Result Message FrameFault). TellsHead r c.args.bytes.now) is told ∙ ap (λ (n : ℕ). Ok n) (sym c.in-Some.ensures.1)

pub returns-in_default-fault : goal.returns-in_default-fault
returns-in_default-fault c =
    let told = tells_front c.args.bytes.now c.split_at.result.0.now c.decode.result c.split_at.ensures.front c.requires c.decode.ensures.exact c.decode.ensures.memory in
    tells_fault c.args.bytes.now c.in-Err.fault c.in_default-fault.not-Short (subst (λ (r : Result Message FrameFault). TellsHead r c.args.bytes.now) c.in-Err.is told)

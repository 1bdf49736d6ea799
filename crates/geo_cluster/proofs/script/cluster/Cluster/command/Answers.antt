use Rattle.std.proofs.Common.{Some, refl, sym, ap, ◌∙◌, ◌≡◌, ◌++◌}
use Rattle.geo_grammar.specs.Replies.{answer_bytes}
use Rattle.geo_requests.specs.declared.request.Request.{Request}
use Rattle.geo_cluster.proofs.Feeding.{replied, same_request}
use Rattle.geo_cluster.proofs.script.cluster.Cluster.command.Goals as goal

pub returns : goal.returns
returns c = λ p st is.
    let before = c.args.answer.now.items in
    let reply = c.in-Some-Replied.reply in
    let pushed = c.in_ok-push_reply.ensures in
    let same : c.args.request ≡ c.in-Command.request = same_request _ _ _ _ _ _ c.in-Command.is in (
      refl,
      replied p c.args.self.now c.step.new.self c.args.site c.args.request c.in_ok-reply.field-0 reply c.in-Some-Replied.field-0-1 before c.push_reply.new.answer.items st
          (c.in-Some-Replied.is ∙ ap Some c.in-Some-Replied.field-0-is) c.in_ok-reply.ensures.does pushed.0 (pushed.1 ∙ ap (λ (r : Request). before ++ answer_bytes r reply) (sym same)),
    )

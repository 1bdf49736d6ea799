use Rattle.std.proofs.Common.{refl, sym, ◌∙◌}
use Rattle.geo_dialogue.specs.Exchanges.{Asked}
use Rattle.geo_dialogue.proofs.Lists.{on_err}
use Rattle.geo_dialogue.proofs.Talks.{reply_said, reply_unsaid}
use Rattle.geo_dialogue.proofs.answers.Answers.answer_request.Goals as goal
use Rattle.geo_dialogue.proofs.answers.Answers.answer_request.Goals.{then-not-quiet+in_ok-push_reply, else-not-quiet}

pub returns-in_err-push_reply-clause-err : goal.returns-in_err-push_reply-clause-err
returns-in_err-push_reply-clause-err g c = on_err c.from_residual.result _ (record {
  exchange = Asked c.args.request c.in-Some.reply;
  came = refl;
  run = (c.act.new.self, c.in-Some.ensures.some, refl);
  text = c.in_err-push_reply.ensures.err;
  count = c.one_more-self.ensures;
})

pub returns-clause-ok : goal.returns-clause-ok
returns-clause-ok g c =
    let request = c.args.request in
    let reply = c.in-Some.reply in
    elim c.if-not-quiet.branch [
      | then-not-quiet+in_ok-push_reply w ↦ rw w.self-is (record {
        exchange = Asked request reply;
        came = refl;
        run = (c.act.new.self, c.in-Some.ensures.some, refl);
        adds = record { text = reply_said request reply _ _ (sym c.is_noreply-quiet.ensures ∙ w.if-not-quiet.true) w.in_ok-push_reply.ensures.text; count = c.one_more-self.ensures };
      })
      | else-not-quiet w ↦ rw w.self-is (record {
        exchange = Asked request reply;
        came = refl;
        run = (c.act.new.self, c.in-Some.ensures.some, refl);
        adds = record { text = reply_unsaid request reply _ _ (sym c.is_noreply-quiet.ensures ∙ w.if-not-quiet.false) refl; count = c.one_more-self.ensures };
      })
    ]

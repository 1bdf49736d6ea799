use Rattle.std.proofs.Common.{refl, sym, ◌∙◌, []}
use Rattle.geo_dialogue.specs.Exchanges.{Asked}
use Rattle.geo_dialogue.proofs.Lists.{on_err}
use Rattle.geo_dialogue.proofs.Talks.{reply_said, reply_unsaid}
use Rattle.geo_dialogue.proofs.answers.Answers.begin_request.Goals as goal

pub returns-then-is_quiet-clause-ok : goal.returns-then-is_quiet-clause-ok
returns-then-is_quiet-clause-ok g c = record {
  exchange = Asked c.args.request c.in-Some.reply;
  came = refl;
  run = (c.ask.new.backend, c.in-Some.ensures.some, refl);
  adds = record { text = reply_unsaid c.args.request c.in-Some.reply _ _ (sym c.is_noreply-is_quiet.ensures ∙ c.if-is_quiet.true) refl; count = c.one_more-calls.ensures };
}

pub returns-in_err-telling-clause-err : goal.returns-in_err-telling-clause-err
returns-in_err-telling-clause-err g c = on_err c.from_residual.result _ (record {
  exchange = Asked c.args.request c.in-Some.reply;
  came = refl;
  run = (c.ask.new.backend, c.in-Some.ensures.some, refl);
  text = c.in_err-telling.ensures.err;
  count = c.one_more-calls.ensures;
})

pub returns-in-Some-2-clause-ok : goal.returns-in-Some-2-clause-ok
returns-in-Some-2-clause-ok g c =
    let begun = rw c.in-Some-2.is at c.in_ok-telling.ensures.begun in
    record {
      exchange = Asked c.args.request c.in-Some.reply;
      came = refl;
      run = (c.ask.new.backend, c.in-Some.ensures.some, refl);
      untold = reply_said c.args.request c.in-Some.reply [] _ (sym c.is_noreply-is_quiet.ensures ∙ c.if-is_quiet.false) begun.1;
      some = rw c.in-Some-2.is at c.in_ok-telling.ensures.left;
      text = begun.0;
      count = c.one_more-calls.ensures;
    }

pub returns-in-None-clause-ok : goal.returns-in-None-clause-ok
returns-in-None-clause-ok g c =
    let begun = rw c.in-None.is at c.in_ok-telling.ensures.begun in
    record {
      exchange = Asked c.args.request c.in-Some.reply;
      came = refl;
      run = (c.ask.new.backend, c.in-Some.ensures.some, refl);
      adds = record { text = reply_said c.args.request c.in-Some.reply _ _ (sym c.is_noreply-is_quiet.ensures ∙ c.if-is_quiet.false) begun; count = c.one_more-calls.ensures };
    }

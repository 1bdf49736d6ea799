use Rattle.std.proofs.Common.{rules, arith, ◌≡◌, ◌<◌, length, get_or, ap, sym, ◌∙◌, inl, inr}
use Rattle.std.proofs.lemmas.Bool.{cases_lt}
use Rattle.std.specs.List.{list_all}
use Rattle.geo_records.specs.Keys.{is_key_byte}
use Rattle.geo_grammar.proofs.Splitting.{first_word, run_no_space, run_odd}
use Rattle.geo_grammar.proofs.words.odd_word.Goals as goal
use Rattle.geo_grammar.proofs.words.odd_word.Goals.{then-loop-end-test+else-line-end-ne32, else-loop-end-test}

pub loop-end-init : goal.loop-end-init
loop-end-init c =
    let line = c.args.line.now in
    record {
      past = omega arith;
      low = omega (arith, c.requires.odd.0);
      none = λ k lt e. elim (cases_lt k c.args.run) [
        | inl low ↦ run_no_space line k (omega (arith, low, c.requires.run)) e
        | inr high ↦ let at : k ≡ c.args.run = omega arith in c.requires.odd.1 (ap (λ j. get_or line j 0) (sym at) ∙ e)
      ];
    }

pub returns-clause-words : goal.returns-clause-words
returns-clause-words c =
    let line = c.args.line.now in
    let n = c.loop-end.end in
    let ends : n < length line → get_or line n 0 ≡ 32 = elim c.loop-end-test.branch [ then-loop-end-test+else-line-end-ne32 w ↦ λ lt. (search rules) | else-loop-end-test w ↦ λ lt. absurd (omega arith) ] in
    rw (c.split_at.ensures.front, c.split_at.ensures.back) (first_word line n (omega arith) c.loop-end.invariant.low c.loop-end.invariant.none ends)

pub returns-clause-plain : goal.returns-clause-plain
returns-clause-plain c =
    let odd = run_odd c.args.line.now c.loop-end.end (omega (arith, c.loop-end.invariant.past, c.requires.run)) c.loop-end.invariant.low in
    sym (ap (list_all is_key_byte) c.split_at.ensures.front ∙ odd)

use Rattle.std.proofs.Common.{rules, arith, ◌≡◌, ◌<◌, length, get_or, take, ap, sym, ◌∙◌}
use Rattle.std.specs.List.{list_all}
use Rattle.geo_records.specs.Keys.{is_key_byte}
use Rattle.geo_grammar.proofs.Splitting.{first_word, run_no_space, run_plain, run_some}
use Rattle.geo_grammar.proofs.words.first_word.Goals as goal
use Rattle.geo_grammar.proofs.words.first_word.Goals.{else-run-line-via-then-run-line+else-line-run-ne32, else-run-line-via-else-run-line}

pub returns-clause-words : goal.returns-clause-words
returns-clause-words c =
    let line = c.without_spaces-line.result.now in
    let n = c.key_run-run.result in
    let ends : n < length line → get_or line n 0 ≡ 32 = elim c.else-run-line.branch [ else-run-line-via-then-run-line+else-line-run-ne32 w ↦ λ lt. (search rules) | else-run-line-via-else-run-line w ↦ λ lt. absurd (omega arith) ] in
    let some : 0 < n = run_some line n (search rules) (c.without_spaces-line.ensures.begins (search rules)) ends in
    rw (c.split_at.ensures.front, c.split_at.ensures.back) (sym c.without_spaces-line.ensures.words ∙ first_word line n some c.key_run-run.ensures.bound (λ k lt e. run_no_space line k (omega (arith, lt, c.key_run-run.ensures.run)) e) ends)

pub returns-clause-plain : goal.returns-clause-plain
returns-clause-plain c =
    let line = c.without_spaces-line.result.now in
    sym (ap (list_all is_key_byte) (c.split_at.ensures.front ∙ ap (λ n. take n line) c.key_run-run.ensures.run) ∙ run_plain is_key_byte line)

pub returns-clause-some : goal.returns-clause-some
returns-clause-some c =
    let line = c.without_spaces-line.result.now in
    let n = c.key_run-run.result in
    let ends : n < length line → get_or line n 0 ≡ 32 = elim c.else-run-line.branch [ else-run-line-via-then-run-line+else-line-run-ne32 w ↦ λ lt. (search rules) | else-run-line-via-else-run-line w ↦ λ lt. absurd (omega arith) ] in
    let some : 0 < n = run_some line n (search rules) (c.without_spaces-line.ensures.begins (search rules)) ends in
    omega (arith, some, c.split_at.ensures.front_len)

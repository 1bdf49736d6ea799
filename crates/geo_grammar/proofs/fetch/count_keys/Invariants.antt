use Rattle.std.proofs.Common.{◌≡◌, ◌+◌, ◌≤◌, length}
use Rattle.std.specs.List.{list_all}
use Rattle.geo_records.specs.Keys.{is_key}
use Rattle.geo_grammar.specs.Words.{words_of}
use Rattle.geo_grammar.proofs.fetch.count_keys.Given as goal

-- the words so far are keys, so the rest decides
abbrev pub invariant-loop-word : goal.invariant-loop-word
invariant-loop-word l = record {
  told : list_all is_key (words_of l.rest) ≡ list_all is_key (words_of l.line);
  counted : l.count + length (words_of l.rest) ≡ length (words_of l.line);
  fits : l.count + length l.rest ≤ length l.line;
}

abbrev pub decreases-loop-word : goal.decreases-loop-word
decreases-loop-word l = length l.rest

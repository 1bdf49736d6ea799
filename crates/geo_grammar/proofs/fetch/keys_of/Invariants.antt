use Rattle.std.proofs.Common.{◌≡◌, ◌++◌, ◌∷◌, length, true}
use Rattle.std.specs.List.{list_all}
use Rattle.geo_records.specs.Keys.{is_key}
use Rattle.geo_grammar.specs.Words.{words_of}
use Rattle.geo_grammar.proofs.fetch.keys_of.Given as goal

abbrev pub invariant-loop-word : goal.invariant-loop-word
invariant-loop-word l = record {
  told : l.keys.items ++ words_of l.rest ≡ l.words.first.now ∷ words_of l.words.rest.now;
  keys : list_all is_key (words_of l.rest) ≡ true;
}

abbrev pub decreases-loop-word : goal.decreases-loop-word
decreases-loop-word l = length l.rest

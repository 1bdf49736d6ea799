use Rattle.std.proofs.Common.{length, ◌-◌, ◌≡◌, ◌≤◌, drop}
use Rattle.geo_grammar.specs.Words.{words_of}
use Rattle.geo_grammar.proofs.words.without_spaces.Given as goal

abbrev pub invariant-loop-start : goal.invariant-loop-start
invariant-loop-start l = record { low : l.start ≤ length l.line; same : words_of (drop l.start l.line) ≡ words_of l.line }

abbrev pub decreases-loop-start : goal.decreases-loop-start
decreases-loop-start l = length l.line - l.start

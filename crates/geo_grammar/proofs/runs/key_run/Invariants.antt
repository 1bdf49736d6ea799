use Rattle.std.proofs.Common.{◌≡◌, ◌+◌, ◌-◌, ◌≤◌, length, drop}
use Rattle.std.specs.List.{prefix_len}
use Rattle.geo_records.specs.Keys.{is_key_byte}
use Rattle.geo_grammar.proofs.runs.key_run.Given as goal

abbrev pub invariant-loop-at : goal.invariant-loop-at
invariant-loop-at l = record {
  low : l.at ≤ length l.text;
  far : prefix_len is_key_byte l.text ≡ l.at + prefix_len is_key_byte (drop l.at l.text);
}

abbrev pub decreases-loop-at : goal.decreases-loop-at
decreases-loop-at l = length l.text - l.at

abbrev pub invariant-loop-at-2 : goal.invariant-loop-at-2
invariant-loop-at-2 l = record {
  low : l.at ≤ length l.text;
  far : prefix_len is_key_byte l.text ≡ l.at + prefix_len is_key_byte (drop l.at l.text);
}

abbrev pub decreases-loop-at-2 : goal.decreases-loop-at-2
decreases-loop-at-2 l = length l.text - l.at

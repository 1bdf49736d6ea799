use Rattle.std.proofs.Common.{◌≡◌, ◌≤◌, drop}
use Rattle.geo_requests.specs.Numbers.{number_after}
use Rattle.geo_requests.proofs.digits.number.Given as goal

abbrev pub invariant-loop-byte : goal.invariant-loop-byte
invariant-loop-byte l = record {
  small : l.value ≤ l.most;
  same : number_after l.most l.value (drop l.byte-index l.word) ≡ number_after l.most 0 l.word;
}

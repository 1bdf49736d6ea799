use Rattle.std.proofs.Common.{◌≡◌, ℕ, ◌≤◌, ◌<◌, max, length, get_or}
use Rattle.geo_stamp.proofs.vector.VectorLattice.join.Given as goal

abbrev pub invariant-loop-i : goal.invariant-loop-i
invariant-loop-i l = record {
  sites : l.self-inside.sites ≡ l.initial.self-inside.sites;
  many : length l.self-inside.entries ≡ 16;
  done : (k : ℕ) → k < l.i → get_or l.self-inside.entries k 0 ≡ max (get_or l.initial.self-inside.entries k 0) (get_or l.other-inside.entries k 0);
  rest : (k : ℕ) → l.i ≤ k → get_or l.self-inside.entries k 0 ≡ get_or l.initial.self-inside.entries k 0;
}

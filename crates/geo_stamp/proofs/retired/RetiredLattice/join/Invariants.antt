use Rattle.std.proofs.Common.{◌≡◌, ℕ, ◌≤◌, ◌<◌, ◌||◌, false, length, get_or}
use Rattle.geo_stamp.proofs.retired.RetiredLattice.join.Given as goal

abbrev pub invariant-loop-i : goal.invariant-loop-i
invariant-loop-i l = record {
  many : length l.self-inside.sites ≡ 16;
  done : (k : ℕ) → k < l.i → get_or l.self-inside.sites k false ≡ (get_or l.initial.self-inside.sites k false || get_or l.other-inside.sites k false);
  rest : (k : ℕ) → l.i ≤ k → get_or l.self-inside.sites k false ≡ get_or l.initial.self-inside.sites k false;
}

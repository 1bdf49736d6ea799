use Rattle.std.proofs.Common.{length, ℕ, ◌-◌, ◌≡◌, ◌<◌, ◌≤◌, get_or}
use Rattle.geo_grammar.proofs.words.odd_word.Given as goal

abbrev pub invariant-loop-end : goal.invariant-loop-end
invariant-loop-end l = record { past : l.run < l.end; low : l.end ≤ length l.line; none : (k : ℕ) → k < l.end → get_or l.line k 0 ≡ 32 → ⊥ }

abbrev pub decreases-loop-end : goal.decreases-loop-end
decreases-loop-end l = length l.line - l.end

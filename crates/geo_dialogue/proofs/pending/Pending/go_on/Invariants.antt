use Rattle.std.proofs.Common.{◌≡◌, ◌<◌, ◌≤◌, ◌⊎◌, length, None}
use Rattle.std.specs.VecDeque.{deque_len}
use Rattle.geo_dialogue.specs.Connections.{GoesOn}
use Rattle.geo_dialogue.specs.Pendings.{debt_of}
use Rattle.geo_dialogue.proofs.pending.Pending.go_on.Given as goal

abbrev pub invariant-loop-self : goal.invariant-loop-self
invariant-loop-self g l = record {
  went : GoesOn g.B.Backend.answers (debt_of l.fn.self) (debt_of l.self) l.fn.backend l.backend;
  grows : length l.fn.self.answers.text.items ≤ length l.self.answers.text.items;
  far : (l.fn.most < length l.self.answers.text.items) ⊎ (l.self.telling ≡ None);
}

abbrev pub decreases-loop-self : goal.decreases-loop-self
decreases-loop-self g l = deque_len l.self.waiting

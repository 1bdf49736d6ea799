use Rattle.std.proofs.Common.{◌≡◌, ◌+◌, ◌-◌, ◌≤◌, List, ℕ, ◌++◌, ◌∙◌, ap, length, subst, sym, drop, take, arith}
use Rattle.geo_crowd.specs.Crowds.{Passes, at, due, sums_behind}
use Rattle.geo_crowd.proofs.Listed.{length_rotated}
use Rattle.geo_crowd.proofs.Passing.{passes_from}
use Rattle.geo_crowd.proofs.Rounding.{turned_last, kept_front}
use Rattle.geo_crowd.proofs.crowd.Crowd.pass_next.Goals as goal

pub returns-clause-next : goal.returns-clause-next
returns-clause-next g c =
    let had = due c.args.self.now in
    let now = due c.put_first.new.self in
    let last = c.len-last.result - 1 in
    let long = length_rotated 1 had now c.put_first.ensures.due in
    let parts = turned_last last had now c.requires.some c.put_first.ensures.due (omega (arith, c.len-last.ensures, long, c.requires.some)) in
    let second = sums_behind last c.pass_behind-passed.new.self c.pass_behind-passed.result in
    record {
      second = second;
      passes = passes_from g.B.Backend.answers g.B.Backend.refuses (take 1 had) second (at c.args.self.now) (at c.put_first.new.self) (at c.pass_behind-passed.new.self) c.args.backend.now c.pass_behind-passed.new.backend c.put_first.ensures.stand
          (subst (λ (l : List ℕ). Passes g.B.Backend.answers g.B.Backend.refuses l second (at c.put_first.new.self) (at c.pass_behind-passed.new.self) c.args.backend.now c.pass_behind-passed.new.backend) parts.0 c.pass_behind-passed.ensures.passes);
      later = kept_front last (drop 1 had) (due c.pass_behind-passed.new.self) (c.pass_behind-passed.ensures.front ∙ parts.1);
      ended = omega arith;
      faults = omega arith;
    }

use Rattle.std.proofs.Common.{rules, ◌≡◌, List, ℕ, length, ap, drop, arith}
use Rattle.std.proofs.Math.Seq.{take-add}
use Rattle.std.proofs.KnownBytes.{Appends-trans}
use Rattle.geo_cluster.proofs.script.run.write_all.Goals as goal

pub loop-at-preserved : goal.loop-at-preserved
loop-at-preserved g c =
    let rest : c.split_at.result.1.now ≡ drop c.loop-at.at c.args.bytes.now = search rules in
    record {
      within = omega (arith, c.in-Ok.ensures.bound);
      stays = λ h. let was = c.loop-at.invariant.stays h in rw (c.in-Ok.ensures.spent was) was;
      untouched = λ none. absurd (let some = c.loop-at-test.true in omega (arith, some, ap (λ (x : List ℕ). length x) none));
      written = rw (take-add c.loop-at.at c.in-Ok.count c.args.bytes.now, ← rest) (Appends-trans _ _ _ _ _ c.loop-at.invariant.written c.in-Ok.ensures.bytes);
    }

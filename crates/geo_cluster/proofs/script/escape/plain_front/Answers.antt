use Rattle.std.proofs.Common.{arith, ◌≡◌, take, drop, sym, ◌∙◌, ap, List, ℕ}
use Rattle.std.specs.List.{list_all}
use Rattle.geo_cluster.specs.Escapes.{is_plain}
use Rattle.geo_cluster.proofs.Escaping.{plain_more}
use Rattle.geo_cluster.proofs.script.escape.plain_front.Goals as goal

pub loop-count-preserved : goal.loop-count-preserved
loop-count-preserved c =
    let n = c.loop-count.count in
    let bytes = c.args.bytes.now in
    let block : c.split_at-in-loop-count.result.0.now ≡ take 32 (drop n bytes) = c.split_at-in-loop-count.ensures.front ∙ ap (λ (x : List ℕ). take 32 x) c.split_at.ensures.back in
    record {
      within = omega (arith, c.loop-count.invariant.within, c.loop-count-test.true);
      plain = plain_more n 32 bytes c.loop-count.invariant.plain (ap (λ (x : List ℕ). list_all is_plain x) (sym block) ∙ sym c.is_plain_block.ensures ∙ c.if-not-is_plain_block.false);
    }

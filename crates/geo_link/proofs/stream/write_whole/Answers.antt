use Rattle.std.proofs.Common.{List, ℕ, sym, subst}
use Rattle.geo_link.proofs.Arrivals.{WritesTo, not_failed, writes_then}
use Rattle.geo_link.proofs.stream.write_whole.Goals as goal

pub loop-rest-preserved : goal.loop-rest-preserved
loop-rest-preserved g c =
    let u = g.O.Write.contents c.args.writer.now.inner in
    let v = g.O.Write.contents c.loop-rest.writer.inner in
    let w = g.O.Write.contents c.write.new.self.inner in
    record {
      writes = subst (λ (x : List ℕ). WritesTo c.args.bytes.now x u w) (sym c.split_at.ensures.back) (writes_then c.args.bytes.now c.loop-rest.rest.now u v w c.in-Ok.count c.loop-rest.invariant.writes c.in-Ok.ensures.bytes);
      works = λ _. not_failed c.write.new.self.failed c.in-Ok.ensures.failed.1;
    }

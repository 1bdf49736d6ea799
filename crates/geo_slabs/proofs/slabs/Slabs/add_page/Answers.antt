use Rattle.std.proofs.Common.{◌<◌, length, ap, arith}
use Rattle.geo_slabs.specs.Chunks.{ClassState}
use Rattle.geo_slabs.proofs.Pages.{page_free}
use Rattle.geo_slabs.proofs.slabs.Slabs.add_page.Goals as goal

pub returns-clause-free : goal.returns-clause-free
returns-clause-free c = λ _ held.
    let classes = c.self.inside.classes.items in
    let all = c.self.invariant.0.all in
    let lt : c.args.class < length classes = omega (arith, all, c.requires) in
    page_free classes c.args.class c.index_mut.result.now c.add_page.new.self lt c.index_mut.ensures.value (c.self.invariant.0.cut c.args.class c.requires) (ap (λ (s : ClassState). s.chunks) c.add_page.ensures) held

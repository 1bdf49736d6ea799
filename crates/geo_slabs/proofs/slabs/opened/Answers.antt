use Rattle.std.proofs.Common.{◌*◌, ◌≤◌, sym, ◌∙◌, subst}
use Rattle.geo_slabs.proofs.Sizes.{whole, numbered}
use Rattle.geo_slabs.proofs.slabs.opened.Goals as goal

pub new-requires-clause-whole : goal.new-requires-clause-whole
new-requires-clause-whole c = (λ i. c.chunks_in_page.ensures i * c.chunk_size.ensures i) ∙ whole c.args.class c.requires.class

pub new-requires-clause-numbered : goal.new-requires-clause-numbered
new-requires-clause-numbered c = subst (λ n. n * c.args.pages ≤ 1073741824) (sym c.chunks_in_page.ensures) (numbered c.args.class c.args.pages c.requires.class c.requires.pages.1)

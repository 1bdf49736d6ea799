use Rattle.std.proofs.Common.{◌≡◌, ◌+◌, sym, subst, ap, length}
use Rattle.geo_slabs.specs.Storage.{class_count}
use Rattle.geo_values.specs.Stock.{Same, first_stock}
use Rattle.geo_values.specs.Links.{Kept, IsLinked, links_of, stock_of}
use Rattle.geo_values.proofs.First.{first_kept, linked-first, stock-first}
use Rattle.geo_values.proofs.values.Values.new.Goals as goal

pub invariant_of-result : goal.invariant_of-result
invariant_of-result c =
    let pages = c.args.slabs.spare + class_count in
    let is : first_kept pages ≡ record { items = c.with_hasher.result.entries; keys = c.new.result.slots; slabs = c.args.slabs; classes = c.in_ok-classes.classes.items } =
    λ i. record { items = sym c.with_hasher.ensures.empty i; keys = sym c.new.ensures.empty i; slabs = sym c.requires.unused.is i; classes = sym c.in_ok-classes.ensures i } in
    (ap length c.in_ok-classes.ensures, subst (λ (k : Kept). IsLinked (links_of k)) is (linked-first pages))

pub returns : goal.returns
returns c =
    let pages = c.args.slabs.spare + class_count in
    let is : first_kept pages ≡ record { items = c.with_hasher.result.entries; keys = c.new.result.slots; slabs = c.args.slabs; classes = c.in_ok-classes.classes.items } =
    λ i. record { items = sym c.with_hasher.ensures.empty i; keys = sym c.new.ensures.empty i; slabs = sym c.requires.unused.is i; classes = sym c.in_ok-classes.ensures i } in
    subst (λ (k : Kept). Same (first_stock pages) (stock_of (links_of k))) is (stock-first pages)

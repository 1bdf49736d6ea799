use Rattle.std.proofs.Common.{◌≡◌, [], sym, ap, ◌∙◌, get_or}
use Rattle.std.proofs.lemmas.List.{map-set, get_or-map}
use Rattle.geo_slabs.specs.Chunks.{bytes_of}
use Rattle.geo_slabs.proofs.class.write_in.Goals as goal

pub returns-clause-bytes : goal.returns-clause-bytes
returns-clause-bytes c =
    let same : get_or (bytes_of c.args.pages.now.items) c.args.at [] ≡ c.index_mut.result.now.items =
    get_or-map (λ p. p.items) c.args.pages.now.items c.args.at c.index_mut.result.now [] c.requires.at ∙ ap (λ p. p.items) (sym c.index_mut.ensures.value) in
    rw (map-set, c.write_at.ensures.bytes, same)

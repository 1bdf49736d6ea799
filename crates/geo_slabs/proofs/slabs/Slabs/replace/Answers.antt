use Rattle.std.proofs.Common.{◌≡◌, ◌≢◌, sym, ap, ◌∙◌, subst}
use Rattle.geo_slabs.specs.Storage.{held_in}
use Rattle.geo_slabs.specs.declared.slabs.Chunk.{Chunk}
use Rattle.geo_slabs.proofs.Kept.{replace_gives, replace_keeps}
use Rattle.geo_slabs.proofs.slabs.Slabs.replace.Goals as goal

pub returns-clause-others : goal.returns-clause-others
returns-clause-others c = subst (λ (now : Chunk). (other : Chunk) → other ≢ c.args.chunk.now → other ≢ now → held_in c.replace_in.new.self other ≡ held_in c.args.self.now other) (sym c.replace_in.ensures.chunk)
    (replace_keeps c.args.self.now c.replace_in.new.self c.args.chunk.now c.args.bytes.now c.replace_in.ensures.holds c.requires.held)

pub returns-clause-gives : goal.returns-clause-gives
returns-clause-gives c = ap (held_in c.replace_in.new.self) c.replace_in.ensures.chunk
    ∙ replace_gives c.args.self.now c.replace_in.new.self c.args.chunk.now c.args.bytes.now c.replace_in.ensures.holds c.requires.held

use Rattle.std.proofs.Common.{inl}
use Rattle.std.specs.List.{Contains}
use Rattle.geo_lru.specs.Placed.{IsFiled, IsIndexed}
use Rattle.geo_lru.proofs.Placing.{each-more}
use Rattle.geo_lru.proofs.cold.index_all.Goals as goal

pub returns-then-whole : goal.returns-then-whole
returns-then-whole c = λ t. each-more (IsFiled c.args.noted.now.items c.args.index.now) (IsIndexed c.index_noted.new.index) c.args.entries.now.entries (c.index_noted.ensures t) (c.requires c.if-whole.true)

pub returns-then-note_all : goal.returns-then-note_all
returns-then-note_all c = λ t. each-more (λ q i. Contains c.note_all.new.noted.items (q, i)) (IsIndexed c.index_noted-then-note_all.new.index) c.args.entries.now.entries
    (λ q i there. c.index_noted-then-note_all.ensures t q i (inl there)) (c.note_all.ensures c.if-note_all.true)

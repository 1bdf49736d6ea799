use Rattle.std.proofs.Common.{◌≡◌, ◌∷◌, ◌++◌, ◌-◌, ◌||◌, [], map, length, sym, ap, ◌∙◌, subst}
use Rattle.circular_buffer.specs.Buffer.{Buffer, keep_last}
use Rattle.geo_records.specs.Keys.{same_key}
use Rattle.geo_delta.specs.Trails.{Passed, Path, Trailed, TrailedFrom, keys_in, passed_key}
use Rattle.geo_delta.proofs.Trailing.{keys_kept, trailed_pushed}
use Rattle.geo_delta.proofs.trail.Trail.push.Goals as goal

pub returns-clause-kept : goal.returns-clause-kept
returns-clause-kept c =
    let ring = c.self.inside.ring in
    let same : record { changes = ring.items; most = ring.capacity } ≡ c.args.self.now = c.self.view_is ∙ c.known-known.ensures.stays in
    ap (λ (b : Buffer Passed). map passed_key b.items) c.push_back-oldest.ensures.items
    ∙ keys_kept ring.capacity ring.items (c.args.key, c.known-known.result)
    ∙ ap (λ (p : Path). keep_last p.most (keys_in p ++ c.args.key ∷ [])) same

pub returns-clause-trailed : goal.returns-clause-trailed
returns-clause-trailed c = λ pending at knows t.
    let ring = c.self.inside.ring in
    let same : record { changes = ring.items; most = ring.capacity } ≡ c.args.self.now = c.self.view_is ∙ c.known-known.ensures.stays in
    subst (λ (b : Buffer Passed). TrailedFrom pending at b.items) (sym c.push_back-oldest.ensures.items)
    (trailed_pushed pending at c.args.key c.args.after.now c.known-known.result c.known-known.ensures.known knows
    (length (ring.items ++ (c.args.key, c.known-known.result) ∷ []) - ring.capacity) ring.items
    (subst (λ (p : Path). Trailed (λ q. same_key q c.args.key || pending q) at p) (sym same) t))

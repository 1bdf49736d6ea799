use Rattle.std.proofs.Common.{◌≡◌, ◌∙◌, ℕ, List, Option, Some, None, cond, sym, subst, ap}
use Rattle.std.specs.Str.{bytes_eq}
use Rattle.geo_slabs.specs.Storage.{held_in}
use Rattle.geo_values.specs.Stock.{with_digest}
use Rattle.geo_values.specs.Held.{stock_in}
use Rattle.geo_values.specs.Links.{Kept, links_in}
use Rattle.geo_values.proofs.Found.{not_true, not_false, digest_tells, held_fits}
use Rattle.geo_values.proofs.Linked.{holds_some}
use Rattle.geo_values.proofs.values.Values.find.Goals as goal

pub returns-then-ne-clause-found : goal.returns-then-ne-clause-found
returns-then-ne-clause-found c =
    let differs = not_true (bytes_eq c.in_ok-place.item.now.digest c.args.digest.now) (sym c.ne.ensures ∙ c.if-ne.true) in
    let tells = digest_tells (links_in c.self.inside.parts) c.self.invariant.1 c.args.key.now c.args.digest.now c.in_ok-place.item.now (sym c.in_ok-place.ensures.value) in
    subst (λ (k : Kept). None ≡ with_digest c.args.digest.now ((stock_in k).held c.args.key.now)) c.self.view_is
    (sym (tells ∙ ap (λ b. cond {A = Option (List ℕ)} b (held_in c.self.inside.parts.slabs c.in_ok-place.item.now.chunk) None) differs))

pub bytes-requires : goal.bytes-requires
bytes-requires c = holds_some c.self.invariant.1 c.args.key.now c.in_ok-place.item.now (sym c.in_ok-place.ensures.value)

pub returns-clause-found : goal.returns-clause-found
returns-clause-found c =
    let same = not_false (bytes_eq c.in_ok-place.item.now.digest c.args.digest.now) (sym c.ne.ensures ∙ c.if-ne.false) in
    let tells = digest_tells (links_in c.self.inside.parts) c.self.invariant.1 c.args.key.now c.args.digest.now c.in_ok-place.item.now (sym c.in_ok-place.ensures.value) in
    subst (λ (k : Kept). Some c.bytes.result.now ≡ with_digest c.args.digest.now ((stock_in k).held c.args.key.now)) c.self.view_is
    (sym (tells ∙ ap (λ b. cond {A = Option (List ℕ)} b (held_in c.self.inside.parts.slabs c.in_ok-place.item.now.chunk) None) same ∙ c.bytes.ensures))

pub returns-clause-fits : goal.returns-clause-fits
returns-clause-fits c = held_fits (links_in c.self.inside.parts) c.self.invariant.1 c.args.key.now c.in_ok-place.item.now (sym c.in_ok-place.ensures.value) c.bytes.result.now c.bytes.ensures

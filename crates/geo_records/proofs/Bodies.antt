-- The order of bodies is total, and tells all bodies apart.
use Rattle.std.proofs.Common.{◌≡◌, ℕ, List, refl, ap, sym, ◌∙◌}
use Rattle.std.specs.declared.cmp.Ordering.{Ordering}
use Rattle.std.specs.Ordering.{ordering_then, nat_cmp}
use Rattle.std.specs.Cmp.{IsTotalOrder}
use Rattle.std.specs.Cmp.Lexicographic.{slice_cmp}
use Rattle.std.proofs.lemmas.Cmp.{then_total, on_total, nat_cmp_total, nat_list_cmp_total}
use Rattle.std.proofs.lemmas.Map.Lookups.{exact_pairs, exact_unsigned, exact_bytes, CmpEqualImpliesEq}
use Rattle.geo_records.specs.Bodies.{body_parts, body_cmp, body_from}
use Rattle.geo_records.specs.declared.body.Body.{Body}
use Rattle.geo_records.specs.declared.body.Body.TheVariants.{Gone, Value}

pub bodies_total : IsTotalOrder body_cmp
bodies_total = then_total (on_total (λ (b : Body). (body_parts b).0) nat_cmp_total)
    (then_total (on_total (λ (b : Body). (body_parts b).1.0) nat_list_cmp_total)
    (then_total (on_total (λ (b : Body). (body_parts b).1.1.0) nat_cmp_total) (on_total (λ (b : Body). (body_parts b).1.1.1) nat_cmp_total)))

pub body_back : (b : Body) → body_from (body_parts b) ≡ b
body_back Gone = refl
body_back (Value digest flags length) = refl

-- the order tells all bodies apart
pub exact_bodies : CmpEqualImpliesEq body_cmp
exact_bodies a b h =
    let R : ℕ × ℕ → ℕ × ℕ → Ordering = λ x y. ordering_then (nat_cmp x.0 y.0) (nat_cmp x.1 y.1) in
    let S : List ℕ × (ℕ × ℕ) → List ℕ × (ℕ × ℕ) → Ordering = λ x y. ordering_then (slice_cmp nat_cmp x.0 y.0) (R x.1 y.1) in
    let two = exact_pairs nat_cmp nat_cmp exact_unsigned exact_unsigned in
    let three = exact_pairs (slice_cmp nat_cmp) R exact_bytes two in
    let p = exact_pairs nat_cmp S exact_unsigned three (body_parts a) (body_parts b) h in
    sym (body_back a) ∙ ap body_from p ∙ body_back b

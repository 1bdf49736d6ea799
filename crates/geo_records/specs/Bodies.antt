-- Bodies: Gone before each Value, and Values by their digest's bytes, then flags, then length.
use Rattle.std.specs.Prelude.{ℕ, List, [], zero, suc}
use Rattle.std.specs.declared.cmp.Ordering.{Ordering}
use Rattle.std.specs.Ordering.{ordering_then, nat_cmp}
use Rattle.std.specs.Cmp.Lexicographic.{slice_cmp}
use Rattle.geo_records.specs.declared.body.Body.{Body}
use Rattle.geo_records.specs.declared.body.Body.TheVariants.{Gone, Value}

-- what a body is ordered by
abbrev pub body_parts : Body → ℕ × (List ℕ × (ℕ × ℕ))
body_parts Gone = (0, ([], (0, 0)))
body_parts (Value digest flags length) = (1, (digest, (flags, length)))

abbrev pub body_cmp : Body → Body → Ordering
body_cmp a b =
    let m = body_parts a in
    let n = body_parts b in
    ordering_then (nat_cmp m.0 n.0)
    (ordering_then (slice_cmp nat_cmp m.1.0 n.1.0) (ordering_then (nat_cmp m.1.1.0 n.1.1.0) (nat_cmp m.1.1.1 n.1.1.1)))

-- a body from its parts
abbrev pub body_from : ℕ × (List ℕ × (ℕ × ℕ)) → Body
body_from (zero, r) = Gone
body_from (suc n, r) = Value r.0 r.1.0 r.1.1

-- The join of registers: the greater stays, and an empty one gives way.
use Rattle.std.specs.Prelude.{Option, None, Some}
use Rattle.std.specs.declared.cmp.Ordering.{Ordering}
use Rattle.std.specs.declared.cmp.Ordering.TheVariants.{Less, Equal, Greater}
use Rattle.std.specs.Ordering.{ordering_then}

-- by the first part, and then by the second
abbrev pub by_both : {A B : Type 0} → (A → A → Ordering) → (B → B → Ordering) → A × B → A × B → Ordering
by_both R S x y = ordering_then (R x.0 y.0) (S x.1 y.1)

-- by how they compare, the second where the first is less
abbrev pub by_order : {A : Type 0} → Ordering → A → A → A
by_order Less a b = b
by_order Equal a b = a
by_order Greater a b = a

-- the greater of the two
abbrev pub greater : {A : Type 0} → (A → A → Ordering) → A → A → A
greater cmp a b = by_order (cmp a b) a b

-- the greater of the two registers, of which each may be empty
abbrev pub newer : {A : Type 0} → (A → A → Ordering) → Option A → Option A → Option A
newer cmp None b = b
newer cmp (Some a) None = Some a
newer cmp (Some a) (Some b) = Some (greater cmp a b)

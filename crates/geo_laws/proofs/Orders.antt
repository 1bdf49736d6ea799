-- An order by parts tells all values apart, where the parts bring each value back.
use Rattle.std.proofs.Common.{◌≡◌, ap, sym, ◌∙◌}
use Rattle.std.specs.declared.cmp.Ordering.{Ordering}
use Rattle.std.proofs.lemmas.Map.Lookups.{CmpEqualImpliesEq}

pub exact_on : {B P : Type 0} (parts : B → P) (from : P → B) (cmp : P → P → Ordering) → ((b : B) → from (parts b) ≡ b) → CmpEqualImpliesEq cmp → CmpEqualImpliesEq (λ a b. cmp (parts a) (parts b))
exact_on parts from cmp back exact a b h = sym (back a) ∙ ap from (exact (parts a) (parts b) h) ∙ back b

-- The join of registers is associative, commutative and idempotent, by a total order that tells all values apart.
use Rattle.std.specs.Prelude.{◌≡◌, ℕ, max, refl}
use Rattle.std.specs.Prelude.{Option, None, Some}
use Rattle.std.specs.Cmp.{IsTotalOrder}
use Rattle.std.specs.declared.cmp.Ordering.{Ordering}
use Rattle.std.specs.declared.cmp.Ordering.TheVariants.{Less, Equal, Greater}
use Rattle.std.specs.Ordering.{ordering_reverse}
use Rattle.std.proofs.Common.{arith, sym, ◌∙◌, ap, subst}
use Rattle.std.proofs.lemmas.Map.Lookups.{CmpEqualImpliesEq, exact_pairs}
use Rattle.std.proofs.lemmas.Cmp.{alike_right, then_total, on_total}
use Rattle.geo_laws.specs.Registers.{by_both, by_order, greater, newer}

pub max_assoc : (a b c : ℕ) → max a (max b c) ≡ max (max a b) c
max_assoc a b c = omega arith

pub max_comm : (a b : ℕ) → max a b ≡ max b a
max_comm a b = omega arith

pub max_same : (a : ℕ) → max a a ≡ a
max_same a = omega arith

-- an order that answers as a total one is total
pub same_total : {A : Type 0} {R S : A → A → Ordering} → ((a b : A) → R a b ≡ S a b) → IsTotalOrder R → IsTotalOrder S
same_total {A} {R} {S} is r = let P : (A → A → Ordering) → Type 0 = λ R. IsTotalOrder R in let e : R ≡ S = λ i a b. is a b i in subst P e r

pub both_total : {A B : Type 0} {R : A → A → Ordering} {S : B → B → Ordering} → IsTotalOrder R → IsTotalOrder S → IsTotalOrder (by_both R S)
both_total {A} {B} r s = then_total (on_total (λ (p : A × B). p.0) r) (on_total (λ (p : A × B). p.1) s)

-- the same, where the orders are told by what they answer
pub total_by : {A B : Type 0} {R : A → A → Ordering} {S : B → B → Ordering} (P : A → A → Ordering) (Q : B → B → Ordering)
    → ((a b : A) → R a b ≡ P a b) → ((a b : B) → S a b ≡ Q a b) → IsTotalOrder R → IsTotalOrder S → IsTotalOrder (by_both P Q)
total_by P Q p q r s = both_total (same_total p r) (same_total q s)

pub exact_by : {A B : Type 0} {R : A → A → Ordering} {S : B → B → Ordering} (P : A → A → Ordering) (Q : B → B → Ordering)
    → ((a b : A) → R a b ≡ P a b) → ((a b : B) → S a b ≡ Q a b) → CmpEqualImpliesEq R → CmpEqualImpliesEq S → CmpEqualImpliesEq (by_both P Q)
exact_by P Q p q r s = exact_pairs P Q (λ a b h. r a b (p a b ∙ h)) (λ a b h. s a b (q a b ∙ h))

module _ {A : Type 0} (cmp : A → A → Ordering) (order : IsTotalOrder cmp) (exact : CmpEqualImpliesEq cmp) where
  same_first : (a : A) (o : Ordering) → by_order o a a ≡ a
  same_first a Less = refl
  same_first a Equal = refl
  same_first a Greater = refl

  swap_cases : (a b : A) (o p : Ordering) → cmp a b ≡ o → cmp b a ≡ p → o ≡ ordering_reverse p → by_order o a b ≡ by_order p b a
  swap_cases a b Less Less s t e = cc
  swap_cases a b Less Equal s t e = cc
  swap_cases a b Less Greater s t e = refl
  swap_cases a b Equal Less s t e = cc
  swap_cases a b Equal Equal s t e = exact a b s
  swap_cases a b Equal Greater s t e = cc
  swap_cases a b Greater Less s t e = refl
  swap_cases a b Greater Equal s t e = cc
  swap_cases a b Greater Greater s t e = cc

  pub newer_same : (a : Option A) → newer cmp a a ≡ a
  newer_same None = refl
  newer_same (Some a) = ap Some (same_first a (cmp a a))

  greater_comm : (a b : A) → greater cmp a b ≡ greater cmp b a
  greater_comm a b = swap_cases a b (cmp a b) (cmp b a) refl refl (order.antisymm a b)

  pub newer_comm : (a b : Option A) → newer cmp a b ≡ newer cmp b a
  newer_comm None None = refl
  newer_comm None (Some b) = refl
  newer_comm (Some a) None = refl
  newer_comm (Some a) (Some b) = ap Some (greater_comm a b)

  forth : (a b : A) → cmp a b ≡ Greater → cmp b a ≡ Less
  forth a b s = order.antisymm b a ∙ ap ordering_reverse s

  back : (a b : A) → cmp a b ≡ Less → cmp b a ≡ Greater
  back a b s = order.antisymm b a ∙ ap ordering_reverse s

  greater_assoc : (a b c : A) → greater cmp a (greater cmp b c) ≡ greater cmp (greater cmp a b) c
  greater_assoc a b c = three a b c (cmp a b) (cmp b c) refl refl
    where
      -- the cases by how a and b, and b and c compare
      three : (a b c : A) (o p : Ordering) → cmp a b ≡ o → cmp b c ≡ p → greater cmp a (by_order p b c) ≡ greater cmp (by_order o a b) c
      three a b c Less Less s t = rw (order.trans a b c s t, t)
      three a b c Less Equal s t = rw (s, t)
      three a b c Less Greater s t = rw (s, t)
      three a b c Equal Less s t = rw (order.congr a b c s ∙ t)
      three a b c Equal Equal s t = rw (s, order.congr a b c s ∙ t)
      three a b c Equal Greater s t = rw (s, order.congr a b c s ∙ t)
      three a b c Greater Less s t = refl
      three a b c Greater Equal s t = rw (s, sym (alike_right order b c a t) ∙ s)
      three a b c Greater Greater s t = rw (s, back c a (order.trans c b a (forth b c t) (forth a b s)))

  pub newer_assoc : (a b c : Option A) → newer cmp a (newer cmp b c) ≡ newer cmp (newer cmp a b) c
  newer_assoc None b c = refl
  newer_assoc (Some a) None c = refl
  newer_assoc (Some a) (Some b) None = refl
  newer_assoc (Some a) (Some b) (Some c) = ap Some (greater_assoc a b c)

-- Items where that of one key is written anew, and lists of classes of which one is set.
use Rattle.std.proofs.Common.{◌≡◌, ℕ, ◌<◌, Bool, true, false, inl, inr, cond, nat_eq, List, length, Option, Some, get_or, refl, sym, ap, ◌∙◌}
use Rattle.std.proofs.Math.ListN.{set}
use Rattle.std.proofs.lemmas.Bool.{cases_eq}
use Rattle.std.proofs.lemmas.List.{get_or-set_same, get_or-set_other, get_or_default, set-get_or}
use Rattle.geo_records.specs.Keys.{same_key}
use Rattle.geo_lru.specs.Lists.{Lists}
use Rattle.geo_values.specs.declared.parts.Item.{Item}
use Rattle.geo_values.proofs.Linked.{same_keys, either_way, same_numbers, other_numbers}

module _ (old new : List ℕ → Option Item) (key : List ℕ) (item : Item) (written : (q : List ℕ) → new q ≡ cond (same_key key q) (Some item) (old q)) where
  pub is_written : (q : List ℕ) → new q ≡ cond (same_key q key) (Some item) (old q)
  is_written q = written q ∙ ap (λ b. cond b (Some item) (old q)) (either_way key q)

  -- what is written as it was leaves all as it was
  pub is_as_before : old key ≡ Some item → (q : List ℕ) → new q ≡ old q
  is_as_before was q = written q ∙ by (same_key key q) refl
    where
      by : (t : Bool) → same_key key q ≡ t → cond t (Some item) (old q) ≡ old q
      by true same = sym was ∙ ap old (same_keys key q same)
      by false other = refl

module _ (all : List Lists) (at : ℕ) (own lists d : Lists) (lt : at < length all) (lent : own ≡ get_or all at own) where
  -- the lists of one class, which were lent, become what is made of them
  pub class_set : (made : Lists → Lists) → lists ≡ made own
      → (class : ℕ) → get_or (set all at lists) class d ≡ cond (nat_eq class at) (made (get_or all class d)) (get_or all class d)
  class_set made is class = elim (cases_eq class at) [
    | inl same ↦
        ap (λ c. get_or (set all at lists) c d) same ∙ get_or-set_same all at lists d lt ∙ is ∙ ap made (lent ∙ get_or_default all at own d lt)
        ∙ ap (λ c. made (get_or all c d)) (sym same)
        ∙ sym (ap (λ b. cond b (made (get_or all class d)) (get_or all class d)) (same_numbers class at same))
    | inr apart ↦
        get_or-set_other all at class lists d apart
        ∙ sym (ap (λ b. cond b (made (get_or all class d)) (get_or all class d)) (other_numbers class at apart))
  ]

  pub class_set_back : lists ≡ own → (class : ℕ) → get_or (set all at lists) class d ≡ get_or all class d
  class_set_back same class =
      ap (λ (l : Lists). get_or (set all at l) class d) (same ∙ lent ∙ get_or_default all at own d lt)
      ∙ ap (λ (a : List Lists). get_or a class d) (set-get_or all at d)

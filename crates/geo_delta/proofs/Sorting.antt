-- Keys sorted, each once: the same keys.
use Rattle.std.proofs.Common.{◌≡◌, ℕ, Bool, true, false, List, refl, sym}
use Rattle.std.specs.Cmp.Lexicographic.{same_text, nat_list_eq_equiv}
use Rattle.std.specs.List.{list_any, dedup}
use Rattle.std.proofs.lemmas.List.Kept.{Contains-dedup, Contains-from_dedup}
use Rattle.std.proofs.lemmas.Map.Views.{Contains-from_any, list_any-from_Contains}
use Rattle.geo_records.specs.Keys.{same_key}

same_answers : (a b : Bool) → (a ≡ true → b ≡ true) → (b ≡ true → a ≡ true) → a ≡ b
same_answers true b f g = sym (f refl)
same_answers false true f g = g refl
same_answers false false f g = refl

one_key : (a b : List ℕ) → same_key a b ≡ true → a ≡ b
one_key a b h = same_text a b (sym h)

pub dedup_keeps : (ks : List (List ℕ)) (q : List ℕ) → list_any (same_key q) (dedup same_key ks) ≡ list_any (same_key q) ks
dedup_keeps ks q = same_answers (list_any (same_key q) (dedup same_key ks)) (list_any (same_key q) ks)
    (λ h. list_any-from_Contains nat_list_eq_equiv q ks (Contains-from_dedup same_key ks q (Contains-from_any one_key q (dedup same_key ks) h)))
    (λ h. list_any-from_Contains nat_list_eq_equiv q (dedup same_key ks) (Contains-dedup nat_list_eq_equiv one_key ks q (Contains-from_any one_key q ks h)))

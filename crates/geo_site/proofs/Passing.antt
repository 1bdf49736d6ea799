-- Keys of a line that came before.
use Rattle.std.proofs.Common.{◌≡◌, ℕ, ◌+◌, ◌<◌, length, take, get_or, Bool, true, false, cond, ◌||◌, List, [], ◌∷◌, ◌++◌, Option, None, Some, is_some, IsSome, MatchOption, refl, sym, ap, subst, ◌∙◌, true≢false}
use Rattle.std.specs.List.{list_any}
use Rattle.std.specs.Cmp.Lexicographic.{same_text}
use Rattle.std.proofs.lemmas.Cmp.{nat_list_eq_equiv}
use Rattle.std.proofs.lemmas.List.{take_more}
use Rattle.std.proofs.lemmas.List.Folds.{list_any-append}
use Rattle.geo_records.specs.Keys.{same_key}
use Rattle.geo_site.specs.Entries.{Visible}
use Rattle.geo_site.specs.declared.passed.Passed.{Passed}
use Rattle.geo_site.specs.Passing.{HasPassed}

one_more : (a t : Bool) → cond t true a ≡ (a || (t || false))
one_more true true = refl
one_more true false = refl
one_more false true = refl
one_more false false = refl

-- one key more came
pub passed_more : (before : List (List ℕ)) (key q : List ℕ) → cond (same_key key q) true (list_any (same_key q) before) ≡ list_any (same_key q) (before ++ key ∷ [])
passed_more before key q =
    ap (λ t. cond t true (list_any (same_key q) before)) (nat_list_eq_equiv.symm key q)
    ∙ one_more (list_any (same_key q) before) (same_key q key)
    ∙ sym (list_any-append (same_key q) before (key ∷ []))

match_mapped : {A : Type 0} {P Q : A → Type 0} → ((x : A) → P x → Q x) → (o : Option A) → MatchOption o (Unit {0}) P → MatchOption o (Unit {0}) Q
match_mapped f None h = h
match_mapped f (Some x) h = f x h

-- a key that is not visible comes and is not passed
none_more : (visible : Visible) (key q : List ℕ) → is_some (visible key) ≡ false → IsSome (visible q) → (t : Bool) → t ≡ same_key q key → t ≡ false
none_more visible key q none there false e = refl
none_more visible key q none there true e = absurd (true≢false (sym there ∙ ap (λ k. is_some (visible k)) (same_text q key e) ∙ none))

pub passed_by : (visible : Visible) (p : Passed) (before : List (List ℕ)) (key : List ℕ) → is_some (visible key) ≡ false
    → HasPassed visible p before → HasPassed visible p (before ++ key ∷ [])
passed_by visible p before key none has = match_mapped (λ keys held q there.
    held q there
    ∙ ap (λ t. cond t true (list_any (same_key q) before)) (sym (none_more visible key q none there (same_key q key) refl) ∙ sym (nat_list_eq_equiv.symm key q))
    ∙ passed_more before key q) p.keys has

-- those before the next key are those before this one, and this one
pub one_taken : (keys : List (List ℕ)) (i : ℕ) (key : List ℕ) → i < length keys → key ≡ get_or keys i key → take i keys ++ key ∷ [] ≡ take (i + 1) keys
one_taken keys i key lt at = ap (λ k. take i keys ++ k ∷ []) at ∙ sym (take_more keys i key lt)

pub passed_on : (visible : Visible) (p : Passed) (keys : List (List ℕ)) (i : ℕ) (key : List ℕ) → i < length keys → key ≡ get_or keys i key
    → HasPassed visible p (take i keys ++ key ∷ []) → HasPassed visible p (take (i + 1) keys)
passed_on visible p keys i key lt at = subst (HasPassed visible p) (one_taken keys i key lt at)

-- Lists that are gone through, and ended early.
use Rattle.std.proofs.Common.{◌≡◌, ℕ, ◌≤◌, ◌||◌, Bool, true, false, List, [], ◌∷◌, ◌++◌, length, take, Option, None, Some, refl, sym, ◌∙◌, arith, Result, Ok, Err, IfErr}
use Rattle.std.specs.List.{list_any}
use Rattle.std.specs.Io.KnownBytes.{Consumes, Keeps}
use Rattle.std.proofs.lemmas.List.{take-take, take-append-le}
use Rattle.std.specs.Result.{IsErrAnd}

any_first : (t a b c : Bool) → (a ≡ false → b ≡ c) → (t || a) ≡ false → (t || b) ≡ c
any_first true a b c more none = cc
any_first false a b c more none = more none

-- where none of the front is one, one of all is one of the rest
pub list_any-behind : {X : Type 0} (p : X → Bool) (xs ys : List X) → list_any p xs ≡ false → list_any p (xs ++ ys) ≡ list_any p ys
list_any-behind p [] ys h = refl
list_any-behind p (x ∷ xs) ys h = any_first (p x) (list_any p xs) (list_any p (xs ++ ys)) (list_any p ys) (list_any-behind p xs ys) h

pub not_failed : (failed : Bool) → (failed ≡ true → false ≡ true) → failed ≡ false
not_failed true h = let none = h refl in cc
not_failed false h = refl

-- what was read stands at the front of the buffer
pub front_of : (n len : ℕ) (buf rest : List ℕ) → n ≤ length buf → length buf ≤ len → take n (take len (buf ++ rest)) ≡ take n buf
front_of n len buf rest within fits = let below : n ≤ len = omega arith in take-take n len (buf ++ rest) below ∙ take-append-le n buf rest within

-- a reader that gave nothing
pub gave_none : (a b : Option (List ℕ)) → Keeps a b → Consumes a b []
gave_none None b h = tt
gave_none (Some xs) None h = absurd h
gave_none (Some xs) (Some ys) h = sym h

-- a fault that is passed on
pub at_err : {T F : Type 0} (r : Result T F) (f : F) (P : F → Type 0) → IsErrAnd r (λ e. e ≡ f) → P f → IfErr r P
at_err (Ok x) f P h p = absurd h
at_err (Err e) f P h p = rw h p

-- what holds whatever the error is
pub on_err : {T F : Type 0} (r : Result T F) (P : Type 0) → P → IfErr r (λ _. P)
on_err (Ok x) P h = tt
on_err (Err e) P h = h

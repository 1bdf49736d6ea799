-- Records of which some are left out.
use Rattle.std.proofs.Common.{◌≡◌, Bool, true, false, cond, ◌&&◌, not, is_some, List, [], ◌∷◌, ◌≤◌, ◌+◌, refl, sym, ap, ◌∙◌, arith, true≢false}
use Rattle.std.specs.List.{items_where_true, list_all}
use Rattle.std.specs.Map.{lookup}
use Rattle.std.proofs.lemmas.List.Sums.{sum_by-cons}
use Rattle.geo_maps.specs.Maps.{missing}

both : (a b : Bool) → a && b ≡ true → (a ≡ true) × (b ≡ true)
both true b h = (refl, h)
both false b h = absurd (true≢false (sym h))

-- what holds of all holds of those that are left
pub all_left : {A : Type 0} (t : A → Bool) (bs : List Bool) (xs : List A) → list_all t xs ≡ true → list_all t (items_where_true bs xs) ≡ true
all_left t [] xs h = refl
all_left t (b ∷ bs) [] h = refl
all_left t (true ∷ bs) (x ∷ xs) h = let p = both (t x) (list_all t xs) h in ap (λ b. b && list_all t (items_where_true bs xs)) p.0 ∙ all_left t bs xs p.1
all_left t (false ∷ bs) (x ∷ xs) h = all_left t bs xs (both (t x) (list_all t xs) h).1

-- and no more keys are missing
pub missing_left : {K U V : Type 0} (eq : K → K → Bool) (mine : List (K × U)) (bs : List Bool) (es : List (K × V)) → missing eq mine (items_where_true bs es) ≤ missing eq mine es
missing_left eq mine [] es = omega arith
missing_left eq mine (b ∷ bs) [] = omega arith
missing_left {K} {U} {V} eq mine (true ∷ bs) (e ∷ es) =
    let rest = missing_left eq mine bs es in
    let all : missing eq mine (e ∷ es) ≡ cond (not (is_some (lookup (eq e.0) mine))) 1 0 + missing eq mine es = sum_by-cons (λ (x : K × V). cond (not (is_some (lookup (eq x.0) mine))) 1 0) e es in
    let some : missing eq mine (e ∷ items_where_true bs es) ≡ cond (not (is_some (lookup (eq e.0) mine))) 1 0 + missing eq mine (items_where_true bs es) = sum_by-cons (λ (x : K × V). cond (not (is_some (lookup (eq x.0) mine))) 1 0) e (items_where_true bs es) in
    omega (arith, rest, all, some)
missing_left {K} {U} {V} eq mine (false ∷ bs) (e ∷ es) =
    let rest = missing_left eq mine bs es in
    let all : missing eq mine (e ∷ es) ≡ cond (not (is_some (lookup (eq e.0) mine))) 1 0 + missing eq mine es = sum_by-cons (λ (x : K × V). cond (not (is_some (lookup (eq x.0) mine))) 1 0) e es in
    omega (arith, rest, all)

-- One key more is looked up.
use Rattle.std.proofs.Common.{◌≡◌, ℕ, zero, suc, ◌+◌, ◌<◌, Bool, true, refl, true≢false, arith, List, [], ◌∷◌, ◌++◌, length, take, sym, ap, ◌∙◌, get_or, append_assoc}
use Rattle.std.proofs.lemmas.List.{take_more, append-nil, map-append}
use Rattle.geo_requests.specs.declared.reply.Found.{Found}
use Rattle.geo_values.specs.Stock.{Stock, hit_at}
use Rattle.geo_values.specs.Stock as stocks
use Rattle.geo_site.specs.Entries.{Visible, found_at, found_of, keys_found, is_some_found}
use Rattle.geo_site.specs.Machine.{hit_all}
use Rattle.geo_site.proofs.Stocking.{stock_path, stock_by, hit_all_more}

found_append : (numbers : Bool) (seen : Visible) (xs : List (List ℕ)) (k : List ℕ) → found_of numbers seen (xs ++ k ∷ []) ≡ found_of numbers seen xs ++ found_at numbers k (seen k)
found_append numbers seen [] k = append-nil (found_at numbers k (seen k))
found_append numbers seen (x ∷ xs) k = ap (λ ys. found_at numbers x (seen x) ++ ys) (found_append numbers seen xs k) ∙ sym (append_assoc (found_at numbers x (seen x)) (found_of numbers seen xs) (found_at numbers k (seen k)))

pub found_more : (numbers : Bool) (seen : Visible) (keys : List (List ℕ)) (i : ℕ) (key : List ℕ) (all more : List Found)
    → i < length keys → key ≡ get_or keys i key → all ≡ found_of numbers seen (take i keys) → more ≡ all ++ found_at numbers key (seen key)
    → more ≡ found_of numbers seen (take (i + 1) keys)
found_more numbers seen keys i key all more lt at done is =
    is ∙ (λ j. done j ++ found_at numbers key (seen key)) ∙ sym (found_append numbers seen (take i keys) key)
    ∙ ap (λ k. found_of numbers seen (take i keys ++ k ∷ [])) at
    ∙ ap (found_of numbers seen) (sym (take_more keys i key lt))

-- one hit more
pub hits_more : (found : List Found) (i : ℕ) (f : Found) (first s t : Stock) → i < length found → f ≡ get_or found i f
    → stocks.Same (hit_all (keys_found (take i found)) first) s → stocks.Same (hit_at f.key s) t → stocks.Same (hit_all (keys_found (take (i + 1) found)) first) t
hits_more found i f first s t lt at before hit =
    stock_by (hit_all (keys_found (take (i + 1) found)) first) t
    (stock_path (hit_at f.key s) t hit ∙ ap (hit_at f.key) (stock_path (hit_all (keys_found (take i found)) first) s before)
    ∙ sym (hit_all_more (keys_found (take i found)) f.key first) ∙ ap (λ keys. hit_all keys first) (sym keys))
  where
    keys : keys_found (take (i + 1) found) ≡ keys_found (take i found) ++ f.key ∷ []
    keys =
        ap keys_found (take_more found i f lt)
        ∙ map-append (λ (f : Found). f.key) (take i found) (get_or found i f ∷ [])
        ∙ ap (λ (g : Found). keys_found (take i found) ++ g.key ∷ []) (sym at)

-- ---- something is found
some_before : (xs ys : List Found) → is_some_found xs ≡ true → is_some_found (xs ++ ys) ≡ true
some_before [] ys h = absurd (true≢false (sym h))
some_before (x ∷ xs) ys h = refl

some_behind : (xs ys : List Found) → is_some_found ys ≡ true → is_some_found (xs ++ ys) ≡ true
some_behind [] ys h = h
some_behind (x ∷ xs) ys h = refl

pub found_some : (numbers : Bool) (seen : Visible) (keys : List (List ℕ)) (i : ℕ) (key : List ℕ) → i < length keys → key ≡ get_or keys i key → is_some_found (found_at numbers key (seen key)) ≡ true → is_some_found (found_of numbers seen keys) ≡ true
found_some numbers seen [] i key lt at h = absurd (omega (arith, lt))
found_some numbers seen (k ∷ keys) zero key lt at h = some_before (found_at numbers k (seen k)) (found_of numbers seen keys) (ap (λ k. is_some_found (found_at numbers k (seen k))) (sym at) ∙ h)
found_some numbers seen (k ∷ keys) (suc i) key lt at h = some_behind (found_at numbers k (seen k)) (found_of numbers seen keys) (found_some numbers seen keys i key (omega (arith, lt)) at h)

pub some_listed : (found : List Found) → (found ≡ [] → ⊥) → is_some_found found ≡ true
some_listed [] h = absurd (h refl)
some_listed (f ∷ found) h = refl

-- What is held, listed by rising key with its SHA-256 and length.
use Rattle.std.proofs.Common.{rules, ◌≡◌, ℕ, ◌+◌, List, ◌∷◌, [], ◌++◌, length, Option, None, Some, option_map, refl, sym, ap, subst, ◌∙◌, arith, take, slice_get}
use Rattle.std.specs.Ordering.{is_lt, nat_cmp}
use Rattle.std.specs.Cmp.Lexicographic.{slice_cmp, nat_list_eq_equiv}
use Rattle.std.specs.Cmp.Rules.{comparing}
use Rattle.std.specs.List.{IsDistinct}
use Rattle.std.specs.List.Sorted.{IsPermutation, IsSortedBy}
use Rattle.std.specs.Map.{lookup, keys_of}
use Rattle.std.specs.Option.{option_and_then}
use Rattle.std.proofs.lemmas.Cmp.{nat_list_cmp_total}
use Rattle.std.proofs.lemmas.List.{get_or-map, length-map, map-append}
use Rattle.std.proofs.lemmas.List.Sorted.{IsPermutation-map}
use Rattle.sha2.specs.Sha256.{sha256}
use Rattle.geo_records.specs.Keys.{same_key}
use Rattle.geo_versions.specs.Maps.{Rising}
use Rattle.geo_versions.proofs.Listed.{rising_from_sorted}
use Rattle.geo_slabs.specs.Storage.{Storage, held_in}
use Rattle.geo_maps.proofs.Listing.{shown_of, shown_more, one_shown, shown_distinct, shown_at, reordered_distinct, reordered_at, rises}
use Rattle.geo_values.specs.Held.{digest_of, by_key, digest_at}
use Rattle.geo_values.specs.Links.{bytes_of, IsItem}
use Rattle.geo_values.specs.declared.parts.Item.{Item}

abbrev Digested : Type 0
Digested = List ℕ × List ℕ × ℕ

abbrev paired : Digested → List ℕ × (List ℕ × ℕ)
paired e = (e.0, (e.1, e.2))

-- what an item shows
abbrev pub shows : Storage → Item → Option (List ℕ × ℕ)
shows storage item = option_map digest_of (held_in storage item.chunk)

shows-item : (storage : Storage) (item : Item) → IsItem storage item → (bytes : List ℕ) → held_in storage item.chunk ≡ Some bytes → Some (item.digest, length bytes) ≡ shows storage item
shows-item storage item s bytes holds =
    let both : Some s.bytes ≡ Some bytes = sym s.holds ∙ holds in
    let own : s.bytes ≡ bytes = cc in
    ap (λ d. Some (d, length bytes)) (s.digest ∙ ap sha256 own) ∙ ap (option_map digest_of) (sym holds)

shows-held : (storage : Storage) (o : Option Item) → option_and_then (shows storage) o ≡ option_map digest_of (bytes_of storage o)
shows-held storage None = refl
shows-held storage (Some item) = refl

-- one item more is listed
pub listed-more : (storage : Storage) (es : List (List ℕ × Item)) (i : ℕ) (key copy : List ℕ) (item : Item) (all more : List Digested) → IsItem storage item → (bytes : List ℕ) → held_in storage item.chunk ≡ Some bytes → Some (key, item) ≡ slice_get es i → by_key all ≡ shown_of (shows storage) (take i es) → copy ≡ key → more ≡ all ++ (copy, item.digest, length bytes) ∷ [] → by_key more ≡ shown_of (shows storage) (take (i + 1) es)
listed-more storage es i key copy item all more s bytes holds at before own pushed =
    shown_more (shows storage) es i key item (by_key all) (by_key more) at before
    (one_shown key copy (item.digest, length bytes) (shows storage item) (by_key all) (by_key more) (ap by_key pushed ∙ map-append paired all ((copy, item.digest, length bytes) ∷ [])) own (shows-item storage item s bytes holds))

sorted-pairs : (es : List Digested) → IsSortedBy (λ (a b : Digested). is_lt (slice_cmp nat_cmp a.0 b.0)) es → IsSortedBy (λ (a b : List ℕ × (List ℕ × ℕ)). is_lt (slice_cmp nat_cmp a.0 b.0)) (by_key es)
sorted-pairs es sorted k d low high =
    let same = length-map es paired in
    let e : Digested = (d.0, d.1.0, d.1.1) in
    let here = get_or-map paired es k e d (omega (arith, same, high)) in
    let next = get_or-map paired es (k + 1) e d (omega (arith, same, high)) in
    (λ i. is_lt (slice_cmp nat_cmp (next i).0 (here i).0)) ∙ sorted k e low (omega (arith, same, high))

module _ (storage : Storage) (es : List (List ℕ × Item)) (unique : IsDistinct same_key (keys_of es)) (all sorted : List Digested) (whole : by_key all ≡ shown_of (shows storage) es) (moved : IsPermutation all sorted) where
  apart : IsDistinct same_key (keys_of (by_key all))
  apart = subst (λ xs. IsDistinct same_key (keys_of xs)) (sym whole) (shown_distinct (shows storage) same_key es unique)

  pairs : IsPermutation (by_key all) (by_key sorted)
  pairs = IsPermutation-map paired all sorted moved

  pub listed-rising : IsSortedBy (λ (a b : Digested). is_lt (slice_cmp nat_cmp a.0 b.0)) sorted → Rising (by_key sorted)
  listed-rising up = rising_from_sorted (by_key sorted) (rises same_key (slice_cmp nat_cmp) nat_list_cmp_total (λ x y. search (comparing, rules)) (by_key sorted) (sorted-pairs sorted up) (reordered_distinct same_key nat_list_eq_equiv (by_key all) (by_key sorted) pairs apart))

  pub listed-at : (q : List ℕ) → digest_at sorted q ≡ option_map digest_of (bytes_of storage (lookup (same_key q) es))
  listed-at q =
      reordered_at same_key nat_list_eq_equiv (by_key all) (by_key sorted) pairs apart q
      ∙ ap (lookup (same_key q)) whole
      ∙ shown_at (shows storage) same_key nat_list_eq_equiv es unique q
      ∙ shows-held storage (lookup (same_key q) es)

-- At first nothing is held, and the links are sound.
use Rattle.std.proofs.Common.{◌≡◌, ℕ, zero, suc, ◌-◌, ◌*◌, ◌/◌, ◌<◌, ◌≤◌, inl, inr, Bool, true, false, nat_lt, cond, is_some, List, [], length, replicate, Option, Some, None, slice_index_or, refl, sym, ap, subst, ◌∙◌, arith}
use Rattle.std.proofs.lemmas.Bool.{cases_lt, ltb-true, ltb-false}
use Rattle.std.proofs.lemmas.List.{get_or-replicate, get_or_past, length-replicate}
use Rattle.std.proofs.lemmas.List.Sums.{sum_by-cons}
use Rattle.std.proofs.lemmas.Nat.{pow_pos}
use Rattle.std.proofs.Math.Nat.{div_self, zero-div}
use Rattle.geo_slabs.specs.Chunks.{ClassState}
use Rattle.geo_slabs.specs.Storage.{class_count, chunks_a_page, chunks_in, first, first_classes, no_class}
use Rattle.geo_slabs.proofs.Sizes.{first_at}
use Rattle.geo_lru.specs.Rules.{count}
use Rattle.geo_lru.specs.Lists.{places}
use Rattle.geo_values.specs.Stock.{Same, first_stock, no_items}
use Rattle.geo_values.specs.Links.{Kept, IsLinked, links_of, held_count, pages_in, stock_of, named, key_of}

abbrev pub first_kept : ℕ → Kept
first_kept pages = record { items = []; keys = []; slabs = first pages; classes = replicate class_count no_items }

pub no_lists : (class : ℕ) → slice_index_or (replicate class_count (no_items {I = ℕ})) class no_items ≡ no_items
no_lists class = elim (cases_lt class class_count) [
  | inl lt ↦ get_or-replicate class_count class no_items no_items lt
  | inr ge ↦ get_or_past (replicate class_count no_items) class no_items (omega (arith, ge, length-replicate class_count (no_items {I = ℕ})))
]

no_held : (n : ℕ) → held_count (replicate n None) ≡ 0
no_held zero = refl
no_held (suc n) = omega (arith, no_held n, sum_by-cons (λ (c : Option (List ℕ)). cond (is_some c) 1 0) None (replicate n None))

pub some_chunks : (class : ℕ) → 0 < chunks_a_page class
some_chunks class = pow_pos (14 - class)

module _ (pages : ℕ) where
  chunks_first : (class : ℕ) → class < class_count → chunks_in (first pages) class ≡ replicate (chunks_a_page class) None
  chunks_first class lt = ap (λ (c : ClassState). c.chunks) (first_at pages class lt)

  length_first : (class : ℕ) → class < class_count → length (chunks_in (first pages) class) ≡ chunks_a_page class
  length_first class lt = ap length (chunks_first class lt) ∙ length-replicate (chunks_a_page class) None

  pages_first : (class : ℕ) → class < class_count → pages_in (first pages) class ≡ 1
  pages_first class lt = ap (λ (n : ℕ). n / chunks_a_page class) (length_first class lt) ∙ div_self (some_chunks class)

  no_pages : (class : ℕ) → class_count ≤ class → pages_in (first pages) class ≡ 0
  no_pages class ge = ap (λ (c : ClassState). length c.chunks / chunks_a_page class) (get_or_past (first_classes pages class_count) class no_class ge) ∙ zero-div (chunks_a_page class)

  pub linked-first : IsLinked (links_of (first_kept pages))
  linked-first = record {
    sound = λ q i e. absurd (let no : None ≡ Some i = e in cc);
    there = λ q i e. absurd (let no : None ≡ Some i = e in cc);
    back = λ m q e. absurd (let no : None ≡ Some q = e in cc);
    apart = λ q r i j ei ej e. absurd (let no : None ≡ Some i = ei in cc);
    placed = λ q i e class. absurd (let no : None ≡ Some i = e in cc);
    only = λ m class e. ap (places m) (no_lists class);
    counted = λ class lt. ap held_count (chunks_first class lt) ∙ no_held (chunks_a_page class) ∙ sym (ap count (no_lists class));
    cut = λ class lt. ap (λ (c : ClassState). c.per_page) (first_at pages class lt);
    whole = λ class lt. omega (arith, ap (λ (n : ℕ). n * chunks_a_page class) (pages_first class lt), length_first class lt);
    opened = λ class lt. subst (λ (n : ℕ). 0 < n) (sym (length_first class lt)) (some_chunks class);
    classes = refl;
  }

  pub stock-first : Same (first_stock pages) (stock_of (links_of (first_kept pages)))
  stock-first = record {
    held = λ q. refl;
    lists = λ class. ap (named (key_of (links_of (first_kept pages)))) (no_lists class);
    pages = λ class. by class (nat_lt class class_count) refl;
    spare = refl;
  }
    where
      by : (class : ℕ) (b : Bool) → nat_lt class class_count ≡ b → pages_in (first pages) class ≡ cond b 1 0
      by class true t = pages_first class (ltb-true class class_count t)
      by class false t = no_pages class (ltb-false class class_count t)

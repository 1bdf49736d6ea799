-- The sizes of chunks, and the classes at first.
use Rattle.std.proofs.Common.{◌≡◌, ℕ, zero, suc, ◌+◌, ◌*◌, ◌<◌, ◌≤◌, slice_index_or, refl, sym, ap, arith, subst}
use Rattle.std.proofs.Math.Nat.{mul-le-mul}
use Rattle.geo_slabs.specs.Chunks.{ClassState}
use Rattle.geo_slabs.specs.Storage.{class_count, chunk_bytes, chunks_a_page, first_class, first_classes, no_class, IsStorage}

-- what holds of each class by number holds of all
each : (P : ℕ → Type 0) → P 0 → P 1 → P 2 → P 3 → P 4 → P 5 → P 6 → P 7 → P 8 → P 9 → P 10 → P 11 → P 12 → P 13 → P 14 → (class : ℕ) → class < class_count → P class
each P a b c d e f g h i j k l m n o zero lt = a
each P a b c d e f g h i j k l m n o (suc zero) lt = b
each P a b c d e f g h i j k l m n o (suc (suc zero)) lt = c
each P a b c d e f g h i j k l m n o (suc (suc (suc zero))) lt = d
each P a b c d e f g h i j k l m n o (suc (suc (suc (suc zero)))) lt = e
each P a b c d e f g h i j k l m n o (suc (suc (suc (suc (suc zero))))) lt = f
each P a b c d e f g h i j k l m n o (suc (suc (suc (suc (suc (suc zero)))))) lt = g
each P a b c d e f g h i j k l m n o (suc (suc (suc (suc (suc (suc (suc zero))))))) lt = h
each P a b c d e f g h i j k l m n o (suc (suc (suc (suc (suc (suc (suc (suc zero)))))))) lt = i
each P a b c d e f g h i j k l m n o (suc (suc (suc (suc (suc (suc (suc (suc (suc zero))))))))) lt = j
each P a b c d e f g h i j k l m n o (suc (suc (suc (suc (suc (suc (suc (suc (suc (suc zero)))))))))) lt = k
each P a b c d e f g h i j k l m n o (suc (suc (suc (suc (suc (suc (suc (suc (suc (suc (suc zero))))))))))) lt = l
each P a b c d e f g h i j k l m n o (suc (suc (suc (suc (suc (suc (suc (suc (suc (suc (suc (suc zero)))))))))))) lt = m
each P a b c d e f g h i j k l m n o (suc (suc (suc (suc (suc (suc (suc (suc (suc (suc (suc (suc (suc zero))))))))))))) lt = n
each P a b c d e f g h i j k l m n o (suc (suc (suc (suc (suc (suc (suc (suc (suc (suc (suc (suc (suc (suc zero)))))))))))))) lt = o
each P a b c d e f g h i j k l m n o (suc (suc (suc (suc (suc (suc (suc (suc (suc (suc (suc (suc (suc (suc (suc class))))))))))))))) lt = absurd (omega (arith, lt))

pub whole : (class : ℕ) → class < class_count → chunks_a_page class * chunk_bytes class ≡ 1048576
whole = each (λ class. chunks_a_page class * chunk_bytes class ≡ 1048576) refl refl refl refl refl refl refl refl refl refl refl refl refl refl refl

pub few_chunks : (class : ℕ) → class < class_count → chunks_a_page class ≤ 16384
few_chunks = each (λ class. chunks_a_page class ≤ 16384) (omega arith) (omega arith) (omega arith) (omega arith) (omega arith) (omega arith) (omega arith) (omega arith) (omega arith) (omega arith) (omega arith) (omega arith) (omega arith) (omega arith) (omega arith)

pub numbered : (class pages : ℕ) → class < class_count → pages ≤ 65536 → chunks_a_page class * pages ≤ 1073741824
numbered class pages lt le = mul-le-mul (few_chunks class lt) le

pub first_at : (pages class : ℕ) → class < class_count → slice_index_or (first_classes pages class_count) class no_class ≡ first_class pages class
first_at pages = each (λ class. slice_index_or (first_classes pages class_count) class no_class ≡ first_class pages class) refl refl refl refl refl refl refl refl refl refl refl refl refl refl refl

-- at first each class is as it has to be
pub first_storage : (pages spare : ℕ) → spare + class_count ≡ pages → IsStorage (first_classes pages class_count) spare
first_storage pages spare left = record {
  all = refl;
  sized = λ class lt. ap (λ (c : ClassState). c.chunk_bytes) (first_at pages class lt);
  cut = λ class lt. ap (λ (c : ClassState). c.per_page) (first_at pages class lt);
  room = λ class lt. subst (λ (c : ClassState). spare ≤ c.room) (sym (first_at pages class lt)) (omega (arith, left));
}

-- What operations mean, joined: the meaning of two sets together is the join of their meanings, and equal sets mean the same.
use Rattle.std.proofs.Common.{◌≡◌, List, [], ◌∷◌, ◌++◌, Option, refl, sym, ap, ◌∙◌, ℕ, inl, inr, arith, max, ◌≤◌}
use Rattle.std.specs.declared.cmp.Ordering.{Ordering}
use Rattle.std.specs.Ordering.{nat_cmp}
use Rattle.std.specs.Cmp.{IsTotalOrder}
use Rattle.std.proofs.lemmas.Cmp.{nat_cmp_total}
use Rattle.std.proofs.lemmas.Map.Lookups.{exact_pairs, exact_unsigned, CmpEqualImpliesEq}
use Rattle.geo_laws.specs.Registers.{newer, by_both}
use Rattle.geo_laws.proofs.Registers.{newer_assoc, newer_comm, newer_same, both_total}
use Rattle.geo_stamp.specs.Stamps.{Moment, stamp_cmp}
use Rattle.geo_stamp.proofs.Stamps.{stamps_total, exact_stamps}
use Rattle.geo_records.proofs.Above.{above_both_joined, above_both_lower, above_both_higher, above_both_twice, record_comm}
use Rattle.geo_records.specs.Normal.{IsNormal}
use Rattle.geo_records.specs.Bodies.{body_cmp}
use Rattle.geo_records.proofs.Bodies.{bodies_total, exact_bodies}
use Rattle.geo_records.specs.Operations.{Operation, Record, newest, floor_of, flush_of, body_of, expiry_of, above, above_both, record_of, state_of, state_joined, floor_joined, record_joined, Among, SameOperations, latest}

module _ {A : Type 0} (cmp : A → A → Ordering) (order : IsTotalOrder cmp) (exact : CmpEqualImpliesEq cmp) (f : Operation → Option A) where
  pub newest_append : (ks ls : List Operation) → newest cmp f (ks ++ ls) ≡ newer cmp (newest cmp f ks) (newest cmp f ls)
  newest_append [] ls = refl
  newest_append (k ∷ ks) ls = ap (newer cmp (f k)) (newest_append ks ls) ∙ newer_assoc cmp order exact (f k) (newest cmp f ks) (newest cmp f ls)

  -- one that is among them adds nothing
  pub absorbed : (ks : List Operation) (op : Operation) → Among ks op → newer cmp (f op) (newest cmp f ks) ≡ newest cmp f ks
  absorbed [] op h = absurd h
  absorbed (k ∷ ks) op (inl e) =
      newer_assoc cmp order exact (f op) (f k) (newest cmp f ks)
      ∙ ap (λ x. newer cmp (newer cmp (f op) x) (newest cmp f ks)) (ap f e)
      ∙ ap (λ x. newer cmp x (newest cmp f ks)) (newer_same cmp order exact (f op) ∙ sym (ap f e))
  absorbed (k ∷ ks) op (inr h) =
      newer_assoc cmp order exact (f op) (f k) (newest cmp f ks)
      ∙ ap (λ x. newer cmp x (newest cmp f ks)) (newer_comm cmp order exact (f op) (f k))
      ∙ sym (newer_assoc cmp order exact (f k) (f op) (newest cmp f ks))
      ∙ ap (newer cmp (f k)) (absorbed ks op h)

  all_absorbed : (ls ks : List Operation) → ((op : Operation) → Among ls op → Among ks op) → newer cmp (newest cmp f ls) (newest cmp f ks) ≡ newest cmp f ks
  all_absorbed [] ks h = refl
  all_absorbed (l ∷ ls) ks h =
      sym (newer_assoc cmp order exact (f l) (newest cmp f ls) (newest cmp f ks))
      ∙ ap (newer cmp (f l)) (all_absorbed ls ks (λ op a. h op (inr a)))
      ∙ absorbed ks l (h l (inl refl))

  -- the same operations leave the same
  pub newest_same : (ks ls : List Operation) → SameOperations ks ls → newest cmp f ks ≡ newest cmp f ls
  newest_same ks ls same =
      sym (all_absorbed ls ks (λ op. (same op).1))
      ∙ newer_comm cmp order exact (newest cmp f ls) (newest cmp f ks)
      ∙ all_absorbed ks ls (λ op. (same op).0)

-- what is dropped below each floor is dropped below the greater one
both_cut : (f g : Option Moment) (a b : Record) → above_both (floor_joined f g) (record_joined (above_both f a) (above_both g b)) ≡ above_both (floor_joined f g) (record_joined a b)
both_cut f g a b =
    above_both_joined (floor_joined f g) (above_both f a) (above_both g b)
    ∙ (λ i. record_joined (above_both_lower f g a i) (above_both_higher f g b i))
    ∙ sym (above_both_joined (floor_joined f g) a b)

-- the meaning of both is the join of the meanings
pub state_append : (ks ls : List Operation) → state_of (ks ++ ls) ≡ state_joined (state_of ks) (state_of ls)
state_append ks ls =
    let bodies = both_total stamps_total bodies_total in
    let expiries = both_total stamps_total nat_cmp_total in
    let bodies_exact = exact_pairs stamp_cmp body_cmp exact_stamps exact_bodies in
    let expiries_exact = exact_pairs stamp_cmp nat_cmp exact_stamps exact_unsigned in
    let floor = newest_append stamp_cmp stamps_total exact_stamps flush_of ks ls in
    let B = by_both stamp_cmp body_cmp in
    let X = by_both stamp_cmp nat_cmp in
    let kept = λ (key : List ℕ). (λ i. above_both (floor i) (newest_append B bodies bodies_exact (body_of key) ks ls i, newest_append X expiries expiries_exact (expiry_of key) ks ls i))
    ∙ sym (both_cut (floor_of ks) (floor_of ls) (newest B (body_of key) ks, newest X (expiry_of key) ks) (newest B (body_of key) ls, newest X (expiry_of key) ls)) in
    λ i. (floor i, λ key. kept key i)

-- equal sets of operations mean the same
pub state_same : (ks ls : List Operation) → SameOperations ks ls → state_of ks ≡ state_of ls
state_same ks ls same =
    let bodies = both_total stamps_total bodies_total in
    let expiries = both_total stamps_total nat_cmp_total in
    let bodies_exact = exact_pairs stamp_cmp body_cmp exact_stamps exact_bodies in
    let expiries_exact = exact_pairs stamp_cmp nat_cmp exact_stamps exact_unsigned in
    let floor = newest_same stamp_cmp stamps_total exact_stamps flush_of ks ls same in
    λ i. (floor i, λ key. (above (floor i) (newest_same (by_both stamp_cmp body_cmp) bodies bodies_exact (body_of key) ks ls same i), above (floor i) (newest_same (by_both stamp_cmp nat_cmp) expiries expiries_exact (expiry_of key) ks ls same i)))

-- the greatest time of both
pub latest_append : (ks ls : List Operation) → latest (ks ++ ls) ≡ max (latest ks) (latest ls)
latest_append [] ls = omega arith
latest_append (k ∷ ks) ls = let h = latest_append ks ls in omega arith

-- a time is among them or above none of them
pub latest_most : (ks : List Operation) (op : Operation) → Among ks op → op.stamp.time ≤ latest ks
latest_most [] op h = absurd h
latest_most (k ∷ ks) op (inl e) = let t = ap (λ (o : Operation). o.stamp.time) e in omega (arith, t)
latest_most (k ∷ ks) op (inr h) = let t = latest_most ks op h in omega (arith, t)

latest_least : (ks : List Operation) (t : ℕ) → ((op : Operation) → Among ks op → op.stamp.time ≤ t) → latest ks ≤ t
latest_least [] t h = omega arith
latest_least (k ∷ ks) t h = let a = h k (inl refl) in let b = latest_least ks t (λ op m. h op (inr m)) in omega (arith, a, b)

pub latest_same : (ks ls : List Operation) → SameOperations ks ls → latest ks ≡ latest ls
latest_same ks ls same =
    let a = latest_least ks (latest ls) (λ op m. latest_most ls op ((same op).0 m)) in
    let b = latest_least ls (latest ks) (λ op m. latest_most ks op ((same op).1 m)) in
    omega (arith, a, b)

-- one more
pub floor_one : (op : Operation) (ops : List Operation) → floor_of (op ∷ ops) ≡ floor_joined (floor_of ops) (flush_of op)
floor_one op ops = newer_comm stamp_cmp stamps_total exact_stamps (flush_of op) (floor_of ops)

pub record_one : (op : Operation) (ops : List Operation) (q : List ℕ) → record_of (op ∷ ops) q ≡ above_both (floor_of (op ∷ ops)) (record_joined (record_of ops q) (body_of q op, expiry_of q op))
record_one op ops q =
    let one : Record = (body_of q op, expiry_of q op) in
    let others : Record = (newest (by_both stamp_cmp body_cmp) (body_of q) ops, newest (by_both stamp_cmp nat_cmp) (expiry_of q) ops) in
    ap (above_both (floor_of (op ∷ ops))) (record_comm one others)
    ∙ above_both_joined (floor_of (op ∷ ops)) others one
    ∙ ap (λ r. record_joined r (above_both (floor_of (op ∷ ops)) one)) (sym (above_both_higher (flush_of op) (floor_of ops) others))
    ∙ sym (above_both_joined (floor_of (op ∷ ops)) (above_both (floor_of ops) others) one)

pub state_normal : (ops : List Operation) → IsNormal (state_of ops)
state_normal ops q = above_both_twice (floor_of ops) (newest (by_both stamp_cmp body_cmp) (body_of q) ops, newest (by_both stamp_cmp nat_cmp) (expiry_of q) ops)

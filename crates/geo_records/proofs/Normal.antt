-- The join of states is associative, commutative and idempotent; what is joined is normal, and two normal states are one where their
-- states are.
use Rattle.std.proofs.Common.{◌≡◌, ℕ, List, Option, None, refl, sym, ap, ◌∙◌}
use mathlib.Core.HLevel.{Σ_prop_path}
use base.Stored.{Coded-set}
use Rattle.std.specs.Coded.{Coded, code_by, coded×, coded_ℕ, coded_option, coded_list}
use Rattle.geo_laws.proofs.Registers.{newer_comm, newer_assoc, newer_same}
use Rattle.geo_stamp.specs.Stamps.{Moment, stamp_cmp}
use Rattle.geo_stamp.proofs.Stamps.{stamps_total, exact_stamps}
use Rattle.geo_records.specs.Bodies.{body_parts, body_from}
use Rattle.geo_records.proofs.Bodies.{body_back}
use Rattle.geo_records.specs.Normal.{IsNormal, Normal}
use Rattle.geo_records.specs.Operations.{State, Record, above_both, floor_joined, record_joined, state_joined}
use Rattle.geo_records.specs.declared.body.Body.{Body}
use Rattle.geo_records.proofs.Above.{above_both_joined, above_both_twice, above_both_lower, above_both_higher, record_comm, record_assoc, record_same}

coded_stamp : Coded Moment
coded_stamp = code_by (ℕ × ℕ) (coded× coded_ℕ coded_ℕ) (λ s. (s.time, s.site)) (λ p. record { time = p.0; site = p.1 }) (λ _. refl)

coded_body : Coded Body
coded_body = code_by (ℕ
    × (List ℕ × (ℕ × ℕ))) (coded× coded_ℕ (coded× (coded_list coded_ℕ) (coded× coded_ℕ coded_ℕ))) body_parts body_from body_back

record_set : IsSet Record
record_set = Coded-set (coded× (coded_option (coded× coded_stamp coded_body)) (coded_option (coded× coded_stamp coded_ℕ)))

pub normal_prop : (s : State) → IsProp (IsNormal s)
normal_prop s = hlevel record_set

-- two are one where their states are
pub same_normal : (a b : Normal) → a.0 ≡ b.0 → a ≡ b
same_normal a b e = Σ_prop_path normal_prop e

pub joined_normal : (a b : State) → IsNormal (state_joined a b)
joined_normal a b key = above_both_twice (floor_joined a.0 b.0) (record_joined (a.1 key) (b.1 key))

pub states_same : (a : Normal) → state_joined a.0 a.0 ≡ a.0
states_same a =
    let f = newer_same stamp_cmp stamps_total exact_stamps a.0.0 in
    (λ i. (f i, λ key. above_both (f i) (record_same (a.0.1 key) i))) ∙ (λ i. (a.0.0, λ key. a.1 key i))

pub states_comm : (a b : State) → state_joined a b ≡ state_joined b a
states_comm a b =
    let f = newer_comm stamp_cmp stamps_total exact_stamps a.0 b.0 in
    λ i. (f i, λ key. above_both (f i) (record_comm (a.1 key) (b.1 key) i))

-- what is dropped below one floor is dropped below a greater one
inner_right : (f g : Option Moment) (x y : Record)
    → above_both (floor_joined f g) (record_joined x (above_both g y)) ≡ above_both (floor_joined f g) (record_joined x y)
inner_right f g x y = above_both_joined (floor_joined f g) x (above_both g y) ∙ ap (record_joined (above_both (floor_joined f g) x))
    (above_both_higher f g y) ∙ sym (above_both_joined (floor_joined f g) x y)

inner_left : (f g : Option Moment) (x y : Record)
    → above_both (floor_joined f g) (record_joined (above_both f x) y) ≡ above_both (floor_joined f g) (record_joined x y)
inner_left f g x y = above_both_joined (floor_joined f g) (above_both f x) y ∙ ap
    (λ r. record_joined r (above_both (floor_joined f g) y)) (above_both_lower f g x) ∙ sym (above_both_joined (floor_joined f g) x y)

pub states_assoc : (a b c : State) → state_joined a (state_joined b c) ≡ state_joined (state_joined a b) c
states_assoc a b c =
    let f = newer_assoc stamp_cmp stamps_total exact_stamps a.0 b.0 c.0 in
    let r = λ (key : List ℕ). record_assoc (a.1 key) (b.1 key) (c.1 key) in
    let left = λ (key : List ℕ). inner_right a.0 (floor_joined b.0 c.0) (a.1 key) (record_joined (b.1 key) (c.1 key)) in
    let right = λ (key : List ℕ). inner_left (floor_joined a.0 b.0) c.0 (record_joined (a.1 key) (b.1 key)) (c.1 key) in
    (λ i. (floor_joined a.0 (floor_joined b.0 c.0), λ key. left key i)) ∙ (λ i. (f i, λ key. above_both (f i) (r key i))) ∙ sym
    (λ i. (floor_joined (floor_joined a.0 b.0) c.0, λ key. right key i))

pub nothing_adds : (a : Normal) → state_joined (None, λ _. (None, None)) a.0 ≡ a.0
nothing_adds a = λ i. (a.0.0, λ key. a.1 key i)

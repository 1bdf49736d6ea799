-- Want of memory is no fault of the bytes.
use Rattle.std.proofs.Common.{◌≡◌, ℕ, zero, suc, ◌+◌, ◌^◌, Bool, true, false, cond, ◌&&◌, eqb, ltb, nat_le, List, [], ◌∷◌, length, Result, Ok, Err, IsOk, subst, sym, refl, arith}
use Rattle.geo_frame.specs.declared.fault.FrameFault.{FrameFault}
use Rattle.geo_frame.specs.declared.fault.FrameFault.TheVariants.{Field, Order, Memory}
use Rattle.geo_stamp.specs.Stamps.{last_time}
use Rattle.geo_delta.specs.Ranges.{sites_fit, stamp_fits}
use Rattle.geo_versions.specs.Maps.{Rec}
use Rattle.std.specs.Ordering.{nat_cmp, is_lt}
use Rattle.std.specs.Cmp.Lexicographic.{slice_cmp}
use Rattle.geo_records.specs.Keys.{is_key}
use Rattle.geo_records.specs.Lengths.{longest_value}
use Rattle.geo_frame.proofs.Fields.{bind_ok}
use Rattle.geo_frame.specs.Reading.{◌>>=◌, key_at, record_at, last_key, moment, part_at, byte_at, four_at, eight_at, floor_at, time_at, vector_at, sites_at, size_at, set_at, retired_at, wanted_at, bytes_at, tagged_bytes, offered_at, ask_in, offer_in}

abbrev pub Clean : {A : Type 0} → Result A FrameFault → Type 0
Clean (Ok x) = Unit {0}
Clean (Err e) = e ≡ Memory → ⊥

pub clean_cond : {A : Type 0} (b : Bool) (x y : Result A FrameFault) → Clean x → Clean y → Clean (cond b x y)
clean_cond true x y h k = h
clean_cond false x y h k = k

pub clean_then : {A B : Type 0} (r : Result A FrameFault) (f : A → Result B FrameFault) → Clean r → ((x : A) → Clean (f x)) → Clean (r >>= f)
clean_then (Ok x) f h k = k x
clean_then (Err e) f h k = h

pub field : Field ≡ Memory → ⊥
field h = absurd cc

pub not_memory : {A : Type 0} (r : Result A FrameFault) (e : FrameFault) → Clean r → r ≡ Err e → e ≡ Memory → ⊥
not_memory r e clean is = subst Clean is clean

pub clean_part : (n : ℕ) (bytes : List ℕ) → Clean (part_at n bytes)
unfolding part_at
clean_part n bytes = clean_cond (ltb (length bytes) n) _ _ field tt

pub clean_byte : (bytes : List ℕ) → Clean (byte_at bytes)
unfolding byte_at
clean_byte [] = field
clean_byte (b ∷ bytes) = tt

pub clean_four : (bytes : List ℕ) → Clean (four_at bytes)
unfolding four_at
clean_four bytes = clean_then (part_at 4 bytes) _ (clean_part 4 bytes) (λ _. tt)

clean_eight : (bytes : List ℕ) → Clean (eight_at bytes)
unfolding eight_at
clean_eight bytes = clean_then (part_at 8 bytes) _ (clean_part 8 bytes) (λ _. tt)

clean_time : (bytes : List ℕ) → Clean (time_at bytes)
unfolding time_at
clean_time bytes = clean_then (eight_at bytes) _ (clean_eight bytes) (λ time. clean_cond (nat_le time.0 last_time) (Ok time) (Err Field) tt field)

pub clean_vector : (n : ℕ) (bytes : List ℕ) → Clean (vector_at n bytes)
unfolding vector_at
clean_vector zero bytes = tt
clean_vector (suc n) bytes = clean_then (time_at bytes) _ (clean_time bytes) (λ first. clean_then (vector_at n first.1) _ (clean_vector n first.1) (λ _. tt))

pub clean_sites : (bytes : List ℕ) → Clean (sites_at bytes)
unfolding sites_at
clean_sites bytes = clean_then (byte_at bytes) _ (clean_byte bytes) (λ from. clean_then (byte_at from.1) _ (clean_byte from.1) (λ to. clean_then (byte_at to.1) _ (clean_byte to.1) (λ n. clean_cond (sites_fit from.0 to.0 n.0) _ _ tt field)))

pub clean_floor : (n : ℕ) (bytes : List ℕ) → Clean (floor_at n bytes)
unfolding floor_at
clean_floor n bytes = clean_then (eight_at bytes) _ (clean_eight bytes) (λ time. clean_then (byte_at time.1) _ (clean_byte time.1) (λ site.
    clean_cond (eqb time.0 0 && eqb site.0 0) _ _ tt (clean_cond (stamp_fits n (moment time.0 site.0)) _ _ tt field)))

order : Order ≡ Memory → ⊥
order h = absurd cc

pub clean_key : (before bytes : List ℕ) → Clean (key_at before bytes)
unfolding key_at
clean_key before bytes = clean_then (byte_at bytes) _ (clean_byte bytes) (λ size. clean_then (part_at size.0 size.1) _ (clean_part size.0 size.1) (λ key.
    clean_cond (is_key key.0) _ _ (clean_cond (is_lt (slice_cmp nat_cmp before key.0)) _ _ tt order) field))

clean_set : (n : ℕ) (bytes : List ℕ) → Clean (set_at n bytes)
unfolding set_at
clean_set n bytes = clean_then (eight_at bytes) _ (clean_eight bytes) (λ bits. clean_cond (ltb bits.0 (2 ^ n)) _ _ tt field)

pub clean_retired : (version n : ℕ) (bytes : List ℕ) → Clean (retired_at version n bytes)
unfolding retired_at
clean_retired version n bytes = clean_cond (eqb version 1) _ _ tt (clean_set n bytes)

-- ---- asks and offers

clean_size : (bytes : List ℕ) → Clean (size_at bytes)
unfolding size_at
clean_size bytes = clean_then (four_at bytes) _ (clean_four bytes) (λ size. clean_cond (nat_le size.0 longest_value) (Ok size) (Err Field) tt field)

clean_wanted : (bytes : List ℕ) → Clean (wanted_at bytes)
unfolding wanted_at
clean_wanted bytes = clean_then (sites_at bytes) _ (clean_sites bytes) (λ sites. clean_then (key_at [] sites.1) _ (clean_key [] sites.1) (λ key. clean_then (part_at 32 key.1) _ (clean_part 32 key.1) (λ _. tt)))

clean_bytes : (bytes : List ℕ) → Clean (bytes_at bytes)
unfolding bytes_at
clean_bytes bytes = clean_then (size_at bytes) _ (clean_size bytes) (λ size. clean_then (part_at size.0 size.1) _ (clean_part size.0 size.1) (λ _. tt))

clean_offered : (bytes : List ℕ) → Clean (offered_at bytes)
unfolding offered_at tagged_bytes
clean_offered bytes = clean_then (byte_at bytes) _ (clean_byte bytes) (λ tag. clean_cond (eqb tag.0 0) _ _ tt (clean_cond (eqb tag.0 1) (bytes_at tag.1) (Err Field) (clean_bytes tag.1) field))

pub clean_ask : (bytes : List ℕ) → Clean (ask_in bytes)
unfolding ask_in
clean_ask bytes = clean_then (wanted_at bytes) _ (clean_wanted bytes) (λ wanted. clean_cond (eqb (length wanted.1) 0) _ _ tt field)

pub clean_offer : (bytes : List ℕ) → Clean (offer_in bytes)
unfolding offer_in
clean_offer bytes = clean_then (wanted_at bytes) _ (clean_wanted bytes) (λ wanted. clean_then (offered_at wanted.1) _ (clean_offered wanted.1) (λ offered. clean_cond (eqb (length offered.1) 0) _ _ tt field))

-- ---- the first key

key_of_record : (n : ℕ) (before bytes : List ℕ) (x : (List ℕ × Rec) × List ℕ) → record_at n before bytes ≡ Ok x → IsOk (key_at before bytes)
unfolding record_at
key_of_record n before bytes x h = let b = bind_ok (key_at before bytes) _ x h in subst (λ (r : Result (List ℕ × List ℕ) FrameFault). IsOk r) (sym b.1) refl

-- nothing was read yet, or the first key was
abbrev pub FirstRead : ℕ → List (List ℕ × Rec) → List ℕ → List ℕ → Type 0
FirstRead zero rs bytes initial = (rs ≡ []) × (bytes ≡ initial)
FirstRead (suc i) rs bytes initial = IsOk (key_at [] initial)

pub first_read : (i : ℕ) (rs : List (List ℕ × Rec)) (bytes initial : List ℕ) → FirstRead i rs bytes initial → IsOk (key_at (last_key rs) bytes) → IsOk (key_at [] initial)
first_read zero rs bytes initial start here = subst (λ (p : List (List ℕ × Rec) × List ℕ). IsOk (key_at (last_key p.0) p.1)) (λ i. (start.0 i, start.1 i)) here
first_read (suc i) rs bytes initial later here = later

pub first_of_record : (n i : ℕ) (rs : List (List ℕ × Rec)) (bytes initial : List ℕ) (x : (List ℕ × Rec) × List ℕ) → FirstRead i rs bytes initial → record_at n (last_key rs) bytes ≡ Ok x → IsOk (key_at [] initial)
first_of_record n i rs bytes initial x so_far h = first_read i rs bytes initial so_far (key_of_record n (last_key rs) bytes x h)

pub first_on : (i j : ℕ) (new : List (List ℕ × Rec)) (after initial : List ℕ) → j ≡ i + 1 → IsOk (key_at [] initial) → FirstRead j new after initial
first_on i zero new after initial e h = absurd (omega (arith, e))
first_on i (suc j) new after initial e h = h

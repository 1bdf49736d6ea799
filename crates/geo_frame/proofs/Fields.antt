-- A field that is read is the field that was written, and what was written is read again.
use Rattle.std.proofs.Common.{◌≡◌, ℕ, zero, suc, ◌+◌, ◌^◌, ◌<◌, ◌≤◌, Bool, true, false, cond, ◌&&◌, eqb, ltb, leb, List, [], ◌∷◌, ◌++◌, length, get_or, take, drop, Option, Some, None, Result, Ok, Err, refl, sym, ap, subst, ◌∙◌, append_assoc, arith, inl, inr, true≢false, eq-eqb}
use Rattle.std.specs.Prelude.{◌⊎◌}
use Rattle.std.specs.Int.{w32, w64, from_be_bytes}
use Rattle.std.proofs.lemmas.Bool.{cases_lt, ltb-true, lt-ltb, ltb-false, le-ltb, eqb-true, leb-true, le-leb}
use Rattle.std.proofs.lemmas.List.{take_at, drop_at, take-append-drop, length-append, length-take, get_or-drop, get_or-take, get_or_past}
use Rattle.std.proofs.lemmas.List.Concat.{flat_map-cons}
use Rattle.std.proofs.lemmas.Nat.{be_bytes_4, be_bytes_8, from_be_bytes-to_be_bytes_4, from_be_bytes-to_be_bytes_8}
use Rattle.geo_stamp.specs.Stamps.{Moment, last_time}
use Rattle.geo_stamp.specs.Vectors.{greatest_of}
use Rattle.geo_frame.specs.declared.fault.FrameFault.{FrameFault}
use Rattle.geo_frame.specs.declared.fault.FrameFault.TheVariants.{Field}
use Rattle.geo_frame.specs.declared.route.Route.{Route}
use Rattle.geo_delta.specs.Ranges.{sites_fit, stamp_fits, floor_fits}
use Rattle.geo_frame.specs.Spelling.{four, eight, stamp_bytes, vector_bytes, floor_bytes, sites_bytes, retired_bytes}
use Rattle.geo_stamp.specs.Retired.{no_sites, set_fits, set_bits, bits_set}
use Rattle.geo_stamp.proofs.Sets.{fits_none, bits_back, bits_fit, bits_length, set_back, set_bits_fit, set_bits_few}
use Rattle.std.proofs.Math.Nat.{pow-le-pow_right}
use Rattle.geo_frame.specs.Reading.{◌>>=◌, Read, moment, part_at, byte_at, four_at, eight_at, stamp_at, floor_at, time_at, vector_at, sites_at, set_at, retired_at}
use Rattle.geo_frame.proofs.Lengths.{four_length, eight_length}

-- ---- tools

abbrev pub IsBytes : List ℕ → Type 0
IsBytes bytes = (i : ℕ) → get_or bytes i 0 < 256

pub IsBytes-drop : (n : ℕ) (bytes : List ℕ) → IsBytes bytes → IsBytes (drop n bytes)
IsBytes-drop n bytes h i = rw get_or-drop (h (n + i))

pub IsBytes-take : (n : ℕ) (bytes : List ℕ) → IsBytes bytes → IsBytes (take n bytes)
IsBytes-take n bytes h i =
    elim (cases_lt i n) [
      | inl lt ↦ rw (get_or-take n bytes i 0 lt) (h i)
      | inr le ↦ rw (get_or_past (take n bytes) i 0 (omega (arith, length-take n bytes))) (omega arith)
    ]

-- the value of a step that did not fail
pub bind_ok : {A B : Type 0} (r : Result A FrameFault) (f : A → Result B FrameFault) (y : B) → (r >>= f) ≡ Ok y → (x : A) × (r ≡ Ok x) × (f x ≡ Ok y)
bind_ok (Ok x) f y e = (x, refl, e)
bind_ok (Err d) f y e = absurd cc

-- a test that failed where it should, and one that held where it should
pub guard_ok : {A : Type 0} (b : Bool) (d : FrameFault) (x y : A) → cond b (Err d) (Ok x) ≡ Ok y → (b ≡ false) × (x ≡ y)
guard_ok true d x y e = absurd cc
guard_ok false d x y e = (refl, cc)

pub pass_ok : {A : Type 0} (b : Bool) (d : FrameFault) (x y : A) → cond b (Ok x) (Err d) ≡ Ok y → (b ≡ true) × (x ≡ y)
pass_ok true d x y e = (refl, cc)
pass_ok false d x y e = absurd cc

pub chosen : {A : Type 0} (b : Bool) (x y z : A) → cond b x y ≡ z → ((b ≡ true) × (x ≡ z)) ⊎ ((b ≡ false) × (y ≡ z))
chosen true x y z e = inl (refl, e)
chosen false x y z e = inr (refl, e)

abbrev done : {A : Type 0} → A → Result A FrameFault
done x = Ok x

pub ok_is : {A : Type 0} (x y : A) → done x ≡ done y → x ≡ y
ok_is x y e = cc

abbrev failed : {A : Type 0} → FrameFault → Result A FrameFault
failed f = Err f

pub not_ok : {A B : Type 0} (f : FrameFault) (x : A) → failed f ≡ Ok x → B
not_ok f x e = absurd cc

pub both_of : (a b : Bool) → (a && b) ≡ true → (a ≡ true) × (b ≡ true)
both_of true b e = (refl, e)
both_of false b e = absurd cc

pub both_are : (a b : Bool) → a ≡ true → b ≡ true → (a && b) ≡ true
both_are a b p q = rw (p, q) refl

-- what a reader took from the front
pub record Takes (bytes text rest : List ℕ) : Type 0 where
  pub parts : bytes ≡ text ++ rest
  pub rest_fits : IsBytes rest

pub Takes-then : (a x b y c : List ℕ) → Takes a x b → Takes b y c → Takes a (x ++ y) c
Takes-then a x b y c p q = record { parts = p.parts ∙ ap (λ (t : List ℕ). x ++ t) q.parts ∙ sym (append_assoc x y c); rest_fits = q.rest_fits }

-- ---- so many bytes, and numbers

pub part_takes : (n : ℕ) (bytes part rest : List ℕ) → IsBytes bytes → part_at n bytes ≡ Ok (part, rest) → Takes bytes part rest × (length part ≡ n) × IsBytes part
unfolding part_at
part_takes n bytes part rest fits e =
    let g = guard_ok (ltb (length bytes) n) Field (take n bytes, drop n bytes) (part, rest) e in
    let long : n ≤ length bytes = ltb-false _ _ g.0 in
    subst (λ (p : List ℕ × List ℕ). Takes bytes p.0 p.1 × (length p.0 ≡ n) × IsBytes p.0) g.1
    (record { parts = sym (take-append-drop n bytes); rest_fits = IsBytes-drop n bytes fits }, omega (arith, length-take n bytes), IsBytes-take n bytes fits)

pub part_again : (n : ℕ) (part rest : List ℕ) → length part ≡ n → part_at n (part ++ rest) ≡ Ok (part, rest)
unfolding part_at
part_again n part rest len =
    let long : ltb (length (part ++ rest)) n ≡ false = le-ltb _ _ (omega (arith, length-append part rest, len)) in
    rw (long, take_at part rest n len, drop_at part rest n len) refl

pub byte_takes : (bytes : List ℕ) (b : ℕ) (rest : List ℕ) → IsBytes bytes → byte_at bytes ≡ Ok (b, rest) → Takes bytes (b ∷ []) rest
unfolding byte_at
byte_takes [] b rest fits e = absurd cc
byte_takes (c ∷ bytes) b rest fits e = subst (λ (p : ℕ × List ℕ). Takes (c ∷ bytes) (p.0 ∷ []) p.1) (ok_is (c, bytes) (b, rest) e) (record { parts = refl; rest_fits = λ i. fits (suc i) })

pub byte_again : (b : ℕ) (rest : List ℕ) → byte_at (b ∷ rest) ≡ Ok (b, rest)
unfolding byte_at
byte_again b rest = refl

pub four_back : (n : ℕ) → n < 2 ^ 32 → from_be_bytes w32 (four n) ≡ n
unfolding four
four_back n lt = from_be_bytes-to_be_bytes_4 n lt

pub four_is : (part : List ℕ) → length part ≡ 4 → IsBytes part → four (from_be_bytes w32 part) ≡ part
unfolding four
four_is part len fits = be_bytes_4 part _ len fits refl

four_small : (part : List ℕ) → IsBytes part → from_be_bytes w32 part < 2 ^ 32
four_small part fits = omega (arith, fits 0, fits 1, fits 2, fits 3)

eight_back : (n : ℕ) → n < 2 ^ 64 → from_be_bytes w64 (eight n) ≡ n
unfolding eight
eight_back n lt = from_be_bytes-to_be_bytes_8 n lt

eight_is : (part : List ℕ) → length part ≡ 8 → IsBytes part → eight (from_be_bytes w64 part) ≡ part
unfolding eight
eight_is part len fits = be_bytes_8 part _ len fits refl

eight_small : (part : List ℕ) → IsBytes part → from_be_bytes w64 part < 2 ^ 64
eight_small part fits = omega (arith, fits 0, fits 1, fits 2, fits 3, fits 4, fits 5, fits 6, fits 7)

pub four_takes : (bytes : List ℕ) (n : ℕ) (rest : List ℕ) → IsBytes bytes → four_at bytes ≡ Ok (n, rest) → Takes bytes (four n) rest × (n < 2 ^ 32)
unfolding four_at
four_takes bytes n rest fits e =
    let a = bind_ok (part_at 4 bytes) (λ part. Ok (from_be_bytes w32 part.0, part.1)) (n, rest) e in
    let t = part_takes 4 bytes a.0.0 a.0.1 fits a.1 in
    subst (λ (p : ℕ × List ℕ). Takes bytes (four p.0) p.1 × (p.0 < 2 ^ 32)) (ok_is (from_be_bytes w32 a.0.0, a.0.1) (n, rest) a.2)
    (subst (λ (x : List ℕ). Takes bytes x a.0.1) (sym (four_is a.0.0 t.1 t.2)) t.0, four_small a.0.0 t.2)

pub four_again : (n : ℕ) (rest : List ℕ) → n < 2 ^ 32 → four_at (four n ++ rest) ≡ Ok (n, rest)
unfolding four_at
four_again n rest lt = rw (part_again 4 (four n) rest (four_length n), four_back n lt) refl

pub eight_takes : (bytes : List ℕ) (n : ℕ) (rest : List ℕ) → IsBytes bytes → eight_at bytes ≡ Ok (n, rest) → Takes bytes (eight n) rest × (n < 2 ^ 64)
unfolding eight_at
eight_takes bytes n rest fits e =
    let a = bind_ok (part_at 8 bytes) (λ part. Ok (from_be_bytes w64 part.0, part.1)) (n, rest) e in
    let t = part_takes 8 bytes a.0.0 a.0.1 fits a.1 in
    subst (λ (p : ℕ × List ℕ). Takes bytes (eight p.0) p.1 × (p.0 < 2 ^ 64)) (ok_is (from_be_bytes w64 a.0.0, a.0.1) (n, rest) a.2)
    (subst (λ (x : List ℕ). Takes bytes x a.0.1) (sym (eight_is a.0.0 t.1 t.2)) t.0, eight_small a.0.0 t.2)

pub eight_again : (n : ℕ) (rest : List ℕ) → n < 2 ^ 64 → eight_at (eight n ++ rest) ≡ Ok (n, rest)
unfolding eight_at
eight_again n rest lt = rw (part_again 8 (eight n) rest (eight_length n), eight_back n lt) refl

-- ---- stamps

time_small : (n : ℕ) (s : Moment) → stamp_fits n s ≡ true → (1 ≤ s.time) × (s.time < 2 ^ 64)
unfolding stamp_fits
time_small n s h =
    let a = both_of (leb 1 s.time && leb s.time last_time) ((leb 1 s.site && leb s.site 16) && leb s.site n) h in
    let b = both_of (leb 1 s.time) (leb s.time last_time) a.0 in
    (leb-true 1 s.time b.0, omega (arith, leb-true s.time last_time b.1))

stamp_parts : (s : Moment) (rest : List ℕ) → stamp_bytes s ++ rest ≡ eight s.time ++ (s.site ∷ rest)
unfolding stamp_bytes
stamp_parts s rest = append_assoc (eight s.time) (s.site ∷ []) rest

pub stamp_takes : (n : ℕ) (bytes : List ℕ) (s : Moment) (rest : List ℕ) → IsBytes bytes → stamp_at n bytes ≡ Ok (s, rest) → Takes bytes (stamp_bytes s) rest × (stamp_fits n s ≡ true)
unfolding stamp_at stamp_bytes
stamp_takes n bytes s rest fits e =
    let a = bind_ok (eight_at bytes) (λ time. byte_at time.1 >>= λ site. cond (stamp_fits n (moment time.0 site.0)) (Ok (moment time.0 site.0, site.1)) (Err Field)) (s, rest) e in
    let b = bind_ok (byte_at a.0.1) (λ site. cond (stamp_fits n (moment a.0.0 site.0)) (Ok (moment a.0.0 site.0, site.1)) (Err Field)) (s, rest) a.2 in
    let g = pass_ok (stamp_fits n (moment a.0.0 b.0.0)) Field (moment a.0.0 b.0.0, b.0.1) (s, rest) b.2 in
    let t0 = eight_takes bytes a.0.0 a.0.1 fits a.1 in
    let t1 = byte_takes a.0.1 b.0.0 b.0.1 t0.0.rest_fits b.1 in
    subst (λ (p : Moment × List ℕ). Takes bytes (eight p.0.time ++ p.0.site ∷ []) p.1 × (stamp_fits n p.0 ≡ true)) g.1
    (Takes-then bytes (eight a.0.0) a.0.1 (b.0.0 ∷ []) b.0.1 t0.0 t1, g.0)

pub stamp_again : (n : ℕ) (s : Moment) (rest : List ℕ) → stamp_fits n s ≡ true → stamp_at n (stamp_bytes s ++ rest) ≡ Ok (s, rest)
unfolding stamp_at
stamp_again n s rest h =
    let small = time_small n s h in
    ap (stamp_at n) (stamp_parts s rest) ∙ rw (eight_again s.time (s.site ∷ rest) small.1, byte_again s.site rest, h) refl

-- ---- floors

zeros_are : (a b : ℕ) → (eqb a 0 && eqb b 0) ≡ true → (a ≡ 0) × (b ≡ 0)
zeros_are a b h = let p = both_of (eqb a 0) (eqb b 0) h in (eqb-true a 0 p.0, eqb-true b 0 p.1)

not_zeros : (a b : ℕ) → 1 ≤ a → (eqb a 0 && eqb b 0) ≡ false
not_zeros a b h = let e : eqb a 0 ≡ false = grind arith in rw e refl

pub floor_takes : (n : ℕ) (bytes : List ℕ) (f : Option Moment) (rest : List ℕ) → IsBytes bytes → floor_at n bytes ≡ Ok (f, rest) → Takes bytes (floor_bytes f) rest × (floor_fits n f ≡ true)
unfolding floor_at floor_bytes floor_fits stamp_bytes
floor_takes n bytes f rest fits e =
    let inner : ℕ → ℕ → List ℕ → Read (Option Moment) = λ time site more. cond (stamp_fits n (moment time site)) (Ok (Some (moment time site), more)) (Err Field) in
    let a = bind_ok (eight_at bytes) (λ time. byte_at time.1 >>= λ site. cond (eqb time.0 0 && eqb site.0 0) (Ok (None, site.1)) (inner time.0 site.0 site.1)) (f, rest) e in
    let b = bind_ok (byte_at a.0.1) (λ site. cond (eqb a.0.0 0 && eqb site.0 0) (Ok (None, site.1)) (inner a.0.0 site.0 site.1)) (f, rest) a.2 in
    let t0 = eight_takes bytes a.0.0 a.0.1 fits a.1 in
    let t1 = byte_takes a.0.1 b.0.0 b.0.1 t0.0.rest_fits b.1 in
    let both = Takes-then bytes (eight a.0.0) a.0.1 (b.0.0 ∷ []) b.0.1 t0.0 t1 in
    let Goal : Option Moment × List ℕ → Type 0 = λ p. Takes bytes (floor_bytes p.0) p.1 × (floor_fits n p.0 ≡ true) in
    elim (chosen (eqb a.0.0 0 && eqb b.0.0 0) (Ok (None, b.0.1)) (inner a.0.0 b.0.0 b.0.1) (Ok (f, rest)) b.2) [
      | inl c ↦
          let z = zeros_are a.0.0 b.0.0 c.0 in
          subst Goal (ok_is (None, b.0.1) (f, rest) c.1) (subst (λ (p : ℕ × ℕ). Takes bytes (eight p.0 ++ p.1 ∷ []) b.0.1) (λ i. (z.0 i, z.1 i)) both, refl)
      | inr c ↦
          let g = pass_ok (stamp_fits n (moment a.0.0 b.0.0)) Field (Some (moment a.0.0 b.0.0), b.0.1) (f, rest) c.1 in
          subst Goal g.1 (both, g.0)
    ]

floor_parts : (rest : List ℕ) → (eight 0 ++ 0 ∷ []) ++ rest ≡ eight 0 ++ (0 ∷ rest)
floor_parts rest = append_assoc (eight 0) (0 ∷ []) rest

no_floor_again : (n : ℕ) (rest : List ℕ) → floor_at n (eight 0 ++ (0 ∷ rest)) ≡ Ok (None, rest)
unfolding floor_at
no_floor_again n rest = rw (eight_again 0 (0 ∷ rest) (omega arith), byte_again 0 rest) refl

some_again : (n : ℕ) (s : Moment) (rest : List ℕ) → stamp_fits n s ≡ true → floor_at n (eight s.time ++ (s.site ∷ rest)) ≡ Ok (Some s, rest)
unfolding floor_at
some_again n s rest h =
    let small = time_small n s h in
    rw (eight_again s.time (s.site ∷ rest) small.1, byte_again s.site rest, not_zeros s.time s.site small.0, h) refl

pub floor_again : (n : ℕ) (f : Option Moment) (rest : List ℕ) → floor_fits n f ≡ true → floor_at n (floor_bytes f ++ rest) ≡ Ok (f, rest)
unfolding floor_bytes floor_fits
floor_again n None rest h = ap (floor_at n) (floor_parts rest) ∙ no_floor_again n rest
floor_again n (Some s) rest h = ap (floor_at n) (stamp_parts s rest) ∙ some_again n s rest h

-- ---- vectors

pub time_takes : (bytes : List ℕ) (t : ℕ) (rest : List ℕ) → IsBytes bytes → time_at bytes ≡ Ok (t, rest) → Takes bytes (eight t) rest × (t ≤ last_time)
unfolding time_at
time_takes bytes t rest fits e =
    let a = bind_ok (eight_at bytes) (λ time. cond (leb time.0 last_time) (Ok time) (Err Field)) (t, rest) e in
    let g = pass_ok (leb a.0.0 last_time) Field a.0 (t, rest) a.2 in
    let t0 = eight_takes bytes a.0.0 a.0.1 fits a.1 in
    subst (λ (p : ℕ × List ℕ). Takes bytes (eight p.0) p.1 × (p.0 ≤ last_time)) g.1 (t0.0, leb-true a.0.0 last_time g.0)

pub time_again : (t : ℕ) (rest : List ℕ) → t ≤ last_time → time_at (eight t ++ rest) ≡ Ok (t, rest)
unfolding time_at
time_again t rest le = rw (eight_again t rest (omega (arith, le)), le-leb t last_time le) refl

vector_more : (t : ℕ) (v : List ℕ) → vector_bytes (t ∷ v) ≡ eight t ++ vector_bytes v
unfolding vector_bytes
vector_more t v = flat_map-cons eight t v

vector_none : vector_bytes [] ≡ []
unfolding vector_bytes
vector_none = refl

pub vector_takes : (n : ℕ) (bytes v rest : List ℕ) → IsBytes bytes → vector_at n bytes ≡ Ok (v, rest) → Takes bytes (vector_bytes v) rest × (length v ≡ n) × (greatest_of v ≤ last_time)
unfolding vector_at
vector_takes zero bytes v rest fits e =
    subst (λ (p : List ℕ × List ℕ). Takes bytes (vector_bytes p.0) p.1 × (length p.0 ≡ 0) × (greatest_of p.0 ≤ last_time)) (ok_is ([], bytes) (v, rest) e)
    (subst (λ (x : List ℕ). Takes bytes x bytes) (sym vector_none) (record { parts = refl; rest_fits = fits }), refl, omega arith)
vector_takes (suc n) bytes v rest fits e =
    let a = bind_ok (time_at bytes) (λ first. vector_at n first.1 >>= λ others. Ok (first.0 ∷ others.0, others.1)) (v, rest) e in
    let b = bind_ok (vector_at n a.0.1) (λ others. Ok (a.0.0 ∷ others.0, others.1)) (v, rest) a.2 in
    let t0 = time_takes bytes a.0.0 a.0.1 fits a.1 in
    let t1 = vector_takes n a.0.1 b.0.0 b.0.1 t0.0.rest_fits b.1 in
    subst (λ (p : List ℕ × List ℕ). Takes bytes (vector_bytes p.0) p.1 × (length p.0 ≡ suc n) × (greatest_of p.0 ≤ last_time)) (ok_is (a.0.0 ∷ b.0.0, b.0.1) (v, rest) b.2)
    (subst (λ (x : List ℕ). Takes bytes x b.0.1) (sym (vector_more a.0.0 b.0.0)) (Takes-then bytes (eight a.0.0) a.0.1 (vector_bytes b.0.0) b.0.1 t0.0 t1.0), ap suc t1.1, omega (arith, t0.1, t1.2))

pub vector_again : (v rest : List ℕ) → greatest_of v ≤ last_time → vector_at (length v) (vector_bytes v ++ rest) ≡ Ok (v, rest)
unfolding vector_at
vector_again [] rest le = ap (λ (x : List ℕ). Ok ([], x ++ rest)) vector_none
vector_again (t ∷ v) rest le =
    let parts : vector_bytes (t ∷ v) ++ rest ≡ eight t ++ (vector_bytes v ++ rest) = ap (λ (x : List ℕ). x ++ rest) (vector_more t v) ∙ append_assoc (eight t) (vector_bytes v) rest in
    ap (vector_at (suc (length v))) parts ∙ rw (time_again t (vector_bytes v ++ rest) (omega (arith, le)), vector_again v rest (omega (arith, le))) refl

-- ---- routes

pub sites_takes : (bytes : List ℕ) (r : Route) (rest : List ℕ) → IsBytes bytes → sites_at bytes ≡ Ok (r, rest) → Takes bytes (sites_bytes r.from r.to r.sites) rest × (sites_fit r.from r.to r.sites ≡ true)
unfolding sites_at sites_bytes
sites_takes bytes r rest fits e =
    let made : ℕ → ℕ → ℕ → Route = λ from to n. record { from = from; to = to; sites = n } in
    let last : ℕ → ℕ → ℕ × List ℕ → Read Route = λ from to n. cond (sites_fit from to n.0) (Ok (made from to n.0, n.1)) (Err Field) in
    let a = bind_ok (byte_at bytes) (λ from. byte_at from.1 >>= λ to. byte_at to.1 >>= λ n. last from.0 to.0 n) (r, rest) e in
    let b = bind_ok (byte_at a.0.1) (λ to. byte_at to.1 >>= λ n. last a.0.0 to.0 n) (r, rest) a.2 in
    let c = bind_ok (byte_at b.0.1) (λ n. last a.0.0 b.0.0 n) (r, rest) b.2 in
    let g = pass_ok (sites_fit a.0.0 b.0.0 c.0.0) Field (made a.0.0 b.0.0 c.0.0, c.0.1) (r, rest) c.2 in
    let t0 = byte_takes bytes a.0.0 a.0.1 fits a.1 in
    let t1 = byte_takes a.0.1 b.0.0 b.0.1 t0.rest_fits b.1 in
    let t2 = byte_takes b.0.1 c.0.0 c.0.1 t1.rest_fits c.1 in
    let t01 = Takes-then bytes (a.0.0 ∷ []) a.0.1 (b.0.0 ∷ []) b.0.1 t0 t1 in
    subst (λ (p : Route × List ℕ). Takes bytes (p.0.from ∷ p.0.to ∷ p.0.sites ∷ []) p.1 × (sites_fit p.0.from p.0.to p.0.sites ≡ true)) g.1
    (Takes-then bytes (a.0.0 ∷ b.0.0 ∷ []) b.0.1 (c.0.0 ∷ []) c.0.1 t01 t2, g.0)

pub sites_again : (from to n : ℕ) (rest : List ℕ) → sites_fit from to n ≡ true → sites_at (sites_bytes from to n ++ rest) ≡ Ok (record { from = from; to = to; sites = n }, rest)
unfolding sites_at sites_bytes byte_at
sites_again from to n rest h = rw h refl

-- ---- retired sites

-- a set of sites up to a number
pub record IsSet (n : ℕ) (set : List Bool) : Type 0 where
  pub fits : set_fits n set ≡ true
  pub places : length set ≡ 16

power_most : (n : ℕ) → n ≤ 16 → 2 ^ n ≤ 65536
power_most n le = pow-le-pow_right {n = 2} (omega arith) le

set_takes : (n : ℕ) (bytes : List ℕ) (set : List Bool) (rest : List ℕ) → n ≤ 16 → IsBytes bytes → set_at n bytes ≡ Ok (set, rest) → Takes bytes (eight (set_bits set)) rest × IsSet n set
unfolding set_at
set_takes n bytes set rest few fits e =
    let a = bind_ok (eight_at bytes) (λ bits. cond (ltb bits.0 (2 ^ n)) (Ok (bits_set 16 bits.0, bits.1)) (Err Field)) (set, rest) e in
    let g = pass_ok (ltb a.0.0 (2 ^ n)) Field (bits_set 16 a.0.0, a.0.1) (set, rest) a.2 in
    let lt : a.0.0 < 2 ^ n = ltb-true _ _ g.0 in
    let most = power_most n few in
    let t = eight_takes bytes a.0.0 a.0.1 fits a.1 in
    let back : set_bits (bits_set 16 a.0.0) ≡ a.0.0 = bits_back 16 a.0.0 (omega (arith, lt, most)) in
    subst (λ (p : List Bool × List ℕ). Takes bytes (eight (set_bits p.0)) p.1 × IsSet n p.0) g.1
    (subst (λ (k : ℕ). Takes bytes (eight k) a.0.1) (sym back) t.0, record { fits = bits_fit 16 n a.0.0 lt; places = bits_length 16 a.0.0 })

set_again : (n : ℕ) (set : List Bool) (rest : List ℕ) → IsSet n set → set_at n (eight (set_bits set) ++ rest) ≡ Ok (set, rest)
unfolding set_at
set_again n set rest h =
    let lt : set_bits set < 2 ^ n = set_bits_fit n set h.fits in
    let few : set_bits set < 65536 = set_bits_few set 16 (omega (arith, h.places)) in
    rw (eight_again (set_bits set) rest (omega (arith, few)), lt-ltb _ _ lt, set_back 16 set h.places) refl

-- version 1 tells of none
pub record IsRetired (version n : ℕ) (set : List Bool) : Type 0 where
  pub is_set : IsSet n set
  pub none : version ≡ 1 → set ≡ no_sites

pub retired_takes : (version n : ℕ) (bytes : List ℕ) (set : List Bool) (rest : List ℕ) → n ≤ 16 → IsBytes bytes → retired_at version n bytes ≡ Ok (set, rest) → Takes bytes (retired_bytes version set) rest × IsRetired version n set
unfolding retired_at retired_bytes
retired_takes version n bytes set rest few fits e =
    elim (chosen (eqb version 1) (Ok (no_sites, bytes)) (set_at n bytes) (Ok (set, rest)) e) [
      | inl c ↦ rw c.0 (subst (λ (p : List Bool × List ℕ). Takes bytes [] p.1 × IsRetired version n p.0) (ok_is (no_sites, bytes) (set, rest) c.1)
          (record { parts = refl; rest_fits = fits }, record { is_set = record { fits = fits_none n; places = refl }; none = λ _. refl }))
      | inr c ↦ let t = set_takes n bytes set rest few fits c.1 in rw c.0 (t.0, record { is_set = t.1; none = λ one. absurd (true≢false (sym (eq-eqb version 1 one) ∙ c.0)) })
    ]

pub retired_again : (version n : ℕ) (set : List Bool) (rest : List ℕ) → IsRetired version n set → retired_at version n (retired_bytes version set ++ rest) ≡ Ok (set, rest)
unfolding retired_at retired_bytes
retired_again version n set rest h = by (eqb version 1) refl
  where
    by : (old : Bool) → eqb version 1 ≡ old → cond old (Ok (no_sites, cond old [] (eight (set_bits set)) ++ rest)) (set_at n (cond old [] (eight (set_bits set)) ++ rest)) ≡ Ok (set, rest)
    by true e = let none = h.none (eqb-true version 1 e) in ap (λ (s : List Bool). Ok (s, rest)) (sym none)
    by false e = set_again n set rest h.is_set

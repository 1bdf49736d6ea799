-- The same for records: what is read was written so, and what was written is read again.
use Rattle.std.proofs.Common.{◌≡◌, ℕ, zero, suc, ◌^◌, ◌<◌, true, cond, ◌&&◌, eqb, ltb, leb, List, [], ◌∷◌, ◌++◌, length, Some, None, Ok, Err, refl, sym, ap, subst, ◌∙◌, append_assoc, arith, inl, inr}
use Rattle.std.specs.List.{flat_map, list_all}
use Rattle.std.specs.Ordering.{nat_cmp, is_lt}
use Rattle.std.specs.declared.cmp.Ordering.{Ordering}
use Rattle.std.specs.declared.cmp.Ordering.TheVariants.{Less, Equal, Greater}
use Rattle.std.specs.Cmp.Lexicographic.{slice_cmp}
use Rattle.std.proofs.lemmas.Bool.{eqb-true, eq-eqb, leb-true, ltb-true, lt-ltb}
use Rattle.std.proofs.lemmas.List.{append-nil, nil_from_length}
use Rattle.std.proofs.lemmas.List.Concat.{flat_map-cons}
use Rattle.geo_stamp.specs.Stamps.{Moment}
use Rattle.geo_records.specs.Keys.{is_key}
use Rattle.geo_versions.specs.Maps.{Rec, Above, Rising, has_register}
use Rattle.geo_records.specs.Operations.{Register}
use Rattle.geo_records.specs.declared.body.Body.{Body}
use Rattle.geo_records.specs.declared.body.Body.TheVariants.{Gone, Value}
use Rattle.geo_frame.specs.declared.fault.FrameFault.TheVariants.{Field, Order}
use Rattle.geo_delta.specs.Ranges.{stamp_fits, content_fits, body_fits, expiry_fits, rec_fits, record_fits}
use Rattle.geo_records.specs.Lengths.{longest_value}
use Rattle.geo_frame.specs.Spelling.{four, eight, stamp_bytes, body_bytes, expiry_bytes, key_bytes, rec_bytes, record_bytes, records_bytes}
use Rattle.geo_frame.specs.Reading.{◌>>=◌, Read, part_at, byte_at, four_at, eight_at, stamp_at, size_at, gone_at, value_at, tagged_body, body_at, expiry_at, tagged_expiry, latest_at, rec_with, rec_at, key_at, record_at, records_at, all_records}
use Rattle.geo_frame.proofs.Fields.{IsBytes, bind_ok, pass_ok, chosen, ok_is, not_ok, both_of, both_are, Takes, Takes-then, part_takes, part_again, byte_takes, byte_again, four_takes, four_again, eight_takes, eight_again, stamp_takes, stamp_again}

-- ---- bodies

pub size_takes : (bytes : List ℕ) (n : ℕ) (rest : List ℕ) → IsBytes bytes → size_at bytes ≡ Ok (n, rest) → Takes bytes (four n) rest × (leb n longest_value ≡ true)
unfolding size_at
size_takes bytes n rest fits e =
    let a = bind_ok (four_at bytes) (λ size. cond (leb size.0 longest_value) (Ok size) (Err Field)) (n, rest) e in
    let g = pass_ok (leb a.0.0 longest_value) Field a.0 (n, rest) a.2 in
    let t0 = four_takes bytes a.0.0 a.0.1 fits a.1 in
    subst (λ (p : ℕ × List ℕ). Takes bytes (four p.0) p.1 × (leb p.0 longest_value ≡ true)) g.1 (t0.0, g.0)

pub size_again : (n : ℕ) (rest : List ℕ) → leb n longest_value ≡ true → size_at (four n ++ rest) ≡ Ok (n, rest)
unfolding size_at
size_again n rest h = rw (four_again n rest (omega (arith, leb-true n longest_value h)), h) refl

-- what stands behind a tag
record Behind (tag n : ℕ) (bytes : List ℕ) (r : Register Body) (rest : List ℕ) : Type 0 where
  text : List ℕ
  takes : Takes bytes text rest
  spelled : body_bytes r ≡ tag ∷ text
  in_range : body_fits n r ≡ true

gone_takes : (n : ℕ) (bytes : List ℕ) (r : Register Body) (rest : List ℕ) → IsBytes bytes → gone_at n bytes ≡ Ok (r, rest) → Behind 1 n bytes r rest
unfolding gone_at body_bytes body_fits
gone_takes n bytes r rest fits e =
    let a = bind_ok (stamp_at n bytes) (λ stamp. Ok (Some (stamp.0, Gone), stamp.1)) (r, rest) e in
    let t = stamp_takes n bytes a.0.0 a.0.1 fits a.1 in
    subst (λ (p : Register Body × List ℕ). Behind 1 n bytes p.0 p.1) (ok_is (Some (a.0.0, Gone), a.0.1) (r, rest) a.2)
    (record { text = stamp_bytes a.0.0; takes = t.0; spelled = refl; in_range = both_are _ _ t.1 refl })

value_takes : (n : ℕ) (bytes : List ℕ) (r : Register Body) (rest : List ℕ) → IsBytes bytes → value_at n bytes ≡ Ok (r, rest) → Behind 2 n bytes r rest
unfolding value_at body_bytes body_fits
value_takes n bytes r rest fits e =
    let a = bind_ok (stamp_at n bytes) (λ stamp. part_at 32 stamp.1 >>= λ digest. four_at digest.1 >>= λ flags. size_at flags.1 >>= λ size. Ok (Some (stamp.0, Value digest.0 flags.0 size.0), size.1)) (r, rest) e in
    let b = bind_ok (part_at 32 a.0.1) (λ digest. four_at digest.1 >>= λ flags. size_at flags.1 >>= λ size. Ok (Some (a.0.0, Value digest.0 flags.0 size.0), size.1)) (r, rest) a.2 in
    let c = bind_ok (four_at b.0.1) (λ flags. size_at flags.1 >>= λ size. Ok (Some (a.0.0, Value b.0.0 flags.0 size.0), size.1)) (r, rest) b.2 in
    let d = bind_ok (size_at c.0.1) (λ size. Ok (Some (a.0.0, Value b.0.0 c.0.0 size.0), size.1)) (r, rest) c.2 in
    let t0 = stamp_takes n bytes a.0.0 a.0.1 fits a.1 in
    let t1 = part_takes 32 a.0.1 b.0.0 b.0.1 t0.0.rest_fits b.1 in
    let t2 = four_takes b.0.1 c.0.0 c.0.1 t1.0.rest_fits c.1 in
    let t3 = size_takes c.0.1 d.0.0 d.0.1 t2.0.rest_fits d.1 in
    let t01 = Takes-then bytes (stamp_bytes a.0.0) a.0.1 b.0.0 b.0.1 t0.0 t1.0 in
    let t02 = Takes-then bytes (stamp_bytes a.0.0 ++ b.0.0) b.0.1 (four c.0.0) c.0.1 t01 t2.0 in
    let t03 = Takes-then bytes (stamp_bytes a.0.0 ++ b.0.0 ++ four c.0.0) c.0.1 (four d.0.0) d.0.1 t02 t3.0 in
    let content : content_fits (Value b.0.0 c.0.0 d.0.0) ≡ true = both_are _ _ (eq-eqb _ _ t1.1) (both_are _ _ (lt-ltb _ _ t2.1) t3.1) in
    subst (λ (p : Register Body × List ℕ). Behind 2 n bytes p.0 p.1) (ok_is (Some (a.0.0, Value b.0.0 c.0.0 d.0.0), d.0.1) (r, rest) d.2)
    (record { text = stamp_bytes a.0.0 ++ b.0.0 ++ four c.0.0 ++ four d.0.0; takes = t03; spelled = refl; in_range = both_are _ _ t0.1 content })

none_takes : (n : ℕ) (bytes : List ℕ) (r : Register Body) (rest : List ℕ) → IsBytes bytes → None ≡ r → bytes ≡ rest → Behind 0 n bytes r rest
unfolding body_bytes body_fits
none_takes n bytes r rest fits e f =
    subst (λ (r : Register Body). Behind 0 n bytes r rest) e (subst (λ (rest : List ℕ). Behind 0 n bytes None rest) f (record { text = []; takes = record { parts = refl; rest_fits = fits }; spelled = refl; in_range = refl }))

tagged_takes : (n tag : ℕ) (bytes : List ℕ) (r : Register Body) (rest : List ℕ) → IsBytes bytes → tagged_body n tag bytes ≡ Ok (r, rest) → Behind tag n bytes r rest
unfolding tagged_body
tagged_takes n tag bytes r rest fits e =
    let two : Read (Register Body) = cond (eqb tag 2) (value_at n bytes) (Err Field) in
    let one : Read (Register Body) = cond (eqb tag 1) (gone_at n bytes) two in
    let Goal : ℕ → Type 0 = λ tag. Behind tag n bytes r rest in
    elim (chosen (eqb tag 0) (Ok (None, bytes)) one (Ok (r, rest)) e) [
      | inl c ↦
          let p = ok_is (None, bytes) (r, rest) c.1 in
          subst Goal (sym (eqb-true tag 0 c.0)) (none_takes n bytes r rest fits (ap (λ (p : Register Body × List ℕ). p.0) p) (ap (λ (p : Register Body × List ℕ). p.1) p))
      | inr c ↦ elim (chosen (eqb tag 1) (gone_at n bytes) two (Ok (r, rest)) c.1) [
        | inl d ↦ subst Goal (sym (eqb-true tag 1 d.0)) (gone_takes n bytes r rest fits d.1)
        | inr d ↦ elim (chosen (eqb tag 2) (value_at n bytes) (Err Field) (Ok (r, rest)) d.1) [
          | inl f ↦ subst Goal (sym (eqb-true tag 2 f.0)) (value_takes n bytes r rest fits f.1)
          | inr f ↦ not_ok Field (r, rest) f.1
        ]
      ]
    ]

pub body_takes : (n : ℕ) (bytes : List ℕ) (r : Register Body) (rest : List ℕ) → IsBytes bytes → body_at n bytes ≡ Ok (r, rest) → Takes bytes (body_bytes r) rest × (body_fits n r ≡ true)
unfolding body_at
body_takes n bytes r rest fits e =
    let a = bind_ok (byte_at bytes) (λ tag. tagged_body n tag.0 tag.1) (r, rest) e in
    let t0 = byte_takes bytes a.0.0 a.0.1 fits a.1 in
    let t1 = tagged_takes n a.0.0 a.0.1 r rest t0.rest_fits a.2 in
    (subst (λ (x : List ℕ). Takes bytes x rest) (sym t1.spelled) (Takes-then bytes (a.0.0 ∷ []) a.0.1 t1.text rest t0 t1.takes), t1.in_range)

value_parts : (s : Moment) (digest : List ℕ) (flags size : ℕ) (rest : List ℕ) → (stamp_bytes s ++ digest ++ four flags ++ four size) ++ rest ≡ stamp_bytes s ++ (digest ++ (four flags ++ (four size ++ rest)))
value_parts s digest flags size rest = append_assoc (stamp_bytes s ++ digest ++ four flags) (four size) rest ∙ append_assoc (stamp_bytes s ++ digest) (four flags) (four size ++ rest) ∙ append_assoc (stamp_bytes s) digest (four flags ++ (four size ++ rest))

gone_again : (n : ℕ) (s : Moment) (rest : List ℕ) → stamp_fits n s ≡ true → gone_at n (stamp_bytes s ++ rest) ≡ Ok (Some (s, Gone), rest)
unfolding gone_at
gone_again n s rest h = rw (stamp_again n s rest h) refl

value_again : (n : ℕ) (s : Moment) (digest : List ℕ) (flags size : ℕ) (rest : List ℕ) → stamp_fits n s ≡ true → content_fits (Value digest flags size) ≡ true
    → value_at n (stamp_bytes s ++ (digest ++ (four flags ++ (four size ++ rest)))) ≡ Ok (Some (s, Value digest flags size), rest)
unfolding value_at
value_again n s digest flags size rest h content =
    let a = both_of (eqb (length digest) 32) (ltb flags (2 ^ 32) && leb size longest_value) content in
    let b = both_of (ltb flags (2 ^ 32)) (leb size longest_value) a.1 in
    rw (stamp_again n s (digest ++ (four flags ++ (four size ++ rest))) h, part_again 32 digest (four flags ++ (four size ++ rest)) (eqb-true _ _ a.0), four_again flags (four size ++ rest) (ltb-true _ _ b.0), size_again size rest b.1) refl

tagged_0 : (n : ℕ) (bytes : List ℕ) → body_at n (0 ∷ bytes) ≡ Ok (None, bytes)
unfolding body_at byte_at tagged_body
tagged_0 n bytes = refl

tagged_1 : (n : ℕ) (bytes : List ℕ) → body_at n (1 ∷ bytes) ≡ gone_at n bytes
unfolding body_at byte_at tagged_body
tagged_1 n bytes = refl

tagged_2 : (n : ℕ) (bytes : List ℕ) → body_at n (2 ∷ bytes) ≡ value_at n bytes
unfolding body_at byte_at tagged_body
tagged_2 n bytes = refl

pub body_again : (n : ℕ) (r : Register Body) (rest : List ℕ) → body_fits n r ≡ true → body_at n (body_bytes r ++ rest) ≡ Ok (r, rest)
unfolding body_bytes body_fits
body_again n None rest h = tagged_0 n rest
body_again n (Some (s, Gone)) rest h = tagged_1 n (stamp_bytes s ++ rest) ∙ gone_again n s rest (both_of (stamp_fits n s) true h).0
body_again n (Some (s, Value digest flags size)) rest h =
    let p = both_of (stamp_fits n s) (content_fits (Value digest flags size)) h in
    tagged_2 n ((stamp_bytes s ++ digest ++ four flags ++ four size) ++ rest) ∙ ap (value_at n) (value_parts s digest flags size rest) ∙ value_again n s digest flags size rest p.0 p.1

-- ---- expiries

record LatestBehind (tag n : ℕ) (bytes : List ℕ) (r : Register ℕ) (rest : List ℕ) : Type 0 where
  text : List ℕ
  takes : Takes bytes text rest
  spelled : expiry_bytes r ≡ tag ∷ text
  in_range : expiry_fits n r ≡ true

expiry_takes : (n : ℕ) (bytes : List ℕ) (r : Register ℕ) (rest : List ℕ) → IsBytes bytes → expiry_at n bytes ≡ Ok (r, rest) → LatestBehind 1 n bytes r rest
unfolding expiry_at expiry_fits expiry_bytes
expiry_takes n bytes r rest fits e =
    let a = bind_ok (stamp_at n bytes) (λ stamp. eight_at stamp.1 >>= λ expiry. Ok (Some (stamp.0, expiry.0), expiry.1)) (r, rest) e in
    let b = bind_ok (eight_at a.0.1) (λ expiry. Ok (Some (a.0.0, expiry.0), expiry.1)) (r, rest) a.2 in
    let t0 = stamp_takes n bytes a.0.0 a.0.1 fits a.1 in
    let t1 = eight_takes a.0.1 b.0.0 b.0.1 t0.0.rest_fits b.1 in
    subst (λ (p : Register ℕ × List ℕ). LatestBehind 1 n bytes p.0 p.1) (ok_is (Some (a.0.0, b.0.0), b.0.1) (r, rest) b.2)
    (record { text = stamp_bytes a.0.0 ++ eight b.0.0; takes = Takes-then bytes (stamp_bytes a.0.0) a.0.1 (eight b.0.0) b.0.1 t0.0 t1.0; spelled = refl; in_range = both_are _ _ t0.1 (lt-ltb _ _ t1.1) })

never_takes : (n : ℕ) (bytes : List ℕ) (r : Register ℕ) (rest : List ℕ) → IsBytes bytes → None ≡ r → bytes ≡ rest → LatestBehind 0 n bytes r rest
unfolding expiry_bytes expiry_fits
never_takes n bytes r rest fits e f =
    subst (λ (r : Register ℕ). LatestBehind 0 n bytes r rest) e (subst (λ (rest : List ℕ). LatestBehind 0 n bytes None rest) f (record { text = []; takes = record { parts = refl; rest_fits = fits }; spelled = refl; in_range = refl }))

latest_behind : (n tag : ℕ) (bytes : List ℕ) (r : Register ℕ) (rest : List ℕ) → IsBytes bytes → tagged_expiry n tag bytes ≡ Ok (r, rest) → LatestBehind tag n bytes r rest
unfolding tagged_expiry
latest_behind n tag bytes r rest fits e =
    let one : Read (Register ℕ) = cond (eqb tag 1) (expiry_at n bytes) (Err Field) in
    let Goal : ℕ → Type 0 = λ tag. LatestBehind tag n bytes r rest in
    elim (chosen (eqb tag 0) (Ok (None, bytes)) one (Ok (r, rest)) e) [
      | inl c ↦
          let p = ok_is (None, bytes) (r, rest) c.1 in
          subst Goal (sym (eqb-true tag 0 c.0)) (never_takes n bytes r rest fits (ap (λ (p : Register ℕ × List ℕ). p.0) p) (ap (λ (p : Register ℕ × List ℕ). p.1) p))
      | inr c ↦ elim (chosen (eqb tag 1) (expiry_at n bytes) (Err Field) (Ok (r, rest)) c.1) [
        | inl d ↦ subst Goal (sym (eqb-true tag 1 d.0)) (expiry_takes n bytes r rest fits d.1)
        | inr d ↦ not_ok Field (r, rest) d.1
      ]
    ]

pub latest_takes : (n : ℕ) (bytes : List ℕ) (r : Register ℕ) (rest : List ℕ) → IsBytes bytes → latest_at n bytes ≡ Ok (r, rest) → Takes bytes (expiry_bytes r) rest × (expiry_fits n r ≡ true)
unfolding latest_at
latest_takes n bytes r rest fits e =
    let a = bind_ok (byte_at bytes) (λ tag. tagged_expiry n tag.0 tag.1) (r, rest) e in
    let t0 = byte_takes bytes a.0.0 a.0.1 fits a.1 in
    let t1 = latest_behind n a.0.0 a.0.1 r rest t0.rest_fits a.2 in
    (subst (λ (x : List ℕ). Takes bytes x rest) (sym t1.spelled) (Takes-then bytes (a.0.0 ∷ []) a.0.1 t1.text rest t0 t1.takes), t1.in_range)

expiry_again : (n : ℕ) (s : Moment) (expiry : ℕ) (rest : List ℕ) → stamp_fits n s ≡ true → expiry < 2 ^ 64 → expiry_at n (stamp_bytes s ++ (eight expiry ++ rest)) ≡ Ok (Some (s, expiry), rest)
unfolding expiry_at
expiry_again n s expiry rest h lt = rw (stamp_again n s (eight expiry ++ rest) h, eight_again expiry rest lt) refl

latest_0 : (n : ℕ) (bytes : List ℕ) → latest_at n (0 ∷ bytes) ≡ Ok (None, bytes)
unfolding latest_at byte_at tagged_expiry
latest_0 n bytes = refl

latest_1 : (n : ℕ) (bytes : List ℕ) → latest_at n (1 ∷ bytes) ≡ expiry_at n bytes
unfolding latest_at byte_at tagged_expiry
latest_1 n bytes = refl

pub latest_again : (n : ℕ) (r : Register ℕ) (rest : List ℕ) → expiry_fits n r ≡ true → latest_at n (expiry_bytes r ++ rest) ≡ Ok (r, rest)
unfolding expiry_bytes expiry_fits
latest_again n None rest h = latest_0 n rest
latest_again n (Some (s, expiry)) rest h =
    let p = both_of (stamp_fits n s) (ltb expiry (2 ^ 64)) h in
    latest_1 n ((stamp_bytes s ++ eight expiry) ++ rest) ∙ ap (expiry_at n) (append_assoc (stamp_bytes s) (eight expiry) rest) ∙ expiry_again n s expiry rest p.0 (ltb-true _ _ p.1)

-- ---- records

rec_takes : (n : ℕ) (bytes : List ℕ) (r : Rec) (rest : List ℕ) → IsBytes bytes → rec_at n bytes ≡ Ok (r, rest) → Takes bytes (rec_bytes r) rest × (rec_fits n r ≡ true)
unfolding rec_at rec_bytes rec_fits
rec_takes n bytes r rest fits e =
    let a = bind_ok (body_at n bytes) (λ body. latest_at n body.1 >>= λ expiry. cond (has_register (body.0, expiry.0)) (Ok (rec_with body.0 expiry.0, expiry.1)) (Err Field)) (r, rest) e in
    let b = bind_ok (latest_at n a.0.1) (λ expiry. cond (has_register (a.0.0, expiry.0)) (Ok (rec_with a.0.0 expiry.0, expiry.1)) (Err Field)) (r, rest) a.2 in
    let g = pass_ok (has_register (a.0.0, b.0.0)) Field (rec_with a.0.0 b.0.0, b.0.1) (r, rest) b.2 in
    let t0 = body_takes n bytes a.0.0 a.0.1 fits a.1 in
    let t1 = latest_takes n a.0.1 b.0.0 b.0.1 t0.0.rest_fits b.1 in
    let both = Takes-then bytes (body_bytes a.0.0) a.0.1 (expiry_bytes b.0.0) b.0.1 t0.0 t1.0 in
    subst (λ (p : Rec × List ℕ). Takes bytes (body_bytes p.0.left.register ++ expiry_bytes p.0.right.register) p.1 × ((body_fits n p.0.left.register && (expiry_fits n p.0.right.register && has_register (p.0.left.register, p.0.right.register))) ≡ true)) g.1
    (both, both_are _ _ t0.1 (both_are _ _ t1.1 g.0))

rec_again : (n : ℕ) (r : Rec) (rest : List ℕ) → rec_fits n r ≡ true → rec_at n (body_bytes r.left.register ++ (expiry_bytes r.right.register ++ rest)) ≡ Ok (r, rest)
unfolding rec_at rec_fits
rec_again n r rest h =
    let p = both_of (body_fits n r.left.register) (expiry_fits n r.right.register && has_register (r.left.register, r.right.register)) h in
    let q = both_of (expiry_fits n r.right.register) (has_register (r.left.register, r.right.register)) p.1 in
    rw (body_again n r.left.register (expiry_bytes r.right.register ++ rest) p.0, latest_again n r.right.register rest q.0, q.1) refl

pub key_takes : (before bytes key rest : List ℕ) → IsBytes bytes → key_at before bytes ≡ Ok (key, rest) → Takes bytes (key_bytes key) rest × (is_key key ≡ true) × (is_lt (slice_cmp nat_cmp before key) ≡ true)
unfolding key_at key_bytes
key_takes before bytes key rest fits e =
    let inner : List ℕ × List ℕ → Read (List ℕ) = λ key. cond (is_lt (slice_cmp nat_cmp before key.0)) (Ok key) (Err Order) in
    let a = bind_ok (byte_at bytes) (λ size. part_at size.0 size.1 >>= λ key. cond (is_key key.0) (inner key) (Err Field)) (key, rest) e in
    let b = bind_ok (part_at a.0.0 a.0.1) (λ key. cond (is_key key.0) (inner key) (Err Field)) (key, rest) a.2 in
    let t0 = byte_takes bytes a.0.0 a.0.1 fits a.1 in
    let t1 = part_takes a.0.0 a.0.1 b.0.0 b.0.1 t0.rest_fits b.1 in
    let both = Takes-then bytes (a.0.0 ∷ []) a.0.1 b.0.0 b.0.1 t0 t1.0 in
    elim (chosen (is_key b.0.0) (inner b.0) (Err Field) (Ok (key, rest)) b.2) [
      | inl c ↦
          let g = pass_ok (is_lt (slice_cmp nat_cmp before b.0.0)) Order b.0 (key, rest) c.1 in
          subst (λ (p : List ℕ × List ℕ). Takes bytes (length p.0 ∷ p.0) p.1 × (is_key p.0 ≡ true) × (is_lt (slice_cmp nat_cmp before p.0) ≡ true)) g.1
          (subst (λ (k : ℕ). Takes bytes (k ∷ b.0.0) b.0.1) (sym t1.1) both, c.0, g.0)
      | inr c ↦ not_ok Field (key, rest) c.1
    ]

pub key_again : (before key rest : List ℕ) → is_key key ≡ true → is_lt (slice_cmp nat_cmp before key) ≡ true → key_at before (key_bytes key ++ rest) ≡ Ok (key, rest)
unfolding key_at key_bytes
key_again before key rest h lt = rw (byte_again (length key) (key ++ rest), part_again (length key) key rest refl, h, lt) refl

record_takes : (n : ℕ) (before bytes : List ℕ) (r : List ℕ × Rec) (rest : List ℕ) → IsBytes bytes → record_at n before bytes ≡ Ok (r, rest) → Takes bytes (record_bytes r) rest × (record_fits n r ≡ true) × (is_lt (slice_cmp nat_cmp before r.0) ≡ true)
unfolding record_at record_bytes record_fits
record_takes n before bytes r rest fits e =
    let a = bind_ok (key_at before bytes) (λ key. rec_at n key.1 >>= λ rec. Ok ((key.0, rec.0), rec.1)) (r, rest) e in
    let b = bind_ok (rec_at n a.0.1) (λ rec. Ok ((a.0.0, rec.0), rec.1)) (r, rest) a.2 in
    let t0 = key_takes before bytes a.0.0 a.0.1 fits a.1 in
    let t1 = rec_takes n a.0.1 b.0.0 b.0.1 t0.0.rest_fits b.1 in
    let both = Takes-then bytes (key_bytes a.0.0) a.0.1 (rec_bytes b.0.0) b.0.1 t0.0 t1.0 in
    subst (λ (p : (List ℕ × Rec) × List ℕ). Takes bytes (key_bytes p.0.0 ++ rec_bytes p.0.1) p.1 × ((is_key p.0.0 && rec_fits n p.0.1) ≡ true) × (is_lt (slice_cmp nat_cmp before p.0.0) ≡ true)) (ok_is ((a.0.0, b.0.0), b.0.1) (r, rest) b.2)
    (both, both_are _ _ t0.1 t1.1, t0.2)

record_parts : (r : List ℕ × Rec) (rest : List ℕ) → record_bytes r ++ rest ≡ key_bytes r.0 ++ (body_bytes r.1.left.register ++ (expiry_bytes r.1.right.register ++ rest))
unfolding record_bytes rec_bytes
record_parts r rest = append_assoc (key_bytes r.0) (body_bytes r.1.left.register ++ expiry_bytes r.1.right.register) rest ∙ ap (λ (x : List ℕ). key_bytes r.0 ++ x) (append_assoc (body_bytes r.1.left.register) (expiry_bytes r.1.right.register) rest)

record_again : (n : ℕ) (before : List ℕ) (r : List ℕ × Rec) (rest : List ℕ) → record_fits n r ≡ true → is_lt (slice_cmp nat_cmp before r.0) ≡ true → record_at n before (record_bytes r ++ rest) ≡ Ok (r, rest)
unfolding record_at record_fits
record_again n before r rest h lt =
    let p = both_of (is_key r.0) (rec_fits n r.1) h in
    let more = body_bytes r.1.left.register ++ (expiry_bytes r.1.right.register ++ rest) in
    ap (record_at n before) (record_parts r rest) ∙ rw (key_again before r.0 more p.0 lt, rec_again n r.1 rest p.1) refl

-- ---- lists of records

less_is : (o : Ordering) → is_lt o ≡ true → o ≡ Less
less_is Less h = refl
less_is Equal h = absurd cc
less_is Greater h = absurd cc

records_take : (n count : ℕ) (before bytes : List ℕ) (rs : List (List ℕ × Rec)) (rest : List ℕ) → IsBytes bytes → records_at n count before bytes ≡ Ok (rs, rest)
    → Takes bytes (flat_map record_bytes rs) rest × (length rs ≡ count) × (list_all (record_fits n) rs ≡ true) × Above before rs × Rising rs
unfolding records_at
records_take n zero before bytes rs rest fits e =
    subst (λ (p : List (List ℕ × Rec) × List ℕ). Takes bytes (flat_map record_bytes p.0) p.1 × (length p.0 ≡ 0) × (list_all (record_fits n) p.0 ≡ true) × Above before p.0 × Rising p.0) (ok_is ([], bytes) (rs, rest) e)
    (record { parts = refl; rest_fits = fits }, refl, refl, tt, tt)
records_take n (suc count) before bytes rs rest fits e =
    let a = bind_ok (record_at n before bytes) (λ first. records_at n count first.0.0 first.1 >>= λ others. Ok (first.0 ∷ others.0, others.1)) (rs, rest) e in
    let b = bind_ok (records_at n count a.0.0.0 a.0.1) (λ others. Ok (a.0.0 ∷ others.0, others.1)) (rs, rest) a.2 in
    let t0 = record_takes n before bytes a.0.0 a.0.1 fits a.1 in
    let t1 = records_take n count a.0.0.0 a.0.1 b.0.0 b.0.1 t0.0.rest_fits b.1 in
    let both = Takes-then bytes (record_bytes a.0.0) a.0.1 (flat_map record_bytes b.0.0) b.0.1 t0.0 t1.0 in
    subst (λ (p : List (List ℕ × Rec) × List ℕ). Takes bytes (flat_map record_bytes p.0) p.1 × (length p.0 ≡ suc count) × (list_all (record_fits n) p.0 ≡ true) × Above before p.0 × Rising p.0) (ok_is (a.0.0 ∷ b.0.0, b.0.1) (rs, rest) b.2)
    (rw flat_map-cons both, ap suc t1.1, both_are _ _ t0.1 t1.2, less_is _ t0.2, (t1.3, t1.4))

pub is_less : (o : Ordering) → o ≡ Less → is_lt o ≡ true
is_less o h = ap is_lt h

records_again : (n : ℕ) (before : List ℕ) (rs : List (List ℕ × Rec)) (rest : List ℕ) → list_all (record_fits n) rs ≡ true → Above before rs → Rising rs → records_at n (length rs) before (flat_map record_bytes rs ++ rest) ≡ Ok (rs, rest)
unfolding records_at
records_again n before [] rest h above rising = refl
records_again n before (r ∷ rs) rest h above rising =
    let p = both_of (record_fits n r) (list_all (record_fits n) rs) h in
    let parts : flat_map record_bytes (r ∷ rs) ++ rest ≡ record_bytes r ++ (flat_map record_bytes rs ++ rest) = ap (λ (x : List ℕ). x ++ rest) (flat_map-cons record_bytes r rs) ∙ append_assoc (record_bytes r) (flat_map record_bytes rs) rest in
    ap (records_at n (suc (length rs)) before) parts ∙ rw (record_again n before r (flat_map record_bytes rs ++ rest) p.0 (is_less _ above), records_again n r.0 rs rest p.1 rising.0 rising.1) refl

-- each key is greater than no bytes
pub key_above : (key : List ℕ) → is_key key ≡ true → slice_cmp nat_cmp [] key ≡ Less
key_above [] h = absurd cc
key_above (b ∷ key) h = refl

first_above : (n : ℕ) (rs : List (List ℕ × Rec)) → list_all (record_fits n) rs ≡ true → Above [] rs
unfolding record_fits
first_above n [] h = tt
first_above n (r ∷ rs) h =
    let p = both_of (is_key r.0 && rec_fits n r.1) (list_all (record_fits n) rs) h in
    key_above r.0 (both_of (is_key r.0) (rec_fits n r.1) p.0).0

pub all_takes : (n : ℕ) (bytes : List ℕ) (rs : List (List ℕ × Rec)) → IsBytes bytes → all_records n bytes ≡ Ok rs → (bytes ≡ records_bytes rs) × (list_all (record_fits n) rs ≡ true) × Rising rs
unfolding all_records records_bytes
all_takes n bytes rs fits e =
    let a = bind_ok (four_at bytes) (λ count. records_at n count.0 [] count.1 >>= λ records. cond (eqb (length records.1) 0) (Ok records.0) (Err Field)) rs e in
    let b = bind_ok (records_at n a.0.0 [] a.0.1) (λ records. cond (eqb (length records.1) 0) (Ok records.0) (Err Field)) rs a.2 in
    let g = pass_ok (eqb (length b.0.1) 0) Field b.0.0 rs b.2 in
    let t0 = four_takes bytes a.0.0 a.0.1 fits a.1 in
    let t1 = records_take n a.0.0 [] a.0.1 b.0.0 b.0.1 t0.0.rest_fits b.1 in
    let nothing : b.0.1 ≡ [] = nil_from_length b.0.1 (eqb-true _ _ g.0) in
    let text : List ℕ = four a.0.0 ++ flat_map record_bytes b.0.0 in
    let both : bytes ≡ text ++ b.0.1 = (Takes-then bytes (four a.0.0) a.0.1 (flat_map record_bytes b.0.0) b.0.1 t0.0 t1.0).parts in
    let whole : bytes ≡ four (length b.0.0) ++ flat_map record_bytes b.0.0 = both ∙ ap (λ (r : List ℕ). text ++ r) nothing ∙ append-nil text ∙ ap (λ (k : ℕ). four k ++ flat_map record_bytes b.0.0) (sym t1.1) in
    subst (λ (rs : List (List ℕ × Rec)). (bytes ≡ four (length rs) ++ flat_map record_bytes rs) × (list_all (record_fits n) rs ≡ true) × Rising rs) g.1 (whole, t1.2, t1.4)

pub all_again : (n : ℕ) (rs : List (List ℕ × Rec)) → length rs < 2 ^ 32 → list_all (record_fits n) rs ≡ true → Rising rs → all_records n (records_bytes rs) ≡ Ok rs
unfolding all_records records_bytes
all_again n rs few h rising =
    let rest : records_at n (length rs) [] (flat_map record_bytes rs) ≡ Ok (rs, []) = ap (records_at n (length rs) []) (sym (append-nil (flat_map record_bytes rs))) ∙ records_again n [] rs [] h (first_above n rs h) rising in
    rw (four_again (length rs) (flat_map record_bytes rs) few, rest) refl

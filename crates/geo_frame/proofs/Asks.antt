-- The same for asks and offers.
use Rattle.std.proofs.Common.{◌≡◌, ℕ, ◌≤◌, cond, eqb, List, [], ◌∷◌, ◌++◌, length, Option, Some, None, Ok, Err, refl, sym, ap, subst, ◌∙◌, append_assoc, arith, inl, inr}
use Rattle.std.specs.Option.{IfSome}
use Rattle.std.proofs.lemmas.Bool.{eqb-true, leb-true, le-leb}
use Rattle.std.proofs.lemmas.List.{append-nil, nil_from_length}
use Rattle.geo_records.specs.Lengths.{longest_value}
use Rattle.geo_frame.specs.declared.fault.FrameFault.TheVariants.{Field}
use Rattle.geo_frame.specs.declared.route.Route.{Route}
use Rattle.geo_frame.specs.Payloads.{Wanted, WantedInRange}
use Rattle.geo_frame.specs.Spelling.{four, sites_bytes, key_bytes, wanted_bytes, offered_bytes}
use Rattle.geo_frame.specs.Reading.{◌>>=◌, Read, part_at, byte_at, size_at, sites_at, key_at, wanted_at, bytes_at, tagged_bytes, offered_at, ask_in, offer_in}
use Rattle.geo_frame.proofs.Fields.{IsBytes, bind_ok, pass_ok, chosen, ok_is, not_ok, Takes, Takes-then, part_takes, part_again, byte_takes, sites_takes, sites_again}
use Rattle.geo_frame.proofs.Records.{size_takes, size_again, key_takes, key_again, key_above, is_less}

-- ---- what is wanted

wanted_takes : (bytes : List ℕ) (w : Wanted) (rest : List ℕ) → IsBytes bytes → wanted_at bytes ≡ Ok (w, rest) → Takes bytes (wanted_bytes w) rest × WantedInRange w
unfolding wanted_at wanted_bytes
wanted_takes bytes w rest fits e =
    let made : Route → List ℕ → List ℕ → Wanted = λ r key digest. record { route = r; key = key; digest = digest } in
    let a = bind_ok (sites_at bytes) (λ sites. key_at [] sites.1 >>= λ key. part_at 32 key.1 >>= λ digest. Ok (made sites.0 key.0 digest.0, digest.1)) (w, rest) e in
    let b = bind_ok (key_at [] a.0.1) (λ key. part_at 32 key.1 >>= λ digest. Ok (made a.0.0 key.0 digest.0, digest.1)) (w, rest) a.2 in
    let c = bind_ok (part_at 32 b.0.1) (λ digest. Ok (made a.0.0 b.0.0 digest.0, digest.1)) (w, rest) b.2 in
    let r = a.0.0 in
    let t0 = sites_takes bytes r a.0.1 fits a.1 in
    let t1 = key_takes [] a.0.1 b.0.0 b.0.1 t0.0.rest_fits b.1 in
    let t2 = part_takes 32 b.0.1 c.0.0 c.0.1 t1.0.rest_fits c.1 in
    let x0 = sites_bytes r.from r.to r.sites in
    let t01 = Takes-then bytes x0 a.0.1 (key_bytes b.0.0) b.0.1 t0.0 t1.0 in
    let t02 = Takes-then bytes (x0 ++ key_bytes b.0.0) b.0.1 c.0.0 c.0.1 t01 t2.0 in
    subst (λ (p : Wanted × List ℕ). Takes bytes (sites_bytes p.0.route.from p.0.route.to p.0.route.sites ++ key_bytes p.0.key ++ p.0.digest) p.1 × WantedInRange p.0) (ok_is (made r b.0.0 c.0.0, c.0.1) (w, rest) c.2)
    (t02, record { sites = t0.1; key = t1.1; digest = t2.1 })

wanted_again : (w : Wanted) (rest : List ℕ) → WantedInRange w → wanted_at (wanted_bytes w ++ rest) ≡ Ok (w, rest)
unfolding wanted_at wanted_bytes
wanted_again w rest h =
    let x0 = sites_bytes w.route.from w.route.to w.route.sites in
    let x1 = key_bytes w.key in
    let parts : (x0 ++ x1 ++ w.digest) ++ rest ≡ x0 ++ (x1 ++ (w.digest ++ rest)) = append_assoc (x0 ++ x1) w.digest rest ∙ append_assoc x0 x1 (w.digest ++ rest) in
    ap wanted_at parts ∙ rw (sites_again w.route.from w.route.to w.route.sites (x1 ++ (w.digest ++ rest)) h.sites, key_again [] w.key (w.digest ++ rest) h.key (is_less _ (key_above w.key h.key)), part_again 32 w.digest rest h.digest) refl

-- ---- what is offered

abbrev Short : Option (List ℕ) → Type 0
Short b = IfSome b (λ x. length x ≤ longest_value)

-- what stands behind a tag
record Behind (tag : ℕ) (bytes : List ℕ) (b : Option (List ℕ)) (rest : List ℕ) : Type 0 where
  text : List ℕ
  takes : Takes bytes text rest
  spelled : offered_bytes b ≡ tag ∷ text
  in_range : Short b

bytes_take : (bytes : List ℕ) (b : Option (List ℕ)) (rest : List ℕ) → IsBytes bytes → bytes_at bytes ≡ Ok (b, rest) → Behind 1 bytes b rest
unfolding bytes_at offered_bytes
bytes_take bytes b rest fits e =
    let a = bind_ok (size_at bytes) (λ size. part_at size.0 size.1 >>= λ part. Ok (Some part.0, part.1)) (b, rest) e in
    let c = bind_ok (part_at a.0.0 a.0.1) (λ part. Ok (Some part.0, part.1)) (b, rest) a.2 in
    let t0 = size_takes bytes a.0.0 a.0.1 fits a.1 in
    let t1 = part_takes a.0.0 a.0.1 c.0.0 c.0.1 t0.0.rest_fits c.1 in
    let both = Takes-then bytes (four a.0.0) a.0.1 c.0.0 c.0.1 t0.0 t1.0 in
    subst (λ (p : Option (List ℕ) × List ℕ). Behind 1 bytes p.0 p.1) (ok_is (Some c.0.0, c.0.1) (b, rest) c.2)
    (record { text = four (length c.0.0) ++ c.0.0; takes = subst (λ (n : ℕ). Takes bytes (four n ++ c.0.0) c.0.1) (sym t1.1) both; spelled = refl; in_range = omega (arith, t1.1, leb-true a.0.0 longest_value t0.1) })

none_take : (bytes : List ℕ) (b : Option (List ℕ)) (rest : List ℕ) → IsBytes bytes → None ≡ b → bytes ≡ rest → Behind 0 bytes b rest
unfolding offered_bytes
none_take bytes b rest fits e f =
    subst (λ (b : Option (List ℕ)). Behind 0 bytes b rest) e (subst (λ (rest : List ℕ). Behind 0 bytes None rest) f (record { text = []; takes = record { parts = refl; rest_fits = fits }; spelled = refl; in_range = tt }))

behind : (tag : ℕ) (bytes : List ℕ) (b : Option (List ℕ)) (rest : List ℕ) → IsBytes bytes → tagged_bytes tag bytes ≡ Ok (b, rest) → Behind tag bytes b rest
unfolding tagged_bytes
behind tag bytes b rest fits e =
    let one : Read (Option (List ℕ)) = cond (eqb tag 1) (bytes_at bytes) (Err Field) in
    let Goal : ℕ → Type 0 = λ tag. Behind tag bytes b rest in
    elim (chosen (eqb tag 0) (Ok (None, bytes)) one (Ok (b, rest)) e) [
      | inl c ↦
          let p = ok_is (None, bytes) (b, rest) c.1 in
          subst Goal (sym (eqb-true tag 0 c.0)) (none_take bytes b rest fits (ap (λ (p : Option (List ℕ) × List ℕ). p.0) p) (ap (λ (p : Option (List ℕ) × List ℕ). p.1) p))
      | inr c ↦ elim (chosen (eqb tag 1) (bytes_at bytes) (Err Field) (Ok (b, rest)) c.1) [
        | inl d ↦ subst Goal (sym (eqb-true tag 1 d.0)) (bytes_take bytes b rest fits d.1)
        | inr d ↦ not_ok Field (b, rest) d.1
      ]
    ]

offered_takes : (bytes : List ℕ) (b : Option (List ℕ)) (rest : List ℕ) → IsBytes bytes → offered_at bytes ≡ Ok (b, rest) → Takes bytes (offered_bytes b) rest × Short b
unfolding offered_at
offered_takes bytes b rest fits e =
    let a = bind_ok (byte_at bytes) (λ tag. tagged_bytes tag.0 tag.1) (b, rest) e in
    let t0 = byte_takes bytes a.0.0 a.0.1 fits a.1 in
    let t1 = behind a.0.0 a.0.1 b rest t0.rest_fits a.2 in
    (subst (λ (x : List ℕ). Takes bytes x rest) (sym t1.spelled) (Takes-then bytes (a.0.0 ∷ []) a.0.1 t1.text rest t0 t1.takes), t1.in_range)

bytes_again : (x rest : List ℕ) → length x ≤ longest_value → bytes_at (four (length x) ++ (x ++ rest)) ≡ Ok (Some x, rest)
unfolding bytes_at
bytes_again x rest h = rw (size_again (length x) (x ++ rest) (le-leb _ _ h), part_again (length x) x rest refl) refl

offered_0 : (bytes : List ℕ) → offered_at (0 ∷ bytes) ≡ Ok (None, bytes)
unfolding offered_at byte_at tagged_bytes
offered_0 bytes = refl

offered_1 : (bytes : List ℕ) → offered_at (1 ∷ bytes) ≡ bytes_at bytes
unfolding offered_at byte_at tagged_bytes
offered_1 bytes = refl

offered_again : (b : Option (List ℕ)) (rest : List ℕ) → Short b → offered_at (offered_bytes b ++ rest) ≡ Ok (b, rest)
unfolding offered_bytes
offered_again None rest h = offered_0 rest
offered_again (Some x) rest h =
    offered_1 ((four (length x) ++ x) ++ rest) ∙ ap bytes_at (append_assoc (four (length x)) x rest) ∙ bytes_again x rest h

-- ---- and nothing more

pub ask_takes : (bytes : List ℕ) (w : Wanted) → IsBytes bytes → ask_in bytes ≡ Ok w → (bytes ≡ wanted_bytes w) × WantedInRange w
unfolding ask_in
ask_takes bytes w fits e =
    let a = bind_ok (wanted_at bytes) (λ wanted. cond (eqb (length wanted.1) 0) (Ok wanted.0) (Err Field)) w e in
    let g = pass_ok (eqb (length a.0.1) 0) Field a.0.0 w a.2 in
    let t = wanted_takes bytes a.0.0 a.0.1 fits a.1 in
    let nothing : a.0.1 ≡ [] = nil_from_length a.0.1 (eqb-true _ _ g.0) in
    let whole : bytes ≡ wanted_bytes a.0.0 = t.0.parts ∙ ap (λ (r : List ℕ). wanted_bytes a.0.0 ++ r) nothing ∙ append-nil (wanted_bytes a.0.0) in
    subst (λ (w : Wanted). (bytes ≡ wanted_bytes w) × WantedInRange w) g.1 (whole, t.1)

pub ask_again : (w : Wanted) → WantedInRange w → ask_in (wanted_bytes w) ≡ Ok w
unfolding ask_in
ask_again w h =
    let one : wanted_at (wanted_bytes w) ≡ Ok (w, []) = ap wanted_at (sym (append-nil (wanted_bytes w))) ∙ wanted_again w [] h in
    rw one refl

abbrev OfferFits : List ℕ → Wanted × Option (List ℕ) → Type 0
OfferFits bytes o = (bytes ≡ wanted_bytes o.0 ++ offered_bytes o.1) × WantedInRange o.0 × Short o.1

pub offer_takes : (bytes : List ℕ) (w : Wanted) (b : Option (List ℕ)) → IsBytes bytes → offer_in bytes ≡ Ok (w, b) → (bytes ≡ wanted_bytes w ++ offered_bytes b) × WantedInRange w × IfSome b (λ x. length x ≤ longest_value)
unfolding offer_in
offer_takes bytes w b fits e =
    let a = bind_ok (wanted_at bytes) (λ wanted. offered_at wanted.1 >>= λ offered. cond (eqb (length offered.1) 0) (Ok (wanted.0, offered.0)) (Err Field)) (w, b) e in
    let c = bind_ok (offered_at a.0.1) (λ offered. cond (eqb (length offered.1) 0) (Ok (a.0.0, offered.0)) (Err Field)) (w, b) a.2 in
    let g = pass_ok (eqb (length c.0.1) 0) Field (a.0.0, c.0.0) (w, b) c.2 in
    let t0 = wanted_takes bytes a.0.0 a.0.1 fits a.1 in
    let t1 = offered_takes a.0.1 c.0.0 c.0.1 t0.0.rest_fits c.1 in
    let nothing : c.0.1 ≡ [] = nil_from_length c.0.1 (eqb-true _ _ g.0) in
    let text : List ℕ = wanted_bytes a.0.0 ++ offered_bytes c.0.0 in
    let whole : bytes ≡ text = (Takes-then bytes (wanted_bytes a.0.0) a.0.1 (offered_bytes c.0.0) c.0.1 t0.0 t1.0).parts ∙ ap (λ (r : List ℕ). text ++ r) nothing ∙ append-nil text in
    subst (OfferFits bytes) g.1 (whole, t0.1, t1.1)

pub offer_again : (w : Wanted) (b : Option (List ℕ)) → WantedInRange w → IfSome b (λ x. length x ≤ longest_value) → offer_in (wanted_bytes w ++ offered_bytes b) ≡ Ok (w, b)
unfolding offer_in
offer_again w b h short =
    let one : offered_at (offered_bytes b) ≡ Ok (b, []) = ap offered_at (sym (append-nil (offered_bytes b))) ∙ offered_again b [] short in
    rw (wanted_again w (offered_bytes b) h, one) refl

-- What is told of vectors and sets goes on holding as sites issue, send, take and retire.
use Rattle.std.proofs.Common.{◌≡◌, ◌≢◌, ℕ, ◌≤◌, max, Bool, true, false, List, refl, sym, ap, ◌∙◌, subst, ◌⊎◌, inl, inr, arith, true≢false}
use Rattle.std.proofs.lemmas.Bool.{cases_eq}
use Rattle.geo_stamp.specs.Retired.{is_in}
use Rattle.geo_stamp.specs.Vectors.{entry_of}
use Rattle.geo_delta.specs.declared.parcel.Parcel.{Parcel}
use Rattle.geo_world.specs.Reports.{Views, OneOf, Within, HasNone, Below, WasSent, Tells, ToldBy, Precedes, Reported, Closed, Passed, HasPassed}

pub either : (b : Bool) → (b ≡ true) ⊎ (b ≡ false)
either true = inl refl
either false = inr refl

pub not_both : (b : Bool) → b ≡ true → b ≡ false → ⊥
not_both b h k = true≢false (sym h ∙ k)

-- who is outside of the greater set is outside of the lesser one
pub outside : (n : ℕ) (a b : List Bool) → Within n a b → (j : ℕ) → OneOf n j → is_in b j ≡ false → is_in a j ≡ false
outside n a b within j one out = elim (either (is_in a j)) [ inl h ↦ absurd (not_both (is_in b j) (within j one h) out) | inr h ↦ h ]

-- one site moves: it hears no more of the others than they have, learns of others from itself or from one that it does not hold for
-- retired, and sends what it had
pub record Moves (n : ℕ) (x y : Views) (parcels later : List Parcel) (s : ℕ) : Type 0 where
  pub site : OneOf n s
  pub vectors : (t : ℕ) → t ≢ s → y.vector t ≡ x.vector t
  pub sets : (t : ℕ) → t ≢ s → y.set t ≡ x.set t
  pub rows : (r t : ℕ) → r ≢ s → y.row r t ≡ x.row r t
  pub tolds : (r t : ℕ) → r ≢ s → y.told r t ≡ x.told r t
  pub rises : Below n (x.vector s) (y.vector s)
  pub grows : Within n (x.set s) (y.set s)
  pub told : (t : ℕ) → OneOf n t → t ≢ s → Within n (y.told s t) (x.set t)
  pub report : (t : ℕ) → OneOf n t → t ≢ s → HasNone n (y.told s t) ⊎ Tells n parcels t (y.row s t) (y.told s t)
  pub still : (parcel : Parcel) → WasSent parcels parcel → WasSent later parcel
  pub news : (parcel : Parcel) → WasSent later parcel → WasSent parcels parcel ⊎ ((parcel.from ≡ s) × (parcel.upto ≡ x.vector s) × (parcel.retired ≡ x.set s))
  pub teacher : ℕ
  pub is_teacher : OneOf n teacher
  pub allowed : (teacher ≡ s) ⊎ (is_in (x.set s) teacher ≡ false)
  pub learns : (r : ℕ) → OneOf n r → r ≢ s → entry_of (y.vector s) r ≤ max (entry_of (x.vector s) r) (entry_of (x.vector teacher) r)

module _ (n : ℕ) (x y : Views) (parcels later : List Parcel) (s : ℕ) (move : Moves n x y parcels later s) where
  pub rises : (t : ℕ) → Below n (x.vector t) (y.vector t)
  rises t j one = elim (cases_eq t s) [
    | inl e ↦ subst (λ k. entry_of (x.vector k) j ≤ entry_of (y.vector k) j) (sym e) (move.rises j one)
    | inr ne ↦ let e = ap (λ v. entry_of v j) (move.vectors t ne) in omega (arith, e)
  ]

  pub grows : (t : ℕ) → Within n (x.set t) (y.set t)
  grows t j one h = elim (cases_eq t s) [
    | inl e ↦ subst (λ k. is_in (y.set k) j ≡ true) (sym e) (move.grows j one (subst (λ k. is_in (x.set k) j ≡ true) e h))
    | inr ne ↦ ap (λ a. is_in a j) (move.sets t ne) ∙ h
  ]

  module _ (set : List Bool) (out : is_in set s ≡ false) where
    -- whom it learns from is outside of a set that it holds for retired
    teacher_out : Within n set (x.set s) → is_in set move.teacher ≡ false
    teacher_out within = elim move.allowed [
      | inl e ↦ subst (λ k. is_in set k ≡ false) (sym e) out
      | inr free ↦ outside n set (x.set s) within move.teacher move.is_teacher free
    ]

    not_itself : (r : ℕ) → is_in set r ≡ true → r ≢ s
    not_itself r h e = not_both (is_in set s) (subst (λ k. is_in set k ≡ true) e h) out

  -- what it sends tells no less than what it sent before
  newest : Reported n x parcels → ((m : Parcel) → WasSent parcels m → Below n m.upto (x.vector m.from))
      → (old new : Parcel) → WasSent parcels old → old.from ≡ s → new.upto ≡ x.vector s → new.retired ≡ x.set s → Precedes n old new
  newest all upto old new sent from vector set = record {
    set = λ j one h. subst (λ a. is_in a j ≡ true) (sym set) (subst (λ k. is_in (x.set k) j ≡ true) from (all.sent_set old sent j one h));
    upto = λ j one. let a = upto old sent j one in let b = ap (λ k. entry_of (x.vector k) j) from in let c = ap (λ v. entry_of v j) vector in omega (arith, a, b, c);
  }

  still_told : (t : ℕ) (row : List ℕ) (set : List Bool) → HasNone n set ⊎ Tells n parcels t row set → HasNone n set ⊎ Tells n later t row set
  still_told t row set (inl none) = inl none
  still_told t row set (inr tells) = inr (record { parcel = tells.parcel; sent = move.still tells.parcel tells.sent; from = tells.from; set = tells.set; row = tells.row })

  -- what is told of a site in a set by those outside that told of it
  module _ (all : Reported n x parcels) (set : List Bool) (retired time : ℕ) (one : OneOf n retired) (has : is_in set retired ≡ true)
      (each : (t : ℕ) → OneOf n t → is_in set t ≡ false → (entry_of (y.vector t) retired ≤ time) ⊎ ToldBy n later set retired time t) where
    before : (t : ℕ) → OneOf n t → is_in set t ≡ false → entry_of (x.vector t) retired ≤ time
    before = all.pinned set retired time one has (λ t one_t out. elim (each t one_t out) [
      | inl le ↦ inl (let up = rises t retired one in omega (arith, up, le))
      | inr told ↦ elim (move.news told.parcel told.sent) [
        | inl old ↦ inr (record { parcel = told.parcel; sent = old; from = told.from; set = told.set; entry = told.entry })
        | inr new ↦ inl (
            let a = ap (λ v. entry_of v retired) new.1 in
            let b = ap (λ k. entry_of (x.vector k) retired) (sym told.from ∙ new.0) in
            let le = told.entry in
            omega (arith, a, b, le))
      ]
    ])

    held : (told : ToldBy n later set retired time s) → Within n set (x.set s)
    held told j one_j h = elim (move.news told.parcel told.sent) [
      | inl old ↦ subst (λ k. is_in (x.set k) j ≡ true) told.from (all.sent_set told.parcel old j one_j (told.set j one_j h))
      | inr new ↦ subst (λ a. is_in a j ≡ true) new.2 (told.set j one_j h)
    ]

    after : (t : ℕ) → OneOf n t → is_in set t ≡ false → entry_of (y.vector t) retired ≤ time
    after t one_t out = elim (cases_eq t s) [
      | inr ne ↦ let e = ap (λ v. entry_of v retired) (move.vectors t ne) in let le = before t one_t out in omega (arith, e, le)
      | inl e ↦ elim (each t one_t out) [
        | inl le ↦ le
        | inr told ↦
            let here : is_in set s ≡ false = subst (λ k. is_in set k ≡ false) e out in
            let within = held (subst (λ k. ToldBy n later set retired time k) e told) in
            let same = ap (λ k. entry_of (y.vector k) retired) e in
            let learned = move.learns retired one (not_itself set here retired has) in
            let own = before s move.site here in
            let teacher = before move.teacher move.is_teacher (teacher_out set here within) in
            omega (arith, same, learned, own, teacher)
      ]
    ]

  pub reported_moves : Reported n x parcels → ((m : Parcel) → WasSent parcels m → Below n m.upto (x.vector m.from)) → Reported n y later
  reported_moves all upto = record {
    told = λ r t one_r one_t ne j one h. grows t j one (elim (cases_eq r s) [
      | inl e ↦ move.told t one_t (λ q. ne (q ∙ sym e)) j one (subst (λ k. is_in (y.told k t) j ≡ true) e h)
      | inr other ↦ all.told r t one_r one_t ne j one (subst (λ a. is_in a j ≡ true) (move.tolds r t other) h)
    ]);
    sent_set = λ m sent j one h. elim (move.news m sent) [
      | inl old ↦ grows m.from j one (all.sent_set m old j one h)
      | inr new ↦ grows m.from j one (subst (λ k. is_in (x.set k) j ≡ true) (sym new.0) (subst (λ a. is_in a j ≡ true) new.2 h))
    ];
    report = λ r t one_r one_t ne. still_told t (y.row r t) (y.told r t) (elim (cases_eq r s) [
      | inl e ↦ subst (λ k. HasNone n (y.told k t) ⊎ Tells n parcels t (y.row k t) (y.told k t)) (sym e) (move.report t one_t (λ q. ne (q ∙ sym e)))
      | inr other ↦ subst (λ a. HasNone n a ⊎ Tells n parcels t (y.row r t) a) (sym (move.tolds r t other))
          (subst (λ v. HasNone n (x.told r t) ⊎ Tells n parcels t v (x.told r t)) (sym (move.rows r t other)) (all.report r t one_r one_t ne))
    ]);
    chain = λ a b sent_a sent_b same. elim (move.news a sent_a) [
      | inl old_a ↦ elim (move.news b sent_b) [
        | inl old_b ↦ all.chain a b old_a old_b same
        | inr new_b ↦ inl (newest all upto a b old_a (same ∙ new_b.0) new_b.1 new_b.2)
      ]
      | inr new_a ↦ elim (move.news b sent_b) [
        | inl old_b ↦ inr (newest all upto b a old_b (sym same ∙ new_a.0) new_a.1 new_a.2)
        | inr new_b ↦ inl (record {
          set = λ j one h. subst (λ a. is_in a j ≡ true) (new_a.2 ∙ sym new_b.2) h;
          upto = λ j one. let e = ap (λ v. entry_of v j) (new_a.1 ∙ sym new_b.1) in omega (arith, e);
        })
      ]
    ];
    pinned = λ set retired time one has each. after all set retired time one has each;
  }

  -- who is outside of a closed set learns no more of those in it
  stays : (set : List Bool) → Closed n x set → (t r : ℕ) → OneOf n t → is_in set t ≡ false → OneOf n r → is_in set r ≡ true → entry_of (y.vector t) r ≡ entry_of (x.vector t) r
  stays set closed t r one_t out one_r has = elim (cases_eq t s) [
    | inr ne ↦ ap (λ v. entry_of v r) (move.vectors t ne)
    | inl e ↦
        let here : is_in set s ≡ false = subst (λ k. is_in set k ≡ false) e out in
        let a = ap (λ k. entry_of (y.vector k) r) e in
        let b = ap (λ k. entry_of (x.vector k) r) e in
        let learned = move.learns r one_r (not_itself set here r has) in
        let up = move.rises r one_r in
        let teacher = closed.same s move.teacher r move.site here move.is_teacher (teacher_out set here (closed.told s move.site here)) one_r has in
        omega (arith, a, b, learned, up, teacher)
  ]

  pub closed_moves : (set : List Bool) → Closed n x set → Closed n y set
  closed_moves set closed = record {
    told = λ t one_t out j one h. grows t j one (closed.told t one_t out j one h);
    same = λ t u r one_t out_t one_u out_u one has. stays set closed t r one_t out_t one has ∙ closed.same t u r one_t out_t one_u out_u one has ∙ sym (stays set closed u r one_u out_u one has);
  }

  pub passed_moves : (set : List Bool) (time : ℕ) → Passed n x set time → Passed n y set time
  passed_moves set time p = record {
    front = λ t j one_t out one_j out_j. let a = p.front t j one_t out one_j out_j in let up = rises t j one_j in omega (arith, a, up);
    rest = elim p.rest [
      | inl all ↦ inl (λ t j one_t out one_j. let a = all t j one_t out one_j in let up = rises t j one_j in omega (arith, a, up))
      | inr closed ↦ inr (closed_moves set closed)
    ];
  }

  pub has_passed_moves : (t time : ℕ) → HasPassed n x t time → HasPassed n y t time
  has_passed_moves t time h = record { set = h.set; out = h.out; within = λ j one has. grows t j one (h.within j one has); passed = passed_moves h.set time h.passed }

-- no time passed is no promise
pub none_passed : (n : ℕ) (x : Views) (set : List Bool) → Passed n x set 0
none_passed n x set = record { front = λ s j a b c d. omega arith; rest = inl (λ s j a b c. omega arith) }

pub passed_earlier : (n : ℕ) (x : Views) (set : List Bool) (time less : ℕ) → less ≤ time → Passed n x set time → Passed n x set less
passed_earlier n x set time less le p = record {
  front = λ s j a b c d. let h = p.front s j a b c d in omega (arith, h, le);
  rest = elim p.rest [ inl all ↦ inl (λ s j a b c. let h = all s j a b c in omega (arith, h, le)) | inr closed ↦ inr closed ];
}

-- ---- what a site heard
-- each other one outside of its set told it all of that, with the entries that it has itself
pub record Agrees (n : ℕ) (x : Views) (p : ℕ) : Type 0 where
  pub told : (t r : ℕ) → OneOf n t → t ≢ p → is_in (x.set p) t ≡ false → OneOf n r → is_in (x.set p) r ≡ true → is_in (x.told p t) r ≡ true
  pub same : (t r : ℕ) → OneOf n t → t ≢ p → is_in (x.set p) t ≡ false → OneOf n r → is_in (x.set p) r ≡ true → entry_of (x.row p t) r ≡ entry_of (x.vector p) r

module _ (n : ℕ) (x : Views) (parcels : List Parcel) (all : Reported n x parcels) (low : (s t : ℕ) → OneOf n t → Below n (x.row s t) (x.vector t)) (p : ℕ) (one_p : OneOf n p) where
  pub closed_of : Agrees n x p → Closed n x (x.set p)
  closed_of agreed = record {
    told = λ s one_s out j one h. elim (cases_eq s p) [
      | inl e ↦ subst (λ k. is_in (x.set k) j ≡ true) (sym e) h
      | inr ne ↦ all.told p s one_p one_s ne j one (agreed.told s j one_s ne out one h)
    ];
    same = λ s t r one_s out_s one_t out_t one has. as_here s r one_s out_s one has ∙ sym (as_here t r one_t out_t one has);
  }
    where
      told_once : (r : ℕ) → OneOf n r → is_in (x.set p) r ≡ true → (t : ℕ) → OneOf n t → is_in (x.set p) t ≡ false
          → (entry_of (x.vector t) r ≤ entry_of (x.vector p) r) ⊎ ToldBy n parcels (x.set p) r (entry_of (x.vector p) r) t
      told_once r one has t one_t out = elim (cases_eq t p) [
        | inl e ↦ inl (let same = ap (λ k. entry_of (x.vector k) r) e in omega (arith, same))
        | inr ne ↦ elim (all.report p t one_p one_t ne) [
          | inl none ↦ absurd (not_both (is_in (x.told p t) r) (agreed.told t r one_t ne out one has) (none r one))
          | inr tells ↦ inr (record {
            parcel = tells.parcel;
            sent = tells.sent;
            from = tells.from;
            set = λ j one_j h. tells.set j one_j (agreed.told t j one_t ne out one_j h);
            entry = let e = agreed.same t r one_t ne out one has in let u = tells.row r one in omega (arith, e, u);
          })
        ]
      ]

      as_here : (s r : ℕ) → OneOf n s → is_in (x.set p) s ≡ false → OneOf n r → is_in (x.set p) r ≡ true → entry_of (x.vector s) r ≡ entry_of (x.vector p) r
      as_here s r one_s out one has = elim (cases_eq s p) [
        | inl e ↦ ap (λ k. entry_of (x.vector k) r) e
        | inr ne ↦
            let e = agreed.same s r one_s ne out one has in
            let heard = low p s one_s r one in
            let most = all.pinned (x.set p) r (entry_of (x.vector p) r) one has (told_once r one has) s one_s out in
            omega (arith, e, heard, most)
      ]

  -- a time that each entry for a site outside of the set has reached, and each for one in it too, unless the reports agree
  pub passed_of : (time : ℕ) → ((j : ℕ) → OneOf n j → is_in (x.set p) j ≡ false → time ≤ entry_of (x.vector p) j)
      → ((t j : ℕ) → OneOf n t → t ≢ p → is_in (x.set p) t ≡ false → OneOf n j → is_in (x.set p) j ≡ false → time ≤ entry_of (x.row p t) j)
      → (((j : ℕ) → OneOf n j → time ≤ entry_of (x.vector p) j) × ((t j : ℕ) → OneOf n t → t ≢ p → is_in (x.set p) t ≡ false → OneOf n j → time ≤ entry_of (x.row p t) j)) ⊎ Agrees n x p
      → Passed n x (x.set p) time
  passed_of time own others rest = record {
    front = λ s j one_s out one_j out_j. elim (cases_eq s p) [
      | inl e ↦ subst (λ k. time ≤ entry_of (x.vector k) j) (sym e) (own j one_j out_j)
      | inr ne ↦ let a = others s j one_s ne out one_j out_j in let b = low p s one_s j one_j in omega (arith, a, b)
    ];
    rest = elim rest [
      | inl each ↦ inl (λ s j one_s out one_j. elim (cases_eq s p) [
        | inl e ↦ subst (λ k. time ≤ entry_of (x.vector k) j) (sym e) (each.0 j one_j)
        | inr ne ↦ let a = each.1 s j one_s ne out one_j in let b = low p s one_s j one_j in omega (arith, a, b)
      ])
      | inr agreed ↦ inr (closed_of agreed)
    ];
  }

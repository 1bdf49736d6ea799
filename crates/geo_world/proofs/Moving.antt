-- Each event at a site moves it alone, and what it answers has been passed by all that it does not hold for retired.
use Rattle.std.proofs.Common.{◌≡◌, ◌≢◌, ℕ, zero, suc, ◌+◌, ◌≤◌, max, Bool, true, false, ◌||◌, List, [], ◌∷◌, ◌++◌, length, Some, refl, sym, ap, ◌∙◌, subst, subst₂, ◌⊎◌, inl, inr, arith, true≢false, slice_get, slice_set, slice_index_or}
use Rattle.std.proofs.lemmas.Bool.{cases_eq}
use Rattle.geo_stamp.specs.Acks.{Heard, row_of, told_of, row_joined, told_joined, horizon_of, looked}
use Rattle.geo_stamp.specs.Retired.{no_sites, is_in, set_joined, with_site}
use Rattle.geo_stamp.specs.Vectors.{entry_of, vector_joined, raised, greatest_of}
use Rattle.geo_records.specs.Operations.{Operation, Among, latest}
use Rattle.geo_delta.specs.declared.parcel.Parcel.{Parcel}
use Rattle.geo_site.proofs.Entries.{entry_joined, entry_stays}
use Rattle.geo_site.specs.declared.site.Site.{Site}
use Rattle.geo_world.specs.Schedule.{Known, Sending, StableAt}
use Rattle.geo_site.specs.Sites.{heard_in, retired_in}
use Rattle.geo_world.specs.Agreement.{about, Stands, Reaches, Agrees}
use Rattle.geo_world.specs.Bounds.{vectors, sets, rows, tolds, reached, views, IsAbove}
use Rattle.geo_world.specs.Reports.{Views, OneOf, Within, HasNone, Below, WasSent, Tells, HasPassed}
use Rattle.geo_world.proofs.Bounding.{at_place, above_entry, heard_here, heard_there, vector_was, vector_here, vector_there, row_was, row_here, row_there, set_was, set_is, set_else, told_was, told_is, told_else, reached_was}
use Rattle.geo_world.proofs.Horizon.{OwnRises, Sees, answer_passed, passed_known, passed_stable}
use Rattle.geo_world.proofs.Reports.{Moves, not_both, outside, reported_moves, has_passed_moves}
use Rattle.geo_world.proofs.Worlds.{some_none, get_appended}

-- ---- sets
index_in : (a b : List Bool) (j : ℕ) → slice_index_or (set_joined a b) j false ≡ (slice_index_or a j false || slice_index_or b j false)
index_in [] b j = refl
index_in (x ∷ xs) [] zero = by x
  where
    by : (x : Bool) → x ≡ (x || false)
    by true = refl
    by false = refl
index_in (x ∷ xs) [] (suc j) = by (slice_index_or xs j false)
  where
    by : (x : Bool) → x ≡ (x || false)
    by true = refl
    by false = refl
index_in (x ∷ xs) (y ∷ ys) zero = refl
index_in (x ∷ xs) (y ∷ ys) (suc j) = index_in xs ys j

pub in_joined : (a b : List Bool) (j : ℕ) → is_in (set_joined a b) j ≡ (is_in a j || is_in b j)
in_joined a b zero = refl
in_joined a b (suc j) = index_in a b j

one_of : (a b : Bool) → (a || b) ≡ true → (a ≡ true) ⊎ (b ≡ true)
one_of true b h = inl refl
one_of false b h = inr h

first_of : (a b : Bool) → a ≡ true → (a || b) ≡ true
first_of true b h = refl
first_of false b h = absurd (true≢false (sym h))

pub joined_grows : (n : ℕ) (a b : List Bool) → Within n a (set_joined a b)
joined_grows n a b j one h = in_joined a b j ∙ first_of (is_in a j) (is_in b j) h

set_grows : (set : List Bool) (k j : ℕ) → slice_index_or set j false ≡ true → slice_index_or (slice_set set k true) j false ≡ true
set_grows [] k j h = h
set_grows (x ∷ xs) zero zero h = refl
set_grows (x ∷ xs) zero (suc j) h = h
set_grows (x ∷ xs) (suc k) zero h = h
set_grows (x ∷ xs) (suc k) (suc j) h = set_grows xs k j h

pub with_grows : (n : ℕ) (set : List Bool) (other : ℕ) → Within n set (with_site set other)
with_grows n set zero j one h = h
with_grows n set (suc k) zero one h = h
with_grows n set (suc k) (suc j) one h = set_grows set k j h

-- a set that one more was joined to, at its place and elsewhere
told_at : (all : List (List Bool)) (j i : ℕ) (set : List Bool) → i ≢ j → slice_index_or (slice_set all j set) i no_sites ≡ slice_index_or all i no_sites
told_at [] j i set ne = refl
told_at (y ∷ ys) zero zero set ne = absurd (ne refl)
told_at (y ∷ ys) zero (suc i) set ne = refl
told_at (y ∷ ys) (suc j) zero set ne = refl
told_at (y ∷ ys) (suc j) (suc i) set ne = told_at ys j i set (λ e. ne (ap suc e))

told_there : (all : List (List Bool)) (j i : ℕ) (set : List Bool) → i ≢ j → told_of (told_joined all j set) i ≡ told_of all i
told_there all zero i set ne = refl
told_there all (suc j) zero set ne = refl
told_there all (suc j) (suc i) set ne = told_at all j i (set_joined (slice_index_or all j no_sites) set) (λ e. ne (ap suc e))

told_put : (all : List (List Bool)) (j : ℕ) (set : List Bool) → (slice_index_or (slice_set all j set) j no_sites ≡ set) ⊎ (slice_index_or (slice_set all j set) j no_sites ≡ slice_index_or all j no_sites)
told_put [] j set = inr refl
told_put (y ∷ ys) zero set = inl refl
told_put (y ∷ ys) (suc j) set = told_put ys j set

told_here : (all : List (List Bool)) (j : ℕ) (set : List Bool) (k : ℕ) → is_in (told_of (told_joined all j set) j) k ≡ true → (is_in (told_of all j) k ≡ true) ⊎ (is_in set k ≡ true)
told_here all zero set k h = inl h
told_here all (suc j) set k h =
    let old = slice_index_or all j no_sites in
    elim (told_put all j (set_joined old set)) [
      | inl e ↦ one_of (is_in old k) (is_in set k) (sym (in_joined old set k) ∙ ap (λ a. is_in a k) (sym e) ∙ h)
      | inr e ↦ inl (ap (λ a. is_in a k) (sym e) ∙ h)
    ]

-- ---- what agrees
module _ (sites : List Site) (parcels : List Parcel) (w : Known) (agrees : Agrees sites parcels w) where
  pub upto_known : (m : Parcel) → WasSent parcels m → Below (length sites) m.upto (vectors sites m.from)
  upto_known m sent j one = above_entry (vectors sites m.from) m.upto j (agrees.bounds.sent_upto sent.0 m sent.1)

  pub rows_low : (s t : ℕ) → OneOf (length sites) t → Below (length sites) (rows sites s t) (vectors sites t)
  rows_low s t one j one_j = above_entry (vectors sites t) (rows sites s t) j (agrees.bounds.heard_known s t one.0 one.1)

  -- each operation that a site knows its entries have reached
  pub entries_cover : (t : ℕ) (op : Operation) → OneOf (length sites) t → Among (w.at t) op → op.stamp.time ≤ entry_of (vectors sites t) op.stamp.site
  entries_cover t op one a =
      let p = at_place (λ (site : Site). site.vector) [] sites t one.0 one.1 in
      let c = (agrees.each p.0 t p.1 p.2 p.3).state.tells.covers op a in
      let e = ap (λ v. entry_of v op.stamp.site) p.4 in
      omega (arith, c, e)

  module _ (k s : ℕ) (at_number : s ≡ k + 1) (hi : s ≤ length sites) (site : Site) (got : slice_get sites k ≡ Some site) where
    pub one_of_sites : OneOf (length sites) s
    one_of_sites = (omega (arith, at_number), hi)

    pub sees : Sees (length sites) (views sites) s (heard_in site) site.vector
    sees =
        let st = agrees.each k s site at_number got in
        let lo : 1 ≤ s = omega (arith, at_number) in
        record {
          one = one_of_sites;
          vector = vector_was sites k s at_number hi site site got;
          set = set_was sites k s at_number hi site site got;
          row = row_was sites k s at_number hi site site got;
          told = told_was sites k s at_number hi site site got;
          many = st.state.many;
          some = let r = st.rows s lo hi in omega (arith, r, lo, hi);
        }

    abbrev pub answer : ℕ
    answer = horizon_of (heard_in site) s site.vector

    pub passed_answer : HasPassed (length sites) (views sites) s answer
    passed_answer =
        answer_passed (length sites) (views sites) parcels agrees.reports rows_low s (heard_in site) site.vector sees
        (subst (λ time. HasPassed (length sites) (views sites) s time) (reached_was sites k s at_number hi site site got) (agrees.passed s one_of_sites))

    -- it is not past the site's own clock
    pub answer_behind : answer ≤ latest (w.at s)
    answer_behind =
        let h = passed_answer in
        let f = h.passed.front s s one_of_sites h.out one_of_sites h.out in
        let p = agrees.bounds.past s s in
        omega (arith, f, p)

    -- up to it what a site knows is known to another, where neither is held for retired here
    pub answer_known : (r t : ℕ) (op : Operation) → OneOf (length sites) r → is_in (retired_in site) r ≡ false → OneOf (length sites) t → is_in (retired_in site) t ≡ false
        → Among (w.at r) op → op.stamp.time ≤ answer → Among (w.at t) op
    answer_known r t op one_r out_r one_t out_t a le =
        let h = passed_answer in
        passed_known (length sites) (views sites) (rows sites) parcels w.at w.sent agrees.bounds h.set answer h.passed entries_cover r t op one_r (free r one_r out_r) one_t (free t one_t out_t) a le
      where
        free : (j : ℕ) → OneOf (length sites) j → is_in (retired_in site) j ≡ false → is_in passed_answer.set j ≡ false
        free j one out = outside (length sites) passed_answer.set (sets sites s) passed_answer.within j one (ap (λ a. is_in a j) (set_was sites k s at_number hi site site got) ∙ out)

    -- the site itself among them, though it be in its own set
    pub answer_here : (r : ℕ) (op : Operation) → OneOf (length sites) r → is_in (retired_in site) r ≡ false → Among (w.at r) op → op.stamp.time ≤ answer → Among (w.at s) op
    answer_here r op one_r out_r a le =
        let h = passed_answer in
        passed_known (length sites) (views sites) (rows sites) parcels w.at w.sent agrees.bounds h.set answer h.passed entries_cover r s op one_r
        (outside (length sites) h.set (sets sites s) h.within r one_r (ap (λ a. is_in a r) (set_was sites k s at_number hi site site got) ∙ out_r)) one_of_sites h.out a le

    pub answer_there : (t : ℕ) (op : Operation) → OneOf (length sites) t → is_in (retired_in site) t ≡ false → Among (w.at s) op → op.stamp.time ≤ answer → Among (w.at t) op
    answer_there t op one_t out_t a le =
        let h = passed_answer in
        passed_known (length sites) (views sites) (rows sites) parcels w.at w.sent agrees.bounds h.set answer h.passed entries_cover s t op one_of_sites h.out one_t
        (outside (length sites) h.set (sets sites s) h.within t one_t (ap (λ a. is_in a t) (set_was sites k s at_number hi site site got) ∙ out_t)) a le

    pub answer_stable : StableAt (length sites) (w.sets s) w.at answer
    answer_stable =
        let h = passed_answer in
        let set : sets sites s ≡ w.sets s = set_was sites k s at_number hi site site got ∙ (agrees.each k s site at_number got).set in
        passed_stable (length sites) (views sites) (rows sites) parcels w.at w.sent agrees.bounds h.set (w.sets s) answer h.passed (subst (λ a. Within (length sites) h.set a) set h.within) entries_cover

    -- ---- one site changes
    module _ (new : Site) where
      abbrev later : List Site
      later = slice_set sites k new

      same_row : (t : ℕ) → (heard_in new).rows ≡ (heard_in site).rows → rows later s t ≡ rows sites s t
      same_row t e = row_here sites k s at_number hi site new got t ∙ ap (λ r. row_of r t) e ∙ sym (row_was sites k s at_number hi site new got t)

      same_told : (t : ℕ) → (heard_in new).told ≡ (heard_in site).told → tolds later s t ≡ tolds sites s t
      same_told t e = told_is sites k s at_number hi site new got t ∙ ap (λ r. told_of r t) e ∙ sym (told_was sites k s at_number hi site new got t)

      vector_rises : IsAbove new.vector site.vector → Below (length sites) (vectors sites s) (vectors later s)
      vector_rises above j one =
          let a = ap (λ v. entry_of v j) (vector_was sites k s at_number hi site new got) in
          let b = ap (λ v. entry_of v j) (vector_here sites k s at_number hi site new got) in
          let up = above_entry new.vector site.vector j above in
          omega (arith, a, b, up)

      set_rises : Within (length sites) (retired_in site) (retired_in new) → Within (length sites) (sets sites s) (sets later s)
      set_rises within j one h = ap (λ a. is_in a j) (set_is sites k s at_number hi site new got) ∙ within j one (ap (λ a. is_in a j) (sym (set_was sites k s at_number hi site new got)) ∙ h)

      -- it hears nothing, and its set may grow
      pub own_moves : OwnRises s site.vector new.vector → (heard_in new).rows ≡ (heard_in site).rows → (heard_in new).told ≡ (heard_in site).told → Within (length sites) (retired_in site) (retired_in new)
          → Moves (length sites) (views sites) (views later) parcels parcels s
      own_moves rises same_rows same_tolds grows = record {
        site = one_of_sites;
        vectors = λ t ne. vector_there sites k s at_number hi site new got t ne;
        sets = λ t ne. set_else sites k s at_number hi site new got t ne;
        rows = λ r t ne. row_there sites k s at_number hi site new got r t ne;
        tolds = λ r t ne. told_else sites k s at_number hi site new got r t ne;
        rises = vector_rises rises.above;
        grows = set_rises grows;
        told = λ t one ne j one_j h. agrees.reports.told s t one_of_sites one ne j one_j (ap (λ a. is_in a j) (sym (same_told t same_tolds)) ∙ h);
        report = λ t one ne. subst₂ (λ (row : List ℕ) (told : List Bool). HasNone (length sites) told ⊎ Tells (length sites) parcels t row told) (sym (same_row t same_rows)) (sym (same_told t same_tolds)) (agrees.reports.report s t one_of_sites one ne);
        still = λ m h. h;
        news = λ m h. inl h;
        teacher = s;
        is_teacher = one_of_sites;
        allowed = inl refl;
        learns = λ r one ne.
            let a = ap (λ v. entry_of v r) (vector_was sites k s at_number hi site new got) in
            let b = ap (λ v. entry_of v r) (vector_here sites k s at_number hi site new got) in
            let e = rises.others r ne in
            omega (arith, a, b, e);
      }

      -- it keeps what it answers by what it heard, where that kept what it answered before
      pub looked_passed : Moves (length sites) (views sites) (views later) parcels parcels s → ((r t : ℕ) → OneOf (length sites) t → Below (length sites) (rows later r t) (vectors later t))
          → (h : Heard) → heard_in new ≡ looked h s new.vector → h.reached ≡ answer → length new.vector ≡ length sites → 1 ≤ length (row_of h.rows s) → HasPassed (length sites) (views later) s (heard_in new).reached
      looked_passed moves low h is kept many some =
          let n = length sites in
          subst (λ (h : Heard). HasPassed n (views later) s h.reached) (sym is)
          (answer_passed n (views later) parcels (reported_moves n (views sites) (views later) parcels parcels s moves agrees.reports upto_known) low s h new.vector
          (record {
            one = one_of_sites;
            vector = vector_here sites k s at_number hi site new got;
            set = set_is sites k s at_number hi site new got ∙ ap (λ (h : Heard). h.set) is;
            row = λ t. row_here sites k s at_number hi site new got t ∙ ap (λ (h : Heard). row_of h.rows t) is;
            told = λ t. told_is sites k s at_number hi site new got t ∙ ap (λ (h : Heard). told_of h.told t) is;
            many = many;
            some = some;
          })
          (subst (λ time. HasPassed n (views later) s time) (sym kept) (has_passed_moves n (views sites) (views later) parcels parcels s moves s answer passed_answer)))

      -- it takes a parcel from another that it does not hold for retired
      module _ (p : ℕ) (parcel : Parcel) (got_parcel : slice_get parcels p ≡ Some parcel) (one_from : OneOf (length sites) parcel.from) (other : parcel.from ≢ s) (free : is_in (retired_in site) parcel.from ≡ false)
          (time : ℕ) (vector : new.vector ≡ raised (vector_joined site.vector parcel.upto) s time) (above : IsAbove new.vector site.vector)
          (new_rows : (heard_in new).rows ≡ row_joined (heard_in site).rows parcel.from parcel.upto) (new_told : (heard_in new).told ≡ told_joined (heard_in site).told parcel.from parcel.retired)
          (new_set : retired_in new ≡ set_joined (retired_in site) parcel.retired) where
        sent : WasSent parcels parcel
        sent = (p, got_parcel)

        row_from : rows later s parcel.from ≡ vector_joined (rows sites s parcel.from) parcel.upto
        row_from =
            let st = agrees.each k s site at_number got in
            let long = st.rows parcel.from one_from.0 one_from.1 in
            let first = one_from.0 in
            let last = one_from.1 in
            row_here sites k s at_number hi site new got parcel.from ∙ ap (λ r. row_of r parcel.from) new_rows ∙ heard_here (heard_in site).rows parcel.from parcel.upto (omega (arith, long, first, last))
            ∙ ap (λ r. vector_joined r parcel.upto) (sym (row_was sites k s at_number hi site new got parcel.from))

        row_else : (t : ℕ) → t ≢ parcel.from → rows later s t ≡ rows sites s t
        row_else t ne = row_here sites k s at_number hi site new got t ∙ ap (λ r. row_of r t) new_rows ∙ heard_there (heard_in site).rows parcel.from t parcel.upto ne ∙ sym (row_was sites k s at_number hi site new got t)

        told_from : (j : ℕ) → is_in (tolds later s parcel.from) j ≡ true → (is_in (tolds sites s parcel.from) j ≡ true) ⊎ (is_in parcel.retired j ≡ true)
        told_from j h = elim (told_here (heard_in site).told parcel.from parcel.retired j (ap (λ a. is_in a j) (sym (told_is sites k s at_number hi site new got parcel.from ∙ ap (λ r. told_of r parcel.from) new_told)) ∙ h)) [
          | inl a ↦ inl (ap (λ a. is_in a j) (told_was sites k s at_number hi site new got parcel.from) ∙ a)
          | inr b ↦ inr b
        ]

        told_else_where : (t : ℕ) → t ≢ parcel.from → tolds later s t ≡ tolds sites s t
        told_else_where t ne = told_is sites k s at_number hi site new got t ∙ ap (λ r. told_of r t) new_told ∙ told_there (heard_in site).told parcel.from t parcel.retired ne ∙ sym (told_was sites k s at_number hi site new got t)

        row_above : (j : ℕ) → (entry_of (rows sites s parcel.from) j ≤ entry_of (rows later s parcel.from) j) × (entry_of parcel.upto j ≤ entry_of (rows later s parcel.from) j)
        row_above j =
            let e = ap (λ v. entry_of v j) row_from in
            let m = entry_joined (rows sites s parcel.from) parcel.upto j in
            (omega (arith, e, m), omega (arith, e, m))

        -- of what was told before and what is told now the later covers both
        report_from : HasNone (length sites) (tolds later s parcel.from) ⊎ Tells (length sites) parcels parcel.from (rows later s parcel.from) (tolds later s parcel.from)
        report_from = inr (elim (agrees.reports.report s parcel.from one_of_sites one_from other) [
          | inl none ↦ record {
            parcel = parcel;
            sent = sent;
            from = refl;
            set = λ j one h. elim (told_from j h) [ inl a ↦ absurd (not_both (is_in (tolds sites s parcel.from) j) a (none j one)) | inr b ↦ b ];
            row = λ j one. (row_above j).1;
          }
          | inr tells ↦ elim (agrees.reports.chain tells.parcel parcel tells.sent sent tells.from) [
            | inl before ↦ record {
              parcel = parcel;
              sent = sent;
              from = refl;
              set = λ j one h. elim (told_from j h) [ inl a ↦ before.set j one (tells.set j one a) | inr b ↦ b ];
              row = λ j one. (row_above j).1;
            }
            | inr before ↦ record {
              parcel = tells.parcel;
              sent = tells.sent;
              from = tells.from;
              set = λ j one h. elim (told_from j h) [ inl a ↦ tells.set j one a | inr b ↦ before.set j one b ];
              row = λ j one. let a = tells.row j one in let b = (row_above j).0 in omega (arith, a, b);
            }
          ]
        ])

        pub take_moves : Moves (length sites) (views sites) (views later) parcels parcels s
        take_moves = record {
          site = one_of_sites;
          vectors = λ t ne. vector_there sites k s at_number hi site new got t ne;
          sets = λ t ne. set_else sites k s at_number hi site new got t ne;
          rows = λ r t ne. row_there sites k s at_number hi site new got r t ne;
          tolds = λ r t ne. told_else sites k s at_number hi site new got r t ne;
          rises = vector_rises above;
          grows = set_rises (subst (λ a. Within (length sites) (retired_in site) a) (sym new_set) (joined_grows (length sites) (retired_in site) parcel.retired));
          told = λ t one ne j one_j h. elim (cases_eq t parcel.from) [
            | inl e ↦ elim (told_from j (subst (λ t. is_in (tolds later s t) j ≡ true) e h)) [
              | inl a ↦ agrees.reports.told s t one_of_sites one ne j one_j (subst (λ t. is_in (tolds sites s t) j ≡ true) (sym e) a)
              | inr b ↦ subst (λ t. is_in (sets sites t) j ≡ true) (sym e) (agrees.reports.sent_set parcel sent j one_j b)
            ]
            | inr nf ↦ agrees.reports.told s t one_of_sites one ne j one_j (ap (λ a. is_in a j) (sym (told_else_where t nf)) ∙ h)
          ];
          report = λ t one ne. elim (cases_eq t parcel.from) [
            | inl e ↦ subst (λ t. HasNone (length sites) (tolds later s t) ⊎ Tells (length sites) parcels t (rows later s t) (tolds later s t)) (sym e) report_from
            | inr nf ↦ subst₂ (λ (row : List ℕ) (told : List Bool). HasNone (length sites) told ⊎ Tells (length sites) parcels t row told) (sym (row_else t nf)) (sym (told_else_where t nf)) (agrees.reports.report s t one_of_sites one ne)
          ];
          still = λ m h. h;
          news = λ m h. inl h;
          teacher = parcel.from;
          is_teacher = one_from;
          allowed = inr (ap (λ a. is_in a parcel.from) (set_was sites k s at_number hi site new got) ∙ free);
          learns = λ r one ne.
              let a = ap (λ v. entry_of v r) (vector_was sites k s at_number hi site new got) in
              let b = ap (λ v. entry_of v r) (vector_here sites k s at_number hi site new got ∙ vector) ∙ entry_stays (vector_joined site.vector parcel.upto) s time r ne ∙ entry_joined site.vector parcel.upto r in
              let u = upto_known parcel sent r one in
              omega (arith, a, b, u);
        }

    -- it sends
    pub send_moves : (parcel : Parcel) → parcel.from ≡ s → parcel.upto ≡ site.vector → parcel.retired ≡ retired_in site → Moves (length sites) (views sites) (views sites) parcels (parcels ++ parcel ∷ []) s
    send_moves parcel from upto retired = record {
      site = one_of_sites;
      vectors = λ t ne. refl;
      sets = λ t ne. refl;
      rows = λ r t ne. refl;
      tolds = λ r t ne. refl;
      rises = λ j one. omega arith;
      grows = λ j one h. h;
      told = λ t one ne. agrees.reports.told s t one_of_sites one ne;
      report = λ t one ne. agrees.reports.report s t one_of_sites one ne;
      still = λ m sent. (sent.0, appended parcels sent.0 m sent.1);
      news = λ m sent. elim (get_appended parcels parcel sent.0 m sent.1) [
        | inl old ↦ inl (sent.0, old)
        | inr e ↦ inr (
          ap (λ (m : Parcel). m.from) e.1 ∙ from,
          ap (λ (m : Parcel). m.upto) e.1 ∙ upto ∙ sym (vector_was sites k s at_number hi site site got),
          ap (λ (m : Parcel). m.retired) e.1 ∙ retired ∙ sym (set_was sites k s at_number hi site site got),
        )
      ];
      teacher = s;
      is_teacher = one_of_sites;
      allowed = inl refl;
      learns = λ r one ne. omega arith;
    }
      where
        appended : (all : List Parcel) (q : ℕ) (m : Parcel) → slice_get all q ≡ Some m → slice_get (all ++ parcel ∷ []) q ≡ Some m
        appended [] q m h = absurd (some_none (sym h))
        appended (x ∷ xs) zero m h = h
        appended (x ∷ xs) (suc q) m h = appended xs q m h

-- What vectors promise is kept as operations are issued, sent and taken.
use Rattle.std.proofs.Common.{◌≡◌, ◌≢◌, ℕ, zero, suc, ◌+◌, ◌≤◌, ◌<◌, max, Bool, cond, ◌==◌, List, [], ◌∷◌, ◌++◌, length, Some, refl, sym, ap, ◌∙◌, subst, ◌⊎◌, inl, inr, arith, slice_get, slice_set, slice_index, slice_index_or, replicate}
use Rattle.std.proofs.lemmas.Bool.{cases_eq, cases_lt}
use Rattle.std.proofs.lemmas.Bool.Decides.{eqb_tells}
use Rattle.std.proofs.lemmas.Option.{slice_get_within}
use Rattle.std.proofs.lemmas.List.{get_or_append_left}
use Rattle.std.proofs.Math.Seq.{get_or-append_seam}
use Rattle.geo_stamp.specs.Acks.{row_of, told_of, row_joined, none_heard}
use Rattle.geo_stamp.specs.Retired.{no_sites}
use Rattle.geo_stamp.specs.Vectors.{entry_of, zeros, vector_joined, raised, greatest_of, Knows}
use Rattle.geo_laws.proofs.Joins.{joined_assoc, joined_comm, joined_same}
use Rattle.geo_records.specs.Operations.{Operation, Act, Among, latest}
use Rattle.geo_versions.proofs.Meaning.{latest_append}
use Rattle.geo_delta.specs.declared.parcel.Parcel.{Parcel}
use Rattle.geo_site.specs.declared.site.Site.{Site}
use Rattle.geo_site.specs.Entries.{Held}
use Rattle.geo_site.specs.Machine.{SiteState, clock_of, issue, issue_all, act_held, without, victim_by}
use Rattle.geo_world.specs.Schedule.{Known, Sending, never_sent, still_held, settles, new_operation, issues}
use Rattle.geo_world.specs.Holding.{StateOf}
use Rattle.geo_site.proofs.Entries.{Within, entry_joined, entry_stays}
use Rattle.geo_world.proofs.Sound.{here, there, among_left, among_right, grows}
use Rattle.geo_world.proofs.Stepping.{among_append, state_issues}
use Rattle.geo_site.specs.Sites.{heard_in, retired_in}
use Rattle.geo_world.specs.Bounds.{at_number, vectors, sets, rows, tolds, reached, IsAbove, told_in, Bounded}
use Rattle.geo_world.proofs.Worlds.{some_none, some_same, get_appended}

-- ---- vectors above vectors
pub above_trans : (a b c : List ℕ) → IsAbove a b → IsAbove b c → IsAbove a c
above_trans a b c p q = ap (λ x. vector_joined x c) (sym p) ∙ sym (joined_assoc a b c) ∙ ap (vector_joined a) q ∙ p

pub above_joined : (a b : List ℕ) → IsAbove (vector_joined a b) a
above_joined a b = joined_comm (vector_joined a b) a ∙ joined_assoc a a b ∙ ap (λ x. vector_joined x b) (joined_same a)

pub above_both : (v a b : List ℕ) → IsAbove v a → IsAbove v b → IsAbove v (vector_joined a b)
above_both v a b p q = joined_assoc v a b ∙ ap (λ x. vector_joined x b) p ∙ q

above_set : (v : List ℕ) (k x : ℕ) → slice_index v k ≤ x → IsAbove (slice_set v k x) v
above_set [] k x h = refl
above_set (y ∷ ys) zero x h = let m : max x y ≡ x = omega arith in λ i. m i ∷ joined_same ys i
above_set (y ∷ ys) (suc k) x h = let m : max y y ≡ y = omega arith in let r = above_set ys k x h in λ i. m i ∷ r i

pub above_raised : (v : List ℕ) (j t : ℕ) → IsAbove (raised v j t) v
above_raised v zero t = joined_same v
above_raised v (suc k) t = above_set v k (max (slice_index v k) t) (omega arith)

pub above_entry : (v u : List ℕ) (j : ℕ) → IsAbove v u → entry_of u j ≤ entry_of v j
above_entry v u j h = let e = entry_joined v u j in let f = ap (λ x. entry_of x j) h in omega (arith, e, f)

-- ---- operations that one site learns or issues
pub record Grows (n s : ℕ) (V V' : ℕ → List ℕ) (H' : ℕ → ℕ → List ℕ) (at at' : ℕ → List Operation) (more : List Operation) : Type 0 where
  pub low : 1 ≤ s
  pub high : s ≤ n
  pub others : (t : ℕ) → t ≢ s → V' t ≡ V t
  pub rises : IsAbove (V' s) (V s)
  pub gains : at' s ≡ at s ++ more
  pub stay : (t : ℕ) → t ≢ s → at' t ≡ at t
  pub news : (op : Operation) → Among more op → ((t : ℕ) × Among (at t) op) ⊎ ((op.stamp.site ≡ s) × (latest (at s) < op.stamp.time))
  pub whole : (t : ℕ) (op : Operation) → Among (at t) op → Knows (V' s) op.stamp → Among (at' s) op
  pub most : (q : ℕ) → entry_of (V' s) q ≤ latest (at' q)
  pub heard_known : (r q : ℕ) → 1 ≤ q → q ≤ n → IsAbove (V' q) (H' r q)

module _ (n s : ℕ) (V V' : ℕ → List ℕ) (H H' : ℕ → ℕ → List ℕ) (parcels : List Parcel) (at at' : ℕ → List Operation) (more : List Operation) (sent : List Sending) (b : Bounded n V H parcels at sent) (g : Grows n s V V' H' at at' more) where
  keeps : (t : ℕ) (op : Operation) → Among (at t) op → Among (at' t) op
  keeps t op a = elim (cases_eq t s) [
    | inl e ↦ subst (λ t. Among (at' t) op) (sym e) (subst (λ ops. Among ops op) (sym g.gains) (among_left (at s) more op (subst (λ t. Among (at t) op) e a)))
    | inr ne ↦ subst (λ ops. Among ops op) (sym (g.stay t ne)) a
  ]

  above : (t : ℕ) → IsAbove (V' t) (V t)
  above t = elim (cases_eq t s) [
    | inl e ↦ subst (λ t. IsAbove (V' t) (V t)) (sym e) g.rises
    | inr ne ↦ ap (λ v. vector_joined v (V t)) (g.others t ne) ∙ joined_same (V t) ∙ sym (g.others t ne)
  ]

  later : (t : ℕ) → latest (at t) ≤ latest (at' t)
  later t = elim (cases_eq t s) [
    | inl e ↦ let l = latest_append (at s) more in let a = ap latest g.gains in let x = ap (λ t. latest (at t)) e in let y = ap (λ t. latest (at' t)) e in omega (arith, l, a, x, y)
    | inr ne ↦ let a = ap latest (g.stay t ne) in omega (arith, a)
  ]

  -- what is known was known somewhere, or is news of the site
  told : (t : ℕ) (op : Operation) → Among (at' t) op → ((r : ℕ) × Among (at r) op) ⊎ ((op.stamp.site ≡ s) × (latest (at s) < op.stamp.time) × Among (at' s) op)
  told t op a = elim (cases_eq t s) [
    | inl e ↦
        let mine = subst (λ t. Among (at' t) op) e a in
        elim (among_append (at s) more op (subst (λ ops. Among ops op) g.gains mine)) [
          | inl old ↦ inl (s, old)
          | inr new ↦ elim (g.news op new) [ inl known ↦ inl known | inr own ↦ inr (own.0, own.1, mine) ]
        ]
    | inr ne ↦ inl (t, subst (λ ops. Among ops op) (g.stay t ne) a)
  ]

  -- no vector of before knows news of the site
  unknown : (v : List ℕ) (op : Operation) → entry_of v s ≤ latest (at s) → op.stamp.site ≡ s → latest (at s) < op.stamp.time → Knows v op.stamp → ⊥
  unknown v op past is lt k = let e = ap (entry_of v) is in omega (arith, past, lt, k, e)

  pub bounded_grows : Bounded n V' H' parcels at' sent
  bounded_grows = record {
    first = λ t op a. elim (told t op a) [ inl k ↦ b.first k.0 op k.1 | inr new ↦ subst (λ t. 1 ≤ t) (sym new.0) g.low ];
    last = λ t op a. elim (told t op a) [ inl k ↦ b.last k.0 op k.1 | inr new ↦ subst (λ t. t ≤ n) (sym new.0) g.high ];
    home = λ t op a. elim (told t op a) [
      | inl k ↦ keeps op.stamp.site op (b.home k.0 op k.1)
      | inr new ↦ subst (λ t. Among (at' t) op) (sym new.0) new.2
    ];
    complete = λ r t op a k. elim (cases_eq r s) [
      | inl e ↦ subst (λ r. Among (at' r) op) (sym e) (elim (told t op a) [
        | inl known ↦ g.whole known.0 op known.1 (subst (λ r. Knows (V' r) op.stamp) e k)
        | inr new ↦ new.2
      ])
      | inr ne ↦ let k2 = subst (λ v. Knows v op.stamp) (g.others r ne) k in elim (told t op a) [
        | inl known ↦ keeps r op (b.complete r known.0 op known.1 k2)
        | inr new ↦ absurd (unknown (V r) op (b.past r s) new.0 new.1 k2)
      ]
    ];
    past = λ r q. elim (cases_eq r s) [
      | inl e ↦ subst (λ r. entry_of (V' r) q ≤ latest (at' q)) (sym e) (g.most q)
      | inr ne ↦ let x = ap (λ v. entry_of v q) (g.others r ne) in let p = b.past r q in let l = later q in omega (arith, x, p, l)
    ];
    heard_known = g.heard_known;
    sent_told = λ p parcel op got a. keeps parcel.from op (b.sent_told p parcel op got a);
    sent_complete = λ p t parcel op got a k. elim (told t op a) [
      | inl known ↦ b.sent_complete p known.0 parcel op got known.1 k
      | inr new ↦
          let x = above_entry (V parcel.from) parcel.upto s (b.sent_upto p parcel got) in
          let y = b.past parcel.from s in
          absurd (unknown parcel.upto op (omega (arith, x, y)) new.0 new.1 k)
    ];
    sent_upto = λ p parcel got. above_trans (V' parcel.from) (V parcel.from) parcel.upto (above parcel.from) (b.sent_upto p parcel got);
    sent_base = λ p parcel got. above_trans (V' parcel.to) (V parcel.to) parcel.base (above parcel.to) (b.sent_base p parcel got);
  }

-- ---- the same, said otherwise
pub bounded_same : (n : ℕ) (V V' : ℕ → List ℕ) (H H' : ℕ → ℕ → List ℕ) (parcels : List Parcel) (at at' : ℕ → List Operation) (sent sent' : List Sending) → ((t : ℕ) → V' t ≡ V t) → ((r q : ℕ) → H' r q ≡ H r q) → ((t : ℕ) → at' t ≡ at t) → sent' ≡ sent
    → Bounded n V H parcels at sent → Bounded n V' H' parcels at' sent'
bounded_same n V V' H H' parcels at at' sent sent' v h a s b =
    let vs : V' ≡ V = λ i t. v t i in
    let hs : H' ≡ H = λ i r q. h r q i in
    let ops : at' ≡ at = λ i t. a t i in
    subst (λ V. Bounded n V H' parcels at' sent') (sym vs) (subst (λ H. Bounded n V H parcels at' sent') (sym hs) (subst (λ at. Bounded n V H parcels at sent') (sym ops) (subst (λ sent. Bounded n V H parcels at sent) (sym s) b)))

-- ---- a site issues operations
put_here : {A : Type 0} (f : ℕ → A) (s : ℕ) (x : A) → cond (s == s) x (f s) ≡ x
put_here f s x = elim (eqb_tells s s) [ inl p ↦ ap (λ b. cond b x (f s)) p.0 | inr p ↦ absurd (p.1 refl) ]

put_there : {A : Type 0} (f : ℕ → A) (s : ℕ) (x : A) (t : ℕ) → t ≢ s → cond (t == s) x (f t) ≡ f t
put_there f s x t ne = elim (eqb_tells t s) [ inl p ↦ absurd (ne p.1) | inr p ↦ ap (λ b. cond b x (f t)) p.0 ]

the_one : (op o : Operation) → Among (op ∷ []) o → op ≡ o
the_one op o (inl e) = e
the_one op o (inr h) = absurd h

module _ (n s : ℕ) (H : ℕ → ℕ → List ℕ) (parcels : List Parcel) (lo : 1 ≤ s) (hi : s ≤ n) where
  module _ (w : Known) (st : SiteState) (act : Act) (held : Held) (V V' : ℕ → List ℕ) (b : Bounded n V H parcels w.at w.sent) (h : ℕ) (ok : StateOf n s h st (w.at s) held) (mine : V s ≡ st.vector) where
    abbrev ops : List Operation
    ops = w.at s ++ new_operation w s act ∷ []

    abbrev after : Known
    after = settles w s ops (act_held act (w.held s))

    grows_issue : V' s ≡ (issue s act st).vector → ((t : ℕ) → t ≢ s → V' t ≡ V t) → Grows n s V V' H w.at after.at (new_operation w s act ∷ [])
    grows_issue is others =
        let clock = ok.tells.clock in
        let many = ok.many in
        let inside : Within st.vector s = record { above = lo; below = omega (arith, many, hi) } in
        let next = state_issues n s h st (w.at s) held act ok inside in
        let gains = here w s ops (act_held act (w.held s)) in
        let rises : IsAbove (V' s) (V s) = ap (λ v. vector_joined v (V s)) is ∙ ap (vector_joined (issue s act st).vector) mine ∙ above_raised st.vector s (clock_of st + 1) ∙ sym is in
        record {
          low = lo;
          high = hi;
          others = others;
          rises = rises;
          gains = gains;
          stay = λ t ne. there w s ops (act_held act (w.held s)) t ne;
          news = λ op a. let e = the_one (new_operation w s act) op a in
              let t = ap (λ (o : Operation). o.stamp.time) e in
              inr (sym (ap (λ (o : Operation). o.stamp.site) e), omega (arith, t));
          whole = λ t op a k. subst (λ all. Among all op) (sym gains) (among_left (w.at s) (new_operation w s act ∷ []) op (elim (cases_eq op.stamp.site s) [
            | inl e ↦ subst (λ t. Among (w.at t) op) e (b.home t op a)
            | inr ne ↦
                let x = entry_stays st.vector s (clock_of st + 1) op.stamp.site ne in
                let y = ap (λ v. entry_of v op.stamp.site) is in
                let z = ap (λ v. entry_of v op.stamp.site) mine in
                b.complete s t op a (omega (arith, x, y, z, k))
          ]));
          most = λ q. elim (cases_eq q s) [
            | inl e ↦
                let own = next.tells.own in
                let y = ap (λ v. entry_of v s) is in
                let l = ap latest gains in
                subst (λ q. entry_of (V' s) q ≤ latest (after.at q)) (sym e) (omega (arith, own, y, l))
            | inr ne ↦
                let x = entry_stays st.vector s (clock_of st + 1) q ne in
                let y = ap (λ v. entry_of v q) is in
                let z = ap (λ v. entry_of v q) mine in
                let p = b.past s q in
                let l = ap latest (there w s ops (act_held act (w.held s)) q ne) in
                omega (arith, x, y, z, p, l)
          ];
          heard_known = λ r q first last. elim (cases_eq q s) [
            | inl e ↦ subst (λ q. IsAbove (V' q) (H r q)) (sym e) (above_trans (V' s) (V s) (H r s) rises (b.heard_known r s lo hi))
            | inr ne ↦ subst (λ v. IsAbove v (H r q)) (sym (others q ne)) (b.heard_known r q first last)
          ];
        }

  -- whatever is held
  pub bounded_issues : (acts : List Act) (w : Known) (st : SiteState) (held : Held) (V V' : ℕ → List ℕ) → Bounded n V H parcels w.at w.sent → (h : ℕ) → StateOf n s h st (w.at s) held → V s ≡ st.vector
      → V' s ≡ (issue_all s acts st).vector → ((t : ℕ) → t ≢ s → V' t ≡ V t) → Bounded n V' H parcels (issues w s acts).at (issues w s acts).sent
  bounded_issues [] w st held V V' b h ok mine is others =
      bounded_same n V V' H H parcels w.at w.at w.sent w.sent (λ t. elim (cases_eq t s) [
        | inl e ↦ subst (λ t. V' t ≡ V t) (sym e) (is ∙ sym mine)
        | inr ne ↦ others t ne
      ]) (λ r q. refl) (λ t. refl) refl b
  bounded_issues (act ∷ acts) w st held V V' b low ok mine is others =
      let more = w.at s ++ new_operation w s act ∷ [] in
      let h = act_held act (w.held s) in
      let v = settles w s more h in
      let next = (issue s act st).vector in
      let U : ℕ → List ℕ = λ t. cond (t == s) next (V t) in
      let at_s : U s ≡ next = put_here V s next in
      let elsewhere : (t : ℕ) → t ≢ s → U t ≡ V t = λ t ne. put_there V s next t ne in
      let many = ok.many in
      let g = grows_issue w st act held V U b low ok mine at_s elsewhere in
      let left = still_held more (act_held act (without (victim_by act st.stock) held)) in
      let stands = subst (λ (o : List Operation). StateOf n s low (issue s act st) o left) (sym (here w s more h)) (state_issues n s low st (w.at s) held act ok (record { above = lo; below = omega (arith, many, hi) })) in
      bounded_issues acts v (issue s act st) left U V' (bounded_grows n s V U H H parcels w.at v.at (new_operation w s act ∷ []) w.sent b g) low stands at_s is (λ t ne. others t ne ∙ sym (elsewhere t ne))

-- who knows an operation knows it once others are issued
pub issues_known : (w : Known) (s : ℕ) (acts : List Act) (t : ℕ) (op : Operation) → Among (w.at t) op → Among ((issues w s acts).at t) op
issues_known w s [] t op a = a
issues_known w s (act ∷ acts) t op a = issues_known (settles w s (w.at s ++ new_operation w s act ∷ []) (act_held act (w.held s))) s acts t op (grows w s (new_operation w s act ∷ []) (act_held act (w.held s)) t op a)

-- ---- a site takes a parcel
module _ (n s p : ℕ) (V V' : ℕ → List ℕ) (H H' : ℕ → ℕ → List ℕ) (parcels : List Parcel) (at at' : ℕ → List Operation) (sent : List Sending) (parcel : Parcel)
    (b : Bounded n V H parcels at sent) (got : slice_get parcels p ≡ Some parcel) (lo : 1 ≤ s) (hi : s ≤ n) where
  -- what the parcel leaves out is known
  pub left_known : parcel.to ≡ s → (op : Operation) → Among (told_in sent p) op → Knows parcel.base op.stamp → Among (at s) op
  left_known to op a k =
      let up : IsAbove (V s) parcel.base = subst (λ t. IsAbove (V t) parcel.base) to (b.sent_base p parcel got) in
      let e = above_entry (V s) parcel.base op.stamp.site up in
      b.complete s parcel.from op (b.sent_told p parcel op got a) (omega (arith, e, k))

  abbrev joined : List ℕ
  joined = vector_joined (V s) parcel.upto

  module _ (is : V' s ≡ raised joined s (greatest_of joined)) (others : (t : ℕ) → t ≢ s → V' t ≡ V t) (gains : at' s ≡ at s ++ told_in sent p) (stay : (t : ℕ) → t ≢ s → at' t ≡ at t)
      (most : entry_of (V' s) s ≤ latest (at' s)) (heard_now : H' s parcel.from ≡ vector_joined (H s parcel.from) parcel.upto) (heard_else : (r q : ℕ) → (r ≡ s → q ≡ parcel.from → ⊥) → H' r q ≡ H r q) where
    rises : IsAbove (V' s) (V s)
    rises = subst (λ v. IsAbove v (V s)) (sym is) (above_trans (raised joined s (greatest_of joined)) joined (V s) (above_raised joined s (greatest_of joined)) (above_joined (V s) parcel.upto))

    higher : (q : ℕ) → IsAbove (V' q) (V q)
    higher q = elim (cases_eq q s) [
      | inl e ↦ subst (λ q. IsAbove (V' q) (V q)) (sym e) rises
      | inr ne ↦ subst (λ v. IsAbove v (V q)) (sym (others q ne)) (joined_same (V q))
    ]

    heard_before : (r q : ℕ) → 1 ≤ q → q ≤ n → IsAbove (V' q) (H r q)
    heard_before r q first last = above_trans (V' q) (V q) (H r q) (higher q) (b.heard_known r q first last)

    -- of another site the entry is that of the join
    entry_there : (q : ℕ) → q ≢ s → entry_of (V' s) q ≡ max (entry_of (V s) q) (entry_of parcel.upto q)
    entry_there q ne = ap (λ v. entry_of v q) is ∙ entry_stays joined s (greatest_of joined) q ne ∙ entry_joined (V s) parcel.upto q

    pub grows_take : Grows n s V V' H' at at' (told_in sent p)
    grows_take = record {
      low = lo;
      high = hi;
      others = others;
      rises = rises;
      gains = gains;
      stay = stay;
      news = λ op a. inl (parcel.from, b.sent_told p parcel op got a);
      whole = λ t op a k. subst (λ ops. Among ops op) (sym gains) (elim (cases_eq op.stamp.site s) [
        | inl e ↦ among_left (at s) (told_in sent p) op (subst (λ t. Among (at t) op) e (b.home t op a))
        | inr ne ↦ let x = entry_there op.stamp.site ne in elim (cases_lt (entry_of (V s) op.stamp.site) op.stamp.time) [
          | inl lt ↦ among_right (at s) (told_in sent p) op (b.sent_complete p t parcel op got a (omega (arith, x, k, lt)))
          | inr le ↦ among_left (at s) (told_in sent p) op (b.complete s t op a le)
        ]
      ]);
      most = λ q. elim (cases_eq q s) [
        | inl e ↦ subst (λ q. entry_of (V' s) q ≤ latest (at' q)) (sym e) most
        | inr ne ↦
            let x = entry_there q ne in
            let mine = b.past s q in
            let theirs = b.past parcel.from q in
            let up = above_entry (V parcel.from) parcel.upto q (b.sent_upto p parcel got) in
            let l = ap latest (stay q ne) in
            omega (arith, x, mine, theirs, up, l)
      ];
      heard_known = λ r q first last. elim (cases_eq r s) [
        | inl e ↦ elim (cases_eq q parcel.from) [
          | inl f ↦
              let base = heard_before s parcel.from (subst (λ q. 1 ≤ q) f first) (subst (λ q. q ≤ n) f last) in
              let upto = above_trans (V' parcel.from) (V parcel.from) parcel.upto (higher parcel.from) (b.sent_upto p parcel got) in
              subst (λ r. IsAbove (V' q) (H' r q)) (sym e) (subst (λ q. IsAbove (V' q) (H' s q)) (sym f) (subst (IsAbove (V' parcel.from)) (sym heard_now) (above_both (V' parcel.from) (H s parcel.from) parcel.upto base upto)))
          | inr ne ↦ subst (IsAbove (V' q)) (sym (heard_else r q (λ x y. ne y))) (heard_before r q first last)
        ]
        | inr ne ↦ subst (IsAbove (V' q)) (sym (heard_else r q (λ x y. ne x))) (heard_before r q first last)
      ];
    }

    pub bounded_takes : Bounded n V' H' parcels at' sent
    bounded_takes = bounded_grows n s V V' H H' parcels at at' (told_in sent p) sent b grows_take

-- ---- a site sends a parcel
module _ (n s to : ℕ) (set : List Bool) (V : ℕ → List ℕ) (H : ℕ → ℕ → List ℕ) (parcels : List Parcel) (at : ℕ → List Operation) (sent : List Sending) (parcel : Parcel)
    (b : Bounded n V H parcels at sent) (many : length sent ≡ length parcels) (from : parcel.from ≡ s) (addressee : parcel.to ≡ to) (upto : parcel.upto ≡ V s) (base : parcel.base ≡ H s to) (lo : 1 ≤ to) (hi : to ≤ n) where
  abbrev new : Sending
  new = record { from = s; to = to; set = set; ops = at s }

  told_old : (p : ℕ) (x : Parcel) → slice_get parcels p ≡ Some x → told_in (sent ++ new ∷ []) p ≡ told_in sent p
  told_old p x got = let lt = slice_get_within parcels p x got in ap (λ (x : Sending). x.ops) (get_or_append_left sent (new ∷ []) never_sent p (omega (arith, lt, many)))

  told_new : (p : ℕ) → p ≡ length parcels → told_in (sent ++ new ∷ []) p ≡ at s
  told_new p e = ap (λ p. told_in (sent ++ new ∷ []) p) (e ∙ sym many) ∙ ap (λ (x : Sending). x.ops) (get_or-append_seam sent new [] never_sent)

  pub bounded_sends : Bounded n V H (parcels ++ parcel ∷ []) at (sent ++ new ∷ [])
  bounded_sends = record {
    first = b.first;
    last = b.last;
    home = b.home;
    complete = b.complete;
    past = b.past;
    heard_known = b.heard_known;
    sent_told = λ p x op got a. elim (get_appended parcels parcel p x got) [
      | inl old ↦ b.sent_told p x op old (subst (λ ops. Among ops op) (told_old p x old) a)
      | inr e ↦ subst (λ t. Among (at t) op) (sym (ap (λ (x : Parcel). x.from) e.1 ∙ from)) (subst (λ ops. Among ops op) (told_new p e.0) a)
    ];
    sent_complete = λ p t x op got a k. elim (get_appended parcels parcel p x got) [
      | inl old ↦ subst (λ ops. Among ops op) (sym (told_old p x old)) (b.sent_complete p t x op old a k)
      | inr e ↦ subst (λ ops. Among ops op) (sym (told_new p e.0)) (b.complete s t op a (subst (λ v. Knows v op.stamp) (ap (λ (x : Parcel). x.upto) e.1 ∙ upto) k))
    ];
    sent_upto = λ p x got. elim (get_appended parcels parcel p x got) [
      | inl old ↦ b.sent_upto p x old
      | inr e ↦ subst (λ x. IsAbove (V x.from) x.upto) (sym e.1) (subst (λ t. IsAbove (V t) parcel.upto) (sym from) (subst (IsAbove (V s)) (sym upto) (joined_same (V s))))
    ];
    sent_base = λ p x got. elim (get_appended parcels parcel p x got) [
      | inl old ↦ b.sent_base p x old
      | inr e ↦ subst (λ x. IsAbove (V x.to) x.base) (sym e.1) (subst (λ t. IsAbove (V t) parcel.base) (sym addressee) (subst (IsAbove (V to)) (sym base) (b.heard_known s to lo hi)))
    ];
  }

-- ---- sites that know nothing
pub bounded_nothing : (n : ℕ) (V : ℕ → List ℕ) (H : ℕ → ℕ → List ℕ) → ((r s : ℕ) → entry_of (V r) s ≡ 0) → ((r s : ℕ) → 1 ≤ s → s ≤ n → IsAbove (V s) (H r s)) → Bounded n V H [] (λ t. []) []
bounded_nothing n V H zero_entries heard_known = record {
  first = λ t op a. absurd a;
  last = λ t op a. absurd a;
  home = λ t op a. absurd a;
  complete = λ r t op a k. absurd a;
  past = λ r s. let z = zero_entries r s in omega (arith, z);
  heard_known = heard_known;
  sent_told = λ p x op got a. absurd (some_none (sym got));
  sent_complete = λ p t x op got a k. absurd (some_none (sym got));
  sent_upto = λ p x got. absurd (some_none (sym got));
  sent_base = λ p x got. absurd (some_none (sym got));
}

-- ---- the sites by their numbers
module _ {A : Type 0} (f : Site → A) (none : A) where
  pub at_found : (sites : List Site) (k : ℕ) (x : Site) → slice_get sites k ≡ Some x → at_number f none sites (suc k) ≡ f x
  at_found [] k x h = absurd (some_none (sym h))
  at_found (y ∷ ys) zero x h = ap f (some_same h)
  at_found (y ∷ ys) (suc k) x h = at_found ys k x h

  pub set_here : (sites : List Site) (k : ℕ) (x : Site) → k < length sites → at_number f none (slice_set sites k x) (suc k) ≡ f x
  set_here [] k x h = absurd (omega arith)
  set_here (y ∷ ys) zero x h = refl
  set_here (y ∷ ys) (suc k) x h = set_here ys k x (omega arith)

  pub set_there : (sites : List Site) (k : ℕ) (x : Site) (t : ℕ) → t ≢ suc k → at_number f none (slice_set sites k x) t ≡ at_number f none sites t
  set_there sites k x zero ne = refl
  set_there [] k x (suc t) ne = refl
  set_there (y ∷ ys) zero x (suc zero) ne = absurd (ne refl)
  set_there (y ∷ ys) zero x (suc (suc t)) ne = refl
  set_there (y ∷ ys) (suc k) x (suc zero) ne = refl
  set_there (y ∷ ys) (suc k) x (suc (suc t)) ne = set_there ys k x (suc t) (λ e. ne (ap suc e))

  -- a number has a site, or nothing
  pub at_cases : (sites : List Site) (t : ℕ) → (at_number f none sites t ≡ none) ⊎ ((k : ℕ) × (x : Site) × (t ≡ k + 1) × (slice_get sites k ≡ Some x) × (at_number f none sites t ≡ f x))
  at_cases sites zero = inl refl
  at_cases [] (suc t) = inl refl
  at_cases (y ∷ ys) (suc zero) = inr (0, y, omega arith, refl, refl)
  at_cases (y ∷ ys) (suc (suc t)) = elim (at_cases ys (suc t)) [
    | inl e ↦ inl e
    | inr p ↦ inr (suc p.0, p.1, (let q = p.2 in omega (arith, q)), p.3, p.4)
  ]

  -- a number in range has a site
  pub at_place : (sites : List Site) (t : ℕ) → 1 ≤ t → t ≤ length sites → (k : ℕ) × (x : Site) × (t ≡ k + 1) × (slice_get sites k ≡ Some x) × (at_number f none sites t ≡ f x)
  at_place sites zero lo hi = absurd (omega arith)
  at_place [] (suc t) lo hi = absurd (omega arith)
  at_place (y ∷ ys) (suc zero) lo hi = (0, y, omega arith, refl, refl)
  at_place (y ∷ ys) (suc (suc t)) lo hi = let p = at_place ys (suc t) (omega arith) (omega arith) in (suc p.0, p.1, (let q = p.2 in omega (arith, q)), p.3, p.4)

-- ---- one site is another now
module _ (sites : List Site) (k s : ℕ) (is_place : s ≡ k + 1) (hi : s ≤ length sites) (old new : Site) (got : slice_get sites k ≡ Some old) where
  place : s ≡ suc k
  place = omega (arith, is_place)

  pub vector_was : vectors sites s ≡ old.vector
  vector_was = ap (vectors sites) place ∙ at_found (λ site. site.vector) [] sites k old got

  pub vector_here : vectors (slice_set sites k new) s ≡ new.vector
  vector_here = ap (vectors (slice_set sites k new)) place ∙ set_here (λ site. site.vector) [] sites k new (omega (arith, hi, is_place))

  pub vector_there : (t : ℕ) → t ≢ s → vectors (slice_set sites k new) t ≡ vectors sites t
  vector_there t ne = set_there (λ site. site.vector) [] sites k new t (λ e. ne (e ∙ sym place))

  module _ {A : Type 0} (f : Site → A) (none : A) where
    pub at_was : at_number f none sites s ≡ f old
    at_was = ap (at_number f none sites) place ∙ at_found f none sites k old got

    pub at_here : at_number f none (slice_set sites k new) s ≡ f new
    at_here = ap (at_number f none (slice_set sites k new)) place ∙ set_here f none sites k new (omega (arith, hi, is_place))

    pub at_there : (t : ℕ) → t ≢ s → at_number f none (slice_set sites k new) t ≡ at_number f none sites t
    at_there t ne = set_there f none sites k new t (λ e. ne (e ∙ sym place))

  pub row_was : (q : ℕ) → rows sites s q ≡ row_of (heard_in old).rows q
  row_was q = ap (λ h. row_of h q) (at_was (λ site. (heard_in site).rows) [])

  pub row_here : (q : ℕ) → rows (slice_set sites k new) s q ≡ row_of (heard_in new).rows q
  row_here q = ap (λ h. row_of h q) (at_here (λ site. (heard_in site).rows) [])

  pub row_there : (r q : ℕ) → r ≢ s → rows (slice_set sites k new) r q ≡ rows sites r q
  row_there r q ne = ap (λ h. row_of h q) (at_there (λ site. (heard_in site).rows) [] r ne)

  pub rows_stay : (heard_in new).rows ≡ (heard_in old).rows → (r q : ℕ) → rows (slice_set sites k new) r q ≡ rows sites r q
  rows_stay same r q = elim (cases_eq r s) [
    | inl e ↦ ap (λ t. rows (slice_set sites k new) t q) e ∙ row_here q ∙ ap (λ h. row_of h q) same ∙ sym (row_was q) ∙ ap (λ t. rows sites t q) (sym e)
    | inr ne ↦ row_there r q ne
  ]

  pub set_was : sets sites s ≡ retired_in old
  set_was = at_was retired_in no_sites

  pub set_is : sets (slice_set sites k new) s ≡ retired_in new
  set_is = at_here retired_in no_sites

  pub set_else : (t : ℕ) → t ≢ s → sets (slice_set sites k new) t ≡ sets sites t
  set_else t ne = at_there retired_in no_sites t ne

  pub told_was : (q : ℕ) → tolds sites s q ≡ told_of (heard_in old).told q
  told_was q = ap (λ h. told_of h q) (at_was (λ site. (heard_in site).told) [])

  pub told_is : (q : ℕ) → tolds (slice_set sites k new) s q ≡ told_of (heard_in new).told q
  told_is q = ap (λ h. told_of h q) (at_here (λ site. (heard_in site).told) [])

  pub told_else : (r q : ℕ) → r ≢ s → tolds (slice_set sites k new) r q ≡ tolds sites r q
  told_else r q ne = ap (λ h. told_of h q) (at_there (λ site. (heard_in site).told) [] r ne)

  pub reached_was : reached sites s ≡ (heard_in old).reached
  reached_was = at_was (λ site. (heard_in site).reached) 0

  pub reached_is : reached (slice_set sites k new) s ≡ (heard_in new).reached
  reached_is = at_here (λ site. (heard_in site).reached) 0

  pub reached_else : (t : ℕ) → t ≢ s → reached (slice_set sites k new) t ≡ reached sites t
  reached_else t ne = at_there (λ site. (heard_in site).reached) 0 t ne

-- ---- rows that are heard
heard_at : (all : List (List ℕ)) (j : ℕ) (x : List ℕ) → 1 ≤ length (slice_index_or all j []) → slice_index_or (slice_set all j x) j [] ≡ x
heard_at [] j x h = absurd (omega arith)
heard_at (y ∷ ys) zero x h = refl
heard_at (y ∷ ys) (suc j) x h = heard_at ys j x h

heard_not : (all : List (List ℕ)) (j i : ℕ) (x : List ℕ) → i ≢ j → slice_index_or (slice_set all j x) i [] ≡ slice_index_or all i []
heard_not [] j i x ne = refl
heard_not (y ∷ ys) zero zero x ne = absurd (ne refl)
heard_not (y ∷ ys) zero (suc i) x ne = refl
heard_not (y ∷ ys) (suc j) zero x ne = refl
heard_not (y ∷ ys) (suc j) (suc i) x ne = heard_not ys j i x (λ e. ne (ap suc e))

pub heard_here : (all : List (List ℕ)) (j : ℕ) (v : List ℕ) → 1 ≤ length (row_of all j) → row_of (row_joined all j v) j ≡ vector_joined (row_of all j) v
heard_here all zero v h = absurd (omega arith)
heard_here all (suc j) v h = heard_at all j (vector_joined (slice_index_or all j []) v) h

pub heard_there : (all : List (List ℕ)) (j i : ℕ) (v : List ℕ) → i ≢ j → row_of (row_joined all j v) i ≡ row_of all i
heard_there all zero i v ne = refl
heard_there all (suc j) zero v ne = refl
heard_there all (suc j) (suc i) v ne = heard_not all j i (vector_joined (slice_index_or all j []) v) (λ e. ne (ap suc e))

none_at : (m n j : ℕ) → j < m → slice_index_or (replicate m (zeros n)) j [] ≡ zeros n
none_at zero n j lt = absurd (omega arith)
none_at (suc m) n zero lt = refl
none_at (suc m) n (suc j) lt = none_at m n j (omega arith)

pub none_row : (n s : ℕ) → 1 ≤ s → s ≤ 16 → row_of (none_heard n).rows s ≡ zeros n
none_row n zero lo hi = absurd (omega arith)
none_row n (suc j) lo hi = none_at 16 n j (omega arith)

-- Each step of a site keeps it what it knows and holds.
use Rattle.std.proofs.Common.{◌≡◌, ℕ, zero, suc, ◌+◌, ◌≤◌, ◌<◌, Bool, true, false, cond, List, [], ◌∷◌, ◌++◌, length, Option, None, Some, refl, sym, ap, ◌∙◌, subst, subst₂, ◌⊎◌, inl, inr, arith, true≢false, nat_le, ◌||◌, ◌&&◌, not, is_some}
use Rattle.std.specs.declared.cmp.Ordering.{Ordering}
use Rattle.std.specs.Ordering.{nat_cmp}
use Rattle.std.specs.Cmp.{IsTotalOrder}
use Rattle.std.proofs.lemmas.Cmp.{nat_cmp_total}
use Rattle.std.proofs.lemmas.Map.Lookups.{exact_pairs, exact_unsigned, CmpEqualImpliesEq}
use Rattle.std.proofs.lemmas.Bool.Decides.{nat_tests}
use Rattle.geo_laws.specs.Registers.{newer, by_both}
use Rattle.geo_laws.proofs.Registers.{both_total}
use Rattle.geo_stamp.specs.Stamps.{Moment, stamp_cmp}
use Rattle.geo_stamp.proofs.Stamps.{stamps_total, exact_stamps}
use Rattle.geo_stamp.specs.Vectors.{entry_of, zeros, vector_joined, greatest_of, raised, Knows}
use Rattle.geo_records.specs.Keys.{same_key}
use Rattle.geo_records.specs.Bodies.{body_cmp}
use Rattle.geo_records.proofs.Bodies.{bodies_total, exact_bodies}
use Rattle.geo_records.specs.Operations.{Operation, Act, Register, Record, newest, above, above_both, floor_of, flush_of, body_of, expiry_of, winner, latest_expiry, record_joined, floor_joined, latest, Among, version_in, version_of}
use Rattle.geo_records.specs.Operations.Act.{Write, Delete, Touch, Flush}
use Rattle.geo_records.specs.declared.body.Body.{Body}
use Rattle.geo_records.specs.declared.body.Body.TheVariants.{Gone, Value}
use Rattle.geo_versions.specs.Maps.{is_unknown, since, is_old, recent, recent_both, is_over, remaining}
use Rattle.geo_versions.proofs.Meaning.{newest_append, absorbed, latest_append}
use Rattle.geo_site.specs.Entries.{Held, named_by}
use Rattle.geo_site.proofs.Stocking.{settled_held, act_held_is}
use Rattle.geo_site.specs.Machine.{act_stock, is_victim, without, victim_by, SiteState, Delta, fresh, clock_of, next_operation, map_after, issue, act_held, map_with, take, sifted_delta, removed, Same}
use Rattle.geo_world.specs.Schedule.{still_held}
use Rattle.geo_world.specs.Holding.{Kept, Old, Holds, UpTo, Spans, StateOf, DeltaOf, has_value}
use Rattle.geo_site.proofs.Entries.{zeros_length, Within, entry_joined, length_joined, greatest_joined, entry_at_most, greatest_raised, length_raised, entry_raised, entry_rises}
use Rattle.geo_world.proofs.Registers.{Incoming, Missing, found}
use Rattle.geo_world.proofs.Records.{B, X, Comes, holds_take, holds_more, holds_version, above_is}

some_none : {V : Type 0} {x : V} → Some x ≡ None → ⊥
some_none h = cc

some_same : {A : Type 0} {x y : A} → Some x ≡ Some y → x ≡ y
some_same h = cc

pub among_append : (ks ls : List Operation) (op : Operation) → Among (ks ++ ls) op → Among ks op ⊎ Among ls op
among_append [] ls op h = inr h
among_append (k ∷ ks) ls op (inl e) = inl (inl e)
among_append (k ∷ ks) ls op (inr h) = elim (among_append ks ls op h) [ inl a ↦ inl (inr a) | inr b ↦ inr b ]

pub at_most_latest : (ops : List Operation) (op : Operation) → Among ops op → op.stamp.time ≤ latest ops
at_most_latest [] op h = absurd h
at_most_latest (k ∷ ks) op (inl e) = let t = ap (λ (o : Operation). o.stamp.time) e in omega (arith, t)
at_most_latest (k ∷ ks) op (inr h) = let t = at_most_latest ks op h in omega (arith, t)

newer_none : {A : Type 0} (cmp : A → A → Ordering) (a : Option A) → newer cmp a None ≡ a
newer_none cmp None = refl
newer_none cmp (Some a) = refl

-- the stamp in a register is that of an operation
body_stamp : (key : List ℕ) (op : Operation) (y : Moment × Body) → body_of key op ≡ Some y → y.0 ≡ op.stamp
body_stamp key op y h = by op.act h
  where
    one : (t : Bool) (a : Body) → cond {A = Register Body} t (Some (op.stamp, a)) None ≡ Some y → y.0 ≡ op.stamp
    one true a h = let same : ◌≡◌ {A = Moment × Body} (op.stamp, a) y = some_same h in ap (λ (y : Moment × Body). y.0) (sym same)
    one false a h = absurd (some_none (sym h))

    by : (act : Act) → body_of key (record { stamp = op.stamp; act = act }) ≡ Some y → y.0 ≡ op.stamp
    by (Write k bytes flags expiry) h = one (same_key key k) _ h
    by (Delete k) h = one (same_key key k) Gone h
    by (Touch k expiry) h = absurd (some_none (sym h))
    by Flush h = absurd (some_none (sym h))

expiry_stamp : (key : List ℕ) (op : Operation) (y : Moment × ℕ) → expiry_of key op ≡ Some y → y.0 ≡ op.stamp
expiry_stamp key op y h = by op.act h
  where
    one : (t : Bool) (a : ℕ) → cond {A = Register ℕ} t (Some (op.stamp, a)) None ≡ Some y → y.0 ≡ op.stamp
    one true a h = let same : ◌≡◌ {A = Moment × ℕ} (op.stamp, a) y = some_same h in ap (λ (y : Moment × ℕ). y.0) (sym same)
    one false a h = absurd (some_none (sym h))

    by : (act : Act) → expiry_of key (record { stamp = op.stamp; act = act }) ≡ Some y → y.0 ≡ op.stamp
    by (Write k bytes flags expiry) h = one (same_key key k) expiry h
    by (Delete k) h = one (same_key key k) 0 h
    by (Touch k expiry) h = one (same_key key k) expiry h
    by Flush h = absurd (some_none (sym h))

-- one operation alone leaves its registers
alone_body : (key : List ℕ) (op : Operation) → winner (op ∷ []) key ≡ body_of key op
alone_body key op = (λ i. above (newer_none stamp_cmp (flush_of op) i) (newer_none (by_both stamp_cmp body_cmp) (body_of key op) i)) ∙ by op.act
  where
    one : (t : Bool) (a : Body) → above None (cond {A = Register Body} t (Some (op.stamp, a)) None) ≡ cond t (Some (op.stamp, a)) None
    one true a = refl
    one false a = refl

    by : (act : Act) → above (flush_of (record { stamp = op.stamp; act = act })) (body_of key (record { stamp = op.stamp; act = act })) ≡ body_of key (record { stamp = op.stamp; act = act })
    by (Write k bytes flags expiry) = one (same_key key k) _
    by (Delete k) = one (same_key key k) Gone
    by (Touch k expiry) = refl
    by Flush = refl

alone_expiry : (key : List ℕ) (op : Operation) → latest_expiry (op ∷ []) key ≡ expiry_of key op
alone_expiry key op = (λ i. above (newer_none stamp_cmp (flush_of op) i) (newer_none (by_both stamp_cmp nat_cmp) (expiry_of key op) i)) ∙ by op.act
  where
    one : (t : Bool) (a : ℕ) → above None (cond {A = Register ℕ} t (Some (op.stamp, a)) None) ≡ cond t (Some (op.stamp, a)) None
    one true a = refl
    one false a = refl

    by : (act : Act) → above (flush_of (record { stamp = op.stamp; act = act })) (expiry_of key (record { stamp = op.stamp; act = act })) ≡ expiry_of key (record { stamp = op.stamp; act = act })
    by (Write k bytes flags expiry) = one (same_key key k) expiry
    by (Delete k) = one (same_key key k) 0
    by (Touch k expiry) = one (same_key key k) expiry
    by Flush = refl

-- what a state with equal versions shows is the same
pub state_version : (n s h : ℕ) (st : SiteState) (ops : List Operation) (held : Held) (key : List ℕ) → StateOf n s h st ops held → version_in (st.map key) ≡ version_of ops key
state_version n s h st ops held key ok = holds_version (UpTo h) (st.map key) ops key (ok.holds key)

upto : (h t : ℕ) → UpTo h t → t ≤ h
upto h t le = le

pub act_held_same : (act : Act) (a b : Held) (key : List ℕ) → a key ≡ b key → act_held act a key ≡ act_held act b key
act_held_same (Write k bytes flags expiry) a b key e = ap (λ o. cond (same_key key k) (Some bytes) o) e
act_held_same (Delete k) a b key e = e
act_held_same (Touch k expiry) a b key e = e
act_held_same Flush a b key e = e

-- ---- a new operation
module _ (n s h : ℕ) (st : SiteState) (ops : List Operation) (held : Held) (act : Act) (ok : StateOf n s h st ops held) (in_range : Within st.vector s) where
  issued : Operation
  issued = next_operation (latest ops) s act

  clock_is : clock_of st ≡ latest ops
  clock_is = ok.tells.clock

  latest_after : latest (ops ++ next_operation (latest ops) s act ∷ []) ≡ latest ops + 1
  latest_after = let a = latest_append ops (next_operation (latest ops) s act ∷ []) in omega (arith, a)

  comes_body : (key : List ℕ) (x : Register Body) → body_of key (next_operation (latest ops) s act) ≡ x → Incoming body_cmp bodies_total exact_bodies h (B key ops) (winner (next_operation (latest ops) s act ∷ []) key) x
  comes_body key None e = inr (refl, λ y is. absurd (some_none (sym is ∙ alone_body key (next_operation (latest ops) s act) ∙ e)))
  comes_body key (Some y) e = inl (sym (alone_body key (next_operation (latest ops) s act) ∙ e), let t = ap (λ (m : Moment). m.time) (body_stamp key (next_operation (latest ops) s act) y e) in let b = ok.behind in let z : h < y.0.time = omega (arith, t, b) in z)

  comes_expiry : (key : List ℕ) (x : Register ℕ) → expiry_of key (next_operation (latest ops) s act) ≡ x → Incoming nat_cmp nat_cmp_total exact_unsigned h (X key ops) (latest_expiry (next_operation (latest ops) s act ∷ []) key) x
  comes_expiry key None e = inr (refl, λ y is. absurd (some_none (sym is ∙ alone_expiry key (next_operation (latest ops) s act) ∙ e)))
  comes_expiry key (Some y) e = inl (sym (alone_expiry key (next_operation (latest ops) s act) ∙ e), let t = ap (λ (m : Moment). m.time) (expiry_stamp key (next_operation (latest ops) s act) y e) in let b = ok.behind in let z : h < y.0.time = omega (arith, t, b) in z)

  holds_after : (key : List ℕ) → Holds (UpTo h) (map_after st (next_operation (latest ops) s act) key) (ops ++ next_operation (latest ops) s act ∷ []) key
  holds_after key =
      let op = next_operation (latest ops) s act in
      subst (λ f. Holds (UpTo h) (above_both f (record_joined (st.map key) (body_of key op, expiry_of key op))) (ops ++ op ∷ []) key)
      (λ i. floor_joined (sym ok.tells.floors i) (newer_none stamp_cmp (flush_of op) i))
      (holds_take (UpTo h) h (upto h) (st.map key) (body_of key op, expiry_of key op) ops (op ∷ []) key (ok.holds key)
      (record { body = comes_body key (body_of key op) refl; expiry = comes_expiry key (expiry_of key op) refl }))

  -- an operation is issued
  pub state_issues : StateOf n s h (issue s act st) (ops ++ next_operation (latest ops) s act ∷ []) (still_held (ops ++ next_operation (latest ops) s act ∷ []) (act_held act (without (victim_by act st.stock) held)))
  state_issues =
      let op = next_operation (latest ops) s act in
      let same : next_operation (clock_of st) s act ≡ op = ap (λ c. next_operation c s act) ok.tells.clock in
      let top = greatest_raised st.vector s (clock_of st + 1) in_range in
      let own = entry_raised st.vector s (clock_of st + 1) in_range in
      let c = ok.tells.clock in
      let l = latest_after in
      let was = ok.tells.own in
      record {
        many = length_raised st.vector s (clock_of st + 1) ∙ ok.many;
        tells = record {
          clock = omega (arith, top, c, l);
          own = omega (arith, own, c, l, was);
          covers = λ o h. elim (among_append ops (op ∷ []) o h) [
            | inl a ↦ let x = ok.tells.covers o a in let y = entry_rises st.vector s (clock_of st + 1) o.stamp.site in_range in omega (arith, x, y)
            | inr a ↦ new_covered o a (omega (arith, own, c, was))
          ];
          positive = λ o h. elim (among_append ops (op ∷ []) o h) [ inl a ↦ ok.tells.positive o a | inr a ↦ new_positive o a ];
          floors = ap (λ o. floor_joined st.floor (flush_of o)) same ∙ (λ i. floor_joined (ok.tells.floors i) (flush_of op)) ∙ ap (floor_joined (floor_of ops)) (sym (newer_none stamp_cmp (flush_of op))) ∙ sym (newest_append stamp_cmp stamps_total exact_stamps flush_of ops (op ∷ []));
        };
        behind = let b = ok.behind in omega (arith, b, l);
        holds = λ key. subst (λ o. Holds (UpTo h) (map_after st o key) (ops ++ op ∷ []) key) (sym same) (holds_after key);
        same_held = λ key. settled_held (map_after st (next_operation (clock_of st) s act)) (act_stock act st.stock) key ∙ (λ i. named_by (version_in (map_after st (same i) key)) (act_held_is act st.stock key i))
            ∙ (λ i. named_by (version_in (map_after st op key)) (act_held_same act (without (victim_by act st.stock) st.stock.held) (without (victim_by act st.stock) held) key (without_same (victim_by act st.stock) key) i))
            ∙ ap (λ v. named_by v (act_held act (without (victim_by act st.stock) held) key)) (holds_version (UpTo h) (map_after st op key) (ops ++ op ∷ []) key (holds_after key));
      }
    where
      without_same : (victim : Option (List ℕ)) (key : List ℕ) → without victim st.stock.held key ≡ without victim held key
      without_same victim key = ap (λ o. cond {A = Option (List ℕ)} (is_victim victim key) None o) (ok.same_held key)

      new_covered : (o : Operation) → Among (next_operation (latest ops) s act ∷ []) o → latest ops + 1 ≤ entry_of (raised st.vector s (clock_of st + 1)) s → Knows (raised st.vector s (clock_of st + 1)) o.stamp
      new_covered o (inl e) le = subst (λ (o : Operation). Knows (raised st.vector s (clock_of st + 1)) o.stamp) e le
      new_covered o (inr h) le = absurd h

      new_positive : (o : Operation) → Among (next_operation (latest ops) s act ∷ []) o → 1 ≤ o.stamp.time
      new_positive o (inl e) = subst (λ (o : Operation). 1 ≤ o.stamp.time) e (omega arith)
      new_positive o (inr h) = absurd h

known_stamp : {A : Type 0} (base : List ℕ) (y : Moment × A) → is_unknown base (Some y) ≡ false → Knows base y.0
known_stamp base y h = by (nat_le y.0.time (entry_of base y.0.site)) refl h
  where
    by : (t : Bool) → nat_le y.0.time (entry_of base y.0.site) ≡ t → not t ≡ false → Knows base y.0
    by true e h = grind (arith, nat_tests)
    by false e h = absurd (true≢false h)

-- ---- one register of what comes in a parcel: what is left out of it, what its sender dropped and what is sifted was known
module _ {A : Type 0} (C : A → A → Ordering) (total : IsTotalOrder C) (exact : CmpEqualImpliesEq C) (f : Operation → Register A) (stamped : (op : Operation) (y : Moment × A) → f op ≡ Some y → y.0 ≡ op.stamp)
    (h : ℕ) (P : ℕ → Type 0) (base : List ℕ) (ks ls : List Operation) (known : (op : Operation) → Among ls op → Knows base op.stamp → Among ks op) (old : (op : Operation) → Among ls op → op.stamp.time ≤ h → Among ks op) (gone : (op : Operation) → Among ls op → P op.stamp.time → Among ks op) where
  told : Register A
  told = above (floor_of ls) (newest (by_both stamp_cmp C) f ls)

  had : Register A
  had = newest (by_both stamp_cmp C) f ks

  was_known : (Q : Moment → Type 0) → ((op : Operation) → Among ls op → Q op.stamp → Among ks op) → (y : Moment × A) → above (floor_of ls) (newest (by_both stamp_cmp C) f ls) ≡ Some y → Q y.0 → newer (by_both stamp_cmp C) (Some y) (newest (by_both stamp_cmp C) f ks) ≡ newest (by_both stamp_cmp C) f ks
  was_known Q into y is q =
      let op = found (by_both stamp_cmp C) f ls y (above_is (floor_of ls) (newest (by_both stamp_cmp C) f ls) y is).0 in
      let there = into op.0 op.1 (subst Q (stamped op.0 y op.2) q) in
      ap (λ r. newer (by_both stamp_cmp C) r (newest (by_both stamp_cmp C) f ks)) (sym op.2) ∙ absorbed (by_both stamp_cmp C) (both_total stamps_total total) (exact_pairs stamp_cmp C exact_stamps exact) f ks op.0 there

  was_dropped : (r : Register A) → above (floor_of ls) (newest (by_both stamp_cmp C) f ls) ≡ r → Old P r → Missing C total exact (newest (by_both stamp_cmp C) f ks) r
  was_dropped None e o y is = absurd o
  was_dropped (Some z) e o y is = was_known (λ m. P m.time) gone y (e ∙ is) (subst (λ (y : Moment × A). P y.0.time) (some_same is) o)

  -- it is in the parcel
  pub comes_recent : (m r : Register A) → above (floor_of ls) (newest (by_both stamp_cmp C) f ls) ≡ r → Kept P m r → Incoming C total exact h (newest (by_both stamp_cmp C) f ks) r (recent h m)
  comes_recent None r e (inl same) = inr (refl, λ y is. absurd (some_none (sym (same ∙ is))))
  comes_recent (Some y) r e (inl same) = by (nat_le y.0.time h) refl
    where
      by : (t : Bool) → nat_le y.0.time h ≡ t → Incoming C total exact h (newest (by_both stamp_cmp C) f ks) r (cond t None (Some y))
      by true le = inr (refl, λ z is. was_known (λ m. m.time ≤ h) old z (e ∙ is) (subst (λ (z : Moment × A). z.0.time ≤ h) (some_same (same ∙ is)) (grind (arith, nat_tests))))
      by false le = inl (same, grind (arith, nat_tests))
  comes_recent m r e (inr gone_is) = subst (λ m. Incoming C total exact h (newest (by_both stamp_cmp C) f ks) r (recent h m)) (sym gone_is.0) (inr (refl, was_dropped r e gone_is.1))

  -- it is left out
  pub comes_known : (m r : Register A) → above (floor_of ls) (newest (by_both stamp_cmp C) f ls) ≡ r → is_unknown base m ≡ false → Kept P m r → Missing C total exact (newest (by_both stamp_cmp C) f ks) r
  comes_known m r e out (inl same) y is = was_known (Knows base) known y (e ∙ is) (known_stamp base y (ap (is_unknown base) (sym (same ∙ is)) ∙ out))
  comes_known m r e out (inr gone_is) y is = was_dropped r e gone_is.1 y is

-- ---- what comes in a parcel
module _ (n s h sender : ℕ) (P : ℕ → Type 0) (base : List ℕ) (st : SiteState) (d : Delta) (ks ls : List Operation) (held : Held) (ok : StateOf n s h st ks held) (comes : DeltaOf n sender P base d ls) (in_range : Within st.vector s)
    (known : (op : Operation) → Among ls op → Knows base op.stamp → Among ks op) (old : (op : Operation) → Among ls op → op.stamp.time ≤ h → Among ks op) (gone : (op : Operation) → Among ls op → P op.stamp.time → Among ks op) where
  comes_in : (key : List ℕ) (m : Record) → Kept P m.0 (winner ls key) → Kept P m.1 (latest_expiry ls key) → Comes h ks ls key (recent_both h (since base m))
  comes_in key m body expiry = by (is_unknown base m.0) (is_unknown base m.1) refl refl
    where
      whole : Comes h ks ls key (recent_both h m)
      whole = record {
        body = comes_recent body_cmp bodies_total exact_bodies (body_of key) (body_stamp key) h P base ks ls known old gone m.0 (winner ls key) refl body;
        expiry = comes_recent nat_cmp nat_cmp_total exact_unsigned (expiry_of key) (expiry_stamp key) h P base ks ls known old gone m.1 (latest_expiry ls key) refl expiry;
      }

      by : (t u : Bool) → is_unknown base m.0 ≡ t → is_unknown base m.1 ≡ u → Comes h ks ls key (recent_both h (cond {A = Record} (t || u) m (None, None)))
      by true u e f = whole
      by false true e f = whole
      by false false e f = record {
        body = inr (refl, comes_known body_cmp bodies_total exact_bodies (body_of key) (body_stamp key) h P base ks ls known old gone m.0 (winner ls key) refl e body);
        expiry = inr (refl, comes_known nat_cmp nat_cmp_total exact_unsigned (expiry_of key) (expiry_stamp key) h P base ks ls known old gone m.1 (latest_expiry ls key) refl f expiry);
      }

  holds_with : (key : List ℕ) → Holds (UpTo h) (map_with st (sifted_delta h d) key) (ks ++ ls) key
  holds_with key =
      subst (λ f. Holds (UpTo h) (above_both f (record_joined (st.map key) (recent_both h (d.map key)))) (ks ++ ls) key)
      (λ i. floor_joined (sym ok.tells.floors i) (sym comes.tells.floors i))
      (holds_take (UpTo h) h (upto h) (st.map key) (recent_both h (d.map key)) ks ls key (ok.holds key)
      (subst (λ r. Comes h ks ls key (recent_both h r)) (sym (comes.lacking key)) (comes_in key (comes.kept key) (comes.holds key).body (comes.holds key).expiry)))

  -- a parcel is taken
  pub state_takes : StateOf n s h (take s (sifted_delta h d) st) (ks ++ ls) (still_held (ks ++ ls) held)
  state_takes =
      let joined = vector_joined st.vector d.upto in
      let len : length joined ≡ length st.vector = length_joined st.vector d.upto (ok.many ∙ sym comes.many) in
      let above : 1 ≤ s = in_range.above in
      let most : s ≤ length st.vector = in_range.below in
      let there : Within joined s = record { above = above; below = omega (arith, len, most) } in
      let top = greatest_raised joined s (greatest_of joined) there in
      let own = entry_raised joined s (greatest_of joined) there in
      let all = greatest_joined st.vector d.upto in
      let below = entry_at_most joined s in
      let l = latest_append ks ls in
      let c1 = ok.tells.clock in
      let c2 = comes.tells.clock in
      record {
        many = length_raised joined s (greatest_of joined) ∙ len ∙ ok.many;
        tells = record {
          clock = omega (arith, top, all, l, c1, c2);
          own = omega (arith, own, all, l, c1, c2, below);
          covers = λ o h.
              let r = entry_rises joined s (greatest_of joined) o.stamp.site there in
              let j = entry_joined st.vector d.upto o.stamp.site in
              elim (among_append ks ls o h) [
                | inl a ↦ let x = ok.tells.covers o a in omega (arith, r, j, x)
                | inr a ↦ let x = comes.tells.covers o a in omega (arith, r, j, x)
              ];
          positive = λ o h. elim (among_append ks ls o h) [ inl a ↦ ok.tells.positive o a | inr a ↦ comes.tells.positive o a ];
          floors = (λ i. floor_joined (ok.tells.floors i) (comes.tells.floors i)) ∙ sym (newest_append stamp_cmp stamps_total exact_stamps flush_of ks ls);
        };
        behind = let b = ok.behind in omega (arith, b, l);
        holds = holds_with;
        same_held = λ key. let e = sifted_delta h d in settled_held (map_with st e) st.stock key ∙ (λ i. named_by (version_in (map_with st e key)) (ok.same_held key i)) ∙ ap (λ v. named_by v (held key)) (holds_version (UpTo h) (map_with st e key) (ks ++ ls) key (holds_with key));
      }

-- a site that knows nothing
pub zeros_greatest : (n : ℕ) → greatest_of (zeros n) ≡ 0
zeros_greatest zero = refl
zeros_greatest (suc n) = let h = zeros_greatest n in omega (arith, h)

pub state_fresh : (n s pages : ℕ) → StateOf n s 0 (fresh n pages) [] (λ _. None)
state_fresh n s pages = record {
  many = zeros_length n;
  tells = record {
    clock = zeros_greatest n;
    own = let h = entry_at_most (zeros n) s in let z = zeros_greatest n in omega (arith, h, z);
    covers = λ op h. absurd h;
    positive = λ op h. absurd h;
    floors = refl;
  };
  behind = omega arith;
  holds = λ key. record { body = inl refl; expiry = inl refl; whole = λ h. absurd (true≢false (sym h)) };
  same_held = λ key. refl;
}

-- a state that says the same
pub state_same : (n s h : ℕ) (st new : SiteState) (ops : List Operation) (held : Held) → StateOf n s h st ops held → Same st new → StateOf n s h new ops held
state_same n s h st new ops held ok same = record {
  many = ap length same.vector ∙ ok.many;
  tells = subst₂ (λ (v : List ℕ) (f : Option Moment). Spans s v f ops) (sym same.vector) (sym same.floor) ok.tells;
  behind = ok.behind;
  holds = λ key. subst (λ (m : Record). Holds (UpTo h) m ops key) (sym (same.map key)) (ok.holds key);
  same_held = λ key. same.stock.held key ∙ ok.same_held key;
}

-- what was dropped up to a horizon was dropped up to a later one
pub state_later : (n s h more : ℕ) (st : SiteState) (ops : List Operation) (held : Held) → StateOf n s h st ops held → h ≤ more → more ≤ latest ops → StateOf n s more st ops held
state_later n s h more st ops held ok le behind = record {
  many = ok.many;
  tells = ok.tells;
  behind = behind;
  holds = λ key. holds_more (UpTo h) (UpTo more) (λ t at. omega (arith, at, le)) (st.map key) ops key (ok.holds key);
  same_held = ok.same_held;
}

-- ---- a removal
and_both : {V : Type 0} (v : Option V) (a b : Bool) → (not (is_some v) && (a && b)) ≡ true → (v ≡ None) × ((a ≡ true) × (b ≡ true))
and_both None true true e = (refl, (refl, refl))
and_both None true false e = absurd (true≢false (sym e))
and_both None false b e = absurd (true≢false (sym e))
and_both (Some v) a b e = absurd (true≢false (sym e))

shown : (r : Register Body) (e : Register ℕ) → has_value r ≡ true → version_in (r, e) ≡ None → ⊥
shown None e s h = true≢false (sym s)
shown (Some (m, Gone)) e s h = true≢false (sym s)
shown (Some (m, Value d f l)) None s h = some_none h
shown (Some (m, Value d f l)) (Some (t, x)) s h = some_none h

-- a record without a version of which all is old is dropped
dropped_holds : (h : ℕ) (m : Record) (ops : List Operation) (key : List ℕ) → Holds (UpTo h) m ops key → Holds (UpTo h) (remaining h m) ops key
dropped_holds h m ops key k = by (is_over h m) refl
  where
    over : is_over h m ≡ true → (version_in m ≡ None) × ((is_old h m.0 ≡ true) × (is_old h m.1 ≡ true))
    over e = and_both (version_in m) (is_old h m.0) (is_old h m.1) e

    empty : {A : Type 0} (r q : Register A) → is_old h r ≡ true → Kept (UpTo h) r q → Kept (UpTo h) None q
    empty None q o (inl e) = inl e
    empty (Some y) q o (inl e) = inr (refl, subst (Old (UpTo h)) e (grind (arith, nat_tests)))
    empty r q o (inr e) = inr (refl, e.1)

    hidden : has_value (winner ops key) ≡ true → version_in m ≡ None → ⊥
    hidden s none = shown (winner ops key) (latest_expiry ops key) s (ap version_in (sym (k.whole s)) ∙ none)

    by : (t : Bool) → is_over h m ≡ t → Holds (UpTo h) (cond {A = Record} t (None, None) m) ops key
    by true e = let o = over e in record { body = empty m.0 (winner ops key) o.1.0 k.body; expiry = empty m.1 (latest_expiry ops key) o.1.1 k.expiry; whole = λ s. absurd (hidden s o.0) }
    by false e = k

-- what is old is removed
pub state_removes : (n s h : ℕ) (st : SiteState) (ops : List Operation) (held : Held) → StateOf n s h st ops held → StateOf n s h (removed h st) ops held
state_removes n s h st ops held ok = record {
  many = ok.many;
  tells = ok.tells;
  behind = ok.behind;
  holds = λ key. dropped_holds h (st.map key) ops key (ok.holds key);
  same_held = ok.same_held;
}

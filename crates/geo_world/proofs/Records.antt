-- Both registers of a key, as states and deltas join.
use Rattle.std.proofs.Common.{◌≡◌, ℕ, ◌≤◌, ◌<◌, Bool, true, false, cond, List, ◌++◌, Option, None, Some, refl, sym, ap, ◌∙◌, subst, subst₂, inl, inr, arith, true≢false}
use Rattle.std.proofs.lemmas.Bool.{cases_lt}
use Rattle.std.specs.declared.cmp.Ordering.{Ordering}
use Rattle.std.specs.declared.cmp.Ordering.TheVariants.{Less, Equal, Greater}
use Rattle.std.specs.Ordering.{ordering_then, is_lt, is_gt, nat_cmp}
use Rattle.std.proofs.lemmas.Cmp.{nat_cmp_total, tied_itself}
use Rattle.std.proofs.lemmas.Map.Lookups.{exact_pairs, exact_unsigned}
use Rattle.geo_laws.specs.Registers.{newer, by_both, by_order, greater}
use Rattle.geo_laws.proofs.Registers.{both_total}
use Rattle.geo_stamp.specs.Stamps.{Moment, stamp_cmp}
use Rattle.geo_stamp.proofs.Stamps.{stamps_total, exact_stamps}
use Rattle.geo_records.specs.Operations.{Operation, Act, Register, Record, newest, above, is_above, floor_of, flush_of, body_of, expiry_of, winner, latest_expiry, record_of, floor_joined, body_joined, expiry_joined, version_in, version_of}
use Rattle.geo_records.specs.Keys.{same_key}
use Rattle.geo_records.specs.Bodies.{body_cmp}
use Rattle.geo_records.proofs.Bodies.{bodies_total, exact_bodies}
use Rattle.geo_records.specs.Operations.Act.{Write, Delete, Touch, Flush}
use Rattle.geo_versions.proofs.Meaning.{newest_append, absorbed}
use Rattle.geo_records.proofs.Above.{above_lower, below_too, lt_gt}
use Rattle.geo_records.specs.declared.body.Body.{Body}
use Rattle.geo_records.specs.declared.body.Body.TheVariants.{Gone, Value}
use Rattle.geo_world.specs.Holding.{has_value, Old, Kept, Holds}
use Rattle.geo_site.proofs.Times.{earlier, time_of}
use Rattle.geo_world.proofs.Registers.{Later, Incoming, join_later, join_whole, join_kept, missing_absorbed, found}

abbrev pub B : List ℕ → List Operation → Register Body
B key = newest (by_both stamp_cmp body_cmp) (body_of key)

abbrev pub X : List ℕ → List Operation → Register ℕ
X key = newest (by_both stamp_cmp nat_cmp) (expiry_of key)

shows_above : (f : Option Moment) (q : Register Body) → has_value (above f q) ≡ true → has_value q ≡ true
shows_above f None h = h
shows_above f (Some r) h = by (is_above f r.0) h
  where
    by : (t : Bool) → has_value (cond t (Some r) None) ≡ true → has_value (Some r) ≡ true
    by true h = h
    by false h = absurd (true≢false (sym h))

old_above : {A : Type 0} (P : ℕ → Type 0) (f : Option Moment) (q : Register A) (e : Moment × A) → Old P q → above f q ≡ Some e → P e.0.time
old_above P f None e o h = absurd o
old_above {A} P f (Some r) e o h = by (is_above f r.0) h
  where
    by : (t : Bool) → cond t (Some r) None ≡ Some e → P e.0.time
    by true h = let same : r ≡ e = cc in subst (λ (e : Moment × A). P e.0.time) same o
    by false h = cc

-- a value that a later register brings is that register
shows_which : (f : Option Moment) (q x : Register Body) (h : ℕ) → has_value q ≡ false → Later h x → has_value (above f (newer (by_both stamp_cmp body_cmp) q x)) ≡ true → (z : Moment × Body) × (above f (newer (by_both stamp_cmp body_cmp) q x) ≡ Some z) × (h < z.0.time)
shows_which f q None h hid late s = absurd late
shows_which f None (Some b) h hid late s = by (is_above f b.0) s
  where
    by : (t : Bool) → has_value (cond t (Some b) None) ≡ true → (z : Moment × Body) × (cond t (Some b) None ≡ Some z) × (h < z.0.time)
    by true s = (b, refl, late)
    by false s = absurd (true≢false (sym s))
shows_which f (Some a) (Some b) h hid late s = by (by_both stamp_cmp body_cmp a b) s
  where
    here : (t : Bool) → has_value (cond t (Some b) None) ≡ true → (z : Moment × Body) × (cond t (Some b) None ≡ Some z) × (h < z.0.time)
    here true s = (b, refl, late)
    here false s = absurd (true≢false (sym s))

    there : has_value (above f (Some a)) ≡ true → ⊥
    there s = true≢false (sym (shows_above f (Some a) s) ∙ hid)

    by : (o : Ordering) → has_value (above f (Some (by_order o a b))) ≡ true → (z : Moment × Body) × (above f (Some (by_order o a b)) ≡ Some z) × (h < z.0.time)
    by Less s = here (is_above f b.0) s
    by Equal s = absurd (there s)
    by Greater s = absurd (there s)

some_none : {V : Type 0} {x : V} → Some x ≡ None → ⊥
some_none h = cc

some_same : {A : Type 0} {x y : A} → Some x ≡ Some y → x ≡ y
some_same h = cc

true_or : (b : Bool) → (b ≡ false → ⊥) → b ≡ true
true_or true h = refl
true_or false h = absurd (h refl)

pub above_is : {A : Type 0} (f : Option Moment) (q : Register A) (z : Moment × A) → above f q ≡ Some z → (q ≡ Some z) × (is_above f z.0 ≡ true)
above_is f None z h = absurd (some_none (sym h))
above_is {A} f (Some r) z h = by (is_above f r.0) refl h
  where
    by : (t : Bool) → is_above f r.0 ≡ t → cond t (Some r) None ≡ Some z → (Some r ≡ Some z) × (is_above f z.0 ≡ true)
    by true e h = (h, subst (λ (z : Moment × A). is_above f z.0 ≡ true) (some_same h) e)
    by false e h = absurd (some_none (sym h))

not_below : (q y : Moment × ℕ) → greater (by_both stamp_cmp nat_cmp) q y ≡ y → is_lt (stamp_cmp y.0 q.0) ≡ false
not_below q y = by (by_both stamp_cmp nat_cmp q y) refl
  where
    same : q ≡ y → is_lt (stamp_cmp y.0 q.0) ≡ false
    same e = subst (λ (q : Moment × ℕ). is_lt (stamp_cmp y.0 q.0) ≡ false) (sym e) (ap is_lt (tied_itself stamps_total y.0))

    less : (o p : Ordering) → ordering_then o p ≡ Less → is_gt o ≡ false
    less Less p h = refl
    less Equal p h = refl
    less Greater p h = cc

    by : (o : Ordering) → by_both stamp_cmp nat_cmp q y ≡ o → by_order o q y ≡ y → is_lt (stamp_cmp y.0 q.0) ≡ false
    by Less e h = lt_gt y.0 q.0 ∙ less (stamp_cmp q.0 y.0) (nat_cmp q.1 y.1) e
    by Equal e h = same h
    by Greater e h = same h

-- an operation that leaves a body leaves an expiry
both_of : (key : List ℕ) (op : Operation) (z : Moment × Body) → body_of key op ≡ Some z → (e : ℕ) × (expiry_of key op ≡ Some (z.0, e))
both_of key op z h = by op.act h
  where
    one : (t : Bool) (a : Body) (e : ℕ) → cond {A = Register Body} t (Some (op.stamp, a)) None ≡ Some z → (x : ℕ) × (cond {A = Register ℕ} t (Some (op.stamp, e)) None ≡ Some (z.0, x))
    one true a e h = let same : ◌≡◌ {A = Moment × Body} (op.stamp, a) z = some_same h in (e, ap (λ (z : Moment × Body). Some (z.0, e)) same)
    one false a e h = absurd (some_none (sym h))

    by : (act : Act) → body_of key (record { stamp = op.stamp; act = act }) ≡ Some z → (x : ℕ) × (expiry_of key (record { stamp = op.stamp; act = act }) ≡ Some (z.0, x))
    by (Write k bytes flags expiry) h = one (same_key key k) _ expiry h
    by (Delete k) h = one (same_key key k) Gone 0 h
    by (Touch k expiry) h = absurd (some_none (sym h))
    by Flush h = absurd (some_none (sym h))

-- the expiry is at least as late as the body
abbrev pub Leads : Register Body → Register ℕ → Type 0
Leads b e = (z : Moment × Body) → b ≡ Some z → (y : Moment × ℕ) × (e ≡ Some y) × (z.0.time ≤ y.0.time)

pub leads : (ops : List Operation) (key : List ℕ) → Leads (winner ops key) (latest_expiry ops key)
leads ops key z is =
    let at = above_is (floor_of ops) (B key ops) z is in
    let op = found (by_both stamp_cmp body_cmp) (body_of key) ops z at.0 in
    let e = both_of key op.0 z op.2 in
    let a = absorbed (by_both stamp_cmp nat_cmp) (both_total stamps_total nat_cmp_total) (exact_pairs stamp_cmp nat_cmp exact_stamps exact_unsigned) (expiry_of key) ops op.0 op.1 in
    let r = ap (λ x. newer (by_both stamp_cmp nat_cmp) x (X key ops)) (sym e.1) ∙ a in
    by (X key ops) refl (z.0, e.0) refl r at.1
  where
    by : (x : Register ℕ) → X key ops ≡ x → (q : Moment × ℕ) → q.0 ≡ z.0 → newer (by_both stamp_cmp nat_cmp) (Some q) x ≡ x → is_above (floor_of ops) z.0 ≡ true → (y : Moment × ℕ) × (above (floor_of ops) (X key ops) ≡ Some y) × (z.0.time ≤ y.0.time)
    by None xs q qz r ab = absurd (some_none r)
    by (Some y) xs q qz r ab =
        let ge = subst (λ s. is_lt (stamp_cmp y.0 s) ≡ false) qz (not_below q y (some_same r)) in
        (y, ap (above (floor_of ops)) xs ∙ ap (λ t. cond t (Some y) None) (true_or (is_above (floor_of ops) y.0) (λ f. true≢false (sym ab ∙ below_too (floor_of ops) y.0 z.0 f ge))), time_of y.0 z.0 ge)

module _ (fa fp : Option Moment) (P : ℕ → Type 0) (h : ℕ) (low : (t : ℕ) → P t → t ≤ h) (m : Record) (rb rpb xb : Register Body) (re rpe xe : Register ℕ) where
  whole_take : Kept P m.0 (above fa rb) → Kept P m.1 (above fa re) → (has_value (above fa rb) ≡ true → m ≡ (above fa rb, above fa re))
      → Incoming body_cmp bodies_total exact_bodies h rb (above fp rpb) xb → Incoming nat_cmp nat_cmp_total exact_unsigned h re (above fp rpe) xe
      → Leads (above (floor_joined fa fp) (body_joined rb rpb)) (above (floor_joined fa fp) (expiry_joined re rpe))
      → has_value (above (floor_joined fa fp) (body_joined rb rpb)) ≡ true
      → ◌≡◌ {A = Record} (above (floor_joined fa fp) (body_joined m.0 xb), above (floor_joined fa fp) (expiry_joined m.1 xe)) (above (floor_joined fa fp) (body_joined rb rpb), above (floor_joined fa fp) (expiry_joined re rpe))
  whole_take kb ke whole ib ie lead s = by (has_value (above fa rb)) refl
    where
      f : Option Moment
      f = floor_joined fa fp

      both : above (floor_joined fa fp) (body_joined m.0 xb) ≡ above (floor_joined fa fp) (body_joined rb rpb) → above (floor_joined fa fp) (expiry_joined m.1 xe) ≡ above (floor_joined fa fp) (expiry_joined re rpe)
          → ◌≡◌ {A = Record} (above (floor_joined fa fp) (body_joined m.0 xb), above (floor_joined fa fp) (expiry_joined m.1 xe)) (above (floor_joined fa fp) (body_joined rb rpb), above (floor_joined fa fp) (expiry_joined re rpe))
      both p q = λ i. (p i, q i)

      by : (t : Bool) → has_value (above fa rb) ≡ t → ◌≡◌ {A = Record} (above (floor_joined fa fp) (body_joined m.0 xb), above (floor_joined fa fp) (expiry_joined m.1 xe)) (above (floor_joined fa fp) (body_joined rb rpb), above (floor_joined fa fp) (expiry_joined re rpe))
      by true t = let e = whole t in
          both (join_whole body_cmp bodies_total exact_bodies fa fp P h low m.0 rb rpb xb (ap (λ (r : Record). r.0) e) ib)
          (join_whole nat_cmp nat_cmp_total exact_unsigned fa fp P h low m.1 re rpe xe (ap (λ (r : Record). r.1) e) ie)
      by false t = comes ib
        where
          comes : Incoming body_cmp bodies_total exact_bodies h rb (above fp rpb) xb → ◌≡◌ {A = Record} (above (floor_joined fa fp) (body_joined m.0 xb), above (floor_joined fa fp) (expiry_joined m.1 xe)) (above (floor_joined fa fp) (body_joined rb rpb), above (floor_joined fa fp) (expiry_joined re rpe))
          comes (inr i) =
              let q = missing_absorbed body_cmp bodies_total exact_bodies fa fp rb rpb i.1 ∙ sym (above_lower fa fp rb) in
              absurd (true≢false (sym (shows_above (floor_joined fa fp) (above fa rb) (ap has_value (sym q) ∙ s)) ∙ t))
          comes (inl i) =
              let body = join_later body_cmp bodies_total exact_bodies fa fp P h low m.0 rb rpb xb kb i.0 i.1 in
              let same = join_whole body_cmp bodies_total exact_bodies fa fp P h low (above fa rb) rb rpb xb refl (inl i) in
              let z = shows_which (floor_joined fa fp) (above fa rb) xb h t i.1 (ap has_value same ∙ s) in
              let y = lead z.0 (sym same ∙ z.1) in
              both body (late z.0.0.time z.2 y.0 y.1 y.2 ke ie)
            where
              late : (tz : ℕ) → h < tz → (y : Moment × ℕ) → above (floor_joined fa fp) (expiry_joined re rpe) ≡ Some y → tz ≤ y.0.time → Kept P m.1 (above fa re) → Incoming nat_cmp nat_cmp_total exact_unsigned h re (above fp rpe) xe
                  → above (floor_joined fa fp) (expiry_joined m.1 xe) ≡ above (floor_joined fa fp) (expiry_joined re rpe)
              late tz lt y is le ke (inl i) = join_later nat_cmp nat_cmp_total exact_unsigned fa fp P h low m.1 re rpe xe ke i.0 i.1
              late tz lt y is le (inl e) (inr i) = join_whole nat_cmp nat_cmp_total exact_unsigned fa fp P h low m.1 re rpe xe e (inr i)
              late tz lt y is le (inr e) (inr i) =
                  let q = missing_absorbed nat_cmp nat_cmp_total exact_unsigned fa fp re rpe i.1 ∙ sym (above_lower fa fp re) in
                  let old = low y.0.time (old_above P (floor_joined fa fp) (above fa re) y e.1 (sym q ∙ is)) in
                  absurd (omega arith)

winner_append : (ks ls : List Operation) (key : List ℕ) → winner (ks ++ ls) key ≡ above (floor_joined (floor_of ks) (floor_of ls)) (body_joined (B key ks) (B key ls))
winner_append ks ls key = λ i. above (newest_append stamp_cmp stamps_total exact_stamps flush_of ks ls i) (newest_append (by_both stamp_cmp body_cmp) (both_total stamps_total bodies_total) (exact_pairs stamp_cmp body_cmp exact_stamps exact_bodies) (body_of key) ks ls i)

expiry_append : (ks ls : List Operation) (key : List ℕ) → latest_expiry (ks ++ ls) key ≡ above (floor_joined (floor_of ks) (floor_of ls)) (expiry_joined (X key ks) (X key ls))
expiry_append ks ls key = λ i. above (newest_append stamp_cmp stamps_total exact_stamps flush_of ks ls i) (newest_append (by_both stamp_cmp nat_cmp) (both_total stamps_total nat_cmp_total) (exact_pairs stamp_cmp nat_cmp exact_stamps exact_unsigned) (expiry_of key) ks ls i)

-- what comes in of a key
pub record Comes (h : ℕ) (ks ls : List Operation) (key : List ℕ) (x : Record) : Type 0 where
  pub body : Incoming body_cmp bodies_total exact_bodies h (B key ks) (winner ls key) x.0
  pub expiry : Incoming nat_cmp nat_cmp_total exact_unsigned h (X key ks) (latest_expiry ls key) x.1

module _ (P : ℕ → Type 0) (h : ℕ) (low : (t : ℕ) → P t → t ≤ h) (m x : Record) (ks ls : List Operation) (key : List ℕ) where
  -- a key that takes in what comes holds what both name
  pub holds_take : Holds P m ks key → Comes h ks ls key x
      → Holds P (above (floor_joined (floor_of ks) (floor_of ls)) (body_joined m.0 x.0), above (floor_joined (floor_of ks) (floor_of ls)) (expiry_joined m.1 x.1)) (ks ++ ls) key
  holds_take k c =
      let f = floor_of ks in
      let g = floor_of ls in
      let wa = winner_append ks ls key in
      let ea = expiry_append ks ls key in
      record {
        body = subst (λ r. Kept P (above (floor_joined f g) (body_joined m.0 x.0)) r) (sym wa) (join_kept body_cmp bodies_total exact_bodies f g P h low m.0 (B key ks) (B key ls) x.0 k.body c.body);
        expiry = subst (λ r. Kept P (above (floor_joined f g) (expiry_joined m.1 x.1)) r) (sym ea) (join_kept nat_cmp nat_cmp_total exact_unsigned f g P h low m.1 (X key ks) (X key ls) x.1 k.expiry c.expiry);
        whole = λ s.
            whole_take f g P h low m (B key ks) (B key ls) x.0 (X key ks) (X key ls) x.1 k.body k.expiry k.whole c.body c.expiry
            (subst₂ (λ b e. Leads b e) wa ea (leads (ks ++ ls) key)) (ap has_value (sym wa) ∙ s)
            ∙ sym (λ i. (wa i, ea i));
      }

-- what is older stays held
pub holds_more : (P Q : ℕ → Type 0) → ((t : ℕ) → P t → Q t) → (m : Record) (ops : List Operation) (key : List ℕ) → Holds P m ops key → Holds Q m ops key
holds_more P Q up m ops key k = record { body = more m.0 (winner ops key) k.body; expiry = more m.1 (latest_expiry ops key) k.expiry; whole = k.whole }
  where
    more : {A : Type 0} (r q : Register A) → Kept P r q → Kept Q r q
    more r q (inl e) = inl e
    more r None (inr e) = absurd e.1
    more r (Some y) (inr e) = inr (e.0, up y.0.time e.1)

-- so the versions are those of the operations
pub holds_version : (P : ℕ → Type 0) (m : Record) (ops : List Operation) (key : List ℕ) → Holds P m ops key → version_in m ≡ version_of ops key
holds_version P m ops key k = by (has_value (winner ops key)) refl
  where
    hidden : (r : Record) → has_value r.0 ≡ false → version_in r ≡ None
    hidden (None, e) h = refl
    hidden (Some (s, Gone), e) h = refl
    hidden (Some (s, Value d f l), e) h = absurd (true≢false h)

    held : Kept P m.0 (winner ops key) → has_value (winner ops key) ≡ false → has_value m.0 ≡ false
    held (inl e) h = ap has_value e ∙ h
    held (inr e) h = ap has_value e.0

    by : (t : Bool) → has_value (winner ops key) ≡ t → version_in m ≡ version_in (record_of ops key)
    by true s = ap version_in (k.whole s)
    by false s = hidden m (held k.body s) ∙ sym (hidden (record_of ops key) s)

-- Parcels that are sent and taken.
use Rattle.std.proofs.Common.{◌≡◌, ◌≢◌, ℕ, suc, ◌+◌, ◌≤◌, Bool, true, false, cond, ◌==◌, ◌&&◌, ◌||◌, not, nat_le, List, [], ◌∷◌, ◌++◌, length, Option, None, Some, Ok, Err, refl, sym, ap, ◌∙◌, subst, subst₂, inl, inr, arith, true≢false, slice_get, slice_set, slice_index_or, get_or}
use Rattle.std.proofs.lemmas.Bool.{cases_eq}
use Rattle.std.proofs.lemmas.Bool.Decides.{eqb_tells, nat_tests}
use Rattle.std.proofs.lemmas.Option.{slice_get_within}
use Rattle.std.proofs.lemmas.List.{get_or_append_left, length-append}
use Rattle.std.proofs.Math.Seq.{get_or-append_seam}
use Rattle.geo_stamp.specs.Stamps.{Moment}
use Rattle.geo_stamp.specs.Acks.{Heard, row_of, heard, retires, looked, horizon_of}
use Rattle.geo_stamp.specs.Retired.{is_in, set_fits, set_joined, with_site}
use Rattle.geo_stamp.specs.Vectors.{entry_of, vector_joined, raised, greatest_of}
use Rattle.geo_records.specs.Operations.{Operation, Among, Record, latest}
use Rattle.geo_versions.specs.Maps.{Rec, rec_means, listed_at, is_unknown, since, Rising}
use Rattle.geo_delta.specs.declared.parcel.Parcel.{Parcel}
use Rattle.geo_site.specs.declared.site.Site.{Site}
use Rattle.geo_world.specs.declared.event.Event.TheVariants.{Take, Retire}
use Rattle.geo_world.specs.declared.event.Trace.TheVariants.{Taken, TakeRefused, Retired, RetireRefused}
use Rattle.geo_site.specs.declared.refusal.SendError.{SendError}
use Rattle.geo_site.specs.declared.refusal.RetireError.{RetireError}
use Rattle.geo_site.specs.declared.refusal.RetireError.TheVariants as retire
use Rattle.geo_site.specs.declared.refusal.SendError.TheVariants.{NoSuchSite}
use Rattle.geo_site.specs.declared.refusal.SendError.TheVariants as sends
use Rattle.geo_site.specs.declared.refusal.TakeError.{TakeError}
use Rattle.geo_site.specs.declared.refusal.TakeError.TheVariants.{NotForMe, UnknownSite, Gap}
use Rattle.geo_site.specs.declared.refusal.TakeError.TheVariants as takes
use Rattle.geo_site.specs.Entries.{Held}
use Rattle.geo_site.specs.Machine.{Same, take, sifted_delta, knows_record, knows_floor}
use Rattle.geo_site.specs.Sites.{Remains, heard_in, retired_in, horizon_in, looked_in, state_in, delta_of, knows_all, is_sound, Rests, Takes, RefusesFor, IsSent, SendRefuses, RetireDoes}
use Rattle.geo_world.specs.Schedule.{Known, Sending, never_sent, settles, still_held, carried, sender, addressee, told_retired, holds_retired, happens, Lawful, TakeRefusedFor, SendRefusedFor, RetireRefusedFor}
use Rattle.geo_world.specs.Holding.{UpTo, Spans, StateOf}
use Rattle.geo_versions.proofs.InOrder.{each_listed}
use Rattle.geo_world.proofs.Sound.{here, there, held_here, grows}
use Rattle.geo_world.proofs.Stepping.{state_takes, state_same, state_later}
use Rattle.geo_world.proofs.Records.{holds_more}
use Rattle.geo_world.specs.Agreement.{SiteKnown, about, Stands, Reaches, Carries, Agrees}
use Rattle.geo_site.proofs.Entries.{length_joined}
use Rattle.geo_laws.proofs.Joins.{joined_same}
use Rattle.geo_world.specs.Bounds.{Bounded, vectors, rows, reached, views, IsAbove}
use Rattle.geo_world.specs.Reports.{OneOf, Within, Below}
use Rattle.geo_world.proofs.Bounding.{left_known, bounded_same, bounded_takes, bounded_sends, above_entry, above_trans, above_raised, above_joined, vector_was, vector_here, vector_there, row_was, row_here, row_there, rows_stay, heard_here, heard_there}
use Rattle.geo_world.proofs.Worlds.{get_appended}
use Rattle.geo_world.proofs.Horizon.{OwnRises, horizon_kept}
use Rattle.geo_world.proofs.Moving.{with_grows, upto_known, one_of_sites, answer_behind, answer_here, answer_there, looked_passed, own_moves, take_moves, send_moves}
use Rattle.geo_world.proofs.Reports.{reported_moves, has_passed_moves}
use Rattle.geo_world.proofs.Changing.{agrees_changed, agrees_still, settled_about, retired_here, retired_there}

-- ---- lists of records by rising key
each_known : (v : List ℕ) (es : List (List ℕ × Rec)) → ((j : ℕ) (e : List ℕ × Rec) → slice_get es j ≡ Some e → knows_record v (rec_means e.1) ≡ true) → knows_all v es ≡ true
each_known v [] h = refl
each_known v (x ∷ xs) h = (λ i. h 0 x refl i && each_known v xs (λ j e at. h (suc j) e at) i)

pub rising_known : (v : List ℕ) (es : List (List ℕ × Rec)) → Rising es → ((q : List ℕ) → knows_record v (listed_at es q) ≡ true) → knows_all v es ≡ true
rising_known v es rising h = each_known v es (λ j e at. ap (knows_record v) (each_listed es rising j e at) ∙ h e.0)

since_known : (v base : List ℕ) (r : Record) → knows_record v r ≡ true → knows_record v (since base r) ≡ true
since_known v base r h = by (is_unknown base r.0 || is_unknown base r.1)
  where
    by : (t : Bool) → knows_record v (cond {A = Record} t r (None, None)) ≡ true
    by true = h
    by false = refl

-- ---- a send
-- what a site knows, for another
abbrev pub sending : ℕ → ℕ → SiteKnown → Sending
sending s to known = record { from = s; to = to; set = known.set; ops = known.ops }

pub carries_sent : (n s to : ℕ) (at : ℕ → List Operation) (site : Site) (parcel : Parcel) (known_of : SiteKnown) (st : Stands n s site known_of) → ((time : ℕ) → time ≤ st.horizon → Reaches at (sending s to known_of) time)
    → 1 ≤ s → s ≤ n → 1 ≤ to → to ≤ n → to ≢ site.number → IsSent site to parcel → Carries n at parcel (sending s to known_of)
carries_sent n s to at site parcel known_of st reaches lo hi to_first to_last ne sent =
    let ops = known_of.ops in
    let many : length site.vector ≡ n = st.state.many in
    let from : parcel.from ≡ s = sent.sender ∙ st.own in
    let base : length parcel.base ≡ n = ap length sent.base ∙ st.rows to to_first to_last in
    let known : (q : List ℕ) → knows_record parcel.upto (listed_at parcel.records q) ≡ true =
    λ q. (λ i. knows_record (sent.upto i) (sent.records q i)) ∙ since_known site.vector (row_of (heard_in site).rows to) ((state_in site).map q) (site.covered q) in
    record {
      sender = from;
      addressee = sent.addressee;
      retired = sent.retired ∙ st.set;
      fits = subst (λ n. set_fits n parcel.retired ≡ true) base sent.ranges.retired;
      other = λ e. ne (sym (sym sent.sender ∙ e ∙ sent.addressee));
      from_first = subst (λ k. 1 ≤ k) (sym from) lo;
      from_last = subst (λ k. k ≤ n) (sym from) hi;
      base = base;
      floor_known = (λ i. knows_floor (sent.upto i) (sent.floor i)) ∙ site.floor_known;
      records_known = rising_known parcel.upto parcel.records sent.rising known;
      delta = record {
        many = ap length sent.upto ∙ many;
        tells = subst (λ k. Spans k parcel.upto parcel.floor ops) (sym from) (subst₂ (λ (v : List ℕ) (f : Option Moment). Spans s v f ops) (sym sent.upto) (sym sent.floor) st.state.tells);
        kept = (state_in site).map;
        holds = λ key. holds_more (UpTo st.horizon) (Reaches at (sending s to known_of)) reaches ((state_in site).map key) ops key (st.state.holds key);
        lacking = λ key. sent.records key ∙ ap (λ base. since base ((state_in site).map key)) (sym sent.base);
      };
    }

module _ (sites : List Site) (parcels : List Parcel) (w : Known) (agrees : Agrees sites parcels w) (k s to : ℕ) (site : Site) (at_number : s ≡ k + 1) (got : slice_get sites k ≡ Some site) (hi : s ≤ length sites) (to_first : 1 ≤ to) (to_last : to ≤ length sites) where
  -- what it dropped another one knows that it may send to
  pub sent_reaches : is_in (retired_in site) to ≡ false → (time : ℕ) → time ≤ (agrees.each k s site at_number got).horizon → Reaches w.at (sending s to (about w s)) time
  sent_reaches free time le op a early =
      let st = agrees.each k s site at_number got in
      let up = st.reached in
      answer_there sites parcels w agrees k s at_number hi site got to op (to_first, to_last) free a (omega (arith, le, up, early))

  pub agrees_sent : (parcel : Parcel) → IsSent site to parcel → Carries (length sites) w.at parcel (sending s to (about w s))
      → Agrees sites (parcels ++ parcel ∷ []) (record { at = w.at; held = w.held; counts = w.counts; waiting = w.waiting; limits = w.limits; sets = w.sets; sites = w.sites; sent = w.sent ++ sending s to (about w s) ∷ [] })
  agrees_sent parcel sent c =
      let n = length sites in
      let x0 : Sending = sending s to (about w s) in
      let moves = send_moves sites parcels w agrees k s at_number hi site got parcel (sent.sender ∙ (agrees.each k s site at_number got).own) sent.upto sent.retired in
      record {
        each = agrees.each;
        numbers = agrees.numbers;
        as_many = let h = agrees.as_many in let a = length-append w.sent (x0 ∷ []) in let b = length-append parcels (parcel ∷ []) in omega (arith, h, a, b);
        each_sent = λ p x h. elim (get_appended parcels parcel p x h) [
          | inl q ↦ let lt = slice_get_within parcels p x q in let m = agrees.as_many in
              subst (λ (sent : Sending). Carries n w.at x sent) (sym (get_or_append_left w.sent (x0 ∷ []) never_sent p (omega arith))) (agrees.each_sent p x q)
          | inr q ↦ let seam = get_or-append_seam w.sent x0 [] never_sent in
              subst₂ (λ (x : Parcel) (sent : Sending). Carries n w.at x sent) (sym q.1) (sym (ap (λ p. get_or (w.sent ++ x0 ∷ []) p never_sent) (q.0 ∙ sym agrees.as_many) ∙ seam)) c
        ];
        bounds = bounded_sends n s to (w.sets s) (vectors sites) (rows sites) parcels w.at w.sent parcel agrees.bounds agrees.as_many (sent.sender ∙ (agrees.each k s site at_number got).own) sent.addressee
            (sent.upto ∙ sym (vector_was sites k s at_number hi site site got)) (sent.base ∙ sym (row_was sites k s at_number hi site site got to)) to_first to_last;
        reports = reported_moves n (views sites) (views sites) parcels (parcels ++ parcel ∷ []) s moves agrees.reports (upto_known sites parcels w agrees);
        passed = agrees.passed;
      }

-- ---- a take
all_true : (a b c d e f g : Bool) → a ≡ true → b ≡ true → c ≡ true → d ≡ true → e ≡ true → f ≡ true → g ≡ true → a && b && c && d && e && f && g ≡ true
all_true a b c d e f g p q r s t u v = λ i. p i && q i && r i && s i && t i && u i && v i

is_equal : (a b : ℕ) → a ≡ b → (a == b) ≡ true
is_equal a b e = elim (eqb_tells a b) [ inl p ↦ p.0 | inr p ↦ absurd (p.1 e) ]

is_other : (a b : ℕ) → a ≢ b → not (a == b) ≡ true
is_other a b ne = elim (eqb_tells a b) [ inl p ↦ absurd (ne p.1) | inr p ↦ ap not p.0 ]

at_most : (a b : ℕ) → a ≤ b → nat_le a b ≡ true
at_most a b h = grind (arith, nat_tests)

sound_parcel : (n number : ℕ) (at : ℕ → List Operation) (parcel : Parcel) (sent : Sending) → Carries n at parcel sent → parcel.to ≡ number → is_sound n number parcel ≡ true
sound_parcel n number at parcel sent c to =
    all_true (nat_le 1 parcel.from && nat_le parcel.from n) (not (parcel.from == number)) (length parcel.base == n) (length parcel.upto == n) (set_fits n parcel.retired) (knows_floor parcel.upto parcel.floor) (knows_all parcel.upto parcel.records)
    (λ i. at_most 1 parcel.from c.from_first i && at_most parcel.from n c.from_last i)
    (is_other parcel.from number (λ e. c.other (e ∙ sym to)))
    (is_equal (length parcel.base) n c.base)
    (is_equal (length parcel.upto) n c.delta.many)
    c.fits c.floor_known c.records_known

-- what was heard with a parcel, once the horizon of before was kept
abbrev pub hears : Site → ℕ → Parcel → Heard
hears old s parcel = heard (looked (heard_in old) s old.vector) parcel.from parcel.upto parcel.retired

module _ (sites : List Site) (parcels : List Parcel) (w : Known) (agrees : Agrees sites parcels w) (k s p : ℕ) (at_number : s ≡ k + 1) (hi : s ≤ length sites) (old new : Site) (got : slice_get sites k ≡ Some old)
    (parcel : Parcel) (got_parcel : slice_get parcels p ≡ Some parcel) (rests : Rests old new) (remains : Remains old new) where
  carries : Carries (length sites) w.at parcel (slice_index_or w.sent p never_sent)
  carries = agrees.each_sent p parcel got_parcel

  stands : Stands (length sites) s old (about w s)
  stands = agrees.each k s old at_number got

  -- whom the site holds for retired, as is known
  set_there : (t : ℕ) → is_in (w.sets s) t ≡ is_in (retired_in old) t
  set_there t = ap (λ a. is_in a t) (sym stands.set)

  pub taken_lawful : Takes old parcel → Lawful w (Take s p) Taken
  taken_lawful t = (sym carries.addressee ∙ t.0 ∙ stands.own, ap (is_in (w.sets s)) (sym carries.sender) ∙ set_there parcel.from ∙ t.2)

  module _ (t : Takes old parcel) (heard_now : heard_in new ≡ looked (hears old s parcel) s new.vector) where
    lo : 1 ≤ s
    lo = omega (arith, at_number)

    one_from : OneOf (length sites) parcel.from
    one_from = (carries.from_first, carries.from_last)

    is_other_site : parcel.from ≢ s
    is_other_site e = carries.other (e ∙ sym (t.0 ∙ stands.own))

    -- what it heard of the sender is longer known
    rows_taken : (other : ℕ) → 1 ≤ other → other ≤ length sites → length (row_of (heard_in new).rows other) ≡ length sites
    rows_taken other first most =
        let row = stands.rows other first most in
        ap (λ (h : Heard). length (row_of h.rows other)) heard_now ∙ elim (cases_eq other parcel.from) [
          | inl e ↦ ap (λ t. length (row_of (hears old s parcel).rows t)) e
              ∙ ap length (heard_here (heard_in old).rows parcel.from parcel.upto (let r = stands.rows parcel.from one_from.0 one_from.1 in omega (arith, r, lo, hi)))
              ∙ length_joined (row_of (heard_in old).rows parcel.from) parcel.upto (stands.rows parcel.from one_from.0 one_from.1 ∙ sym carries.delta.many) ∙ stands.rows parcel.from one_from.0 one_from.1
          | inr ne ↦ ap length (heard_there (heard_in old).rows parcel.from other parcel.upto ne) ∙ row
        ]

    bounds_taken : (h : ℕ) → StateOf (length sites) s h (state_in new) (w.at s ++ carried w p) (still_held (w.at s ++ carried w p) (w.held s)) → Same (take s (sifted_delta h (delta_of parcel)) (state_in old)) (state_in new)
        → Bounded (length sites) (vectors (slice_set sites k new)) (rows (slice_set sites k new)) parcels (settles w s (w.at s ++ carried w p) (w.held s)).at w.sent
    bounds_taken h ok same =
        let ops = w.at s ++ carried w p in
        let v = settles w s ops (w.held s) in
        let was = vector_was sites k s at_number hi old new got in
        let now = vector_here sites k s at_number hi old new got in
        let gains = here w s ops (w.held s) in
        let own = ok.tells.own in
        let first = carries.from_first in
        let last = carries.from_last in
        let row = stands.rows parcel.from first last in
        let rows_now = ap (λ (h : Heard). h.rows) heard_now in
        let vector = now ∙ same.vector ∙ ap (λ x. raised (vector_joined x parcel.upto) s (greatest_of (vector_joined x parcel.upto))) (sym was) in
        let elsewhere : (t : ℕ) → t ≢ s → vectors (slice_set sites k new) t ≡ vectors sites t = λ t ne. vector_there sites k s at_number hi old new got t ne in
        let stay : (t : ℕ) → t ≢ s → v.at t ≡ w.at t = λ t ne. there w s ops (w.held s) t ne in
        let most : entry_of (vectors (slice_set sites k new) s) s ≤ latest (v.at s) = (let e = ap (λ x. entry_of x s) now in let l = ap latest gains in omega (arith, own, e, l)) in
        let row_now = row_here sites k s at_number hi old new got parcel.from ∙ ap (λ h. row_of h parcel.from) rows_now ∙ heard_here (heard_in old).rows parcel.from parcel.upto (omega (arith, row, first, last)) ∙ ap (λ r. vector_joined r parcel.upto) (sym (row_was sites k s at_number hi old new got parcel.from)) in
        let row_else : (r q : ℕ) → (r ≡ s → q ≡ parcel.from → ⊥) → rows (slice_set sites k new) r q ≡ rows sites r q = λ r q other. elim (cases_eq r s) [
          | inl e ↦ ap (λ t. rows (slice_set sites k new) t q) e ∙ row_here sites k s at_number hi old new got q ∙ ap (λ h. row_of h q) rows_now ∙ heard_there (heard_in old).rows parcel.from q parcel.upto (λ f. other e f)
              ∙ sym (row_was sites k s at_number hi old new got q) ∙ ap (λ t. rows sites t q) (sym e)
          | inr ne ↦ row_there sites k s at_number hi old new got r q ne
        ] in
        bounded_takes (length sites) s p (vectors sites) (vectors (slice_set sites k new)) (rows sites) (rows (slice_set sites k new)) parcels w.at v.at w.sent parcel agrees.bounds got_parcel (omega (arith, at_number)) hi vector elsewhere gains stay most row_now row_else

    pub taken_agrees_by : Same (take s (sifted_delta (horizon_of (heard_in old) s old.vector) (delta_of parcel)) (state_in old)) (state_in new) → Agrees (slice_set sites k new) parcels (happens w (Take s p) Taken)
    taken_agrees_by same =
        let st = stands in
        let c = carries in
        let n = length sites in
        let later = slice_set sites k new in
        let ops = w.at s ++ carried w p in
        let set = set_joined (w.sets s) (told_retired w p) in
        let u = settles w s ops (w.held s) in
        let v = holds_retired u s set in
        let many = st.state.many in
        let h = horizon_of (heard_in old) s old.vector in
        let state = state_later n s st.horizon h (state_in old) (w.at s) (w.held s) st.state st.reached (answer_behind sites parcels w agrees k s at_number hi old got) in
        let known = left_known n s p (vectors sites) (vectors sites) (rows sites) (rows sites) parcels w.at w.at w.sent parcel agrees.bounds got_parcel (omega (arith, at_number)) hi (t.0 ∙ st.own) in
        let told : (op : Operation) → Among (carried w p) op → Among (w.at parcel.from) op = λ op a. agrees.bounds.sent_told p parcel op got_parcel a in
        let mine : addressee w p ≡ s = sym c.addressee ∙ t.0 ∙ st.own in
        let takes_it = state_takes n s h parcel.from (Reaches w.at (slice_index_or w.sent p never_sent)) parcel.base (state_in old) (delta_of parcel) (w.at s) (carried w p) (w.held s) state c.delta (record { above = lo; below = omega (arith, many, hi) }) known
        (λ op a le. answer_here sites parcels w agrees k s at_number hi old got parcel.from op one_from t.2 (told op a) le)
        (λ op a (reaches : Reaches w.at (slice_index_or w.sent p never_sent) op.stamp.time). subst (λ k. Among (w.at k) op) mine (reaches op a (omega arith))) in
        let ok = state_same n s h (take s (sifted_delta h (delta_of parcel)) (state_in old)) (state_in new) ops (still_held ops (w.held s)) takes_it same in
        let joined = vector_joined old.vector parcel.upto in
        let rises : IsAbove new.vector old.vector = subst (λ x. IsAbove x old.vector) (sym same.vector)
        (above_trans (raised joined s (greatest_of joined)) joined old.vector (above_raised joined s (greatest_of joined)) (above_joined old.vector parcel.upto)) in
        let bounds = bounds_taken h ok same in
        let new_set : retired_in new ≡ set_joined (retired_in old) parcel.retired = ap (λ (h : Heard). h.set) heard_now in
        let moves = take_moves sites parcels w agrees k s at_number hi old got new p parcel got_parcel one_from is_other_site t.2 (greatest_of joined) same.vector rises
        (ap (λ (h : Heard). h.rows) heard_now) (ap (λ (h : Heard). h.told) heard_now) new_set in
        let low : (r q : ℕ) → OneOf n q → Below n (rows later r q) (vectors later q) = λ r q one j one_j. above_entry (vectors later q) (rows later r q) j (bounds.heard_known r q one.0 one.1) in
        let some : 1 ≤ length (row_of (hears old s parcel).rows s) = (let e = ap (λ r. length r) (heard_there (heard_in old).rows parcel.from s parcel.upto (λ e. is_other_site (sym e))) in let r = st.rows s lo hi in omega (arith, e, r, lo, hi)) in
        agrees_changed sites parcels w v agrees k s at_number hi old new got
        (record {
          own = remains.0 ∙ st.own;
          horizon = h;
          state = subst₂ (λ (ops : List Operation) (held : Held). StateOf n s h (state_in new) ops held) (sym (here w s ops (w.held s))) (sym (held_here w s ops (w.held s))) ok;
          reached =
              let a = horizon_kept (hears old s parcel) s new.vector in
              let b = horizon_kept (heard_in new) s new.vector in
              let e = ap (λ (h : Heard). h.reached) heard_now in
              omega (arith, a, b, e);
          counts = rests.0 ∙ st.counts;
          waiting = rests.1 ∙ st.waiting;
          limits = remains.1 ∙ st.limits;
          set = new_set ∙ (λ i. set_joined (st.set i) (c.retired i)) ∙ sym (retired_here u s set);
          rows = rows_taken;
        })
        (λ t ne. retired_there u s set t ne ∙ settled_about w s ops (w.held s) t ne) refl refl (λ t op a. grows w s (carried w p) (w.held s) t op a) bounds moves
        (looked_passed sites parcels w agrees k s at_number hi old got new moves low (hears old s parcel) heard_now refl (ap length same.vector ∙ ap length (sym same.vector) ∙ ok.many) some)

  pub taken_agrees : Takes old parcel → Same (take old.number (sifted_delta (horizon_in old) (delta_of parcel)) (state_in old)) (state_in new) → heard_in new ≡ looked (heard (looked_in old) parcel.from parcel.upto parcel.retired) old.number new.vector → Agrees (slice_set sites k new) parcels (happens w (Take s p) Taken)
  taken_agrees takes same heard_now =
      taken_agrees_by takes (subst (λ m. heard_in new ≡ looked (heard (looked (heard_in old) m old.vector) parcel.from parcel.upto parcel.retired) m new.vector) stands.own heard_now)
      (subst (λ m. Same (take m (sifted_delta (horizon_of (heard_in old) m old.vector) (delta_of parcel)) (state_in old)) (state_in new)) stands.own same)

  pub refused_lawful : (why : TakeError) → RefusesFor old parcel why → Lawful w (Take s p) (TakeRefused why)
  refused_lawful NotForMe r = λ e. r (carries.addressee ∙ e ∙ sym stands.own)
  refused_lawful UnknownSite r = absurd (true≢false (sym (sound_parcel (length old.vector) old.number w.at parcel _ (subst (λ n. Carries n w.at parcel (slice_index_or w.sent p never_sent)) (sym stands.state.many) carries) r.0) ∙ r.1))
  refused_lawful takes.Retired r = (sym carries.addressee ∙ r.0 ∙ stands.own, ap (is_in (w.sets s)) (sym carries.sender) ∙ set_there parcel.from ∙ r.2)
  refused_lawful Gap r = absurd (r.3 (subst (λ v. IsAbove v parcel.base) (vector_was sites k s at_number hi old new got) (subst (λ t. IsAbove (vectors sites t) parcel.base) (r.0 ∙ stands.own) (agrees.bounds.sent_base p parcel got_parcel))))
  refused_lawful takes.Memory r = (sym carries.addressee ∙ r.0.0 ∙ stands.own, ap (is_in (w.sets s)) (sym carries.sender) ∙ set_there parcel.from ∙ r.0.2)

  pub refused_agrees : (why : TakeError) → Same (state_in old) (state_in new) → heard_in new ≡ heard_in old → Agrees (slice_set sites k new) parcels (happens w (Take s p) (TakeRefused why))
  refused_agrees why same heard_now =
      agrees_still sites parcels w agrees k s at_number hi old new got (remains.0, remains.1, heard_now) same rests

pub send_refused : (n s to : ℕ) (site : Site) (known_of : SiteKnown) → Stands n s site known_of → 1 ≤ to → to ≤ n → (why : SendError) → SendRefuses site to why → SendRefusedFor known_of.set s to why
send_refused n s to site known_of st lo hi NoSuchSite r = elim (cases_eq to s) [
  | inl e ↦ e
  | inr ne ↦ let many = st.state.many in absurd (r (lo, omega (arith, many, hi), λ e. ne (e ∙ st.own)))
]
send_refused n s to site known_of st lo hi sends.Retired r = (λ e. r.0.2 (e ∙ sym st.own), ap (λ a. is_in a to) (sym st.set) ∙ r.1)
send_refused n s to site known_of st lo hi sends.Memory r = (λ e. r.0.2 (e ∙ sym st.own), ap (λ a. is_in a to) (sym st.set) ∙ r.1)

-- ---- a retirement
module _ (sites : List Site) (parcels : List Parcel) (w : Known) (agrees : Agrees sites parcels w) (k s other : ℕ) (at_number : s ≡ k + 1) (hi : s ≤ length sites) (old new : Site) (got : slice_get sites k ≡ Some old)
    (rests : Rests old new) (remains : Remains old new) where
  pub retired_lawful : (fresh : Bool) → RetireDoes old new other (Ok fresh) → Lawful w (Retire s other) (Retired fresh)
  retired_lawful fresh does =
      let st = agrees.each k s old at_number got in
      (λ e. does.0.2 (e ∙ sym st.own), does.1 ∙ ap (λ a. not (is_in a other)) st.set)

  pub retire_refused_lawful : 1 ≤ other → other ≤ length sites → (why : RetireError) → RetireDoes old new other (Err why) → Lawful w (Retire s other) (RetireRefused why)
  retire_refused_lawful first last retire.NoSuchSite does = elim (cases_eq other s) [
    | inl e ↦ e
    | inr ne ↦ let st = agrees.each k s old at_number got in let many = st.state.many in absurd (does.0 (first, omega (arith, many, last), λ e. ne (e ∙ st.own)))
  ]
  retire_refused_lawful first last retire.Memory does = does

  -- it keeps what it answered, and then holds one more for retired
  abbrev more : Heard
  more = retires (looked (heard_in old) s old.vector) other

  retired_agrees_by : Same (state_in old) (state_in new) → heard_in new ≡ looked more s old.vector → Agrees (slice_set sites k new) parcels (holds_retired w s (with_site (w.sets s) other))
  retired_agrees_by same heard_now =
      let st = agrees.each k s old at_number got in
      let n = length sites in
      let lo : 1 ≤ s = omega (arith, at_number) in
      let later = slice_set sites k new in
      let set = with_site (w.sets s) other in
      let v = holds_retired w s set in
      let h = horizon_of (heard_in old) s old.vector in
      let vector : new.vector ≡ old.vector = same.vector in
      let is : heard_in new ≡ looked more s new.vector = heard_now ∙ ap (looked more s) (sym vector) in
      let state = state_same n s h (state_in old) (state_in new) (w.at s) (w.held s) (state_later n s st.horizon h (state_in old) (w.at s) (w.held s) st.state st.reached (answer_behind sites parcels w agrees k s at_number hi old got)) same in
      let rises : OwnRises s old.vector new.vector = record { many = ap length vector; others = λ j ne. ap (λ v. entry_of v j) vector; above = ap (λ v. vector_joined v old.vector) vector ∙ joined_same old.vector ∙ sym vector } in
      let new_set : retired_in new ≡ with_site (retired_in old) other = ap (λ (h : Heard). h.set) heard_now in
      let moves = own_moves sites parcels w agrees k s at_number hi old got new rises (ap (λ (h : Heard). h.rows) heard_now) (ap (λ (h : Heard). h.told) heard_now)
      (subst (λ a. Within n (retired_in old) a) (sym new_set) (with_grows n (retired_in old) other)) in
      let bounds = bounded_same n (vectors sites) (vectors later) (rows sites) (rows later) parcels w.at w.at w.sent w.sent
      (λ t. elim (cases_eq t s) [
        | inl e ↦ ap (vectors later) e ∙ vector_here sites k s at_number hi old new got ∙ vector ∙ sym (vector_was sites k s at_number hi old new got) ∙ ap (vectors sites) (sym e)
        | inr ne ↦ vector_there sites k s at_number hi old new got t ne
      ]) (rows_stay sites k s at_number hi old new got (ap (λ (h : Heard). h.rows) heard_now)) (λ t. refl) refl agrees.bounds in
      let low : (r q : ℕ) → OneOf n q → Below n (rows later r q) (vectors later q) = λ r q one j one_j. above_entry (vectors later q) (rows later r q) j (bounds.heard_known r q one.0 one.1) in
      agrees_changed sites parcels w v agrees k s at_number hi old new got
      (record {
        own = remains.0 ∙ st.own;
        horizon = h;
        state = state;
        reached =
            let a = horizon_kept more s new.vector in
            let b = horizon_kept (heard_in new) s new.vector in
            let e = ap (λ (h : Heard). h.reached) is in
            omega (arith, a, b, e);
        counts = rests.0 ∙ st.counts;
        waiting = rests.1 ∙ st.waiting;
        limits = remains.1 ∙ st.limits;
        set = new_set ∙ ap (λ a. with_site a other) st.set ∙ sym (retired_here w s set);
        rows = λ q first last. ap (λ (h : Heard). length (row_of h.rows q)) heard_now ∙ st.rows q first last;
      })
      (λ t ne. retired_there w s set t ne) refl refl (λ t op a. a) bounds moves
      (looked_passed sites parcels w agrees k s at_number hi old got new moves low more is refl (ap length vector ∙ st.state.many) (let r = st.rows s lo hi in omega (arith, r, lo, hi)))

  pub retired_agrees : (fresh : Bool) → RetireDoes old new other (Ok fresh) → Agrees (slice_set sites k new) parcels (happens w (Retire s other) (Retired fresh))
  retired_agrees fresh does =
      retired_agrees_by does.2 (subst (λ m. heard_in new ≡ looked (retires (looked (heard_in old) m old.vector) other) m old.vector) (agrees.each k s old at_number got).own does.3)

  pub retire_refused_agrees : (why : RetireError) → RetireDoes old new other (Err why) → Agrees (slice_set sites k new) parcels (happens w (Retire s other) (RetireRefused why))
  retire_refused_agrees retire.NoSuchSite does = agrees_still sites parcels w agrees k s at_number hi old new got (remains.0, remains.1, does.2) does.1 rests
  retire_refused_agrees retire.Memory does = absurd does

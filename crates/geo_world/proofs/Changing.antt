-- One site changes, and the others stay.
use Rattle.std.proofs.Common.{◌≡◌, ◌≢◌, ℕ, zero, suc, ◌+◌, ◌≤◌, ◌==◌, Bool, true, false, cond, Option, None, List, [], ◌∷◌, ◌++◌, length, Some, refl, sym, ap, ◌∙◌, subst, subst₂, ◌⊎◌, inl, inr, arith, slice_get, slice_set, slice_index_or}
use Rattle.std.proofs.lemmas.List.{length-set}
use Rattle.std.proofs.lemmas.Bool.Decides.{eqb_tells}
use Rattle.std.specs.Cmp.Lexicographic.{same_text}
use Rattle.geo_records.specs.Keys.{same_key}
use Rattle.geo_records.specs.Operations.{Operation, Act, Among, Record, latest}
use Rattle.geo_records.specs.Operations.Act.{Flush}
use Rattle.geo_delta.specs.declared.parcel.Parcel.{Parcel}
use Rattle.geo_site.specs.declared.site.Site.{Site}
use Rattle.geo_site.specs.declared.setup.Limits.{Limits}
use Rattle.geo_site.specs.Entries.{Held, Counts, flushes_due, due_acts, waits_on}
use Rattle.geo_site.specs.Machine.{SiteState, Same, with_stock, issue, issue_all, accessed, act_held, without, victim_by, IsCount, held_with}
use Rattle.geo_site.specs.Sites.{state_in, heard_in, retired_in, counts_in, waiting_in, clock_in, HasIssued, HasIssuedAfter, Stays, Rests, FlushDoes, EvictDoes}
use Rattle.geo_world.specs.Schedule.{Known, Sending, never_sent, still_held, settles, new_operation, issues, counts_keys, lets_go, waits, flushed, fills, holds_retired}
use Rattle.geo_site.specs.Fills.{came}
use Rattle.geo_site.proofs.Filling.{came_held}
use Rattle.geo_stamp.specs.Stamps.{Moment}
use Rattle.geo_world.specs.Holding.{Holds, UpTo, Spans, StateOf}
use Rattle.geo_world.proofs.Sound.{here, there, held_here, held_there}
use Rattle.geo_world.proofs.Stepping.{state_issues, state_same}
use Rattle.geo_world.proofs.Records.{holds_more}
use Rattle.geo_world.specs.Agreement.{SiteKnown, about, Stands, Reaches, Carries, Agrees}
use Rattle.geo_stamp.specs.Acks.{Heard, row_of, horizon_of}
use Rattle.geo_stamp.specs.Retired.{is_in}
use Rattle.std.proofs.lemmas.Bool.{cases_eq}
use Rattle.geo_world.specs.Bounds.{Bounded, vectors, rows, reached, views}
use Rattle.geo_world.specs.Reports.{OneOf, Reported, HasPassed}
use Rattle.geo_world.proofs.Bounding.{bounded_same, bounded_issues, issues_known, vector_was, vector_here, vector_there, rows_stay, reached_was, reached_is, reached_else}
use Rattle.geo_world.proofs.Horizon.{OwnRises, issued_rises, horizon_rises}
use Rattle.geo_world.proofs.Moving.{upto_known, own_moves}
use Rattle.geo_world.proofs.Reports.{Moves, reported_moves, has_passed_moves}
use Rattle.geo_site.proofs.Victims.{AreQuiet, GoesFor, quiet_goes, one_quiet, hit_held}
use Rattle.geo_world.proofs.Worlds.{some_same, some_none}

-- an element after a write is the new one, or one that was there
pub get_written : {A : Type 0} (xs : List A) (s : ℕ) (x : A) (k : ℕ) (y : A) → slice_get (slice_set xs s x) k ≡ Some y → ((k ≡ s) × (y ≡ x)) ⊎ ((k ≢ s) × (slice_get xs k ≡ Some y))
get_written [] s x k y h = absurd (some_none (sym h))
get_written (a ∷ xs) zero x zero y h = inl (refl, some_same (sym h))
get_written (a ∷ xs) zero x (suc k) y h = inr (omega arith, h)
get_written (a ∷ xs) (suc s) x zero y h = inr (omega arith, h)
get_written (a ∷ xs) (suc s) x (suc k) y h = elim (get_written xs s x k y h) [ inl p ↦ inl (ap suc p.0, p.1) | inr p ↦ let ne = p.0 in inr (omega arith, p.1) ]

-- a parcel brings what it brought, as more is known
pub carries_later : (n : ℕ) (at later : ℕ → List Operation) (parcel : Parcel) (sent : Sending) → ((t : ℕ) (op : Operation) → Among (at t) op → Among (later t) op) → Carries n at parcel sent → Carries n later parcel sent
carries_later n at later parcel sent known c = record {
  sender = c.sender;
  addressee = c.addressee;
  retired = c.retired;
  fits = c.fits;
  other = c.other;
  from_first = c.from_first;
  from_last = c.from_last;
  base = c.base;
  floor_known = c.floor_known;
  records_known = c.records_known;
  delta = record {
    many = c.delta.many;
    tells = c.delta.tells;
    kept = c.delta.kept;
    holds = λ key. holds_more (Reaches at sent) (Reaches later sent) (λ time all op a le. known sent.to op (all op a le)) (c.delta.kept key) sent.ops key (c.delta.holds key);
    lacking = c.delta.lacking;
  };
}

module _ (sites : List Site) (parcels : List Parcel) (w v : Known) (agrees : Agrees sites parcels w) (k s : ℕ) (at_number : s ≡ k + 1) (hi : s ≤ length sites) (old new : Site) (got : slice_get sites k ≡ Some old) where
  pub agrees_changed : Stands (length sites) s new (about v s) → ((t : ℕ) → t ≢ s → about v t ≡ about w t) → v.sites ≡ w.sites → v.sent ≡ w.sent → ((t : ℕ) (op : Operation) → Among (w.at t) op → Among (v.at t) op)
      → Bounded (length sites) (vectors (slice_set sites k new)) (rows (slice_set sites k new)) parcels v.at v.sent
      → Moves (length sites) (views sites) (views (slice_set sites k new)) parcels parcels s → HasPassed (length sites) (views (slice_set sites k new)) s (heard_in new).reached
      → Agrees (slice_set sites k new) parcels v
  agrees_changed st others numbers sent known bounds moves passed =
      let n = length sites in
      let later = slice_set sites k new in
      let many : n ≡ length later = sym (length-set sites k new) in
      record {
        each = λ j number site e h. subst (λ n. Stands n number site (about v number)) many (elim (get_written sites k new j site h) [
          | inl p ↦ let m : s ≡ number = let q = p.0 in omega arith in subst₂ (λ (t : ℕ) (x : Site). Stands n t x (about v t)) m (sym p.1) st
          | inr p ↦ let ne : number ≢ s = let q = p.0 in omega arith in
              subst (λ (known : SiteKnown). Stands n number site known) (sym (others number ne)) (agrees.each j number site e p.1)
        ]);
        numbers = numbers ∙ agrees.numbers ∙ many;
        as_many = ap length sent ∙ agrees.as_many;
        each_sent = λ p parcel h. subst₂ (λ (n : ℕ) (all : List Sending). Carries n v.at parcel (slice_index_or all p never_sent)) many (sym sent)
            (carries_later n w.at v.at parcel (slice_index_or w.sent p never_sent) known (agrees.each_sent p parcel h));
        bounds = subst (λ n. Bounded n (vectors later) (rows later) parcels v.at v.sent) many bounds;
        reports = subst (λ n. Reported n (views later) parcels) many (reported_moves n (views sites) (views later) parcels parcels s moves agrees.reports (upto_known sites parcels w agrees));
        passed = subst (λ n. (p : ℕ) → OneOf n p → HasPassed n (views later) p (reached later p)) many (λ p one. elim (cases_eq p s) [
          | inl e ↦ subst (λ p. HasPassed n (views later) p (reached later p)) (sym e) (subst (λ time. HasPassed n (views later) s time) (sym (reached_is sites k s at_number hi old new got)) passed)
          | inr ne ↦ subst (λ time. HasPassed n (views later) p time) (sym (reached_else sites k s at_number hi old new got p ne))
              (has_passed_moves n (views sites) (views later) parcels parcels s moves p (reached sites p) (agrees.passed p one))
        ]);
      }

  -- where it keeps no other horizon
  pub passed_still : Moves (length sites) (views sites) (views (slice_set sites k new)) parcels parcels s → heard_in new ≡ heard_in old → HasPassed (length sites) (views (slice_set sites k new)) s (heard_in new).reached
  passed_still moves same =
      has_passed_moves (length sites) (views sites) (views (slice_set sites k new)) parcels parcels s moves s (heard_in new).reached
      (subst (λ time. HasPassed (length sites) (views sites) s time) (reached_was sites k s at_number hi old new got ∙ ap (λ (h : Heard). h.reached) (sym same)) (agrees.passed s (omega (arith, at_number), hi)))

-- a site settles, and what is known of the others stays
pub settled_about : (w : Known) (s : ℕ) (ops : List Operation) (h : Held) (t : ℕ) → t ≢ s → about (settles w s ops h) t ≡ about w t
settled_about w s ops h t ne = λ i. record { ops = there w s ops h t ne i; held = held_there w s ops h t ne i; counts = w.counts t; waiting = w.waiting t; limits = w.limits t; set = w.sets t }

-- ---- operations that a site issues
pub issues_others : (w : Known) (s : ℕ) (acts : List Act) (t : ℕ) → t ≢ s → about (issues w s acts) t ≡ about w t
issues_others w s [] t ne = refl
issues_others w s (act ∷ acts) t ne =
    let v = settles w s (w.at s ++ new_operation w s act ∷ []) (act_held act (w.held s)) in
    issues_others v s acts t ne ∙ settled_about w s (w.at s ++ new_operation w s act ∷ []) (act_held act (w.held s)) t ne

pub issues_counts : (w : Known) (s : ℕ) (acts : List Act) → (issues w s acts).counts ≡ w.counts
issues_counts w s [] = refl
issues_counts w s (act ∷ acts) = issues_counts (settles w s (w.at s ++ new_operation w s act ∷ []) (act_held act (w.held s))) s acts

pub issues_waiting : (w : Known) (s : ℕ) (acts : List Act) → (issues w s acts).waiting ≡ w.waiting
issues_waiting w s [] = refl
issues_waiting w s (act ∷ acts) = issues_waiting (settles w s (w.at s ++ new_operation w s act ∷ []) (act_held act (w.held s))) s acts

pub issues_limits : (w : Known) (s : ℕ) (acts : List Act) → (issues w s acts).limits ≡ w.limits
issues_limits w s [] = refl
issues_limits w s (act ∷ acts) = issues_limits (settles w s (w.at s ++ new_operation w s act ∷ []) (act_held act (w.held s))) s acts

pub issues_sets : (w : Known) (s : ℕ) (acts : List Act) → (issues w s acts).sets ≡ w.sets
issues_sets w s [] = refl
issues_sets w s (act ∷ acts) = issues_sets (settles w s (w.at s ++ new_operation w s act ∷ []) (act_held act (w.held s))) s acts

pub issues_sites : (w : Known) (s : ℕ) (acts : List Act) → (issues w s acts).sites ≡ w.sites
issues_sites w s [] = refl
issues_sites w s (act ∷ acts) = issues_sites (settles w s (w.at s ++ new_operation w s act ∷ []) (act_held act (w.held s))) s acts

pub issues_sent : (w : Known) (s : ℕ) (acts : List Act) → (issues w s acts).sent ≡ w.sent
issues_sent w s [] = refl
issues_sent w s (act ∷ acts) = issues_sent (settles w s (w.at s ++ new_operation w s act ∷ []) (act_held act (w.held s))) s acts

-- ---- what is put at one site
pub put_here : {A : Type 0} (f : ℕ → A) (s : ℕ) (x : A) → cond (s == s) x (f s) ≡ x
put_here f s x = elim (eqb_tells s s) [ inl p ↦ ap (λ b. cond b x (f s)) p.0 | inr p ↦ absurd (p.1 refl) ]

pub put_there : {A : Type 0} (f : ℕ → A) (s : ℕ) (x : A) (t : ℕ) → t ≢ s → cond (t == s) x (f t) ≡ f t
put_there f s x t ne = elim (eqb_tells t s) [ inl p ↦ absurd (ne p.1) | inr p ↦ ap (λ b. cond b x (f t)) p.0 ]

pub put_same : {A : Type 0} (f : ℕ → A) (s : ℕ) (x : A) → x ≡ f s → (t : ℕ) → cond (t == s) x (f t) ≡ f t
put_same f s x e t = elim (eqb_tells t s) [ inl p ↦ ap (λ b. cond b x (f t)) p.0 ∙ e ∙ ap f (sym p.1) | inr p ↦ ap (λ b. cond b x (f t)) p.0 ]

-- ---- bytes that go
pub left_here : (w : Known) (s : ℕ) (victim : Option (List ℕ)) → (lets_go w s victim).held s ≡ without victim (w.held s)
left_here w s victim = put_here w.held s (without victim (w.held s))

pub left_there : (w : Known) (s : ℕ) (victim : Option (List ℕ)) (t : ℕ) → t ≢ s → about (lets_go w s victim) t ≡ about w t
left_there w s victim t ne = let other = put_there w.held s (without victim (w.held s)) t ne in
    λ i. record { ops = w.at t; held = other i; counts = w.counts t; waiting = w.waiting t; limits = w.limits t; set = w.sets t }

-- whom a site holds for retired
pub retired_here : (w : Known) (s : ℕ) (set : List Bool) → (holds_retired w s set).sets s ≡ set
retired_here w s set = put_here w.sets s set

pub retired_there : (w : Known) (s : ℕ) (set : List Bool) (t : ℕ) → t ≢ s → about (holds_retired w s set) t ≡ about w t
retired_there w s set t ne = let other = put_there w.sets s set t ne in
    λ i. record { ops = w.at t; held = w.held t; counts = w.counts t; waiting = w.waiting t; limits = w.limits t; set = other i }

-- bytes that come to a site come to no other
pub filled_there : (w : Known) (s : ℕ) (key bytes : List ℕ) (t : ℕ) → t ≢ s → about (fills w s key bytes) t ≡ about w t
filled_there w s key bytes t ne = let other = put_there w.held s (held_with key bytes (w.held s)) t ne in
    λ i. record { ops = w.at t; held = other i; counts = w.counts t; waiting = w.waiting t; limits = w.limits t; set = w.sets t }

-- where none go all is as it was
pub left_all : (w : Known) (s : ℕ) → lets_go w s None ≡ w
left_all w s = let all = put_same w.held s (without None (w.held s)) refl in
    λ i. record { at = w.at; held = λ t. all t i; counts = w.counts; waiting = w.waiting; limits = w.limits; sets = w.sets; sites = w.sites; sent = w.sent }

-- a key of which none are held
without_missing : (held : Held) (key : List ℕ) → held key ≡ None → without (Some key) held ≡ held
without_missing held key none = λ i q. by q (same_key q key) refl i
  where
    by : (q : List ℕ) (t : Bool) → same_key q key ≡ t → cond {A = Option (List ℕ)} t None (held q) ≡ held q
    by q true e = sym none ∙ ap held (sym (same_text q key (sym e)))
    by q false e = refl

-- ---- what a site knows and holds once it has issued operations
-- one, for which the bytes of a victim go
issue_state : (n s h : ℕ) (act : Act) (w : Known) (st : SiteState) (victim : Option (List ℕ)) → victim ≡ victim_by act st.stock → 1 ≤ s → s ≤ n → StateOf n s h st (w.at s) (w.held s)
    → StateOf n s h (issue s act st) ((issues (lets_go w s victim) s (act ∷ [])).at s) ((issues (lets_go w s victim) s (act ∷ [])).held s)
issue_state n s low act w st victim is lo hi ok =
    let u = lets_go w s victim in
    let ops = w.at s ++ new_operation w s act ∷ [] in
    let h = act_held act (u.held s) in
    let many = ok.many in
    let goes : without (victim_by act st.stock) (w.held s) ≡ u.held s = ap (λ v. without v (w.held s)) (sym is) ∙ sym (left_here w s victim) in
    subst₂ (λ (ops : List Operation) (h : Held). StateOf n s low (issue s act st) ops h) (sym (here u s ops h)) (sym (held_here u s ops h))
    (subst (λ (held : Held). StateOf n s low (issue s act st) ops (still_held ops (act_held act held))) goes
    (state_issues n s low st (w.at s) (w.held s) act ok (record { above = lo; below = omega (arith, many) })))

-- any number, for which none go
issues_state : (n s h : ℕ) (acts : List Act) (w : Known) (st : SiteState) → AreQuiet acts → 1 ≤ s → s ≤ n → StateOf n s h st (w.at s) (w.held s) → StateOf n s h (issue_all s acts st) ((issues w s acts).at s) ((issues w s acts).held s)
issues_state n s h [] w st quiet lo hi ok = ok
issues_state n s h (act ∷ acts) w st quiet lo hi ok =
    issues_state n s h acts (settles w s (w.at s ++ new_operation w s act ∷ []) (act_held act (w.held s))) (issue s act st) quiet.1 lo hi
    (subst (λ (u : Known). StateOf n s h (issue s act st) ((issues u s (act ∷ [])).at s) ((issues u s (act ∷ [])).held s)) (left_all w s) (issue_state n s h act w st None (sym (quiet.0 st)) lo hi ok))

-- any number, for whose first the bytes of a victim go
pub goes_state : (n s h : ℕ) (acts : List Act) (w : Known) (st : SiteState) (victim : Option (List ℕ)) → GoesFor acts st victim → 1 ≤ s → s ≤ n → StateOf n s h st (w.at s) (w.held s)
    → StateOf n s h (issue_all s acts st) ((issues (lets_go w s victim) s acts).at s) ((issues (lets_go w s victim) s acts).held s)
goes_state n s h [] w st victim goes lo hi ok = subst (λ (u : Known). StateOf n s h st (u.at s) (u.held s)) (sym (left_all w s) ∙ ap (lets_go w s) (sym goes.first)) ok
goes_state n s h (act ∷ acts) w st victim goes lo hi ok = issues_state n s h acts (issues (lets_go w s victim) s (act ∷ [])) (issue s act st) goes.rest lo hi (issue_state n s h act w st victim goes.first lo hi ok)

-- keys that are found change nothing that is known
pub accessed_state : (n s h : ℕ) (keys : List (List ℕ)) (st : SiteState) (ops : List Operation) (held : Held) → StateOf n s h st ops held → StateOf n s h (accessed keys st) ops held
accessed_state n s h keys st ops held ok = record { many = ok.many; tells = ok.tells; behind = ok.behind; holds = ok.holds; same_held = λ key. hit_held keys st key ∙ ok.same_held key }

-- ---- keys that a site counts, and the flush that waits there
pub counts_here : (w : Known) (s : ℕ) (c : Counts) → (counts_keys w s c).counts s ≡ c
counts_here w s c = put_here w.counts s c

pub counts_there : (w : Known) (s : ℕ) (c : Counts) (t : ℕ) → t ≢ s → about (counts_keys w s c) t ≡ about w t
counts_there w s c t ne = let other = put_there w.counts s c t ne in
    λ i. record { ops = w.at t; held = w.held t; counts = other i; waiting = w.waiting t; limits = w.limits t; set = w.sets t }

pub waits_here : (w : Known) (s : ℕ) (x : Option ℕ) → (waits w s x).waiting s ≡ x
waits_here w s x = put_here w.waiting s x

pub waits_there : (w : Known) (s : ℕ) (x : Option ℕ) (t : ℕ) → t ≢ s → about (waits w s x) t ≡ about w t
waits_there w s x t ne = let other = put_there w.waiting s x t ne in
    λ i. record { ops = w.at t; held = w.held t; counts = w.counts t; waiting = other i; limits = w.limits t; set = w.sets t }

-- ---- what a site does, of which all is known
module _ (sites : List Site) (parcels : List Parcel) (w : Known) (agrees : Agrees sites parcels w) (k s : ℕ) (at_number : s ≡ k + 1) (hi : s ≤ length sites) (old new : Site) (got : slice_get sites k ≡ Some old) (stays : Stays old new) where
  bounds_issued : (keys : List (List ℕ)) (acts : List Act) (victim : Option (List ℕ)) (v : Known) → Stands (length sites) s old (about w s) → new.vector ≡ (issue_all s acts (accessed keys (state_in old))).vector → v.at s ≡ (issues (lets_go w s victim) s acts).at s
      → ((t : ℕ) → t ≢ s → about v t ≡ about (issues (lets_go w s victim) s acts) t) → v.sent ≡ (issues (lets_go w s victim) s acts).sent → Bounded (length sites) (vectors (slice_set sites k new)) (rows (slice_set sites k new)) parcels v.at v.sent
  bounds_issued keys acts victim v st vector ops others sent =
      let n = length sites in
      let V' = vectors (slice_set sites k new) in
      let u = lets_go w s victim in
      let i = issues u s acts in
      let issued = bounded_issues n s (rows sites) parcels (omega (arith, at_number)) hi acts u (accessed keys (state_in old)) (w.held s) (vectors sites) V' agrees.bounds st.horizon (accessed_state n s st.horizon keys (state_in old) (w.at s) (w.held s) st.state) (vector_was sites k s at_number hi old new got)
      (vector_here sites k s at_number hi old new got ∙ vector) (λ t ne. vector_there sites k s at_number hi old new got t ne) in
      bounded_same n V' V' (rows sites) (rows (slice_set sites k new)) parcels i.at v.at i.sent v.sent (λ t. refl) (rows_stay sites k s at_number hi old new got (ap (λ (h : Heard). h.rows) stays.2))
      (λ t. elim (cases_eq t s) [ inl e ↦ ap v.at e ∙ ops ∙ ap i.at (sym e) | inr ne ↦ ap (λ (x : SiteKnown). x.ops) (others t ne) ]) sent issued

  -- it knows and holds what is known of it once the bytes of a victim have gone and operations are issued
  agrees_left : (st : Stands (length sites) s old (about w s)) (keys : List (List ℕ)) (acts : List Act) (victim : Option (List ℕ)) (v : Known) → StateOf (length sites) s st.horizon (state_in new) (v.at s) (v.held s) → new.vector ≡ (issue_all s acts (accessed keys (state_in old))).vector → v.at s ≡ (issues (lets_go w s victim) s acts).at s
      → counts_in new ≡ v.counts s → waiting_in new ≡ v.waiting s → v.limits s ≡ w.limits s → v.sets s ≡ w.sets s → ((t : ℕ) → t ≢ s → about v t ≡ about (issues (lets_go w s victim) s acts) t) → v.sites ≡ w.sites → v.sent ≡ (issues (lets_go w s victim) s acts).sent
      → Agrees (slice_set sites k new) parcels v
  agrees_left st keys acts victim v state vector ops counts waiting limits set others numbers sent =
      let u = lets_go w s victim in
      let n = length sites in
      let lo : 1 ≤ s = omega (arith, at_number) in
      let from = accessed keys (state_in old) in
      let rises : OwnRises s old.vector new.vector = subst (λ v. OwnRises s old.vector v) (sym vector) (issued_rises s acts from) in
      let i = issues u s acts in
      let ops_are : v.at ≡ i.at = λ j t. (elim (cases_eq t s) as (λ x. v.at t ≡ i.at t) [ inl e ↦ ap v.at e ∙ ops ∙ ap i.at (sym e) | inr ne ↦ ap (λ (x : SiteKnown). x.ops) (others t ne) ]) j in
      let some : 1 ≤ length (row_of (heard_in old).rows s) = (let r = st.rows s lo hi in omega (arith, r, lo, hi)) in
      let up = horizon_rises (heard_in old) s old.vector new.vector rises some in
      let heard : horizon_of (heard_in new) s new.vector ≡ horizon_of (heard_in old) s new.vector = ap (λ h. horizon_of h s new.vector) stays.2 in
      let moves = own_moves sites parcels w agrees k s at_number hi old got new rises (ap (λ (h : Heard). h.rows) stays.2) (ap (λ (h : Heard). h.told) stays.2) (λ j one has. ap (λ (h : Heard). is_in h.set j) stays.2 ∙ has) in
      agrees_changed sites parcels w v agrees k s at_number hi old new got
      (record {
        own = stays.0 ∙ st.own;
        horizon = st.horizon;
        state = state;
        reached = let r = st.reached in omega (arith, r, up, heard);
        counts = counts;
        waiting = waiting;
        limits = stays.1 ∙ st.limits ∙ sym limits;
        set = ap (λ (h : Heard). h.set) stays.2 ∙ st.set ∙ sym set;
        rows = λ other first most. ap (λ (h : Heard). length (row_of h.rows other)) stays.2 ∙ st.rows other first most;
      })
      (λ t ne. others t ne ∙ issues_others u s acts t ne ∙ left_there w s victim t ne) numbers (sent ∙ issues_sent u s acts)
      (λ t op a. subst (λ (at : ℕ → List Operation). Among (at t) op) (sym ops_are) (issues_known u s acts t op a))
      (bounds_issued keys acts victim v st vector ops others sent) moves (passed_still sites parcels w v agrees k s at_number hi old new got moves stays.2)

  -- keys are found there, the bytes of a victim go and it issues operations, and counts and waits as is known then
  pub agrees_issued : (keys : List (List ℕ)) (acts : List Act) (victim : Option (List ℕ)) (v : Known) → GoesFor acts (accessed keys (state_in old)) victim → HasIssuedAfter keys old new acts
      → v.at s ≡ (issues (lets_go w s victim) s acts).at s → v.held s ≡ (issues (lets_go w s victim) s acts).held s
      → counts_in new ≡ v.counts s → waiting_in new ≡ v.waiting s → v.limits s ≡ w.limits s → v.sets s ≡ w.sets s → ((t : ℕ) → t ≢ s → about v t ≡ about (issues (lets_go w s victim) s acts) t) → v.sites ≡ w.sites → v.sent ≡ (issues (lets_go w s victim) s acts).sent
      → Agrees (slice_set sites k new) parcels v
  agrees_issued keys acts victim v goes issued ops held counts waiting limits set others numbers sent =
      let st = agrees.each k s old at_number got in
      let n = length sites in
      let i = issues (lets_go w s victim) s acts in
      let from = accessed keys (state_in old) in
      let same : Same (issue_all s acts from) (state_in new) = subst (λ (m : ℕ). Same (issue_all m acts from) (state_in new)) st.own issued in
      let first = accessed_state n s st.horizon keys (state_in old) (w.at s) (w.held s) st.state in
      let state = state_same n s st.horizon (issue_all s acts from) (state_in new) (i.at s) (i.held s) (goes_state n s st.horizon acts w from victim goes (omega (arith, at_number)) hi first) same in
      agrees_left st keys acts victim v (subst₂ (λ (o : List Operation) (h : Held). StateOf n s st.horizon (state_in new) o h) (sym ops) (sym held) state) same.vector ops counts waiting limits set others numbers sent

  -- it changes nothing
  pub agrees_still : Same (state_in old) (state_in new) → Rests old new → Agrees (slice_set sites k new) parcels w
  agrees_still same rests =
      let st = agrees.each k s old at_number got in
      agrees_left st [] [] None w (state_same (length sites) s st.horizon (state_in old) (state_in new) (w.at s) (w.held s) st.state same) same.vector refl (rests.0 ∙ st.counts) (rests.1 ∙ st.waiting) refl refl (λ t ne. sym (left_there w s None t ne)) refl refl

  -- it issues operations for which no bytes go, and a flush waits there after them as before or otherwise
  pub agrees_waits : (acts : List Act) (x : Option ℕ) → AreQuiet acts → HasIssued old new acts → counts_in new ≡ counts_in old → waiting_in new ≡ x → Agrees (slice_set sites k new) parcels (waits (issues w s acts) s x)
  agrees_waits acts x quiet issued counts waiting =
      let st = agrees.each k s old at_number got in
      let u = lets_go w s None in
      let i = issues u s acts in
      subst (λ (u : Known). Agrees (slice_set sites k new) parcels (waits (issues u s acts) s x)) (left_all w s)
      (agrees_issued [] acts None (waits i s x) (quiet_goes acts (accessed [] (state_in old)) quiet) issued refl refl (counts ∙ st.counts ∙ ap (λ (f : ℕ → Counts). f s) (sym (issues_counts u s acts))) (waiting ∙ sym (waits_here i s x)) (ap (λ (f : ℕ → Limits). f s) (issues_limits u s acts)) (ap (λ (f : ℕ → List Bool). f s) (issues_sets u s acts)) (λ t ne. waits_there i s x t ne) (issues_sites u s acts) refl)

  pub agrees_acts : (acts : List Act) → AreQuiet acts → HasIssued old new acts → Rests old new → Agrees (slice_set sites k new) parcels (issues w s acts)
  agrees_acts acts quiet issued rests =
      let st = agrees.each k s old at_number got in
      let u = lets_go w s None in
      subst (λ (u : Known). Agrees (slice_set sites k new) parcels (issues u s acts)) (left_all w s)
      (agrees_issued [] acts None (issues u s acts) (quiet_goes acts (accessed [] (state_in old)) quiet) issued refl refl (rests.0 ∙ st.counts ∙ ap (λ (f : ℕ → Counts). f s) (sym (issues_counts u s acts))) (rests.1 ∙ st.waiting ∙ ap (λ (f : ℕ → Option ℕ). f s) (sym (issues_waiting u s acts))) (ap (λ (f : ℕ → Limits). f s) (issues_limits u s acts)) (ap (λ (f : ℕ → List Bool). f s) (issues_sets u s acts)) (λ t ne. refl) (issues_sites u s acts) refl)

  -- it carries a request out
  pub agrees_carried : (keys : List (List ℕ)) (acts : List Act) (victim : Option (List ℕ)) (c : Counts) (x : Option ℕ) → GoesFor acts (accessed keys (state_in old)) victim → HasIssuedAfter keys old new acts → counts_in new ≡ c → waiting_in new ≡ x
      → Agrees (slice_set sites k new) parcels (waits (counts_keys (issues (lets_go w s victim) s acts) s c) s x)
  agrees_carried keys acts victim c x goes issued counts waiting =
      let u = lets_go w s victim in
      let i = issues u s acts in
      let v = counts_keys i s c in
      agrees_issued keys acts victim (waits v s x) goes issued refl refl (counts ∙ sym (counts_here i s c)) (waiting ∙ sym (waits_here v s x)) (ap (λ (f : ℕ → Limits). f s) (issues_limits u s acts)) (ap (λ (f : ℕ → List Bool). f s) (issues_sets u s acts)) (λ t ne. waits_there v s x t ne ∙ counts_there i s c t ne) (issues_sites u s acts) refl

  -- a due flush
  pub agrees_flushed : (now : ℕ) → FlushDoes old new now → Agrees (slice_set sites k new) parcels (flushed w s now)
  agrees_flushed now does =
      let st = agrees.each k s old at_number got in
      let clock = st.state.tells.clock in
      let due : due_acts (waiting_in old) (clock_in old) now ≡ due_acts (w.waiting s) (latest (w.at s)) now = λ i. due_acts (st.waiting i) (clock i) now in
      agrees_waits (due_acts (w.waiting s) (latest (w.at s)) now) (waits_on (w.waiting s) (latest (w.at s)) now) (one_quiet (flushes_due (w.waiting s) (latest (w.at s)) now) Flush (λ st. refl))
      (subst (HasIssued old new) due does.issued) does.counts (does.waiting ∙ (λ i. waits_on (st.waiting i) (clock i) now))

  -- the bytes of a key are dropped, and nothing else
  module _ (key : List ℕ) (done : Bool) (does : EvictDoes old new key done) where
    dropped_state : (st : Stands (length sites) s old (about w s)) → StateOf (length sites) s st.horizon (state_in new) (w.at s) (without (Some key) (w.held s))
    dropped_state st =
        let left = does.left in
        record {
          many = ap length left.vector ∙ st.state.many;
          tells = subst₂ (λ (v : List ℕ) (f : Option Moment). Spans s v f (w.at s)) (sym left.vector) (sym left.floor) st.state.tells;
          behind = st.state.behind;
          holds = λ q. subst (λ (m : Record). Holds (UpTo st.horizon) m (w.at s) q) (sym (left.map q)) (st.state.holds q);
          same_held = λ q. left.stock.held q ∙ ap (λ (o : Option (List ℕ)). cond (same_key q key) None o) (st.state.same_held q);
        }

    pub agrees_evicted : (c : Counts) → counts_in new ≡ c → Agrees (slice_set sites k new) parcels (counts_keys (lets_go w s (Some key)) s c)
    agrees_evicted c counts =
        let st = agrees.each k s old at_number got in
        let u = lets_go w s (Some key) in
        agrees_left st [] [] (Some key) (counts_keys u s c) (subst (λ (h : Held). StateOf (length sites) s st.horizon (state_in new) (w.at s) h) (sym (left_here w s (Some key))) (dropped_state st))
        does.left.vector refl (counts ∙ sym (counts_here u s c)) (does.waiting ∙ st.waiting) refl refl (λ t ne. counts_there u s c t ne) refl refl

    -- of which none are held
    pub agrees_missing : w.held s key ≡ None → counts_in new ≡ counts_in old → Agrees (slice_set sites k new) parcels w
    agrees_missing none counts =
        let st = agrees.each k s old at_number got in
        agrees_left st [] [] None w (subst (λ (h : Held). StateOf (length sites) s st.horizon (state_in new) (w.at s) h) (without_missing (w.held s) key none) (dropped_state st))
        does.left.vector refl (counts ∙ st.counts) (does.waiting ∙ st.waiting) refl refl (λ t ne. sym (left_there w s None t ne)) refl refl

  -- bytes come, and nothing else changes
  module _ (key bytes : List ℕ) (same : Same (with_stock (came key bytes (state_in old).stock) (state_in old)) (state_in new)) where
    filled_state : (st : Stands (length sites) s old (about w s)) → StateOf (length sites) s st.horizon (state_in new) (w.at s) (held_with key bytes (w.held s))
    filled_state st = record {
      many = ap length same.vector ∙ st.state.many;
      tells = subst₂ (λ (v : List ℕ) (f : Option Moment). Spans s v f (w.at s)) (sym same.vector) (sym same.floor) st.state.tells;
      behind = st.state.behind;
      holds = λ q. subst (λ (m : Record). Holds (UpTo st.horizon) m (w.at s) q) (sym (same.map q)) (st.state.holds q);
      same_held = λ q. same.stock.held q ∙ came_held key bytes (state_in old).stock q ∙ ap (λ (o : Option (List ℕ)). cond (same_key q key) (Some bytes) o) (st.state.same_held q);
    }

    pub agrees_filled : Rests old new → Agrees (slice_set sites k new) parcels (fills w s key bytes)
    agrees_filled rests =
        let st = agrees.each k s old at_number got in
        agrees_left st [] [] None (fills w s key bytes) (subst (λ (h : Held). StateOf (length sites) s st.horizon (state_in new) (w.at s) h) (sym (put_here w.held s (held_with key bytes (w.held s)))) (filled_state st))
        same.vector refl (rests.0 ∙ st.counts) (rests.1 ∙ st.waiting) refl refl (λ t ne. filled_there w s key bytes t ne ∙ sym (left_there w s None t ne)) refl refl

-- ---- how much is kept
pub count_same : (a b : List ℕ → Bool) (n : ℕ) → ((key : List ℕ) → a key ≡ b key) → IsCount a n → IsCount b n
count_same a b n same h = record { keys = h.keys; many = h.many; apart = h.apart; those = λ key. h.those key ∙ same key }

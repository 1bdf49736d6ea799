-- Whom a site holds for retired was named by a retirement, so the sites that none names are outside of every set.
use Rattle.std.proofs.Common.{◌≡◌, ◌≢◌, ℕ, zero, suc, ◌≤◌, max, Bool, true, false, cond, ◌||◌, ◌==◌, List, [], ◌∷◌, ◌++◌, length, Option, refl, sym, ap, ◌∙◌, subst, ◌⊎◌, inl, inr, arith, true≢false, slice_set, slice_index_or, replicate}
use Rattle.std.proofs.lemmas.Bool.{cases_eq}
use Rattle.std.proofs.lemmas.Bool.Decides.{eqb_tells}
use Rattle.std.proofs.lemmas.List.{length-set}
use Rattle.geo_stamp.specs.Retired.{no_sites, is_in, with_site, set_joined}
use Rattle.geo_records.specs.Operations.{Operation, Act, latest}
use Rattle.geo_requests.specs.declared.request.Request.{Request}
use Rattle.geo_requests.specs.declared.reply.Reply.{Reply}
use Rattle.geo_site.specs.declared.setup.Limits.{Limits}
use Rattle.geo_world.specs.declared.event.Event.{Event}
use Rattle.geo_world.specs.declared.event.Event.TheVariants.{Command, Evict, Send, Take, Remove, Tick, Reap, Fill, Retire}
use Rattle.geo_world.specs.declared.event.Trace.{Trace}
use Rattle.geo_world.specs.declared.event.Trace.TheVariants.{Replied, Evicted, Sent, SendRefused, Taken, TakeRefused, Removed, Ticked, Reaped, ReapRefused, Filled, FillRefused, Retired, RetireRefused}
use Rattle.geo_site.specs.Entries.{is_done, due_acts}
use Rattle.geo_site.specs.Fills.{is_filled}
use Rattle.geo_world.specs.Schedule.{Known, Sending, never_sent, nothing_known, StableAt, settles, issues, learns, carried, told_retired, lets_go, issues_on, carries_out, evicts, fills, flushed, reaps_on, happens, Lawful, EachLawful}
use Rattle.geo_world.specs.Surviving.{named, IsStable, EachStable}
use Rattle.geo_world.proofs.Changing.{issues_sets, issues_sent, put_here, put_there}
use Rattle.geo_world.proofs.Moving.{in_joined, with_grows}
use Rattle.geo_world.proofs.Reports.{either, not_both}

-- ---- sets
pub record Inside (G set : List Bool) : Type 0 where
  pub few : length set ≤ 16
  pub those : (j : ℕ) → is_in set j ≡ true → is_in G j ≡ true

none_at : (m j : ℕ) → slice_index_or (replicate m false) j false ≡ false
none_at zero j = refl
none_at (suc m) zero = refl
none_at (suc m) (suc j) = none_at m j

pub inside_nobody : (G : List Bool) → Inside G no_sites
inside_nobody G = record { few = omega arith; those = λ j h. absurd (true≢false (sym h ∙ nobody j)) }
  where
    nobody : (j : ℕ) → is_in no_sites j ≡ false
    nobody zero = refl
    nobody (suc j) = none_at 16 j

one_of : (a b : Bool) → (a || b) ≡ true → (a ≡ true) ⊎ (b ≡ true)
one_of true b h = inl refl
one_of false b h = inr h

joined_few : (m : ℕ) (a b : List Bool) → length a ≤ m → length b ≤ m → length (set_joined a b) ≤ m
joined_few m [] b p q = q
joined_few m (x ∷ xs) [] p q = p
joined_few zero (x ∷ xs) (y ∷ ys) p q = absurd (omega (arith, p))
joined_few (suc m) (x ∷ xs) (y ∷ ys) p q = let h = joined_few m xs ys (omega (arith, p)) (omega (arith, q)) in omega (arith, h)

pub inside_joined : (G a b : List Bool) → Inside G a → Inside G b → Inside G (set_joined a b)
inside_joined G a b p q = record {
  few = joined_few 16 a b p.few q.few;
  those = λ j h. elim (one_of (is_in a j) (is_in b j) (sym (in_joined a b j) ∙ h)) [ inl x ↦ p.those j x | inr x ↦ q.those j x ];
}

-- who is in a set with one more was in it, or is that one, which has a place there
set_cases : (set : List Bool) (k j : ℕ) → slice_index_or (slice_set set k true) j false ≡ true → (slice_index_or set j false ≡ true) ⊎ ((j ≡ k) × (suc k ≤ length set))
set_cases [] k j h = inl h
set_cases (x ∷ xs) zero zero h = inr (refl, omega arith)
set_cases (x ∷ xs) zero (suc j) h = inl h
set_cases (x ∷ xs) (suc k) zero h = inl h
set_cases (x ∷ xs) (suc k) (suc j) h = elim (set_cases xs k j h) [ inl a ↦ inl a | inr p ↦ inr (ap suc p.0, (let l = p.1 in omega (arith, l))) ]

with_cases : (set : List Bool) (other j : ℕ) → is_in (with_site set other) j ≡ true → (is_in set j ≡ true) ⊎ ((j ≡ other) × (1 ≤ other) × (other ≤ length set))
with_cases set zero j h = inl h
with_cases set (suc k) zero h = inl h
with_cases set (suc k) (suc j) h = elim (set_cases set k j h) [ inl a ↦ inl a | inr p ↦ inr (ap suc p.0, omega arith, p.1) ]

set_has : (set : List Bool) (k : ℕ) → suc k ≤ length set → slice_index_or (slice_set set k true) k false ≡ true
set_has [] k lt = absurd (omega (arith, lt))
set_has (x ∷ xs) zero lt = refl
set_has (x ∷ xs) (suc k) lt = set_has xs k (omega (arith, lt))

with_has : (set : List Bool) (other : ℕ) → 1 ≤ other → other ≤ length set → is_in (with_site set other) other ≡ true
with_has set zero lo hi = absurd (omega (arith, lo))
with_has set (suc k) lo hi = set_has set k hi

with_length : (set : List Bool) (other : ℕ) → length (with_site set other) ≡ length set
with_length set zero = refl
with_length set (suc k) = length-set set k true

with_more : (set : List Bool) (other j : ℕ) → is_in set j ≡ true → is_in (with_site set other) j ≡ true
with_more set other zero h = absurd (true≢false (sym h))
with_more set other (suc j) h = with_grows (suc j) set other (suc j) (omega arith, omega arith) h

-- ---- who is named
named_length : (events : List Event) → length (named events) ≡ 16
named_length [] = refl
named_length (Command site now request ∷ events) = named_length events
named_length (Evict site key ∷ events) = named_length events
named_length (Send site to ∷ events) = named_length events
named_length (Take site parcel ∷ events) = named_length events
named_length (Remove site ∷ events) = named_length events
named_length (Tick site now ∷ events) = named_length events
named_length (Reap site now key ∷ events) = named_length events
named_length (Fill site key bytes ∷ events) = named_length events
named_length (Retire site other ∷ events) = by (other == site) (named_length events)
  where
    by : (b : Bool) → length (named events) ≡ 16 → length (cond b (named events) (with_site (named events) other)) ≡ 16
    by true many = many
    by false many = with_length (named events) other ∙ many

pub named_later : (event : Event) (events : List Event) (j : ℕ) → is_in (named events) j ≡ true → is_in (named (event ∷ events)) j ≡ true
named_later (Command site now request) events j h = h
named_later (Evict site key) events j h = h
named_later (Send site to) events j h = h
named_later (Take site parcel) events j h = h
named_later (Remove site) events j h = h
named_later (Tick site now) events j h = h
named_later (Reap site now key) events j h = h
named_later (Fill site key bytes) events j h = h
named_later (Retire site other) events j h = by (other == site)
  where
    by : (b : Bool) → is_in (cond b (named events) (with_site (named events) other)) j ≡ true
    by true = h
    by false = with_more (named events) other j h

named_other : (site other : ℕ) (events : List Event) → other ≢ site → named (Retire site other ∷ events) ≡ with_site (named events) other
named_other site other events ne = elim (eqb_tells other site) [ inl p ↦ absurd (ne p.1) | inr p ↦ ap (λ b. cond b (named events) (with_site (named events) other)) p.0 ]

-- ---- along a schedule
module _ (G : List Bool) where
  pub record Named (w : Known) : Type 0 where
    pub sets : (s : ℕ) → Inside G (w.sets s)
    pub sent : (p : ℕ) → Inside G (told_retired w p)

  named_same : (w v : Known) → ((s : ℕ) → v.sets s ≡ w.sets s) → v.sent ≡ w.sent → Named w → Named v
  named_same w v sets sent inv = record {
    sets = λ s. subst (λ (set : List Bool). Inside G set) (sym (sets s)) (inv.sets s);
    sent = λ p. subst (λ (all : List Sending). Inside G (slice_index_or all p never_sent).set) (sym sent) (inv.sent p);
  }

  named_done : (b : Bool) (w v : Known) → Named w → Named v → Named (cond b v w)
  named_done true w v p q = q
  named_done false w v p q = p

  named_issued : (w : Known) (s : ℕ) (acts : List Act) → Named w → Named (issues w s acts)
  named_issued w s acts inv = named_same w (issues w s acts) (λ t. ap (λ (f : ℕ → List Bool). f t) (issues_sets w s acts)) (issues_sent w s acts) inv

  named_flushed : (w : Known) (s now : ℕ) → Named w → Named (flushed w s now)
  named_flushed w s now inv =
      let acts = due_acts (w.waiting s) (latest (w.at s)) now in
      named_same (issues w s acts) (flushed w s now) (λ t. refl) refl (named_issued w s acts inv)

  named_carries : (w : Known) (s now : ℕ) (request : Request) (victim : Option (List ℕ)) → Named w → Named (carries_out w s now request victim)
  named_carries w s now request victim inv =
      let u = lets_go w s victim in
      let acts = issues_on w s now request in
      named_same (issues u s acts) (carries_out w s now request victim) (λ t. refl) refl (named_issued u s acts (named_same w u (λ t. refl) refl inv))

  appended : (all : List Sending) (x : Sending) → ((p : ℕ) → Inside G (slice_index_or all p never_sent).set) → Inside G x.set → (p : ℕ) → Inside G (slice_index_or (all ++ x ∷ []) p never_sent).set
  appended [] x each here zero = here
  appended [] x each here (suc p) = inside_nobody G
  appended (y ∷ ys) x each here zero = each 0
  appended (y ∷ ys) x each here (suc p) = appended ys x (λ p. each (suc p)) here p

  named_sent : (w : Known) (s to : ℕ) → Named w → Named (happens w (Send s to) Sent)
  named_sent w s to inv = record {
    sets = inv.sets;
    sent = appended w.sent (record { from = s; to = to; set = w.sets s; ops = w.at s }) inv.sent (inv.sets s);
  }

  put_inside : (f : ℕ → List Bool) (s : ℕ) (set : List Bool) → ((t : ℕ) → Inside G (f t)) → Inside G set → (t : ℕ) → Inside G (cond (t == s) set (f t))
  put_inside f s set each here t = by (t == s)
    where
      by : (b : Bool) → Inside G (cond b set (f t))
      by true = here
      by false = each t

  named_taken : (w : Known) (s p : ℕ) → Named w → Named (happens w (Take s p) Taken)
  named_taken w s p inv = record {
    sets = put_inside w.sets s (set_joined (w.sets s) (told_retired w p)) inv.sets (inside_joined G (w.sets s) (told_retired w p) (inv.sets s) (inv.sent p));
    sent = inv.sent;
  }

  named_retired : (w : Known) (s other : ℕ) (fresh : Bool) → other ≢ s → (1 ≤ other → other ≤ 16 → other ≢ s → is_in G other ≡ true) → Named w → Named (happens w (Retire s other) (Retired fresh))
  named_retired w s other fresh ne covers inv = record {
    sets = put_inside w.sets s (with_site (w.sets s) other) inv.sets (record {
      few = let l = with_length (w.sets s) other in let f = (inv.sets s).few in omega (arith, l, f);
      those = λ j h. elim (with_cases (w.sets s) other j h) [
        | inl a ↦ (inv.sets s).those j a
        | inr p ↦ subst (λ k. is_in G k ≡ true) (sym p.0) (covers p.1 (let a = p.2 in let f = (inv.sets s).few in omega (arith, a, f)) ne)
      ];
    });
    sent = inv.sent;
  }

  -- the set has whom the event names
  abbrev Has : Event → Type 0
  Has event = (site other : ℕ) → event ≡ Retire site other → 1 ≤ other → other ≤ 16 → other ≢ site → is_in G other ≡ true

  pub named_happens : (w : Known) (e : Event) (t : Trace) → Lawful w e t → Has e → Named w → Named (happens w e t)
  named_happens w (Command site now request) (Replied reply victim) law covers inv = named_done (is_done reply) (flushed w site now) (carries_out (flushed w site now) site now request victim) (named_flushed w site now inv) (named_carries (flushed w site now) site now request victim (named_flushed w site now inv))
  named_happens w (Evict site key) (Evicted done) law covers inv = named_done done w (evicts w site key) inv (named_same w (evicts w site key) (λ t. refl) refl inv)
  named_happens w (Send site to) Sent law covers inv = named_sent w site to inv
  named_happens w (Take site parcel) Taken law covers inv = named_taken w site parcel inv
  named_happens w (Tick site now) (Ticked done) law covers inv = named_flushed w site now inv
  named_happens w (Reap site now key) (Reaped done) law covers inv = named_issued (flushed w site now) site (reaps_on (flushed w site now) site now key) (named_flushed w site now inv)
  named_happens w (Reap site now key) (ReapRefused why) law covers inv = named_flushed w site now inv
  named_happens w (Fill site key bytes) (Filled filled) law covers inv = named_done (is_filled filled) w (fills w site key bytes) inv (named_same w (fills w site key bytes) (λ t. refl) refl inv)
  named_happens w (Retire site other) (Retired fresh) law covers inv = named_retired w site other fresh law.0 (covers site other refl) inv
  named_happens w event trace law covers inv = inv

  stable_more : (n : ℕ) (set more : List Bool) (at : ℕ → List Operation) (time : ℕ) → Inside more set → StableAt n set at time → StableAt n more at time
  stable_more n set more at time inside stable = record {
    known = λ r s op a b c d e f g h. stable.known r s op a b (out r c) d e (out s f) g h;
    past = λ s a b c. stable.past s a b (out s c);
  }
    where
      out : (j : ℕ) → is_in more j ≡ false → is_in set j ≡ false
      out j h = elim (either (is_in set j)) [ inl x ↦ absurd (not_both (is_in more j) (inside.those j x) h) | inr x ↦ x ]

  stable_event : (w : Known) (e : Event) (t : Trace) → Lawful w e t → Named w → IsStable G w e t
  stable_event w (Remove site) (Removed horizon count) law inv = stable_more w.sites (w.sets site) G w.at horizon (inv.sets site) law
  stable_event w event trace law inv = tt

  pub each_stable : (w : Known) (es : List Event) (ts : List Trace) → EachLawful w es ts → ((j : ℕ) → is_in (named es) j ≡ true → is_in G j ≡ true) → Named w → EachStable G w es ts
  each_stable w [] ts law covers inv = tt
  each_stable w (e ∷ es) [] law covers inv = tt
  each_stable w (e ∷ es) (t ∷ ts) law covers inv = (
    stable_event w e t law.0 inv,
    each_stable (happens w e t) es ts law.1 (λ j h. covers j (named_later e es j h)) (named_happens w e t law.0 has inv),
  )
    where
      has : Has e
      has site other is lo hi ne =
          covers other (subst (λ (e : Event). is_in (named (e ∷ es)) other ≡ true) (sym is)
          (ap (λ set. is_in set other) (named_other site other es ne) ∙ with_has (named es) other lo (let l = named_length es in omega (arith, l, hi))))

pub nothing_named : (G : List Bool) (n : ℕ) (limits : ℕ → Limits) → Named G (nothing_known n limits)
nothing_named G n limits = record { sets = λ s. inside_nobody G; sent = λ p. inside_nobody G }

-- whom no retirement of a schedule names may count on each horizon
pub survivors_stable : (n : ℕ) (limits : ℕ → Limits) (es : List Event) (ts : List Trace) → EachLawful (nothing_known n limits) es ts → EachStable (named es) (nothing_known n limits) es ts
survivors_stable n limits es ts law = each_stable (named es) (nothing_known n limits) es ts law (λ j h. h) (nothing_named (named es) n limits)

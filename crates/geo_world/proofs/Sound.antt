-- What is known along a schedule: each operation is known to its issuer, which has each stamp once, and what is held was written.
use Rattle.std.proofs.Common.{◌≡◌, ◌≢◌, ℕ, zero, suc, Bool, true, false, cond, List, [], ◌∷◌, ◌++◌, Option, None, Some, refl, sym, ap, ◌∙◌, subst, ◌⊎◌, inl, inr, arith, slice_index_or}
use Rattle.std.proofs.lemmas.Bool.{cases_eq}
use Rattle.std.proofs.lemmas.Bool.Decides.{eqb_tells}
use Rattle.geo_stamp.specs.Stamps.{Moment}
use Rattle.geo_stamp.specs.Retired.{with_site, set_joined}
use Rattle.geo_records.specs.Keys.{same_key}
use Rattle.geo_records.specs.Operations.{Operation, Act, Among, version_of, latest}
use Rattle.geo_records.specs.Operations.Act.{Write, Delete, Touch, Flush}
use Rattle.geo_records.specs.declared.version.Version.{Version}
use Rattle.geo_world.specs.declared.event.Event.{Event}
use Rattle.geo_world.specs.declared.event.Event.TheVariants.{Command, Evict, Send, Take, Tick, Reap, Fill, Retire}
use Rattle.geo_world.specs.declared.event.Trace.{Trace}
use Rattle.geo_world.specs.declared.event.Trace.TheVariants.{Replied, Evicted, Sent, Taken, Ticked, Reaped, ReapRefused, Filled, Retired}
use Rattle.geo_site.specs.declared.fill.Filled.{Filled as FilledAs}
use Rattle.geo_site.specs.declared.fill.Filled.TheVariants.{NotNamed, Full, Done}
use Rattle.geo_site.specs.declared.fill.Filled.TheVariants as filled
use Rattle.geo_site.specs.declared.setup.Limits.{Limits}
use Rattle.geo_requests.specs.declared.request.Request.{Request}
use Rattle.geo_requests.specs.declared.reply.Reply.{Reply}
use Rattle.geo_site.specs.Entries.{Held, Counts, counted, evicted_on, names, named_by, waits_after, due_acts, waits_on, is_done}
use Rattle.geo_site.specs.Machine.{act_held, held_with, is_victim, without}
use Rattle.geo_world.specs.Schedule.{Sending, Known, never_sent, nothing_known, still_held, settles, new_operation, issues, learns, carried, told_retired, holds_retired, issues_on, counts_keys, lets_go, evicts, carries_out, happens, waits, flushed, visible, reaps_on, fills, FilledIn, Lawful}
use Rattle.geo_site.specs.Fills.{is_filled}
use Rattle.geo_world.specs.Served.{Writing, Offers}
use Rattle.geo_values.proofs.Linked.{same_keys}
use Rattle.geo_site.proofs.Named.{some_same, some_none, named_some}
use Rattle.geo_world.proofs.Stepping.{among_append, at_most_latest}

-- `offered` are bytes that some site was offered
pub record Sound (offered : List ℕ → Type 0) (w : Known) : Type 0 where
  -- each operation is known to its issuer
  pub home : (t : ℕ) (op : Operation) → Among (w.at t) op → Among (w.at op.stamp.site) op
  pub home_sent : (p : ℕ) (op : Operation) → Among (carried w p) op → Among (w.at op.stamp.site) op
  -- a site knows each stamp once
  pub once : (t : ℕ) (a b : Operation) → Among (w.at t) a → Among (w.at t) b → a.stamp ≡ b.stamp → a ≡ b
  -- what is held was written or offered, and is named
  pub written : (t : ℕ) (q bytes : List ℕ) → w.held t q ≡ Some bytes → Writing (w.at t) bytes ⊎ offered bytes
  pub named : (t : ℕ) (q bytes : List ℕ) → w.held t q ≡ Some bytes → names (version_of (w.at t) q) bytes ≡ true

pub among_left : (ks ls : List Operation) (op : Operation) → Among ks op → Among (ks ++ ls) op
among_left [] ls op h = absurd h
among_left (k ∷ ks) ls op (inl e) = inl e
among_left (k ∷ ks) ls op (inr h) = inr (among_left ks ls op h)

pub among_right : (ks ls : List Operation) (op : Operation) → Among ls op → Among (ks ++ ls) op
among_right [] ls op h = h
among_right (k ∷ ks) ls op h = inr (among_right ks ls op h)

writing_left : (ks ls : List Operation) (bytes : List ℕ) → Writing ks bytes → Writing (ks ++ ls) bytes
writing_left ks ls bytes h = record { op = h.op; among = among_left ks ls h.op h.among; key = h.key; flags = h.flags; expiry = h.expiry; is = h.is }

writing_right : (ks ls : List Operation) (bytes : List ℕ) → Writing ls bytes → Writing (ks ++ ls) bytes
writing_right ks ls bytes h = record { op = h.op; among = among_right ks ls h.op h.among; key = h.key; flags = h.flags; expiry = h.expiry; is = h.is }

told_left : (P : List ℕ → Type 0) (ks ls : List Operation) (bytes : List ℕ) → Writing ks bytes ⊎ P bytes → Writing (ks ++ ls) bytes ⊎ P bytes
told_left P ks ls bytes (inl h) = inl (writing_left ks ls bytes h)
told_left P ks ls bytes (inr h) = inr h

-- a site that learns, and the others
pub here : (w : Known) (s : ℕ) (ops : List Operation) (h : Held) → (settles w s ops h).at s ≡ ops
here w s ops h = elim (eqb_tells s s) [ inl p ↦ ap (λ b. cond b ops (w.at s)) p.0 | inr p ↦ absurd (p.1 refl) ]

pub there : (w : Known) (s : ℕ) (ops : List Operation) (h : Held) (t : ℕ) → t ≢ s → (settles w s ops h).at t ≡ w.at t
there w s ops h t ne = elim (eqb_tells t s) [ inl p ↦ absurd (ne p.1) | inr p ↦ ap (λ b. cond b ops (w.at t)) p.0 ]

pub held_here : (w : Known) (s : ℕ) (ops : List Operation) (h : Held) → (settles w s ops h).held s ≡ still_held ops h
held_here w s ops h = elim (eqb_tells s s) [ inl p ↦ ap (λ b. cond b (still_held ops h) (w.held s)) p.0 | inr p ↦ absurd (p.1 refl) ]

pub held_there : (w : Known) (s : ℕ) (ops : List Operation) (h : Held) (t : ℕ) → t ≢ s → (settles w s ops h).held t ≡ w.held t
held_there w s ops h t ne = elim (eqb_tells t s) [ inl p ↦ absurd (ne p.1) | inr p ↦ ap (λ b. cond b (still_held ops h) (w.held t)) p.0 ]

module _ (w : Known) (s : ℕ) (new : List Operation) (h : Held) where
  pub grows : (t : ℕ) (op : Operation) → Among (w.at t) op → Among ((settles w s (w.at s ++ new) h).at t) op
  grows t op a = elim (cases_eq t s) [
    | inl e ↦ subst (λ t. Among ((settles w s (w.at s ++ new) h).at t) op) (sym e) (subst (λ ops. Among ops op) (sym (here w s (w.at s ++ new) h)) (among_left (w.at s) new op (subst (λ t. Among (w.at t) op) e a)))
    | inr ne ↦ subst (λ ops. Among ops op) (sym (there w s (w.at s ++ new) h t ne)) a
  ]

  gained : (op : Operation) → Among new op → Among ((settles w s (w.at s ++ new) h).at s) op
  gained op a = subst (λ ops. Among ops op) (sym (here w s (w.at s ++ new) h)) (among_right (w.at s) new op a)

  sound_settles : {P : List ℕ → Type 0} → Sound P w
      → ((op : Operation) → Among new op → (op.stamp.site ≡ s) ⊎ Among (w.at op.stamp.site) op)
      → ((a b : Operation) → Among (w.at s ++ new) a → Among (w.at s ++ new) b → a.stamp ≡ b.stamp → a ≡ b)
      → ((q bytes : List ℕ) → h q ≡ Some bytes → Writing (w.at s ++ new) bytes ⊎ P bytes)
      → Sound P (settles w s (w.at s ++ new) h)
  sound_settles {P = P} sound each once written = record {
    home = λ t op a. elim (cases_eq t s) [
      | inl e ↦ elim (among_append (w.at s) new op (subst (λ ops. Among ops op) (here w s (w.at s ++ new) h) (subst (λ t. Among ((settles w s (w.at s ++ new) h).at t) op) e a))) [
        | inl old ↦ grows op.stamp.site op (sound.home s op old)
        | inr fresh ↦ elim (each op fresh) [
          | inl own ↦ subst (λ t. Among ((settles w s (w.at s ++ new) h).at t) op) (sym own) (gained op fresh)
          | inr known ↦ grows op.stamp.site op known
        ]
      ]
      | inr ne ↦ grows op.stamp.site op (sound.home t op (subst (λ ops. Among ops op) (there w s (w.at s ++ new) h t ne) a))
    ];
    home_sent = λ p op a. grows op.stamp.site op (sound.home_sent p op a);
    once = λ t a b x y e. elim (cases_eq t s) [
      | inl same ↦ let at : (settles w s (w.at s ++ new) h).at t ≡ w.at s ++ new = ap (λ t. (settles w s (w.at s ++ new) h).at t) same ∙ here w s (w.at s ++ new) h in
          once a b (subst (λ ops. Among ops a) at x) (subst (λ ops. Among ops b) at y) e
      | inr ne ↦ let at = there w s (w.at s ++ new) h t ne in sound.once t a b (subst (λ ops. Among ops a) at x) (subst (λ ops. Among ops b) at y) e
    ];
    written = λ t q bytes x. elim (cases_eq t s) [
      | inl same ↦ let at : (settles w s (w.at s ++ new) h).at t ≡ w.at s ++ new = ap (λ t. (settles w s (w.at s ++ new) h).at t) same ∙ here w s (w.at s ++ new) h in
          let held : (settles w s (w.at s ++ new) h).held t ≡ still_held (w.at s ++ new) h = ap (λ t. (settles w s (w.at s ++ new) h).held t) same ∙ held_here w s (w.at s ++ new) h in
          subst (λ ops. Writing ops bytes ⊎ P bytes) (sym at) (written q bytes (named_some (version_of (w.at s ++ new) q) (h q) bytes (sym (ap (λ (f : Held). f q) held) ∙ x)).0)
      | inr ne ↦ subst (λ ops. Writing ops bytes ⊎ P bytes) (sym (there w s (w.at s ++ new) h t ne)) (sound.written t q bytes (sym (ap (λ (f : Held). f q) (held_there w s (w.at s ++ new) h t ne)) ∙ x))
    ];
    named = λ t q bytes x. elim (cases_eq t s) [
      | inl same ↦ let at : (settles w s (w.at s ++ new) h).at t ≡ w.at s ++ new = ap (λ t. (settles w s (w.at s ++ new) h).at t) same ∙ here w s (w.at s ++ new) h in
          let held : (settles w s (w.at s ++ new) h).held t ≡ still_held (w.at s ++ new) h = ap (λ t. (settles w s (w.at s ++ new) h).held t) same ∙ held_here w s (w.at s ++ new) h in
          subst (λ ops. names (version_of ops q) bytes ≡ true) (sym at) (named_some (version_of (w.at s ++ new) q) (h q) bytes (sym (ap (λ (f : Held). f q) held) ∙ x)).1
      | inr ne ↦ subst (λ ops. names (version_of ops q) bytes ≡ true) (sym (there w s (w.at s ++ new) h t ne)) (sound.named t q bytes (sym (ap (λ (f : Held). f q) (held_there w s (w.at s ++ new) h t ne)) ∙ x))
    ];
  }

-- what an own write puts into what is held was written by it
one_written : (act : Act) (h : Held) (q bytes : List ℕ) → act_held act h q ≡ Some bytes → (h q ≡ Some bytes) ⊎ ((key : List ℕ) × (flags : ℕ) × (expiry : ℕ) × (act ≡ Write key bytes flags expiry))
one_written (Write k b f e) h q bytes x = by (same_key q k) x
  where
    by : (t : Bool) → cond t (Some b) (h q) ≡ Some bytes → (h q ≡ Some bytes) ⊎ ((key : List ℕ) × (flags : ℕ) × (expiry : ℕ) × (Write k b f e ≡ Write key bytes flags expiry))
    by true x = inr (k, f, e, ap (λ b. Write k b f e) (some_same x))
    by false x = inl x
one_written (Delete k) h q bytes x = inl x
one_written (Touch k e) h q bytes x = inl x
one_written Flush h q bytes x = inl x

the_one : (op o : Operation) → Among (op ∷ []) o → op ≡ o
the_one op o (inl e) = e
the_one op o (inr h) = absurd h

-- one operation more, whose stamp is later than all that is known
sound_issue : {P : List ℕ → Type 0} → (w : Known) (s : ℕ) (act : Act) → Sound P w → Sound P (settles w s (w.at s ++ new_operation w s act ∷ []) (act_held act (w.held s)))
sound_issue {P = P} w s act sound =
    let new = new_operation w s act in
    sound_settles w s (new ∷ []) (act_held act (w.held s)) sound
    (λ op a. inl (sym (ap (λ (o : Operation). o.stamp.site) (the_one new op a))))
    (λ a b x y e. elim (among_append (w.at s) (new ∷ []) a x) [
      | inl old ↦ elim (among_append (w.at s) (new ∷ []) b y) [
        | inl old' ↦ sound.once s a b old old' e
        | inr fresh ↦ absurd (apart a b old fresh e)
      ]
      | inr fresh ↦ elim (among_append (w.at s) (new ∷ []) b y) [
        | inl old ↦ absurd (apart b a old fresh (sym e))
        | inr fresh' ↦ sym (the_one new a fresh) ∙ the_one new b fresh'
      ]
    ])
    (λ q bytes x. elim (one_written act (w.held s) q bytes x) [
      | inl y ↦ told_left P (w.at s) (new ∷ []) bytes (sound.written s q bytes y)
      | inr y ↦ inl (writing_right (w.at s) (new ∷ []) bytes (record { op = new; among = inl refl; key = y.0; flags = y.1; expiry = y.2; is = y.3 }))
    ])
  where
    apart : (a b : Operation) → Among (w.at s) a → Among (new_operation w s act ∷ []) b → a.stamp ≡ b.stamp → ⊥
    apart a b x y e =
        let h = at_most_latest (w.at s) a x in
        let r = ap (λ (o : Operation). o.stamp.time) (the_one (new_operation w s act) b y) in
        let t = ap (λ (x : Moment). x.time) e in
        omega (arith, h, r, t)

pub sound_issues : {P : List ℕ → Type 0} → (w : Known) (s : ℕ) (acts : List Act) → Sound P w → Sound P (issues w s acts)
sound_issues w s [] sound = sound
sound_issues w s (act ∷ acts) sound = sound_issues (settles w s (w.at s ++ new_operation w s act ∷ []) (act_held act (w.held s))) s acts (sound_issue w s act sound)

pub sound_takes : {P : List ℕ → Type 0} → (w : Known) (s p : ℕ) → Sound P w → Sound P (learns w s (carried w p))
sound_takes {P = P} w s p sound =
    sound_settles w s (carried w p) (w.held s) sound
    (λ op a. inr (sound.home_sent p op a))
    (λ a b x y e. sound.once a.stamp.site a b (at_home a x) (subst (λ (x : Moment). Among (w.at x.site) b) (sym e) (at_home b y)) e)
    (λ q bytes x. told_left P (w.at s) (carried w p) bytes (sound.written s q bytes x))
  where
    at_home : (op : Operation) → Among (w.at s ++ carried w p) op → Among (w.at op.stamp.site) op
    at_home op a = elim (among_append (w.at s) (carried w p) op a) [ inl x ↦ sound.home s op x | inr x ↦ sound.home_sent p op x ]

-- one more that is sent
sent_more : (xs : List Sending) (x : Sending) (p : ℕ) (op : Operation) → Among (slice_index_or (xs ++ x ∷ []) p never_sent).ops op → Among (slice_index_or xs p never_sent).ops op ⊎ Among x.ops op
sent_more [] x zero op h = inr h
sent_more [] x (suc p) op h = inl h
sent_more (y ∷ xs) x zero op h = inl h
sent_more (y ∷ xs) x (suc p) op h = sent_more xs x p op h

pub sound_sends : {P : List ℕ → Type 0} → (w : Known) (s to : ℕ) → Sound P w → Sound P (happens w (Send s to) Sent)
sound_sends w s to sound = record {
  home = sound.home;
  home_sent = λ p op a. elim (sent_more w.sent (record { from = s; to = to; set = w.sets s; ops = w.at s }) p op a) [ inl x ↦ sound.home_sent p op x | inr x ↦ sound.home s op x ];
  once = sound.once;
  written = sound.written;
  named = sound.named;
}

-- whom a site holds for retired is no matter
sound_retires : {P : List ℕ → Type 0} → (w : Known) (s : ℕ) (set : List Bool) → Sound P w → Sound P (holds_retired w s set)
sound_retires w s set sound = record { home = sound.home; home_sent = sound.home_sent; once = sound.once; written = sound.written; named = sound.named }

-- what is counted is no matter
sound_counts : {P : List ℕ → Type 0} → (w : Known) (s : ℕ) (counts : Counts) → Sound P w → Sound P (counts_keys w s counts)
sound_counts w s counts sound = record { home = sound.home; home_sent = sound.home_sent; once = sound.once; written = sound.written; named = sound.named }

-- what is held without a victim was held before
pub without_some : (victim : Option (List ℕ)) (h : Held) (q bytes : List ℕ) → without victim h q ≡ Some bytes → h q ≡ Some bytes
without_some victim h q bytes x = by (is_victim victim q) x
  where
    by : (t : Bool) → cond {A = Option (List ℕ)} t None (h q) ≡ Some bytes → h q ≡ Some bytes
    by true x = absurd (some_none (sym x))
    by false x = x

-- what is held where bytes may have come was held before, or is those
pub fills_some : (w : Known) (s : ℕ) (key bytes : List ℕ) (t : ℕ) (q b : List ℕ) → (fills w s key bytes).held t q ≡ Some b → (w.held t q ≡ Some b) ⊎ ((t ≡ s) × (q ≡ key) × (bytes ≡ b))
fills_some w s key bytes t q b x = elim (eqb_tells t s) [
  | inl p ↦ by p.1 (same_key q key) refl (sym (ap (λ b. (cond b (held_with key bytes (w.held s)) (w.held t)) q) p.0) ∙ x)
  | inr p ↦ inl (sym (ap (λ b. (cond b (held_with key bytes (w.held s)) (w.held t)) q) p.0) ∙ x)
]
  where
    by : t ≡ s → (m : Bool) → same_key q key ≡ m → cond m (Some bytes) (w.held s q) ≡ Some b → (w.held t q ≡ Some b) ⊎ ((t ≡ s) × (q ≡ key) × (bytes ≡ b))
    by here true e x = inr (here, same_keys q key e, some_same x)
    by here false e x = inl (subst (λ t. w.held t q ≡ Some b) (sym here) x)

-- what is held where a victim may have gone was held before
pub left_some : (w : Known) (s : ℕ) (victim : Option (List ℕ)) (t : ℕ) (q bytes : List ℕ) → (lets_go w s victim).held t q ≡ Some bytes → w.held t q ≡ Some bytes
left_some w s victim t q bytes x = elim (eqb_tells t s) [
  | inl p ↦ subst (λ t. w.held t q ≡ Some bytes) (sym p.1) (without_some victim (w.held s) q bytes (sym (ap (λ b. (cond b (without victim (w.held s)) (w.held t)) q) p.0) ∙ x))
  | inr p ↦ sym (ap (λ b. (cond b (without victim (w.held s)) (w.held t)) q) p.0) ∙ x
]

pub sound_lets_go : {P : List ℕ → Type 0} → (w : Known) (s : ℕ) (victim : Option (List ℕ)) → Sound P w → Sound P (lets_go w s victim)
sound_lets_go w s victim sound = record {
  home = sound.home;
  home_sent = sound.home_sent;
  once = sound.once;
  written = λ t q bytes x. sound.written t q bytes (left_some w s victim t q bytes x);
  named = λ t q bytes x. sound.named t q bytes (left_some w s victim t q bytes x);
}

sound_evicts : {P : List ℕ → Type 0} → (w : Known) (s : ℕ) (key : List ℕ) → Sound P w → Sound P (evicts w s key)
sound_evicts w s key sound = sound_counts (lets_go w s (Some key)) s (evicted_on (Some key) (w.counts s)) (sound_lets_go w s (Some key) sound)

sound_done : {P : List ℕ → Type 0} → (t : Bool) (w v : Known) → Sound P w → Sound P v → Sound P (cond t v w)
sound_done true w v a b = b
sound_done false w v a b = a

-- no more is a flush that waits
sound_waits : {P : List ℕ → Type 0} → (w : Known) (s : ℕ) (waiting : Option ℕ) → Sound P w → Sound P (waits w s waiting)
sound_waits w s waiting sound = record { home = sound.home; home_sent = sound.home_sent; once = sound.once; written = sound.written; named = sound.named }

pub sound_flushed : {P : List ℕ → Type 0} → (w : Known) (s now : ℕ) → Sound P w → Sound P (flushed w s now)
sound_flushed w s now sound = let acts = due_acts (w.waiting s) (latest (w.at s)) now in sound_waits (issues w s acts) s (waits_on (w.waiting s) (latest (w.at s)) now) (sound_issues w s acts sound)

sound_carries : {P : List ℕ → Type 0} → (w : Known) (s now : ℕ) (request : Request) (victim : Option (List ℕ)) → Sound P w → Sound P (carries_out w s now request victim)
sound_carries w s now request victim sound =
    let acts = issues_on w s now request in
    let left = lets_go w s victim in
    let counts = evicted_on victim (counted (visible w s now) request (w.counts s)) in
    sound_waits (counts_keys (issues left s acts) s counts) s (waits_after now request (w.waiting s)) (sound_counts (issues left s acts) s counts (sound_issues left s acts (sound_lets_go w s victim sound)))

-- bytes that were offered and are named
sound_fills : {P : List ℕ → Type 0} → (w : Known) (s : ℕ) (key bytes : List ℕ) → P bytes → names (version_of (w.at s) key) bytes ≡ true → Sound P w → Sound P (fills w s key bytes)
sound_fills {P = P} w s key bytes offered named sound = record {
  home = sound.home;
  home_sent = sound.home_sent;
  once = sound.once;
  written = λ t q b x. elim (fills_some w s key bytes t q b x) [
    | inl was ↦ sound.written t q b was
    | inr new ↦ inr (subst P new.2 offered)
  ];
  named = λ t q b x. elim (fills_some w s key bytes t q b x) [
    | inl was ↦ sound.named t q b was
    | inr new ↦ subst (λ t. names (version_of (w.at t) q) b ≡ true) (sym new.0) (subst (λ k. names (version_of (w.at s) k) b ≡ true) (sym new.1) (subst (λ b. names (version_of (w.at s) key) b ≡ true) new.2 named))
  ];
}

sound_filled : {P : List ℕ → Type 0} → (filled : FilledAs) (w : Known) (s : ℕ) (key bytes : List ℕ) → P bytes → FilledIn w s key bytes filled → Sound P w → Sound P (cond (is_filled filled) (fills w s key bytes) w)
sound_filled NotNamed w s key bytes offered lawful sound = sound
sound_filled filled.Held w s key bytes offered lawful sound = sound
sound_filled Full w s key bytes offered lawful sound = sound
sound_filled Done w s key bytes offered lawful sound = sound_fills w s key bytes offered lawful.0 sound

pub sound_happens : {P : List ℕ → Type 0} → (w : Known) (e : Event) (t : Trace) → ((bytes : List ℕ) → Offers e bytes → P bytes) → Lawful w e t → Sound P w → Sound P (happens w e t)
sound_happens w (Command s now request) (Replied reply victim) offers lawful sound = let v = flushed w s now in let ok = sound_flushed w s now sound in sound_done (is_done reply) v (carries_out v s now request victim) ok (sound_carries v s now request victim ok)
sound_happens w (Evict s key) (Evicted done) offers lawful sound = sound_done done w (evicts w s key) sound (sound_evicts w s key sound)
sound_happens w (Send s to) Sent offers lawful sound = sound_sends w s to sound
sound_happens w (Take s p) Taken offers lawful sound = sound_retires (learns w s (carried w p)) s (set_joined (w.sets s) (told_retired w p)) (sound_takes w s p sound)
sound_happens w (Tick s now) (Ticked done) offers lawful sound = sound_flushed w s now sound
sound_happens w (Reap s now key) (Reaped done) offers lawful sound = let v = flushed w s now in sound_issues v s (reaps_on v s now key) (sound_flushed w s now sound)
sound_happens w (Reap s now key) (ReapRefused why) offers lawful sound = sound_flushed w s now sound
sound_happens w (Fill s key bytes) (Filled filled) offers lawful sound = sound_filled filled w s key bytes (offers bytes refl) lawful sound
sound_happens w (Retire s other) (Retired fresh) offers lawful sound = sound_retires w s (with_site (w.sets s) other) sound
sound_happens w event trace offers lawful sound = sound

pub sound_nothing : {P : List ℕ → Type 0} → (sites : ℕ) (limits : ℕ → Limits) → Sound P (nothing_known sites limits)
sound_nothing sites limits = record {
  home = λ t op a. absurd a;
  home_sent = λ p op a. absurd (none p op a);
  once = λ t a b x y e. absurd x;
  written = λ t q bytes h. absurd (some_none (sym h));
  named = λ t q bytes h. absurd (some_none (sym h));
}
  where
    none : (p : ℕ) (op : Operation) → Among (slice_index_or {A = Sending} [] p never_sent).ops op → ⊥
    none zero op h = h
    none (suc p) op h = h

-- what is known only grows
grown_issues : (w : Known) (s : ℕ) (acts : List Act) (t : ℕ) (op : Operation) → Among (w.at t) op → Among ((issues w s acts).at t) op
grown_issues w s [] t op a = a
grown_issues w s (act ∷ acts) t op a = grown_issues (settles w s (w.at s ++ new_operation w s act ∷ []) (act_held act (w.held s))) s acts t op (grows w s (new_operation w s act ∷ []) (act_held act (w.held s)) t op a)

grown_done : (b : Bool) (w v : Known) (t : ℕ) (op : Operation) → Among (w.at t) op → Among (v.at t) op → Among ((cond b v w).at t) op
grown_done true w v t op a c = c
grown_done false w v t op a c = a

pub grown_flushed : (w : Known) (s now t : ℕ) (op : Operation) → Among (w.at t) op → Among ((flushed w s now).at t) op
grown_flushed w s now t op a = grown_issues w s (due_acts (w.waiting s) (latest (w.at s)) now) t op a

pub grown_replied : (w : Known) (s now : ℕ) (request : Request) (reply : Reply) (victim : Option (List ℕ)) (t : ℕ) (op : Operation) → Among ((flushed w s now).at t) op → Among ((happens w (Command s now request) (Replied reply victim)).at t) op
grown_replied w s now request reply victim t op a = let v = flushed w s now in grown_done (is_done reply) v (carries_out v s now request victim) t op a (grown_issues (lets_go v s victim) s (issues_on v s now request) t op a)

pub grown : (w : Known) (e : Event) (t : Trace) (k : ℕ) (op : Operation) → Among (w.at k) op → Among ((happens w e t).at k) op
grown w (Command s now request) (Replied reply victim) t op a = grown_replied w s now request reply victim t op (grown_flushed w s now t op a)
grown w (Evict s key) (Evicted done) t op a = grown_done done w (evicts w s key) t op a a
grown w (Take s p) Taken t op a = grows w s (carried w p) (w.held s) t op a
grown w (Tick s now) (Ticked done) t op a = grown_flushed w s now t op a
grown w (Reap s now key) (Reaped done) t op a = let v = flushed w s now in grown_issues v s (reaps_on v s now key) t op (grown_flushed w s now t op a)
grown w (Reap s now key) (ReapRefused why) t op a = grown_flushed w s now t op a
grown w (Fill s key bytes) (Filled filled) t op a = grown_done (is_filled filled) w (fills w s key bytes) t op a a
grown w (Send s to) Sent t op a = a
grown w (Retire s other) (Retired fresh) t op a = a
grown w event trace t op a = a

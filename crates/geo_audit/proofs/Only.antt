-- What comes of an event is one thing alone, where memory is at hand, but for whose bytes went.
use Rattle.std.proofs.Common.{◌≡◌, ◌≢◌, ◌⊎◌, inl, inr, ◌==◌, ℕ, Bool, true, false, not, eq-eqb, List, Option, None, Some, refl, sym, ap, ◌∙◌, subst, arith, true≢false}
use Rattle.std.specs.Prelude.{is_some}
use Rattle.std.proofs.lemmas.Bool.{ne_eqb}
use Rattle.std.proofs.lemmas.Cmp.{nat_list_eq_equiv}
use Rattle.std.proofs.lemmas.Map.Made.{length-from_same_keys}
use Rattle.geo_records.specs.Operations.{Record, latest, version_of}
use Rattle.geo_requests.specs.declared.request.Request.{Request}
use Rattle.geo_requests.specs.declared.reply.Reply.{Reply}
use Rattle.geo_requests.specs.declared.reply.Reply.TheVariants.{OutOfMemory}
use Rattle.geo_world.specs.declared.event.Event.{Event as Happening}
use Rattle.geo_world.specs.declared.event.Event.TheVariants as at
use Rattle.geo_world.specs.declared.event.Trace.{Trace}
use Rattle.geo_world.specs.declared.event.Trace.TheVariants as came
use Rattle.geo_site.specs.declared.refusal.SendError.TheVariants as send_errors
use Rattle.geo_site.specs.declared.refusal.TakeError.TheVariants as take_errors
use Rattle.geo_site.specs.declared.refusal.ReapError.TheVariants as reap_errors
use Rattle.geo_site.specs.declared.refusal.RetireError.TheVariants as retire_errors
use Rattle.geo_stamp.specs.Retired.{is_in}
use Rattle.geo_site.specs.Entries.{names, flushes_due, is_stuck, is_reapable, lacks, owed}
use Rattle.geo_site.specs.declared.fill.Filled.{Filled}
use Rattle.geo_site.specs.declared.fill.Filled.TheVariants.{NotNamed, Full, Done}
use Rattle.geo_site.specs.declared.fill.Filled.TheVariants as filled
use Rattle.geo_site.specs.Fills.{FillsAs, filled_by}
use Rattle.geo_site.specs.Machine.{IsCount}
use Rattle.geo_world.specs.Schedule.{Known, Lawful, FilledIn, basis, flushed, reaps_on, sender, addressee}
use Rattle.geo_site.specs.declared.event.Answer.{Answer}
use Rattle.geo_site.specs.declared.event.Answer.TheVariants.{Replied, Evicted, Sent, SendRefused, Taken as Took, TakeRefused, Removed, Ticked, Reaped, ReapRefused, Filled as FilledAs, Retired, RetireRefused}
use Rattle.geo_site.specs.Tables.{horizon_at, remove_at}
use Rattle.geo_world.specs.Tables.{Tables, flushed_at, OwesBy, CountsDropped, Tallies}
use Rattle.geo_audit.specs.Runs.{IsSaid, IsToldBy}
use Rattle.geo_audit.specs.Misses.{IsOwnVictim, IsOwnRoom, NoneTells}

pub count_one : (among : List ℕ → Bool) (n m : ℕ) → IsCount among n → IsCount among m → n ≡ m
count_one among n m x y = sym x.many ∙ length-from_same_keys nat_list_eq_equiv x.keys y.keys x.apart y.apart (λ q. x.those q ∙ sym (y.those q)) ∙ y.many

dropped_one : (before after : List ℕ → Record) (n m : ℕ) → CountsDropped before after n → CountsDropped before after m → n ≡ m
dropped_one before after n m x y =
    let many = count_one _ x.many y.many x.was y.was in
    let left = count_one _ x.left y.left x.is y.is in
    let a = x.dropped in
    let b = y.dropped in
    omega (arith, many, left, a, b)

-- what comes of a fill, but for whether the class of the bytes is full
abbrev sort_of : Filled → Filled
sort_of NotNamed = NotNamed
sort_of filled.Held = filled.Held
sort_of Full = Done
sort_of Done = Done

-- two traces are one, but for a victim, or for a class that is full
abbrev Same : Trace → Trace → Type 0
Same (came.Replied reply victim) (came.Replied other let_go) = reply ≡ other
Same (came.Filled f) (came.Filled other) = sort_of f ≡ sort_of other
Same trace other = trace ≡ other

-- what a request is answered
owes_one : (stuck : Bool) (w : Known) (kept : List ℕ → Record) (site now : ℕ) (request : Request) (a b : Reply) → a ≢ OutOfMemory → b ≢ OutOfMemory → OwesBy stuck w kept site now request a → OwesBy stuck w kept site now request b → a ≡ b
owes_one true w kept site now request a b said other x y = x ∙ sym y
owes_one false w kept site now request a b said other x y = elim x.answers [
  | inl e ↦ elim y.answers [
    | inl f ↦
        let records = count_one _ x.records y.records x.recorded y.recorded in
        let items = count_one _ x.items y.items x.held y.held in
        e ∙ (λ i. owed now (basis w site now kept (records i) (items i)) request) ∙ sym f
    | inr f ↦ absurd (other f.0)
  ]
  | inr e ↦ absurd (said e.0)
]

-- the only trace of each event, or the two of which only one can come
evict_one : (w : Known) (site : ℕ) (key : List ℕ) (t : Trace) → Lawful w (at.Evict site key) t → t ≡ came.Evicted (is_some (w.held site key))
evict_one w site key (came.Replied reply victim) l = absurd l
evict_one w site key (came.Evicted done) l = ap came.Evicted l
evict_one w site key came.Sent l = absurd l
evict_one w site key (came.SendRefused why) l = absurd l
evict_one w site key came.Taken l = absurd l
evict_one w site key (came.TakeRefused why) l = absurd l
evict_one w site key (came.Removed horizon count) l = absurd l
evict_one w site key (came.Ticked done) l = absurd l
evict_one w site key (came.Reaped done) l = absurd l
evict_one w site key (came.ReapRefused why) l = absurd l
evict_one w site key (came.Filled f) l = absurd l
evict_one w site key came.FillRefused l = absurd l
evict_one w site key (came.Retired fresh) l = absurd l
evict_one w site key (came.RetireRefused why) l = absurd l

tick_one : (w : Known) (site now : ℕ) (t : Trace) → Lawful w (at.Tick site now) t → t ≡ came.Ticked (flushes_due (w.waiting site) (latest (w.at site)) now)
tick_one w site now (came.Replied reply victim) l = absurd l
tick_one w site now (came.Evicted done) l = absurd l
tick_one w site now came.Sent l = absurd l
tick_one w site now (came.SendRefused why) l = absurd l
tick_one w site now came.Taken l = absurd l
tick_one w site now (came.TakeRefused why) l = absurd l
tick_one w site now (came.Removed horizon count) l = absurd l
tick_one w site now (came.Ticked done) l = ap came.Ticked l
tick_one w site now (came.Reaped done) l = absurd l
tick_one w site now (came.ReapRefused why) l = absurd l
tick_one w site now (came.Filled f) l = absurd l
tick_one w site now came.FillRefused l = absurd l
tick_one w site now (came.Retired fresh) l = absurd l
tick_one w site now (came.RetireRefused why) l = absurd l

-- what a send tells, by whether it is to the site itself and to a retired one
abbrev send_told : Bool → Bool → Trace
send_told true retired = came.SendRefused send_errors.NoSuchSite
send_told false true = came.SendRefused send_errors.Retired
send_told false false = came.Sent

send_same : (own retired : Bool) → Same (send_told own retired) (send_told own retired)
send_same true retired = refl
send_same false true = refl
send_same false false = refl

send_one : (w : Known) (site to : ℕ) (t : Trace) → Lawful w (at.Send site to) t → IsSaid t → t ≡ send_told (to == site) (is_in (w.sets site) to)
send_one w site to (came.Replied reply victim) l said = absurd l
send_one w site to (came.Evicted done) l said = absurd l
send_one w site to came.Sent l said = sym (λ i. send_told (ne_eqb to site l.0 i) (l.1 i))
send_one w site to (came.SendRefused send_errors.NoSuchSite) l said = sym (ap (λ b. send_told b (is_in (w.sets site) to)) (eq-eqb to site l))
send_one w site to (came.SendRefused send_errors.Retired) l said = sym (λ i. send_told (ne_eqb to site l.0 i) (l.1 i))
send_one w site to (came.SendRefused send_errors.Memory) l said = absurd (said refl)
send_one w site to came.Taken l said = absurd l
send_one w site to (came.TakeRefused why) l said = absurd l
send_one w site to (came.Removed horizon count) l said = absurd l
send_one w site to (came.Ticked done) l said = absurd l
send_one w site to (came.Reaped done) l said = absurd l
send_one w site to (came.ReapRefused why) l said = absurd l
send_one w site to (came.Filled f) l said = absurd l
send_one w site to came.FillRefused l said = absurd l
send_one w site to (came.Retired fresh) l said = absurd l
send_one w site to (came.RetireRefused why) l said = absurd l

-- what a take tells, by whether the parcel is for the site and from a retired one
abbrev take_told : Bool → Bool → Trace
take_told false retired = came.TakeRefused take_errors.NotForMe
take_told true true = came.TakeRefused take_errors.Retired
take_told true false = came.Taken

take_same : (own retired : Bool) → Same (take_told own retired) (take_told own retired)
take_same false retired = refl
take_same true true = refl
take_same true false = refl

take_one : (w : Known) (site parcel : ℕ) (t : Trace) → Lawful w (at.Take site parcel) t → IsSaid t → t ≡ take_told (addressee w parcel == site) (is_in (w.sets site) (sender w parcel))
take_one w site parcel (came.Replied reply victim) l said = absurd l
take_one w site parcel (came.Evicted done) l said = absurd l
take_one w site parcel came.Sent l said = absurd l
take_one w site parcel (came.SendRefused why) l said = absurd l
take_one w site parcel came.Taken l said = sym (λ i. take_told (eq-eqb (addressee w parcel) site l.0 i) (l.1 i))
take_one w site parcel (came.TakeRefused take_errors.NotForMe) l said = sym (ap (λ b. take_told b (is_in (w.sets site) (sender w parcel))) (ne_eqb (addressee w parcel) site l))
take_one w site parcel (came.TakeRefused take_errors.UnknownSite) l said = absurd l
take_one w site parcel (came.TakeRefused take_errors.Retired) l said = sym (λ i. take_told (eq-eqb (addressee w parcel) site l.0 i) (l.1 i))
take_one w site parcel (came.TakeRefused take_errors.Gap) l said = absurd l
take_one w site parcel (came.TakeRefused take_errors.Memory) l said = absurd (said refl)
take_one w site parcel (came.Removed horizon count) l said = absurd l
take_one w site parcel (came.Ticked done) l said = absurd l
take_one w site parcel (came.Reaped done) l said = absurd l
take_one w site parcel (came.ReapRefused why) l said = absurd l
take_one w site parcel (came.Filled f) l said = absurd l
take_one w site parcel came.FillRefused l said = absurd l
take_one w site parcel (came.Retired fresh) l said = absurd l
take_one w site parcel (came.RetireRefused why) l said = absurd l

-- what a retirement tells, by whether it is of the site itself and of a retired one
abbrev retire_told : Bool → Bool → Trace
retire_told true retired = came.RetireRefused retire_errors.NoSuchSite
retire_told false retired = came.Retired (not retired)

retire_same : (own retired : Bool) → Same (retire_told own retired) (retire_told own retired)
retire_same true retired = refl
retire_same false retired = refl

retire_one : (w : Known) (site other : ℕ) (t : Trace) → Lawful w (at.Retire site other) t → IsSaid t → t ≡ retire_told (other == site) (is_in (w.sets site) other)
retire_one w site other (came.Replied reply victim) l said = absurd l
retire_one w site other (came.Evicted done) l said = absurd l
retire_one w site other came.Sent l said = absurd l
retire_one w site other (came.SendRefused why) l said = absurd l
retire_one w site other came.Taken l said = absurd l
retire_one w site other (came.TakeRefused why) l said = absurd l
retire_one w site other (came.Removed horizon count) l said = absurd l
retire_one w site other (came.Ticked done) l said = absurd l
retire_one w site other (came.Reaped done) l said = absurd l
retire_one w site other (came.ReapRefused why) l said = absurd l
retire_one w site other (came.Filled f) l said = absurd l
retire_one w site other came.FillRefused l said = absurd l
retire_one w site other (came.Retired fresh) l said = ap came.Retired l.1 ∙ sym (ap (λ b. retire_told b (is_in (w.sets site) other)) (ne_eqb other site l.0))
retire_one w site other (came.RetireRefused retire_errors.NoSuchSite) l said = sym (ap (λ b. retire_told b (is_in (w.sets site) other)) (eq-eqb other site l))
retire_one w site other (came.RetireRefused retire_errors.Memory) l said = absurd (said refl)

record IsRemoved (all : Tables) (site : ℕ) (t : Trace) : Type 0 where
  pub count : ℕ
  pub is : t ≡ came.Removed (horizon_at site (all.at site)) count
  pub drops : CountsDropped (all.at site).kept (remove_at site (all.at site)).kept count

remove_one : (w : Known) (all : Tables) (site : ℕ) (t : Trace) → Lawful w (at.Remove site) t → Tallies w all (at.Remove site) t → IsRemoved all site t
remove_one w all site (came.Replied reply victim) l tallies = absurd l
remove_one w all site (came.Evicted done) l tallies = absurd l
remove_one w all site came.Sent l tallies = absurd l
remove_one w all site (came.SendRefused why) l tallies = absurd l
remove_one w all site came.Taken l tallies = absurd l
remove_one w all site (came.TakeRefused why) l tallies = absurd l
remove_one w all site (came.Removed horizon count) l tallies = record { count = count; is = ap (λ h. came.Removed h count) tallies.0; drops = tallies.1 }
remove_one w all site (came.Ticked done) l tallies = absurd l
remove_one w all site (came.Reaped done) l tallies = absurd l
remove_one w all site (came.ReapRefused why) l tallies = absurd l
remove_one w all site (came.Filled f) l tallies = absurd l
remove_one w all site came.FillRefused l tallies = absurd l
remove_one w all site (came.Retired fresh) l tallies = absurd l
remove_one w all site (came.RetireRefused why) l tallies = absurd l

reap_one : (w : Known) (site now : ℕ) (key : List ℕ) (t : Trace) → Lawful w (at.Reap site now key) t
    → ((t ≡ came.Reaped (is_reapable site ((flushed w site now).limits site).reap_after now (version_of ((flushed w site now).at site) key))) × (lacks (latest ((flushed w site now).at site)) (reaps_on (flushed w site now) site now key) ≡ false))
    ⊎ ((t ≡ came.ReapRefused reap_errors.ClockEnded) × (lacks (latest ((flushed w site now).at site)) (reaps_on (flushed w site now) site now key) ≡ true))
reap_one w site now key (came.Replied reply victim) l = absurd l
reap_one w site now key (came.Evicted done) l = absurd l
reap_one w site now key came.Sent l = absurd l
reap_one w site now key (came.SendRefused why) l = absurd l
reap_one w site now key came.Taken l = absurd l
reap_one w site now key (came.TakeRefused why) l = absurd l
reap_one w site now key (came.Removed horizon count) l = absurd l
reap_one w site now key (came.Ticked done) l = absurd l
reap_one w site now key (came.Reaped done) l = inl (ap came.Reaped l.0, l.1)
reap_one w site now key (came.ReapRefused reap_errors.ClockEnded) l = inr (refl, l)
reap_one w site now key (came.ReapRefused reap_errors.Memory) l = absurd l
reap_one w site now key (came.Filled f) l = absurd l
reap_one w site now key came.FillRefused l = absurd l
reap_one w site now key (came.Retired fresh) l = absurd l
reap_one w site now key (came.RetireRefused why) l = absurd l

record IsReplied (w : Known) (all : Tables) (site now : ℕ) (request : Request) (t : Trace) : Type 0 where
  pub reply : Reply
  pub victim : Option (List ℕ)
  pub is : t ≡ came.Replied reply victim
  pub said : reply ≢ OutOfMemory
  pub owes : OwesBy (is_stuck (w.waiting site) (latest (w.at site)) now) (flushed w site now) ((flushed_at w all site now).at site).kept site now request reply

command_one : (w : Known) (all : Tables) (site now : ℕ) (request : Request) (t : Trace) → Lawful w (at.Command site now request) t → Tallies w all (at.Command site now request) t → IsSaid t → IsReplied w all site now request t
command_one w all site now request (came.Replied reply victim) l tallies said = record { reply = reply; victim = victim; is = refl; said = said; owes = tallies }
command_one w all site now request (came.Evicted done) l tallies said = absurd l
command_one w all site now request came.Sent l tallies said = absurd l
command_one w all site now request (came.SendRefused why) l tallies said = absurd l
command_one w all site now request came.Taken l tallies said = absurd l
command_one w all site now request (came.TakeRefused why) l tallies said = absurd l
command_one w all site now request (came.Removed horizon count) l tallies said = absurd l
command_one w all site now request (came.Ticked done) l tallies said = absurd l
command_one w all site now request (came.Reaped done) l tallies said = absurd l
command_one w all site now request (came.ReapRefused why) l tallies said = absurd l
command_one w all site now request (came.Filled f) l tallies said = absurd l
command_one w all site now request came.FillRefused l tallies said = absurd l
command_one w all site now request (came.Retired fresh) l tallies said = absurd l
command_one w all site now request (came.RetireRefused why) l tallies said = absurd l

record IsFilled (w : Known) (site : ℕ) (key bytes : List ℕ) (t : Trace) : Type 0 where
  pub came_of : Filled
  pub is : t ≡ came.Filled came_of
  pub sort : sort_of came_of ≡ filled_by (names (version_of (w.at site) key) bytes) (is_some (w.held site key)) false

sort_is : (named held : Bool) (f : Filled) → FillsAs named held f → sort_of f ≡ filled_by named held false
sort_is named held NotNamed l = sym (ap (λ n. filled_by n held false) l)
sort_is named held filled.Held l = sym (λ i. filled_by (l.0 i) (l.1 i) false)
sort_is named held Full l = sym (λ i. filled_by (l.0 i) (l.1 i) false)
sort_is named held Done l = sym (λ i. filled_by (l.0 i) (l.1 i) false)

fill_one : (w : Known) (site : ℕ) (key bytes : List ℕ) (t : Trace) → Lawful w (at.Fill site key bytes) t → IsSaid t → IsFilled w site key bytes t
fill_one w site key bytes (came.Replied reply victim) l said = absurd l
fill_one w site key bytes (came.Evicted done) l said = absurd l
fill_one w site key bytes came.Sent l said = absurd l
fill_one w site key bytes (came.SendRefused why) l said = absurd l
fill_one w site key bytes came.Taken l said = absurd l
fill_one w site key bytes (came.TakeRefused why) l said = absurd l
fill_one w site key bytes (came.Removed horizon count) l said = absurd l
fill_one w site key bytes (came.Ticked done) l said = absurd l
fill_one w site key bytes (came.Reaped done) l said = absurd l
fill_one w site key bytes (came.ReapRefused why) l said = absurd l
fill_one w site key bytes (came.Filled f) l said = record { came_of = f; is = refl; sort = sort_is (names (version_of (w.at site) key) bytes) (is_some (w.held site key)) f l }
fill_one w site key bytes came.FillRefused l said = absurd said
fill_one w site key bytes (came.Retired fresh) l said = absurd l
fill_one w site key bytes (came.RetireRefused why) l said = absurd l

only_one : (w : Known) (all : Tables) (event : Happening) (t u : Trace) → Lawful w event t → Tallies w all event t → IsSaid t → Lawful w event u → Tallies w all event u → IsSaid u → Same t u
only_one w all (at.Command site now request) t u l x s m y r =
    let a = command_one w all site now request t l x s in
    let b = command_one w all site now request u m y r in
    subst (λ t. Same t u) (sym a.is) (subst (Same (came.Replied a.reply a.victim)) (sym b.is)
    (owes_one (is_stuck (w.waiting site) (latest (w.at site)) now) (flushed w site now) ((flushed_at w all site now).at site).kept site now request a.reply b.reply a.said b.said a.owes b.owes))
only_one w all (at.Evict site key) t u l x s m y r =
    subst (λ t. Same t u) (sym (evict_one w site key t l)) (subst (Same (came.Evicted (is_some (w.held site key)))) (sym (evict_one w site key u m)) refl)
only_one w all (at.Tick site now) t u l x s m y r =
    let d = flushes_due (w.waiting site) (latest (w.at site)) now in
    subst (λ t. Same t u) (sym (tick_one w site now t l)) (subst (Same (came.Ticked d)) (sym (tick_one w site now u m)) refl)
only_one w all (at.Send site to) t u l x s m y r =
    let told = send_told (to == site) (is_in (w.sets site) to) in
    subst (λ t. Same t u) (sym (send_one w site to t l s)) (subst (Same told) (sym (send_one w site to u m r)) (send_same (to == site) (is_in (w.sets site) to)))
only_one w all (at.Take site parcel) t u l x s m y r =
    let own = addressee w parcel == site in
    let retired = is_in (w.sets site) (sender w parcel) in
    subst (λ t. Same t u) (sym (take_one w site parcel t l s)) (subst (Same (take_told own retired)) (sym (take_one w site parcel u m r)) (take_same own retired))
only_one w all (at.Retire site other) t u l x s m y r =
    let told = retire_told (other == site) (is_in (w.sets site) other) in
    subst (λ t. Same t u) (sym (retire_one w site other t l s)) (subst (Same told) (sym (retire_one w site other u m r)) (retire_same (other == site) (is_in (w.sets site) other)))
only_one w all (at.Remove site) t u l x s m y r =
    let a = remove_one w all site t l x in
    let b = remove_one w all site u m y in
    let h = horizon_at site (all.at site) in
    subst (λ t. Same t u) (sym a.is) (subst (Same (came.Removed h a.count)) (sym b.is) (ap (came.Removed h) (dropped_one (all.at site).kept (remove_at site (all.at site)).kept a.count b.count a.drops b.drops)))
only_one w all (at.Reap site now key) t u l x s m y r = elim (reap_one w site now key t l) [
  | inl a ↦ elim (reap_one w site now key u m) [
    | inl b ↦ subst (λ t. Same t u) (sym a.0) (subst (Same (came.Reaped (is_reapable site ((flushed w site now).limits site).reap_after now (version_of ((flushed w site now).at site) key)))) (sym b.0) refl)
    | inr b ↦ absurd (true≢false (sym b.1 ∙ a.1))
  ]
  | inr a ↦ elim (reap_one w site now key u m) [
    | inl b ↦ absurd (true≢false (sym a.1 ∙ b.1))
    | inr b ↦ subst (λ t. Same t u) (sym a.0) (subst (Same (came.ReapRefused reap_errors.ClockEnded)) (sym b.0) refl)
  ]
]
only_one w all (at.Fill site key bytes) t u l x s m y r =
    let a = fill_one w site key bytes t l s in
    let b = fill_one w site key bytes u m r in
    subst (λ t. Same t u) (sym a.is) (subst (Same (came.Filled a.came_of)) (sym b.is) (a.sort ∙ sym b.sort))

-- where the site's own trace is not told, no trace is, or the site let go of a victim of its own, or its class was full and is not by
-- what is told, or the other way round
replied_none : (reply : Reply) (answer : Answer) (u : Trace) → Same (came.Replied reply None) u → IsToldBy u answer → (IsToldBy (came.Replied reply None) answer → ⊥) → ⊥
replied_none reply (Replied told) (came.Replied other let_go) same t apart = apart (same ∙ t.0, refl)
replied_none reply (Evicted told) (came.Replied other let_go) same t apart = absurd t
replied_none reply (Sent parcel) (came.Replied other let_go) same t apart = absurd t
replied_none reply (SendRefused told) (came.Replied other let_go) same t apart = absurd t
replied_none reply (Took told) (came.Replied other let_go) same t apart = absurd t
replied_none reply (TakeRefused told) (came.Replied other let_go) same t apart = absurd t
replied_none reply (Removed told) (came.Replied other let_go) same t apart = absurd t
replied_none reply (Ticked told) (came.Replied other let_go) same t apart = absurd t
replied_none reply (Reaped told) (came.Replied other let_go) same t apart = absurd t
replied_none reply (ReapRefused told) (came.Replied other let_go) same t apart = absurd t
replied_none reply (Retired told) (came.Replied other let_go) same t apart = absurd t
replied_none reply (RetireRefused told) (came.Replied other let_go) same t apart = absurd t
replied_none reply (FilledAs told) (came.Replied other let_go) same t apart = absurd t
replied_none reply answer (came.Evicted done) same t apart = apart (subst (λ u. IsToldBy u answer) (sym same) t)
replied_none reply answer came.Sent same t apart = apart (subst (λ u. IsToldBy u answer) (sym same) t)
replied_none reply answer (came.SendRefused why) same t apart = apart (subst (λ u. IsToldBy u answer) (sym same) t)
replied_none reply answer came.Taken same t apart = apart (subst (λ u. IsToldBy u answer) (sym same) t)
replied_none reply answer (came.TakeRefused why) same t apart = apart (subst (λ u. IsToldBy u answer) (sym same) t)
replied_none reply answer (came.Removed horizon count) same t apart = apart (subst (λ u. IsToldBy u answer) (sym same) t)
replied_none reply answer (came.Ticked done) same t apart = apart (subst (λ u. IsToldBy u answer) (sym same) t)
replied_none reply answer (came.Reaped done) same t apart = apart (subst (λ u. IsToldBy u answer) (sym same) t)
replied_none reply answer (came.ReapRefused why) same t apart = apart (subst (λ u. IsToldBy u answer) (sym same) t)
replied_none reply answer (came.Filled f) same t apart = apart (subst (λ u. IsToldBy u answer) (sym same) t)
replied_none reply answer came.FillRefused same t apart = apart (subst (λ u. IsToldBy u answer) (sym same) t)
replied_none reply answer (came.Retired fresh) same t apart = apart (subst (λ u. IsToldBy u answer) (sym same) t)
replied_none reply answer (came.RetireRefused why) same t apart = apart (subst (λ u. IsToldBy u answer) (sym same) t)

-- what comes of a fill is told otherwise
apart_fill : (site : ℕ) (key bytes : List ℕ) (f told : Filled) → (f ≡ told → ⊥) → (sort_of f ≡ sort_of told → ⊥) ⊎ IsOwnRoom (at.Fill site key bytes) (came.Filled f) (FilledAs told)
apart_fill site key bytes NotNamed NotNamed ne = absurd (ne refl)
apart_fill site key bytes NotNamed filled.Held ne = inl (λ e. cc)
apart_fill site key bytes NotNamed Full ne = inl (λ e. cc)
apart_fill site key bytes NotNamed Done ne = inl (λ e. cc)
apart_fill site key bytes filled.Held NotNamed ne = inl (λ e. cc)
apart_fill site key bytes filled.Held filled.Held ne = absurd (ne refl)
apart_fill site key bytes filled.Held Full ne = inl (λ e. cc)
apart_fill site key bytes filled.Held Done ne = inl (λ e. cc)
apart_fill site key bytes Full NotNamed ne = inl (λ e. cc)
apart_fill site key bytes Full filled.Held ne = inl (λ e. cc)
apart_fill site key bytes Full Full ne = absurd (ne refl)
apart_fill site key bytes Full Done ne = inr tt
apart_fill site key bytes Done NotNamed ne = inl (λ e. cc)
apart_fill site key bytes Done filled.Held ne = inl (λ e. cc)
apart_fill site key bytes Done Full ne = inr tt
apart_fill site key bytes Done Done ne = absurd (ne refl)

fill_untold : (w : Known) (all : Tables) (site : ℕ) (key bytes : List ℕ) (answer : Answer) (f : Filled) → FilledIn w site key bytes f → (IsToldBy (came.Filled f) answer → ⊥)
    → NoneTells w all (at.Fill site key bytes) answer ⊎ (IsOwnVictim (came.Filled f) ⊎ IsOwnRoom (at.Fill site key bytes) (came.Filled f) answer)
fill_untold w all site key bytes (FilledAs told) f l apart = elim (apart_fill site key bytes f told apart) [
  | inl other ↦ inl (λ u m y r t.
      let b = fill_one w site key bytes u m r in
      let is : b.came_of ≡ told = subst (λ u. IsToldBy u (FilledAs told)) b.is t in
      other (sort_is (names (version_of (w.at site) key) bytes) (is_some (w.held site key)) f l ∙ sym b.sort ∙ ap sort_of is))
  | inr own ↦ inr (inr own)
]
fill_untold w all site key bytes (Replied reply) f l apart = inl (λ u m y r t. let b = fill_one w site key bytes u m r in absurd (subst (λ u. IsToldBy u (Replied reply)) b.is t))
fill_untold w all site key bytes (Evicted done) f l apart = inl (λ u m y r t. let b = fill_one w site key bytes u m r in absurd (subst (λ u. IsToldBy u (Evicted done)) b.is t))
fill_untold w all site key bytes (Sent parcel) f l apart = inl (λ u m y r t. let b = fill_one w site key bytes u m r in absurd (subst (λ u. IsToldBy u (Sent parcel)) b.is t))
fill_untold w all site key bytes (SendRefused why) f l apart = inl (λ u m y r t. let b = fill_one w site key bytes u m r in absurd (subst (λ u. IsToldBy u (SendRefused why)) b.is t))
fill_untold w all site key bytes (Took told) f l apart = inl (λ u m y r t. let b = fill_one w site key bytes u m r in absurd (subst (λ u. IsToldBy u (Took told)) b.is t))
fill_untold w all site key bytes (TakeRefused why) f l apart = inl (λ u m y r t. let b = fill_one w site key bytes u m r in absurd (subst (λ u. IsToldBy u (TakeRefused why)) b.is t))
fill_untold w all site key bytes (Removed count) f l apart = inl (λ u m y r t. let b = fill_one w site key bytes u m r in absurd (subst (λ u. IsToldBy u (Removed count)) b.is t))
fill_untold w all site key bytes (Ticked done) f l apart = inl (λ u m y r t. let b = fill_one w site key bytes u m r in absurd (subst (λ u. IsToldBy u (Ticked done)) b.is t))
fill_untold w all site key bytes (Reaped done) f l apart = inl (λ u m y r t. let b = fill_one w site key bytes u m r in absurd (subst (λ u. IsToldBy u (Reaped done)) b.is t))
fill_untold w all site key bytes (ReapRefused why) f l apart = inl (λ u m y r t. let b = fill_one w site key bytes u m r in absurd (subst (λ u. IsToldBy u (ReapRefused why)) b.is t))
fill_untold w all site key bytes (Retired fresh) f l apart = inl (λ u m y r t. let b = fill_one w site key bytes u m r in absurd (subst (λ u. IsToldBy u (Retired fresh)) b.is t))
fill_untold w all site key bytes (RetireRefused why) f l apart = inl (λ u m y r t. let b = fill_one w site key bytes u m r in absurd (subst (λ u. IsToldBy u (RetireRefused why)) b.is t))

filled_untold : (w : Known) (all : Tables) (event : Happening) (answer : Answer) (f : Filled) → Lawful w event (came.Filled f) → (IsToldBy (came.Filled f) answer → ⊥) → NoneTells w all event answer ⊎ (IsOwnVictim (came.Filled f) ⊎ IsOwnRoom event (came.Filled f) answer)
filled_untold w all (at.Command site now request) answer f l apart = absurd l
filled_untold w all (at.Evict site key) answer f l apart = absurd l
filled_untold w all (at.Send site to) answer f l apart = absurd l
filled_untold w all (at.Take site parcel) answer f l apart = absurd l
filled_untold w all (at.Remove site) answer f l apart = absurd l
filled_untold w all (at.Tick site now) answer f l apart = absurd l
filled_untold w all (at.Reap site now key) answer f l apart = absurd l
filled_untold w all (at.Retire site other) answer f l apart = absurd l
filled_untold w all (at.Fill site key bytes) answer f l apart = fill_untold w all site key bytes answer f l apart

pub untold : (w : Known) (all : Tables) (event : Happening) (answer : Answer) (t : Trace) → Lawful w event t → Tallies w all event t → IsSaid t → (IsToldBy t answer → ⊥) → NoneTells w all event answer ⊎ (IsOwnVictim t ⊎ IsOwnRoom event t answer)
untold w all event answer (came.Replied reply (Some victim)) l x s apart = inr (inl tt)
untold w all event answer (came.Replied reply None) l x s apart = inl (λ u m y r told. replied_none reply answer u (only_one w all event (came.Replied reply None) u l x s m y r) told apart)
untold w all event answer (came.Evicted done) l x s apart = inl (λ u m y r told. apart (subst (λ u. IsToldBy u answer) (sym (only_one w all event (came.Evicted done) u l x s m y r)) told))
untold w all event answer came.Sent l x s apart = inl (λ u m y r told. apart (subst (λ u. IsToldBy u answer) (sym (only_one w all event came.Sent u l x s m y r)) told))
untold w all event answer (came.SendRefused why) l x s apart = inl (λ u m y r told. apart (subst (λ u. IsToldBy u answer) (sym (only_one w all event (came.SendRefused why) u l x s m y r)) told))
untold w all event answer came.Taken l x s apart = inl (λ u m y r told. apart (subst (λ u. IsToldBy u answer) (sym (only_one w all event came.Taken u l x s m y r)) told))
untold w all event answer (came.TakeRefused why) l x s apart = inl (λ u m y r told. apart (subst (λ u. IsToldBy u answer) (sym (only_one w all event (came.TakeRefused why) u l x s m y r)) told))
untold w all event answer (came.Removed horizon count) l x s apart = inl (λ u m y r told. apart (subst (λ u. IsToldBy u answer) (sym (only_one w all event (came.Removed horizon count) u l x s m y r)) told))
untold w all event answer (came.Ticked done) l x s apart = inl (λ u m y r told. apart (subst (λ u. IsToldBy u answer) (sym (only_one w all event (came.Ticked done) u l x s m y r)) told))
untold w all event answer (came.Reaped done) l x s apart = inl (λ u m y r told. apart (subst (λ u. IsToldBy u answer) (sym (only_one w all event (came.Reaped done) u l x s m y r)) told))
untold w all event answer (came.ReapRefused why) l x s apart = inl (λ u m y r told. apart (subst (λ u. IsToldBy u answer) (sym (only_one w all event (came.ReapRefused why) u l x s m y r)) told))
untold w all event answer (came.Filled f) l x s apart = filled_untold w all event answer f l apart
untold w all event answer came.FillRefused l x s apart = absurd s
untold w all event answer (came.Retired fresh) l x s apart = inl (λ u m y r told. apart (subst (λ u. IsToldBy u answer) (sym (only_one w all event (came.Retired fresh) u l x s m y r)) told))
untold w all event answer (came.RetireRefused why) l x s apart = inl (λ u m y r told. apart (subst (λ u. IsToldBy u answer) (sym (only_one w all event (came.RetireRefused why) u l x s m y r)) told))

-- A request that changes one key: from what becomes of the key to what is owed.
use Rattle.std.proofs.Common.{◌≡◌, ℕ, ℤ, ◌+◌, ◌≤◌, ◌<◌, Bool, true, false, cond, not, ◌&&◌, ◌||◌, nat_lt, List, [], ◌∷◌, length, Option, None, Some, is_some, refl, sym, ap, ◌∙◌, subst, subst₂, inl, inr, arith, true≢false}
use Rattle.std.proofs.lemmas.Bool.Decides.{nat_tests}
use Rattle.std.specs.List.{list_any}
use Rattle.geo_stamp.specs.Stamps.{last_time}
use Rattle.geo_records.specs.Operations.{Record, version_in}
use Rattle.geo_versions.specs.Maps.{has_register}
use Rattle.geo_records.specs.Operations.Act.{Write}
use Rattle.geo_records.specs.Operations.{Act as issues}
use Rattle.geo_requests.specs.declared.request.Request.{Request}
use Rattle.geo_requests.specs.declared.reply.Reply.{Reply}
use Rattle.geo_requests.specs.declared.reply.Reply.TheVariants as reply
use Rattle.geo_memcache.specs.Entries.{Entry}
use Rattle.geo_memcache.specs.Decisions.{Verdict, stores, deletes, touches, counts, decision_of, decided, is_made}
use Rattle.geo_memcache.specs.Asks.{request_of}
use Rattle.geo_requests.specs.Requests.{is_of_one_key}
use Rattle.geo_memcache.specs.declared.ask.Ask.{Ask}
use Rattle.geo_memcache.specs.declared.ask.Ask.TheVariants.{Store, Fetch, FetchTouch, Delete, Touch, Arith}
use Rattle.geo_memcache.specs.declared.decision.Answer.TheVariants as answer
use Rattle.geo_memcache.specs.declared.decision.Effect.{Effect}
use Rattle.geo_memcache.specs.declared.decision.Effect.TheVariants.{Nothing, Keep, Made, Renew, Tomb}
use Rattle.geo_site.specs.declared.site.Site.{Site}
use Rattle.geo_site.specs.declared.refusal.WriteError.{WriteError}
use Rattle.geo_site.specs.declared.refusal.WriteError.TheVariants.{MapFull, ClockEnded, Memory}
use Rattle.geo_site.specs.Entries.{Counts, accesses, counted, evicted_on, Basis, Visible, entry_in, found_of, replied, issued, acts_of, is_some_act, is_growth, is_crowded, lacks, owed, may_want_memory, shows_some, Answers, is_done}
use Rattle.geo_site.specs.Machine.{Same, victim_by, VictimFits, clock_of, visible_in}
use Rattle.geo_site.specs.Sites.{counts_in, victim_in, FirstVictimFits, HasIssuedAfter, state_in, basis_in, stats_in, issued_in, HasIssued}
use Rattle.geo_site.specs.Changes.{HasRecord, recorded_in, accesses_of, is_change, bytes_in, IsThere, is_crowded_out, CanWrite, refusal_reply, EffectDoes, ChangeDoes, IsShort}
pub use Rattle.geo_site.proofs.Stocking.{unchanged}
use Rattle.geo_site.proofs.Stocking.{state_then}
use Rattle.geo_site.proofs.Verdicts.{Plain, is_renewal, stores_plain, stores_fixed, deletes_plain, touches_plain, counts_plain, counts_fixed, none_some}

-- no decision writes more than a value may have
pub decided_short : (present : Option Entry) (now : ℕ) (ask : Ask) → is_change ask ≡ true → IsShort (decided present now ask).effect (bytes_in ask)
decided_short present now (Store verb flags exptime unique bytes) h = (stores_plain verb flags exptime unique bytes.now now present).short
decided_short present now (Fetch numbers) h = absurd (true≢false (sym h))
decided_short present now (FetchTouch exptime numbers) h = absurd (true≢false (sym h))
decided_short present now (Touch exptime) h = (touches_plain exptime now present).short
decided_short present now Delete h = (deletes_plain present).short
decided_short present now (Arith up by) h = (counts_plain up by present).short

-- what is visible has a record
pub visible_recorded : (now : ℕ) (r : Record) (o : Option (List ℕ)) (e : Entry) → entry_in now (version_in r) o ≡ Some e → r ≡ (None, None) → ⊥
visible_recorded now r None e h is = none_some h
visible_recorded now r (Some bytes) e h is = none_some (sym (ap (λ (r : Record). entry_in now (version_in r) (Some bytes)) is) ∙ h)

-- what renews nothing needs nothing to be there
fixed_there : (site : Site) (key : List ℕ) (effect : Effect) → is_renewal effect ≡ false → IsThere site key effect
fixed_there site key Nothing h = tt
fixed_there site key (Keep flags expiry) h = tt
fixed_there site key (Made made flags expiry) h = tt
fixed_there site key (Renew expiry) h = absurd (true≢false h)
fixed_there site key Tomb h = tt

-- a decision renews nothing but what is there
decided_there_by : (site : Site) (now : ℕ) (key : List ℕ) (ask : Ask) (present : Option Entry) → visible_in (state_in site) now key ≡ present → IsThere site key (decided present now ask).effect
decided_there_by site now key (Store verb flags exptime unique bytes) present is = fixed_there site key (stores verb flags exptime unique bytes.now now present).1 (stores_fixed verb flags exptime unique bytes.now now present)
decided_there_by site now key (Fetch numbers) None is = tt
decided_there_by site now key (Fetch numbers) (Some e) is = tt
decided_there_by site now key (FetchTouch exptime numbers) None is = tt
decided_there_by site now key (FetchTouch exptime numbers) (Some e) is = visible_recorded now ((state_in site).map key) ((state_in site).stock.held key) e is
decided_there_by site now key Delete None is = tt
decided_there_by site now key Delete (Some e) is = tt
decided_there_by site now key (Touch exptime) None is = tt
decided_there_by site now key (Touch exptime) (Some e) is = visible_recorded now ((state_in site).map key) ((state_in site).stock.held key) e is
decided_there_by site now key (Arith up by) present is = fixed_there site key (counts up by present).1 (counts_fixed up by present)

pub decided_there : (site : Site) (now : ℕ) (key : List ℕ) (ask : Ask) → IsThere site key (decided (visible_in (state_in site) now key) now ask).effect
decided_there site now key ask = decided_there_by site now key ask (visible_in (state_in site) now key) refl

-- each change is answered by a reply
pub decided_replies : (present : Option Entry) (now : ℕ) (ask : Ask) → is_change ask ≡ true → (r : Reply) × ((decided present now ask).answer ≡ answer.Reply r)
decided_replies present now (Store verb flags exptime unique bytes) h = ((stores verb flags exptime unique bytes.now now present).0, refl)
decided_replies present now (Fetch numbers) h = absurd (true≢false (sym h))
decided_replies present now (FetchTouch exptime numbers) h = absurd (true≢false (sym h))
decided_replies present now (Touch exptime) h = ((touches exptime now present).0, refl)
decided_replies present now Delete h = ((deletes present).0, refl)
decided_replies present now (Arith up by) h = ((counts up by present).0, refl)

-- bytes that are made are written
pub made_acts : (key bytes : List ℕ) (effect : Effect) → is_made effect ≡ true → is_some_act (acts_of key bytes effect) ≡ true
made_acts key bytes Nothing h = h
made_acts key bytes (Keep flags expiry) h = refl
made_acts key bytes (Made made flags expiry) h = refl
made_acts key bytes (Renew expiry) h = refl
made_acts key bytes Tomb h = refl

-- and memory is wanted for that
pub made_grows : (recorded : List ℕ → Bool) (key bytes : List ℕ) (effect : Effect) → is_made effect ≡ true → list_any (is_growth recorded) (acts_of key bytes effect) ≡ true
made_grows recorded key bytes Nothing h = h
made_grows recorded key bytes (Keep flags expiry) h = refl
made_grows recorded key bytes (Made made flags expiry) h = refl
made_grows recorded key bytes (Renew expiry) h = absurd (true≢false (sym h))
made_grows recorded key bytes Tomb h = absurd (true≢false (sym h))

-- a delete that wanted memory is of a key that has no record
pub delete_grows : (site : Site) (key : List ℕ) → (HasRecord site key → ⊥) → list_any (is_growth (recorded_in site)) (issues.Delete key ∷ []) ≡ true
delete_grows site key none = by ((state_in site).map key) refl
  where
    by : (r : Record) → (state_in site).map key ≡ r → list_any (is_growth (recorded_in site)) (issues.Delete key ∷ []) ≡ true
    by (None, None) is = ap (λ (r : Record). not (has_register r) || false) is
    by (Some x, o) is = absurd (none (λ e. none_some (ap (λ (r : Record). r.0) (sym e ∙ is))))
    by (None, Some y) is = absurd (none (λ e. none_some (ap (λ (r : Record). r.1) (sym e ∙ is))))

pub and_false : (b : Bool) → b && false ≡ false
and_false true = refl
and_false false = refl

one_key : (full recorded : Bool) → full && (not recorded || false) ≡ full && not recorded
one_key true true = refl
one_key true false = refl
one_key false recorded = refl

pub later : (clock : ℕ) → clock + 1 ≤ last_time → nat_lt last_time (clock + 1) ≡ false
later clock le = grind (arith, nat_tests)

pub ended : (clock : ℕ) → last_time < clock + 1 → nat_lt last_time (clock + 1) ≡ true
ended clock lt = grind (arith, nat_tests)

module _ (old : Site) (now : ℕ) (key bytes : List ℕ) where
  full : Bool
  full = (basis_in old now).full

  crowded_is : (effect : Effect) → is_some_act (acts_of key bytes effect) ≡ true → is_crowded (basis_in old now) (acts_of key bytes effect) ≡ is_crowded_out old key
  crowded_is Nothing h = absurd (true≢false (sym h))
  crowded_is (Keep flags expiry) h = one_key (basis_in old now).full ((basis_in old now).recorded key)
  crowded_is (Made made flags expiry) h = one_key (basis_in old now).full ((basis_in old now).recorded key)
  crowded_is (Renew expiry) h = one_key (basis_in old now).full ((basis_in old now).recorded key)
  crowded_is Tomb h = one_key (basis_in old now).full ((basis_in old now).recorded key)

  lacks_is : (effect : Effect) → is_some_act (acts_of key bytes effect) ≡ true → lacks (clock_of (state_in old)) (acts_of key bytes effect) ≡ nat_lt last_time (clock_of (state_in old) + 1)
  lacks_is Nothing h = absurd (true≢false (sym h))
  lacks_is (Keep flags expiry) h = refl
  lacks_is (Made made flags expiry) h = refl
  lacks_is (Renew expiry) h = refl
  lacks_is Tomb h = refl

  not_refused : (effect : Effect) → (is_some_act (acts_of key bytes effect) ≡ true → CanWrite old key)
      → (is_crowded (basis_in old now) (acts_of key bytes effect) ≡ false) × (lacks (clock_of (state_in old)) (acts_of key bytes effect) ≡ false)
  not_refused Nothing h = (and_false (basis_in old now).full, refl)
  not_refused (Keep flags expiry) h = let c = h refl in (crowded_is (Keep flags expiry) refl ∙ c.0, later (clock_of (state_in old)) c.1)
  not_refused (Made made flags expiry) h = let c = h refl in (crowded_is (Made made flags expiry) refl ∙ c.0, later (clock_of (state_in old)) c.1)
  not_refused (Renew expiry) h = let c = h refl in (crowded_is (Renew expiry) refl ∙ c.0, later (clock_of (state_in old)) c.1)
  not_refused Tomb h = let c = h refl in (crowded_is Tomb refl ∙ c.0, later (clock_of (state_in old)) c.1)

-- a write, with its victim counted, is an effect's
pub write_does : (old mid new : Site) (key bytes made : List ℕ) (flags expiry : ℕ) (effect : Effect) (victim : Option (List ℕ)) → acts_of key bytes effect ≡ Write key made flags expiry ∷ [] → accesses_of key effect ≡ []
    → CanWrite old key → HasIssued old mid (Write key made flags expiry ∷ []) → victim ≡ victim_by (Write key made flags expiry) (state_in old).stock → VictimFits (Write key made flags expiry) (state_in old).stock → counts_in mid ≡ counts_in old
    → Same (state_in mid) (state_in new) → counts_in new ≡ evicted_on victim (counts_in mid) → EffectDoes old new key bytes effect (Rattle.std.specs.Prelude.Ok tt)
write_does old mid new key bytes made flags expiry effect victim acts keys can issued is fits counts same counted = (
  (λ _. can),
  subst₂ (λ keys acts. HasIssuedAfter keys old new acts) (sym keys) (sym acts) (state_then _ (state_in mid) (state_in new) issued same),
  counted ∙ (λ i. evicted_on (is i) (counts i)) ∙ ap (λ acts. evicted_on (victim_in old acts) (counts_in old)) (sym acts),
  subst (λ acts. FirstVictimFits old acts) (sym acts) fits,
)

same_reply : {a b : Reply} → answer.Reply a ≡ answer.Reply b → a ≡ b
same_reply h = cc

-- and that reply is no refusal of a site
pub decided_done : (present : Option Entry) (now : ℕ) (ask : Ask) (said : Reply) → is_change ask ≡ true → (decided present now ask).answer ≡ answer.Reply said → is_done said ≡ true
decided_done present now (Store verb flags exptime unique bytes) said h is = ap is_done (sym (same_reply is)) ∙ (stores_plain verb flags exptime unique bytes.now now present).done
decided_done present now (Fetch numbers) said h is = absurd (true≢false (sym h))
decided_done present now (FetchTouch exptime numbers) said h is = absurd (true≢false (sym h))
decided_done present now (Touch exptime) said h is = ap is_done (sym (same_reply is)) ∙ (touches_plain exptime now present).done
decided_done present now Delete said h is = ap is_done (sym (same_reply is)) ∙ (deletes_plain present).done
decided_done present now (Arith up by) said h is = ap is_done (sym (same_reply is)) ∙ (counts_plain up by present).done

wants : (some shows crowded lacking : Bool) → some ≡ true → crowded ≡ false → lacking ≡ false → (some || shows) && not crowded && not lacking ≡ true
wants some shows crowded lacking a b c = λ i. (a i || shows) && not (b i) && not (c i)

module _ (old new : Site) (now : ℕ) (request : Request) (key bytes : List ℕ) (v : Verdict) (said : Reply) (plain : Plain v bytes)
    (replied_is : replied now (visible_in (state_in old) now) (stats_in old) request ≡ v.0)
    (issued_is : issued now (visible_in (state_in old) now) request ≡ acts_of key bytes v.1)
    (access_is : accesses now (visible_in (state_in old) now) request ≡ accesses_of key v.1)
    (count_is : (c : Counts) → counted (visible_in (state_in old) now) request c ≡ c)
    (does : ChangeDoes old new key bytes (decision_of v) said) where
  owed_by : (crowded lacking : Bool) → is_crowded (basis_in old now) (acts_of key bytes v.1) ≡ crowded → lacks (clock_of (state_in old)) (acts_of key bytes v.1) ≡ lacking
      → owed now (basis_in old now) request ≡ cond {A = Reply} crowded reply.MapFull (cond {A = Reply} lacking reply.ClockEnded v.0)
  owed_by crowded lacking e f = λ i. cond {A = Reply} ((ap (is_crowded (basis_in old now)) issued_is ∙ e) i) reply.MapFull (cond {A = Reply} ((ap (lacks (clock_of (state_in old))) issued_is ∙ f) i) reply.ClockEnded (replied_is i))

  -- what was refused is not done
  refusal_done : (why : WriteError) → is_done (refusal_reply why) ≡ false
  refusal_done MapFull = refl
  refusal_done ClockEnded = refl
  refusal_done Memory = refl

  change_answers : Answers now (basis_in old now) request said
  change_answers = elim does [
    | inl d ↦ let n = not_refused old now key bytes v.1 d.1.0 in inl (sym (same_reply d.0) ∙ sym (owed_by false false n.0 n.1))
    | inr d ↦ refused d.0 d.1 d.2
  ]
    where
      refused : (why : WriteError) → said ≡ refusal_reply why → EffectDoes old new key bytes v.1 (Rattle.std.specs.Prelude.Err why) → Answers now (basis_in old now) request said
      refused MapFull e h = inl (e ∙ sym (owed_by true _ (crowded_is old now key bytes v.1 h.0 ∙ h.2) refl))
      refused ClockEnded e h = inl (e ∙ sym (owed_by false true (crowded_is old now key bytes v.1 h.0 ∙ h.2.0) (lacks_is old now key bytes v.1 h.0 ∙ ended (clock_of (state_in old)) h.2.1)))
      refused Memory e h = inr (
        e,
        wants (list_any (is_growth (basis_in old now).recorded) (issued now (visible_in (state_in old) now) request)) (shows_some now (visible_in (state_in old) now) request) (is_crowded (basis_in old now) (issued now (visible_in (state_in old) now) request)) (lacks (clock_of (state_in old)) (issued now (visible_in (state_in old) now) request))
            (ap (list_any (is_growth (basis_in old now).recorded)) issued_is ∙ h.1 refl)
            (ap (is_crowded (basis_in old now)) issued_is ∙ crowded_is old now key bytes v.1 h.0 ∙ h.2.0)
            (ap (lacks (clock_of (state_in old))) issued_is ∙ lacks_is old now key bytes v.1 h.0 ∙ later (clock_of (state_in old)) h.2.1),
      )

  change_done : is_done said ≡ true → HasIssuedAfter (accesses now (visible_in (state_in old) now) request) old new (issued_in old now request)
  change_done t = elim does [
    | inl d ↦ subst₂ (λ keys acts. HasIssuedAfter keys old new acts) (sym access_is) (sym issued_is) d.1.1
    | inr d ↦ absurd (true≢false (sym t ∙ ap is_done d.1 ∙ refusal_done d.0))
  ]

  change_counts : counts_in new ≡ cond {A = Counts} (is_done said) (evicted_on (victim_in old (issued_in old now request)) (counted (visible_in (state_in old) now) request (counts_in old))) (counts_in old)
  change_counts = elim does [
    | inl d ↦ let t : is_done said ≡ true = ap is_done (sym (same_reply d.0)) ∙ plain.done in
        d.1.2 ∙ (λ i. cond {A = Counts} (sym t i) (evicted_on (victim_in old (sym issued_is i)) (sym (count_is (counts_in old)) i)) (counts_in old))
    | inr d ↦ let f : is_done said ≡ false = ap is_done d.1 ∙ refusal_done d.0 in
        refused_counts d.0 d.2 ∙ ap (λ t. cond {A = Counts} t (evicted_on (victim_in old (issued_in old now request)) (counted (visible_in (state_in old) now) request (counts_in old))) (counts_in old)) (sym f)
  ]
    where
      refused_counts : (why : WriteError) → EffectDoes old new key bytes v.1 (Rattle.std.specs.Prelude.Err why) → counts_in new ≡ counts_in old
      refused_counts why h = h.4

  change_fits : is_done said ≡ true → FirstVictimFits old (issued_in old now request)
  change_fits t = elim does [
    | inl d ↦ subst (λ acts. FirstVictimFits old acts) (sym issued_is) d.1.3
    | inr d ↦ absurd (true≢false (sym t ∙ ap is_done d.1 ∙ refusal_done d.0))
  ]

  change_refused : is_done said ≡ false → Same (state_in old) (state_in new)
  change_refused f = elim does [
    | inl d ↦ absurd (true≢false (sym (ap is_done (sym (same_reply d.0)) ∙ plain.done) ∙ f))
    | inr d ↦ refused_same d.0 d.2
  ]
    where
      refused_same : (why : WriteError) → EffectDoes old new key bytes v.1 (Rattle.std.specs.Prelude.Err why) → Same (state_in old) (state_in new)
      refused_same why h = h.3

-- as many are found as there are keys, at most
pub found_at_most : (numbers : Bool) (seen : Visible) (keys : List (List ℕ)) → length (found_of numbers seen keys) ≤ length keys
found_at_most numbers seen [] = omega arith
found_at_most numbers seen (key ∷ keys) = by (seen key) (found_at_most numbers seen keys)
  where
    by : (o : Option Entry) → length (found_of numbers seen keys) ≤ length keys → length (Rattle.std.specs.Prelude.◌++◌ (Rattle.geo_site.specs.Entries.found_at numbers key o) (found_of numbers seen keys)) ≤ length (key ∷ keys)
    by None h = omega (arith, h)
    by (Some e) h = omega (arith, h)

-- a change of one key is answered, done or refused as the request that asks for it
pub record IsAnswered (old new : Site) (now : ℕ) (request : Request) (said : Reply) : Type 0 where
  pub answers : Answers now (basis_in old now) request said
  pub done : is_done said ≡ true → HasIssuedAfter (accesses now (visible_in (state_in old) now) request) old new (issued_in old now request)
  pub counts : counts_in new ≡ cond {A = Counts} (is_done said) (evicted_on (victim_in old (issued_in old now request)) (counted (visible_in (state_in old) now) request (counts_in old))) (counts_in old)
  pub victim : is_done said ≡ true → FirstVictimFits old (issued_in old now request)
  pub refused : is_done said ≡ false → Same (state_in old) (state_in new)

all_answered : (old new : Site) (now : ℕ) (request : Request) (key bytes : List ℕ) (v : Verdict) (said : Reply) → Plain v bytes
    → replied now (visible_in (state_in old) now) (stats_in old) request ≡ v.0 → issued now (visible_in (state_in old) now) request ≡ acts_of key bytes v.1
    → accesses now (visible_in (state_in old) now) request ≡ accesses_of key v.1 → ((c : Counts) → counted (visible_in (state_in old) now) request c ≡ c)
    → ChangeDoes old new key bytes (decision_of v) said → IsAnswered old new now request said
all_answered old new now request key bytes v said plain r i a n does = record {
  answers = change_answers old new now request key bytes v said plain r i a n does;
  done = change_done old new now request key bytes v said plain r i a n does;
  counts = change_counts old new now request key bytes v said plain r i a n does;
  victim = change_fits old new now request key bytes v said plain r i a n does;
  refused = change_refused old new now request key bytes v said plain r i a n does;
}

-- what renews nothing accesses nothing
fixed_accesses : (key : List ℕ) (effect : Effect) → is_renewal effect ≡ false → [] ≡ accesses_of key effect
fixed_accesses key Nothing h = refl
fixed_accesses key (Keep flags expiry) h = refl
fixed_accesses key (Made made flags expiry) h = refl
fixed_accesses key (Renew expiry) h = absurd (true≢false h)
fixed_accesses key Tomb h = refl

delete_accesses : (key : List ℕ) (present : Option Entry) → [] ≡ accesses_of key (deletes present).1
delete_accesses key None = refl
delete_accesses key (Some e) = refl

touch_accesses : (key : List ℕ) (exptime : ℤ) (now : ℕ) (present : Option Entry) → cond {A = List (List ℕ)} (is_some present) (key ∷ []) [] ≡ accesses_of key (touches exptime now present).1
touch_accesses key exptime now None = refl
touch_accesses key exptime now (Some e) = refl

pub ask_answered : (old new : Site) (now : ℕ) (key : List ℕ) (ask : Ask) (noreply : Bool) (said : Reply) → is_change ask ≡ true
    → ChangeDoes old new key (bytes_in ask) (decided (visible_in (state_in old) now key) now ask) said → IsAnswered old new now (request_of key ask noreply) said
ask_answered old new now key (Store verb flags exptime unique bytes) noreply said h does =
    all_answered old new now (request_of key (Store verb flags exptime unique bytes) noreply) key bytes.now (stores verb flags exptime unique bytes.now now (visible_in (state_in old) now key)) said (stores_plain verb flags exptime unique bytes.now now (visible_in (state_in old) now key)) refl refl (fixed_accesses key (stores verb flags exptime unique bytes.now now (visible_in (state_in old) now key)).1 (stores_fixed verb flags exptime unique bytes.now now (visible_in (state_in old) now key))) (λ c. refl) does
ask_answered old new now key (Fetch numbers) noreply said h does = absurd (true≢false (sym h))
ask_answered old new now key (FetchTouch exptime numbers) noreply said h does = absurd (true≢false (sym h))
ask_answered old new now key Delete noreply said h does =
    all_answered old new now (request_of key Delete noreply) key [] (deletes (visible_in (state_in old) now key)) said (deletes_plain (visible_in (state_in old) now key)) refl refl (delete_accesses key (visible_in (state_in old) now key)) (λ c. refl) does
ask_answered old new now key (Touch exptime) noreply said h does =
    all_answered old new now (request_of key (Touch exptime) noreply) key [] (touches exptime now (visible_in (state_in old) now key)) said (touches_plain exptime now (visible_in (state_in old) now key)) refl refl (touch_accesses key exptime now (visible_in (state_in old) now key)) (λ c. refl) does
ask_answered old new now key (Arith up by) noreply said h does =
    all_answered old new now (request_of key (Arith up by) noreply) key [] (counts up by (visible_in (state_in old) now key)) said (counts_plain up by (visible_in (state_in old) now key)) refl refl (fixed_accesses key (counts up by (visible_in (state_in old) now key)).1 (counts_fixed up by (visible_in (state_in old) now key))) (λ c. refl) does

-- what is asked of one key is a change of it
pub one_changes : (key : List ℕ) (ask : Ask) (noreply : Bool) → is_of_one_key (request_of key ask noreply) ≡ true → is_change ask ≡ true
one_changes key (Store verb flags exptime unique bytes) noreply h = refl
one_changes key (Fetch numbers) noreply h = h
one_changes key (FetchTouch exptime numbers) noreply h = h
one_changes key Delete noreply h = refl
one_changes key (Touch exptime) noreply h = refl
one_changes key (Arith up by) noreply h = refl

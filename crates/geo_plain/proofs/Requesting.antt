-- What a request adds at a site of the plain program.
use Rattle.std.proofs.Common.{◌≡◌, ℕ, ◌==◌, Bool, true, false, cond, Option, List, [], ◌∷◌, ◌++◌, Ok, Err, refl, sym, ap, ◌∙◌, subst, true≢false}
use Rattle.std.specs.Prelude.{Result}
use Rattle.geo_records.specs.Operations.{Act, latest}
use Rattle.geo_requests.specs.declared.request.Request.{Request}
use Rattle.geo_memcache.specs.Asks.{request_of}
use Rattle.geo_memcache.specs.Decisions.{decided}
use Rattle.geo_memcache.specs.declared.ask.Ask.{Ask}
use Rattle.geo_memcache.specs.declared.ask.Ask.TheVariants.{Store, Fetch, FetchTouch, Delete, Touch, Arith}
use Rattle.geo_site.specs.Changes.{is_change, bytes_in}
use Rattle.geo_site.specs.Entries.{Counts, Visible, acts_of, issued, counted, evicted_on, waits_after, lacks}
use Rattle.geo_site.specs.Machine.{act_held}
use Rattle.geo_world.specs.Schedule as schedule
use Rattle.geo_world.specs.Schedule.{settles, new_operation, issues, issues_on, counts_keys, lets_go, carries_out, visible, waits}
use Rattle.geo_plain.specs.declared.known.Known.{Known}
use Rattle.geo_plain.specs.declared.known.PlainError.{PlainError}
use Rattle.geo_plain.specs.declared.known.PlainError.TheVariants.{NotThere, ClockEnded, Memory}
use Rattle.geo_plain.specs.Plain.{Meets, ChangeAdds}
use Rattle.geo_world.proofs.Changing.{counts_here}

-- acts that are the same are issued alike
module _ (old new : Known) (site : ℕ) where
  pub adds_same : (acts other : schedule.Known → List Act) → ((w : schedule.Known) → Meets old.sites.items old.sent.items w → acts w ≡ other w) → (result : Result (Unit {0}) PlainError) → ChangeAdds old new site acts result → ChangeAdds old new site other result
  adds_same acts other same (Ok u) h = λ w meets. subst (λ a. Meets new.sites.items new.sent.items (issues w site a)) (same w meets) (h w meets)
  adds_same acts other same (Err NotThere) h = h
  adds_same acts other same (Err ClockEnded) h = λ w meets. ap (lacks (latest (w.at site))) (sym (same w meets)) ∙ h w meets
  adds_same acts other same (Err Memory) h = h

-- ---- what is issued on a request of one key
pub one_issued : (now : ℕ) (seen : Visible) (key : List ℕ) (ask : Ask) (noreply : Bool) → is_change ask ≡ true → acts_of key (bytes_in ask) (decided (seen key) now ask).effect ≡ issued now seen (request_of key ask noreply)
one_issued now seen key (Store verb flags exptime unique bytes) noreply h = refl
one_issued now seen key (Fetch numbers) noreply h = absurd (true≢false (sym h))
one_issued now seen key (FetchTouch exptime numbers) noreply h = absurd (true≢false (sym h))
one_issued now seen key Delete noreply h = refl
one_issued now seen key (Touch exptime) noreply h = refl
one_issued now seen key (Arith up by) noreply h = refl

-- ---- a request that is carried out: keys are counted, bytes go and are counted, and then operations are issued
counts_twice : (w : schedule.Known) (s : ℕ) (c d : Counts) → counts_keys (counts_keys w s c) s d ≡ counts_keys w s d
counts_twice w s c d = λ i. record { at = w.at; held = w.held; counts = λ t. by (t == s) (w.counts t) i; waiting = w.waiting; limits = w.limits; sets = w.sets; sites = w.sites; sent = w.sent }
  where
    by : (t : Bool) (x : Counts) → cond t d (cond t c x) ≡ cond t d x
    by true x = refl
    by false x = refl

counts_issues : (w : schedule.Known) (s : ℕ) (c : Counts) (acts : List Act) → issues (counts_keys w s c) s acts ≡ counts_keys (issues w s acts) s c
counts_issues w s c [] = refl
counts_issues w s c (act ∷ acts) = counts_issues (settles w s (w.at s ++ new_operation w s act ∷ []) (act_held act (w.held s))) s c acts

-- once keys are counted and the bytes of a victim have gone, which is counted too
abbrev pub counted_and_left : schedule.Known → ℕ → Counts → Option (List ℕ) → schedule.Known
counted_and_left w s c victim = let v = counts_keys w s c in counts_keys (lets_go v s victim) s (evicted_on victim (v.counts s))

left_is : (w : schedule.Known) (s : ℕ) (c : Counts) (victim : Option (List ℕ)) → counted_and_left w s c victim ≡ counts_keys (lets_go w s victim) s (evicted_on victim c)
left_is w s c victim =
    let u = lets_go w s victim in
    ap (λ d. counts_keys (counts_keys u s c) s (evicted_on victim d)) (counts_here w s c) ∙ counts_twice u s c (evicted_on victim c)

pub carried_is : (w : schedule.Known) (s now : ℕ) (request : Request) (victim : Option (List ℕ)) (acts : List Act) (x : Option ℕ) → acts ≡ issues_on w s now request → x ≡ waits_after now request (w.waiting s)
    → waits (issues (counted_and_left w s (counted (visible w s now) request (w.counts s)) victim) s acts) s x ≡ carries_out w s now request victim
carried_is w s now request victim acts x acts_are waiting =
    let c = counted (visible w s now) request (w.counts s) in
    (λ i. waits (issues (left_is w s c victim i) s (acts_are i)) s (waiting i)) ∙ ap (λ v. waits v s (waits_after now request (w.waiting s))) (counts_issues (lets_go w s victim) s (evicted_on victim c) (issues_on w s now request))

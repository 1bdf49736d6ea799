use Rattle.std.proofs.Common.{rules, ◌≡◌, ℕ, List, [], Bool, true, false, cond, Option, None, refl, sym, ap, ◌∙◌, subst, subst₂}
use Rattle.std.specs.Prelude.{IfOk}
use mir.Syntax.{w64}
use mir.Val.{to_z, of_z}
use Rattle.geo_requests.specs.Requests.{is_of_one_key, is_noreply}
use Rattle.geo_requests.specs.declared.request.Request.{Request}
use Rattle.geo_memcache.specs.Entries.{expiry_at}
use Rattle.geo_memcache.specs.Asks.{request_of}
use Rattle.geo_site.specs.Entries.{Answers, Counts, accesses, counted, evicted_on, flush_acts, is_done, touches_of, made_on}
use Rattle.geo_requests.specs.declared.reply.Reply.TheVariants.{Done}
use Rattle.geo_site.specs.Machine.{visible_in}
use Rattle.geo_site.specs.Sites.{state_in, basis_in, counts_in, issued_in, touched_in, victim_in, reply_in, TellsBeside, FirstVictimFits, HasIssuedAfter, IssuesAs, FetchDoes, FetchTouchDoes}
use Rattle.geo_site.specs.Changes.{is_change}
use Rattle.geo_site.proofs.Fetching.{fetch_answers, touch_answers, touch_done, touches_keep, touches_fitting}
use Rattle.geo_site.proofs.Flushing.{flush_done, flush_fits}
use Rattle.geo_site.proofs.Telling.{change_told, plain_told, each_plain_told, flush_keeps}
use Rattle.geo_site.proofs.Acting.{IsAnswered, ask_answered, one_changes}
use Rattle.geo_site.proofs.site.Site.answer.Goals as goal

-- what is asked of one key
answered : (c : goal.After-change) → IsAnswered c.args.self.now c.change.new.self c.args.now c.args.request.now (reply_in c.change.result)
answered c =
    let noreply : Bool = is_noreply c.args.request.now in
    let asked : c.args.request.now ≡ request_of c.in-Some.key.now c.in-Some.ask noreply = c.in-Some.ensures.asks in
    let change : is_change c.in-Some.ask ≡ true = one_changes c.in-Some.key.now c.in-Some.ask noreply (ap is_of_one_key (sym asked) ∙ sym c.in-Some.ensures.one_key) in
    subst (λ (r : Request). IsAnswered c.args.self.now c.change.new.self c.args.now r (reply_in c.change.result)) (sym asked) (ask_answered c.args.self.now c.change.new.self c.args.now c.in-Some.key.now c.in-Some.ask noreply (reply_in c.change.result) change c.change.ensures.does)

pub returns-in-Some-clause-answer : goal.returns-in-Some-clause-answer
returns-in-Some-clause-answer c = (answered c).answers

pub returns-in-Some-clause-done : goal.returns-in-Some-clause-done
returns-in-Some-clause-done c = (answered c).done

pub returns-in-Some-clause-refused : goal.returns-in-Some-clause-refused
returns-in-Some-clause-refused c = (answered c).refused

pub returns-in-Some-clause-counts : goal.returns-in-Some-clause-counts
returns-in-Some-clause-counts c = (answered c).counts

pub returns-in-Some-clause-victim : goal.returns-in-Some-clause-victim
returns-in-Some-clause-victim c = (answered c).victim

pub returns-in-Fetch-clause-answer : goal.returns-in-Fetch-clause-answer
returns-in-Fetch-clause-answer c =
    let s = c.args.self.now in
    let now = c.args.now in
    subst (λ (r : Request). Answers now (basis_in s now) r (reply_in c.fetch.result)) (sym c.in-Fetch.is)
    (fetch_answers s c.fetch.new.self now c.in-Fetch.keys c.in-Fetch.numbers (reply_in c.fetch.result)
    (subst (λ (keys : List (List ℕ)). FetchDoes s c.fetch.new.self now keys c.in-Fetch.numbers (reply_in c.fetch.result)) c.as_slice.ensures c.fetch.ensures.does))

-- what a fetch that touches does, by what it was asked for
does_touch : (c : goal.After-fetch_touch) → FetchTouchDoes c.args.self.now c.fetch_touch.new.self c.args.now (expiry_at c.in-FetchTouch.exptime c.args.now) c.in-FetchTouch.keys c.in-FetchTouch.numbers (reply_in c.fetch_touch.result)
does_touch c =
    let same : to_z w64 (of_z w64 c.in-FetchTouch.exptime) ≡ c.in-FetchTouch.exptime = search rules in
    let expiry : c.expiry_of-expiry.result ≡ expiry_at c.in-FetchTouch.exptime c.args.now = c.expiry_of-expiry.ensures ∙ ap (λ e. expiry_at e c.args.now) same in
    subst₂ (λ (e : ℕ) (keys : List (List ℕ)). FetchTouchDoes c.args.self.now c.fetch_touch.new.self c.args.now e keys c.in-FetchTouch.numbers (reply_in c.fetch_touch.result)) expiry c.as_slice-in-FetchTouch.ensures c.fetch_touch.ensures.does

pub returns-in-FetchTouch-clause-answer : goal.returns-in-FetchTouch-clause-answer
returns-in-FetchTouch-clause-answer c =
    let s = c.args.self.now in
    let now = c.args.now in
    subst (λ (r : Request). Answers now (basis_in s now) r (reply_in c.fetch_touch.result)) (sym c.in-FetchTouch.is)
    (touch_answers s c.fetch_touch.new.self now c.in-FetchTouch.exptime c.in-FetchTouch.keys c.in-FetchTouch.numbers (reply_in c.fetch_touch.result) (does_touch c))

pub returns-in-FetchTouch-clause-done : goal.returns-in-FetchTouch-clause-done
returns-in-FetchTouch-clause-done c =
    let s = c.args.self.now in
    let now = c.args.now in
    subst (λ (r : Request). is_done (reply_in c.fetch_touch.result) ≡ true → HasIssuedAfter (accesses now (visible_in (state_in s) now) r) s c.fetch_touch.new.self (issued_in s now r)) (sym c.in-FetchTouch.is)
    (touch_done s c.fetch_touch.new.self now c.in-FetchTouch.exptime c.in-FetchTouch.keys c.in-FetchTouch.numbers (reply_in c.fetch_touch.result) (does_touch c))

-- a request that evicts nothing and counts no key leaves the counts
same_counts : (t : Bool) (victim : Option (List ℕ)) (counts : Counts) → victim ≡ None → counts ≡ cond t (evicted_on victim counts) counts
same_counts true victim counts none = ap (λ v. evicted_on v counts) (sym none)
same_counts false victim counts none = refl

pub returns-in-FetchTouch-clause-counts : goal.returns-in-FetchTouch-clause-counts
returns-in-FetchTouch-clause-counts c =
    let s = c.args.self.now in
    let now = c.args.now in
    let expiry = expiry_at c.in-FetchTouch.exptime now in
    subst (λ (r : Request). counts_in c.fetch_touch.new.self ≡ cond (is_done (reply_in c.fetch_touch.result)) (evicted_on (victim_in s (issued_in s now r)) (counted (visible_in (state_in s) now) r (counts_in s))) (counts_in s)) (sym c.in-FetchTouch.is)
    (c.fetch_touch.ensures.rests.0 ∙ same_counts (is_done (reply_in c.fetch_touch.result)) (victim_in s (touches_of expiry (touched_in s now expiry c.in-FetchTouch.keys c.in-FetchTouch.numbers))) (counts_in s) (touches_keep s expiry (touched_in s now expiry c.in-FetchTouch.keys c.in-FetchTouch.numbers)))

pub returns-in-FetchTouch-clause-victim : goal.returns-in-FetchTouch-clause-victim
returns-in-FetchTouch-clause-victim c =
    let s = c.args.self.now in
    let now = c.args.now in
    let expiry = expiry_at c.in-FetchTouch.exptime now in
    λ _. subst (λ (r : Request). FirstVictimFits s (issued_in s now r)) (sym c.in-FetchTouch.is) (touches_fitting s expiry (touched_in s now expiry c.in-FetchTouch.keys c.in-FetchTouch.numbers))

pub returns-in-Some-clause-told : goal.returns-in-Some-clause-told
returns-in-Some-clause-told c =
    let s = c.args.self.now in
    let noreply : Bool = is_noreply c.args.request.now in
    let asked : c.args.request.now ≡ request_of c.in-Some.key.now c.in-Some.ask noreply = c.in-Some.ensures.asks in
    let change : is_change c.in-Some.ask ≡ true = one_changes c.in-Some.key.now c.in-Some.ask noreply (ap is_of_one_key (sym asked) ∙ sym c.in-Some.ensures.one_key) in
    subst (λ (r : Request). IfOk c.change.result (TellsBeside s c.args.with_copies (issued_in s c.args.now r) (made_on c.args.now (visible_in (state_in s) c.args.now) r))) (sym asked)
    (change_told s c.args.now c.in-Some.key.now c.in-Some.ask noreply c.args.with_copies c.change.result change c.change.ensures.told)

pub returns-in-FetchTouch-clause-told : goal.returns-in-FetchTouch-clause-told
returns-in-FetchTouch-clause-told c =
    let s = c.args.self.now in
    let now = c.args.now in
    let expiry = expiry_at c.in-FetchTouch.exptime now in
    let touches = touches_of expiry (touched_in s now expiry c.in-FetchTouch.keys c.in-FetchTouch.numbers) in
    subst (λ (r : Request). IfOk c.fetch_touch.result (TellsBeside s c.args.with_copies (issued_in s now r) (made_on now (visible_in (state_in s) now) r))) (sym c.in-FetchTouch.is)
    (each_plain_told s c.args.with_copies touches c.fetch_touch.result (touches_keep s expiry (touched_in s now expiry c.in-FetchTouch.keys c.in-FetchTouch.numbers)) c.fetch_touch.ensures.told)

pub returns-in-FlushAll-clause-done : goal.returns-in-FlushAll-clause-done
returns-in-FlushAll-clause-done c =
    let s = c.args.self.now in
    let now = c.args.now in
    let same : to_z w64 (of_z w64 c.in-FlushAll.delay) ≡ c.in-FlushAll.delay = search rules in
    subst (λ (r : Request). is_done c.plain.result.reply ≡ true → HasIssuedAfter (accesses now (visible_in (state_in s) now) r) s c.flush_all-reply.new.self (issued_in s now r)) (sym c.in-FlushAll.is)
    (λ done. flush_done s c.flush_all-reply.new.self now c.in-FlushAll.delay c.flush_all-reply.result (subst (λ d. IssuesAs [] s c.flush_all-reply.new.self (flush_acts d now) Done c.flush_all-reply.result) same c.flush_all-reply.ensures.issued) (ap is_done (sym c.plain.ensures.reply) ∙ done))

pub returns-in-FlushAll-clause-victim : goal.returns-in-FlushAll-clause-victim
returns-in-FlushAll-clause-victim c =
    let s = c.args.self.now in
    let now = c.args.now in
    λ _. subst (λ (r : Request). FirstVictimFits s (issued_in s now r)) (sym c.in-FlushAll.is) (flush_fits s now c.in-FlushAll.delay)

pub returns-in-FlushAll-clause-told : goal.returns-in-FlushAll-clause-told
returns-in-FlushAll-clause-told c =
    let s = c.args.self.now in
    let now = c.args.now in
    subst (λ (r : Request). TellsBeside s c.args.with_copies (issued_in s now r) (made_on now (visible_in (state_in s) now) r) c.plain.result) (sym c.in-FlushAll.is)
    (plain_told s c.args.with_copies (flush_acts c.in-FlushAll.delay now) c.plain.result (flush_keeps s now c.in-FlushAll.delay) c.plain.ensures.told)

use Rattle.std.proofs.Common.{◌≡◌, ℕ, ◌+◌, ◌≤◌, List, length, inl, inr, refl, sym, ap, ◌∙◌, subst, subst₂}
use Rattle.std.specs.List.{All}
use Rattle.geo_stamp.specs.Vectors.{greatest_of}
use Rattle.geo_stamp.specs.Stamps.{last_time}
use Rattle.geo_requests.specs.declared.reply.Found.{Found}
use Rattle.geo_records.specs.Operations.{Record}
use Rattle.geo_requests.specs.declared.reply.Reply.TheVariants.{Values}
use Rattle.geo_site.specs.Entries.{keys_found, touches_of}
use Rattle.geo_site.specs.Machine.{Same, accessed, issue_all}
use Rattle.geo_site.proofs.Stocking.{issue_all_from}
use Rattle.std.proofs.lemmas.Result.{err_from_is_err_and}
use Rattle.geo_site.specs.Sites.{state_in, clock_in, touched_in, reply_in}
use Rattle.geo_site.specs.Changes.{HasBody}
use Rattle.geo_site.proofs.Acting.{unchanged}
use Rattle.geo_site.proofs.Fetching.{touched_there, touches_left, touches_lack, touches_fit}
use Rattle.geo_site.proofs.site.Site.fetch_touch.Goals as goal

pub returns-then-not-can_touch-clause-does : goal.returns-then-not-can_touch-clause-does
returns-then-not-can_touch-clause-does c =
    let site = c.args.self.now in
    let numbers = c.args.numbers in
    let no = c.if-not-can_touch.true in
    let left = c.if-not-can_touch.ensures.left numbers in
    inl (inr (c.plain.ensures.reply, touches_lack (clock_in site) c.args.expiry (touched_in site c.args.now c.args.expiry c.args.keys.now numbers) (sym left) (c.if-not-can_touch.ensures.some numbers refl), unchanged (state_in site)))

pub renew_all-requires-clause-stamps : goal.renew_all-requires-clause-stamps
renew_all-requires-clause-stamps c =
    let site = c.args.self.now in
    let numbers = c.args.numbers in
    let left = c.if-not-can_touch.ensures.left numbers in
    let found : c.as_slice-2.result.now ≡ touched_in site c.args.now c.args.expiry c.args.keys.now numbers = c.as_slice-2.ensures ∙ c.in_ok-found.ensures.list ∙ c.in_ok-all.ensures in
    subst₂ (λ (clock : ℕ) (found : List Found). clock + length found ≤ last_time) (sym (ap greatest_of c.note_hits.ensures.hits.vector)) (sym found)
    (touches_fit (clock_in site) (touched_in site c.args.now c.args.expiry c.args.keys.now numbers) (sym left))

pub renew_all-requires-clause-there : goal.renew_all-requires-clause-there
renew_all-requires-clause-there c =
    let there = subst (λ (found : List Found). All (λ (f : Found). HasBody c.args.self.now f.key) found) (sym (c.as_slice-2.ensures ∙ c.in_ok-found.ensures.list ∙ c.in_ok-all.ensures)) (touched_there c.args.self.now c.args.now c.args.expiry c.args.numbers c.args.keys.now) in
    λ k f lt none. there k f lt (ap (λ (r : Record). r.0) (sym (c.note_hits.ensures.hits.map _)) ∙ none)

pub returns-clause-does : goal.returns-clause-does
returns-clause-does c =
    let site = c.args.self.now in
    let mid = state_in c.note_hits.new.self in
    let new = state_in c.renew_all.new.self in
    let expiry = c.args.expiry in
    let touched = touched_in site c.args.now expiry c.args.keys.now c.args.numbers in
    let left = c.if-not-can_touch.ensures.left c.args.numbers in
    let hits = subst (λ (found : List Found). Same (accessed (keys_found found) (state_in site)) mid) (c.as_slice.ensures ∙ c.in_ok-found.ensures.list ∙ c.in_ok-all.ensures) c.note_hits.ensures.hits in
    let issued = subst₂ (λ (n : ℕ) (found : List Found). Same (issue_all n (touches_of expiry found) mid) new) c.note_hits.ensures.stays.0 (c.as_slice-2.ensures ∙ c.in_ok-found.ensures.list ∙ c.in_ok-all.ensures) c.renew_all.ensures.issued in
    inl (inl (
      c.values.ensures.reply ∙ ap (λ (found : List Found). Values found) (c.in_ok-found.ensures.list ∙ c.in_ok-all.ensures),
      touches_left (clock_in site) expiry touched (sym left),
      issue_all_from site.number (touches_of expiry touched) (accessed (keys_found touched) (state_in site)) mid new hits issued,
    ))

pub returns-in_err-all-clause-does : goal.returns-in_err-all-clause-does
returns-in_err-all-clause-does c =
    let site = c.args.self.now in
    let left = c.if-not-can_touch.ensures.left c.args.numbers in
    let refused = err_from_is_err_and c.from_residual.result c.from_residual.ensures.1 in
    inr (ap reply_in refused.1, touches_left (clock_in site) c.args.expiry (touched_in site c.args.now c.args.expiry c.args.keys.now c.args.numbers) (sym left), unchanged (state_in site))

pub returns-in_err-copies-clause-does : goal.returns-in_err-copies-clause-does
returns-in_err-copies-clause-does c =
    let site = c.args.self.now in
    let left = c.if-not-can_touch.ensures.left c.args.numbers in
    let refused = err_from_is_err_and c.from_residual-in_err-copies.result c.from_residual-in_err-copies.ensures.1 in
    inr (ap reply_in refused.1, touches_left (clock_in site) c.args.expiry (touched_in site c.args.now c.args.expiry c.args.keys.now c.args.numbers) (sym left), unchanged (state_in site))

pub returns-in_err-found-clause-does : goal.returns-in_err-found-clause-does
returns-in_err-found-clause-does c =
    let site = c.args.self.now in
    let left = c.if-not-can_touch.ensures.left c.args.numbers in
    let refused = err_from_is_err_and c.from_residual-in_err-found.result c.from_residual-in_err-found.ensures.1 in
    inr (ap reply_in refused.1, touches_left (clock_in site) c.args.expiry (touched_in site c.args.now c.args.expiry c.args.keys.now c.args.numbers) (sym left), unchanged (state_in site))

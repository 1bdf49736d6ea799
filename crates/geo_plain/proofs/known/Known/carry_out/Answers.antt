use Rattle.std.proofs.Common.{◌≡◌, ◌-◌, Err, List, length, arith, sym, ap, ◌∙◌, subst}
use Rattle.std.proofs.lemmas.Result.{err_from_is_err_and}
use Rattle.std.specs.Option.{option_copied}
use Rattle.geo_records.specs.Operations.{Act as ActOf, latest}
use Rattle.geo_site.specs.Entries.{Visible, counted, issued, lacks, waits_after}
use Rattle.geo_world.specs.Schedule.{Known, issues_on, visible}
use Rattle.geo_plain.specs.declared.known.PlainError.{PlainError}
use Rattle.geo_plain.specs.declared.known.PlainError.TheVariants.{ClockEnded}
use Rattle.geo_plain.specs.Plain.{acts_of, Meets, ChangeAdds}
use Rattle.geo_world.proofs.Worlds.{there_is, read_is}
use Rattle.geo_plain.proofs.Meeting.{shows_visible}
use Rattle.geo_plain.proofs.Requesting.{counted_and_left, carried_is}
use Rattle.geo_plain.proofs.known.Known.carry_out.Goals.{After-issue_all}
use Rattle.geo_plain.proofs.known.Known.carry_out.Goals as goal

-- what is issued was decided first
acts_are : (c : After-issue_all) (w : Known) → Meets c.args.self.now.sites.items c.args.self.now.sent.items w → acts_of c.as_slice.result.now ≡ issues_on w c.args.site c.args.now c.args.request.now
acts_are c w meets =
    let there = there_is (length c.args.self.now.sites.items) c.args.site c.requires.there in
    let lo = there.first in
    let hi = there.last in
    let sites = c.args.self.now.sites.items in
    let at = c.index-at.result.now in
    let got = read_is sites (c.args.site - 1) at (omega arith) c.index-at.ensures in
    let seen = shows_visible sites c.args.self.now.sent.items w meets (c.args.site - 1) c.args.site (omega arith) at got c.args.now in
    ap acts_of c.as_slice.ensures.value ∙ c.in_ok-acts.ensures ∙ ap (λ (v : Visible). issued c.args.now v c.args.request.now) seen

-- and then keys were counted, and bytes went
gone : (c : After-issue_all) (w : Known) → Meets c.args.self.now.sites.items c.args.self.now.sent.items w
    → Meets c.let_go.new.self.sites.items c.let_go.new.self.sent.items (counted_and_left w c.args.site (counted (visible w c.args.site c.args.now) c.args.request.now (w.counts c.args.site)) (option_copied c.args.victim))
gone c w meets = c.in_ok-let_go.ensures.kept _ (c.count.ensures.counts w meets)

pub returns-clause-kept : goal.returns-clause-kept
returns-clause-kept c = λ w meets.
    let there = there_is (length c.args.self.now.sites.items) c.args.site c.requires.there in
    let lo = there.first in
    let hi = there.last in
    let d = (goal.at.returns-clause-kept c).After-issue_all in
    let at = c.index-at.result.now in
    let got = read_is c.args.self.now.sites.items (c.args.site - 1) at (omega arith) c.index-at.ensures in
    let new = c.wait.new.self in
    let waiting = c.waiting_after-waiting.ensures ∙ ap (waits_after c.args.now c.args.request.now) (meets.waits (c.args.site - 1) c.args.site at (omega arith) got) in
    subst (λ (v : Known). Meets new.sites.items new.sent.items v)
    (carried_is w c.args.site c.args.now c.args.request.now (option_copied c.args.victim) (acts_of c.as_slice.result.now) c.waiting_after-waiting.result (acts_are d w meets) waiting)
    (c.wait.ensures.kept _ (c.in_ok-issue_all.ensures.adds _ (gone d w meets)))

pub returns-in_err-issue_all-clause-ended : goal.returns-in_err-issue_all-clause-ended
returns-in_err-issue_all-clause-ended c =
    let d = (goal.at.returns-in_err-issue_all-clause-ended c).After-issue_all in
    let s = c.args.site in
    let p = err_from_is_err_and c.from_residual-in_err-issue_all.result c.from_residual-in_err-issue_all.ensures.1 in
    rw p.1 (λ is w meets.
    let acts = acts_of c.as_slice.result.now in
    let adds : ChangeAdds c.let_go.new.self c.issue_all.new.self s (λ w. acts) (Err ClockEnded) = subst (λ (e : PlainError). ChangeAdds c.let_go.new.self c.issue_all.new.self s (λ w. acts) (Err e)) (sym p.2 ∙ is) c.in_err-issue_all.ensures.adds in
    ap (λ (a : List ActOf). lacks (latest (w.at s)) a) (sym (acts_are d w meets)) ∙ adds _ (gone d w meets))

use Rattle.std.proofs.Common.{List, ℕ, drop, take, ◌≤◌, subst, ◌≡◌, ◌+◌, ◌<◌, arith, ap, sym, ◌∙◌, length, [], ◌∷◌, cond, vec_capacity}
use Rattle.geo_crowd.specs.Crowds.{EndAll, carried_in}
use Rattle.geo_crowd.specs.Listing.{AllListed, is_listed_at}
use Rattle.geo_crowd.proofs.Listed.{keeps_on, keeps_past, keeps_end, keeps_start}
use Rattle.geo_crowd.proofs.Passing.{goes_none, goes_kept, goes_past, goes_all, sums_at}
use Rattle.geo_crowd.proofs.turns.end_all.Goals as goal
use Rattle.geo_crowd.proofs.turns.end_all.Goals.{then-is_again, else-is_again}

pub loop-at-init : goal.loop-at-init
loop-at-init g c = record {
  going = goes_none c.args.from c.args.listed.now.items (carried_in c.args.roster.now.members);
  keeps = keeps_start c.args.roster.now.members c.args.from c.args.listed.now.items (vec_capacity c.args.listed.now) c.requires.lists c.requires.room;
}

pub loop-at-preserved : goal.loop-at-preserved
loop-at-preserved g c =
    let i = c.loop-at.invariant in
    let number = c.index-number.result.now in
    let standing = c.end-standing.result in
    let lt : c.loop-at.at < length c.loop-at.listed.items = omega (arith, c.loop-at-test.true, c.loop-at.auto.at-end, i.going.long, c.len-at-end.ensures) in
    let kept = goes_kept c.args.from c.args.listed.now.items c.loop-at.listed.items c.loop-at.at c.loop-at.kept c.loop-at.passed.ended c.loop-at.passed.faults c.count.new.self.ended c.count.new.self.faults number
    (carried_in c.args.roster.now.members) (carried_in c.loop-at.roster.members) (carried_in c.end-standing.new.self.members) standing i.going lt c.index-number.ensures
    c.end-standing.ensures.ends c.count.ensures.ended c.count.ensures.faults in
    let past = goes_past c.args.from c.args.listed.now.items c.loop-at.listed.items c.loop-at.at c.loop-at.kept c.loop-at.passed.ended c.loop-at.passed.faults c.count.new.self.ended c.count.new.self.faults number
    (carried_in c.args.roster.now.members) (carried_in c.loop-at.roster.members) (carried_in c.end-standing.new.self.members) standing i.going lt c.index-number.ensures
    c.end-standing.ensures.ends c.count.ensures.ended c.count.ensures.faults in
    let on = keeps_on c.loop-at.roster.members c.end-standing.new.self.members c.loop-at.listed.items c.loop-at.at c.loop-at.kept (vec_capacity c.loop-at.listed) number c.is_again.result i.keeps i.going.few lt c.index-number.ensures
    (c.end-standing.ensures.listed ∙ sym c.is_again.ensures.flag) c.end-standing.ensures.others in
    let off = keeps_past c.loop-at.roster.members c.end-standing.new.self.members c.loop-at.listed.items c.loop-at.at c.loop-at.kept (vec_capacity c.loop-at.listed) number c.is_again.result i.keeps i.going.few lt c.index-number.ensures
    (c.end-standing.ensures.listed ∙ sym c.is_again.ensures.flag) c.end-standing.ensures.others in
    elim c.if-is_again.branch [
      | then-is_again w ↦ rw (w.listed-is, w.kept-is) (record { going = kept (c.is_again.ensures.next number ∙ ap (λ b. cond b (number ∷ []) []) w.if-is_again.true); keeps = on w.if-is_again.true })
      | else-is_again w ↦ rw (w.listed-is, w.kept-is) (record { going = past (c.is_again.ensures.next number ∙ ap (λ b. cond b (number ∷ []) []) w.if-is_again.false); keeps = off w.if-is_again.false })
    ]

pub returns-clause-lists : goal.returns-clause-lists
returns-clause-lists g c =
    let i = c.loop-at.invariant in
    subst (λ (l : List ℕ). AllListed (is_listed_at c.loop-at.roster.members) l) (sym c.truncate.ensures.items)
    (keeps_end c.loop-at.roster.members c.loop-at.listed.items c.loop-at.at c.loop-at.kept (vec_capacity c.loop-at.listed) i.keeps (omega (arith, c.loop-at-test.false, c.loop-at.auto.at-end, i.going.long, c.len-at-end.ensures)))

pub returns-clause-ends : goal.returns-clause-ends
returns-clause-ends g c =
    let i = c.loop-at.invariant in
    let passed = c.loop-at.passed in
    let all : length c.loop-at.listed.items ≤ c.loop-at.at = omega (arith, c.loop-at-test.false, c.loop-at.auto.at-end, i.going.long, c.len-at-end.ensures) in
    subst (λ (l : List ℕ). EndAll (drop c.args.from c.args.listed.now.items) (sums_at (drop c.args.from l) passed.ended passed.faults) (carried_in c.args.roster.now.members) (carried_in c.loop-at.roster.members)) (sym c.truncate.ensures.items)
    (goes_all c.args.from c.args.listed.now.items c.loop-at.listed.items c.loop-at.at c.loop-at.kept passed.ended passed.faults (carried_in c.args.roster.now.members) (carried_in c.loop-at.roster.members) i.going all)

use Rattle.std.proofs.Common.{◌≡◌, ◌+◌, ◌<◌, ◌++◌, ◌∷◌, [], rules, ap, subst, sym, ◌∙◌, List, length, slice_set}
use Rattle.geo_history.specs.Keeping.{IsCounted, made_in, step_with}
use Rattle.geo_history.specs.declared.step.Step.{Step}
use Rattle.geo_history.proofs.Keeps.{get_or_any, counted_more}
use Rattle.geo_history.proofs.parts.Parts.append.Goals as goal

pub returns-clause-counted : goal.returns-clause-counted
returns-clause-counted c =
    let opening = c.args.self.now.opening in
    let steps = c.args.self.now.steps.items in
    let counts = c.args.self.now.counts.items in
    let below : c.args.seat < 256 = search rules in
    let there : c.args.seat < length counts = subst (λ n. c.args.seat < n) (sym c.requires.counted.many) below in
    let number : c.index.result.now ≡ made_in opening steps c.args.seat = c.index.ensures ∙ get_or_any counts c.args.seat c.index.result.now 0 there ∙ c.requires.counted.counted c.args.seat below in
    subst (λ (ss : List Step). IsCounted opening ss (slice_set counts c.args.seat (c.index.result.now + 1)))
    (sym (c.push.ensures.items ∙ ap (λ n. steps ++ step_with c.args.seat (n + 1) c.args.event c.args.answer c.args.victim c.args.made ∷ []) number))
    (counted_more opening steps c.args.seat c.args.event c.args.answer c.args.victim c.args.made counts (c.index.result.now + 1) below c.requires.left (ap (λ n. n + 1) number) c.requires.counted)

use Rattle.std.proofs.Common.{true, ◌≡◌, ◌+◌, ◌≤◌, ◌++◌, ◌∷◌, [], ap, subst, sym, ◌∙◌, arith, inr}
use Rattle.geo_history.specs.Keeping.{Story, story_of, made_by, flush_count, most_steps, ActsFor, DoesNothing, step_with}
use Rattle.geo_site.specs.declared.event.Event.TheVariants.{Command}
use Rattle.geo_site.specs.declared.event.Answer.TheVariants.{Replied}
use Rattle.geo_requests.specs.declared.request.Request.{Request}
use Rattle.geo_history.proofs.Calls.{refused_act, acts_for, made_after, few_flushes, two_copies}
use Rattle.geo_history.proofs.parts.Parts.act_for.Goals as goal

pub returns-in-Err-clause-does : goal.returns-in-Err-clause-does
returns-in-Err-clause-does c =
    let now = c.args.self.now in
    let first : Story = record { site = now.site; opening = now.opening; steps = c.ready.new.self.items } in
    let same : first ≡ story_of now = λ i. record { site = now.site; opening = now.opening; steps = c.ready.ensures.items i } in
    let last : Story = record { site = c.act_full.new.self; opening = c.flush_due.new.self.opening; steps = c.flush_due.new.self.steps.items } in
    subst (λ (s : Story). DoesNothing s last c.args.seat c.args.now) same
    (inr (record {
      flush = refused_act now.site c.flush_due.new.self.site c.act_full.new.self c.args.now c.args.request true c.in-Err.refused c.flush_due.ensures.flush c.in-Err.ensures.does;
      goes_on = record { opening = c.flush_due.ensures.opening; more = c.flush_due.ensures.steps };
    }))

pub append-requires-clause-room : goal.append-requires-clause-room
append-requires-clause-room c =
    let now = c.args.self.now in
    let first : Story = record { site = now.site; opening = now.opening; steps = c.ready.new.self.items } in
    let few = few_flushes first c.args.now in
    omega (arith, few, c.flush_due.ensures.room, c.in_ok-ready.ensures.ok)

pub append-requires-clause-left : goal.append-requires-clause-left
append-requires-clause-left c =
    let now = c.args.self.now in
    let first : Story = record { site = now.site; opening = now.opening; steps = c.ready.new.self.items } in
    let same : first ≡ story_of now = λ i. record { site = now.site; opening = now.opening; steps = c.ready.ensures.items i } in
    made_after first (story_of c.flush_due.new.self) c.args.seat c.args.now (record { opening = c.flush_due.ensures.opening; more = c.flush_due.ensures.steps })
    (subst (λ (s : Story). made_by s c.args.seat + flush_count s c.args.now + 1 ≤ most_steps) (sym same) c.requires.left)

pub returns-clause-does : goal.returns-clause-does
returns-clause-does c =
    let now = c.args.self.now in
    let first : Story = record { site = now.site; opening = now.opening; steps = c.ready.new.self.items } in
    let same : first ≡ story_of now = λ i. record { site = now.site; opening = now.opening; steps = c.ready.ensures.items i } in
    let tells = c.in-Ok.ensures.does in
    let before : Story = story_of c.flush_due.new.self in
    let last : Story = story_of c.append.new.self in
    let whole : Story = record { site = c.act_full.new.self; opening = last.opening; steps = last.steps } in
    let there : whole ≡ last = λ i. record { site = sym c.append.ensures.site i; opening = last.opening; steps = last.steps } in
    subst (λ (s : Story). ActsFor s last c.args.seat c.args.now c.args.request c.in-Some.copies) same
    (subst (λ (s : Story). ActsFor first s c.args.seat c.args.now c.args.request c.in-Some.copies) there
    (acts_for first (story_of c.flush_due.new.self) whole c.args.seat c.args.now c.flush_due.ensures.flush (record { opening = c.flush_due.ensures.opening; more = c.flush_due.ensures.steps })
    c.args.request true c.in-Ok.acted c.in-Some.copies tells (two_copies c.in-Some.copies c.in-Ok.acted.reply c.in-Ok.acted.copies c.in-Some.is tells.told.copies)
    (record { opening = c.append.ensures.opening; more = c.append.ensures.steps ∙ ap (λ (r : Request). before.steps ++ step_with c.args.seat (made_by before c.args.seat + 1) (Command c.args.now r) (Replied c.in-Ok.acted.reply) c.in-Ok.acted.victim c.in-Ok.acted.made ∷ []) c.forget_digest.ensures })))

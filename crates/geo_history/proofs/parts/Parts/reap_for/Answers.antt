use Rattle.std.proofs.Common.{◌≡◌, ◌+◌, ◌≤◌, ◌++◌, ◌∷◌, [], ℕ, subst, sym, List, Ok, Err, arith}
use Rattle.geo_site.specs.declared.refusal.ReapError.{ReapError}
use Rattle.geo_site.specs.declared.refusal.ReapError.TheVariants.{ClockEnded}
use Rattle.geo_site.specs.Sites.{ReapDoes}
use Rattle.geo_site.specs.declared.event.Event.TheVariants.{Reap}
use Rattle.geo_site.specs.declared.event.Answer.TheVariants.{Reaped, ReapRefused}
use Rattle.geo_history.specs.Keeping.{Story, step_of, story_of, made_by, flush_count, most_steps, ReapsFor}
use Rattle.geo_history.proofs.Calls.{reaps_for, made_after, few_flushes}
use Rattle.geo_history.proofs.parts.Parts.reap_for.Goals as goal

pub append-requires-clause-left : goal.append-requires-clause-left
append-requires-clause-left c =
    let now = c.args.self.now in
    let first : Story = record { site = now.site; opening = now.opening; steps = c.ready.new.self.items } in
    let same : first ≡ story_of now = λ i. record { site = now.site; opening = now.opening; steps = c.ready.ensures.items i } in
    made_after first (story_of c.flush_due.new.self) c.args.seat c.args.now (record { opening = c.flush_due.ensures.opening; more = c.flush_due.ensures.steps })
    (subst (λ (s : Story). made_by s c.args.seat + flush_count s c.args.now + 1 ≤ most_steps) (sym same) c.requires.left)

pub append-requires-in-Err-ClockEnded-clause-left : goal.append-requires-in-Err-ClockEnded-clause-left
append-requires-in-Err-ClockEnded-clause-left c =
    let now = c.args.self.now in
    let first : Story = record { site = now.site; opening = now.opening; steps = c.ready.new.self.items } in
    let same : first ≡ story_of now = λ i. record { site = now.site; opening = now.opening; steps = c.ready.ensures.items i } in
    made_after first (story_of c.flush_due.new.self) c.args.seat c.args.now (record { opening = c.flush_due.ensures.opening; more = c.flush_due.ensures.steps })
    (subst (λ (s : Story). made_by s c.args.seat + flush_count s c.args.now + 1 ≤ most_steps) (sym same) c.requires.left)

pub returns-in-Ok-clause-does : goal.returns-in-Ok-clause-does
returns-in-Ok-clause-does c =
    let now = c.args.self.now in
    let first : Story = record { site = now.site; opening = now.opening; steps = c.ready.new.self.items } in
    let same : first ≡ story_of now = λ i. record { site = now.site; opening = now.opening; steps = c.ready.ensures.items i } in
    let last : Story = story_of c.append.new.self in
    let whole : Story = record { site = c.reap.new.self; opening = last.opening; steps = last.steps } in
    let there : whole ≡ last = λ i. record { site = sym c.append.ensures.site i; opening = last.opening; steps = last.steps } in
    subst (λ (s : Story). ReapsFor s last c.args.seat c.args.now c.args.key.now (Ok c.in-Ok.done) (Reaped c.in-Ok.done)) same
    (subst (λ (s : Story). ReapsFor first s c.args.seat c.args.now c.args.key.now (Ok c.in-Ok.done) (Reaped c.in-Ok.done)) there
    (reaps_for first (story_of c.flush_due.new.self) whole c.args.seat c.args.now c.flush_due.ensures.flush (record { opening = c.flush_due.ensures.opening; more = c.flush_due.ensures.steps })
    c.args.key.now (Ok c.in-Ok.done) (Reaped c.in-Ok.done) c.in-Ok.ensures.does (record { opening = c.append.ensures.opening; more = subst (λ (k : List ℕ). c.append.new.self.steps.items ≡ c.flush_due.new.self.steps.items ++ step_of c.args.seat (made_by (story_of c.flush_due.new.self) c.args.seat + 1) (Reap c.args.now k) (Reaped c.in-Ok.done) ∷ []) (c.in-Ok-Ok.ensures') c.append.ensures.steps })))

pub returns-in-Err-ClockEnded-clause-does : goal.returns-in-Err-ClockEnded-clause-does
returns-in-Err-ClockEnded-clause-does c =
    let now = c.args.self.now in
    let first : Story = record { site = now.site; opening = now.opening; steps = c.ready.new.self.items } in
    let same : first ≡ story_of now = λ i. record { site = now.site; opening = now.opening; steps = c.ready.ensures.items i } in
    let last : Story = story_of c.append-in-Err-ClockEnded.new.self in
    let whole : Story = record { site = c.reap.new.self; opening = last.opening; steps = last.steps } in
    let there : whole ≡ last = λ i. record { site = sym c.append-in-Err-ClockEnded.ensures.site i; opening = last.opening; steps = last.steps } in
    subst (λ (s : Story). ReapsFor s last c.args.seat c.args.now c.args.key.now (Err ClockEnded) (ReapRefused ClockEnded)) same
    (subst (λ (s : Story). ReapsFor first s c.args.seat c.args.now c.args.key.now (Err ClockEnded) (ReapRefused ClockEnded)) there
    (reaps_for first (story_of c.flush_due.new.self) whole c.args.seat c.args.now c.flush_due.ensures.flush (record { opening = c.flush_due.ensures.opening; more = c.flush_due.ensures.steps })
    c.args.key.now (Err ClockEnded) (ReapRefused ClockEnded) (subst (λ (why : ReapError). ReapDoes c.flush_due.new.self.site c.reap.new.self c.args.now c.args.key.now (Err why)) c.in-Err-ClockEnded.field-0-is c.in-Err-ClockEnded.ensures.does) (record { opening = c.append-in-Err-ClockEnded.ensures.opening; more = subst (λ (k : List ℕ). c.append-in-Err-ClockEnded.new.self.steps.items ≡ c.flush_due.new.self.steps.items ++ step_of c.args.seat (made_by (story_of c.flush_due.new.self) c.args.seat + 1) (Reap c.args.now k) (ReapRefused ClockEnded) ∷ []) (c.in-Ok-Ok.ensures') c.append-in-Err-ClockEnded.ensures.steps })))

pub append-requires-clause-room : goal.append-requires-clause-room
append-requires-clause-room c =
    let now = c.args.self.now in
    let first : Story = record { site = now.site; opening = now.opening; steps = c.ready.new.self.items } in
    let few = few_flushes first c.args.now in
    omega (arith, few, c.flush_due.ensures.room, c.in-Ok-Ok.ensures.ok)

pub append-requires-in-Err-ClockEnded-clause-room : goal.append-requires-in-Err-ClockEnded-clause-room
append-requires-in-Err-ClockEnded-clause-room c =
    let now = c.args.self.now in
    let first : Story = record { site = now.site; opening = now.opening; steps = c.ready.new.self.items } in
    let few = few_flushes first c.args.now in
    omega (arith, few, c.flush_due.ensures.room, c.in-Ok-Ok.ensures.ok)

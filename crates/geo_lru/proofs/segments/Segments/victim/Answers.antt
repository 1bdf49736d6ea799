use Rattle.std.proofs.Common.{ℕ, ◌≤◌, subst}
use Rattle.geo_lru.specs.Lists.{Lists, places}
use Rattle.geo_lru.proofs.segments.Segments.victim.Goals as goal

pub returns-in-Some-clause-once : goal.returns-in-Some-clause-once
returns-in-Some-clause-once c = subst (λ (l : Lists). (item : ℕ) → places item l ≤ 1) c.self.view_is c.self.invariant.once

pub returns-in-Some-tail-clause-once : goal.returns-in-Some-tail-clause-once
returns-in-Some-tail-clause-once c = subst (λ (l : Lists). (item : ℕ) → places item l ≤ 1) c.self.view_is c.self.invariant.once

pub returns-in_err-item-clause-once : goal.returns-in_err-item-clause-once
returns-in_err-item-clause-once c = subst (λ (l : Lists). (item : ℕ) → places item l ≤ 1) c.self.view_is c.self.invariant.once

pub returns-clause-once : goal.returns-clause-once
returns-clause-once c = subst (λ (l : Lists). (item : ℕ) → places item l ≤ 1) c.self.view_is c.self.invariant.once

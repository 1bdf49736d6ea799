use Rattle.std.proofs.Common.{ℕ, ◌≤◌, nat_eq, Some, sym, ap, ◌∙◌, subst}
use Rattle.std.specs.Map.{lookup}
use Rattle.geo_lru.specs.Placed.{EachActive}
use Rattle.geo_lru.proofs.Placing.{there-found, lowest-active, lowest-indexed, each-stale, none-indexed}
use Rattle.geo_lru.proofs.cold.first_active.Goals as goal

pub returns-in-Some-active_at-clause-found : goal.returns-in-Some-active_at-clause-found
returns-in-Some-active_at-clause-found c =
    let place : ℕ = c.in-Some.place in
    let item : ℕ = c.in-Some.item in
    let f = there-found place (lookup (nat_eq item) c.args.entries.now.entries) c.in-Some-active_at.access (sym c.in-Some-active_at.ensures) in
    let up : EachActive (λ q _. place ≤ q) c.args.entries.now.entries = lowest-indexed c.loop-place.index place c.args.entries.now.entries c.in-Some.ensures.least c.loop-place.invariant in
    sym (lowest-active 18446744073709551616 item c.args.entries.now.entries f.0 c.requires.falling f.1 f.3 (subst (λ k. EachActive (λ q _. k ≤ q) c.args.entries.now.entries) (sym f.2) up)
    ∙ ap (λ a. Some (item, a)) f.4)

pub loop-place-preserved : goal.loop-place-preserved
loop-place-preserved c = each-stale c.loop-place.index c.remove.new.self c.in-Some.place c.in-Some.item c.args.entries.now.entries c.len-len.ensures.valid.0 c.in-Some.ensures.found
    (sym c.in_default-active_at.ensures) c.remove.ensures.updates.0 c.loop-place.invariant

pub returns-clause-found : goal.returns-clause-found
returns-clause-found c = sym (none-indexed c.loop-place.index c.args.entries.now.entries c.in_default.ensures.none c.loop-place.invariant)

use Rattle.std.proofs.Common.{[], ◌∷◌, ◌++◌, refl}
use Rattle.geo_site.specs.Machine.{act_held}
use Rattle.geo_plain.specs.declared.knowledge.Knowledge.{Knowledge}
use Rattle.geo_plain.specs.Plain.{act_of, stamped}
use Rattle.geo_plain.proofs.Knowing.{knows_issued}
use Rattle.geo_plain.proofs.knowledge.Knowledge.issue.Goals as goal

pub returns-clause-issued : goal.returns-clause-issued
returns-clause-issued c = λ ops held k.
    let mid = c.hold.new.self in
    let between : Knowledge = record { ops = c.push.new.self; changes = mid.changes; hits = mid.hits; misses = mid.misses; evictions = mid.evictions; waiting = mid.waiting; reap_after = mid.reap_after; retired = mid.retired } in
    let act = act_of c.args.act in
    c.in_ok-settle.ensures.settles (ops ++ stamped c.args.stamp act ∷ []) (act_held act held)
    (knows_issued mid between c.args.stamp c.args.act c.in_ok-push.ensures.items refl ops (act_held act held) (c.in_ok-hold.ensures.held ops held k))

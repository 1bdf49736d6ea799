use Rattle.std.proofs.Common.{◌≡◌, subst, sym}
use Rattle.geo_lru.specs.Lists.{Lists, places}
use Rattle.geo_lru.proofs.Calls.{apart-entered}
use Rattle.geo_lru.proofs.segments.Segments.enter.Goals as goal

pub invariant_of-self-2 : goal.invariant_of-self-2
invariant_of-self-2 c =
    let now : Lists = record { hot = c.self.inside.hot; warm = c.self.inside.warm; cold = c.self.inside.cold } in
    rw (c.in_ok-push_head.ensures.pushed, c.unseen.ensures) (apart-entered c.args.item now c.self.invariant (subst (λ (l : Lists). places c.args.item l ≡ 0) (sym c.self.view_is) c.requires))

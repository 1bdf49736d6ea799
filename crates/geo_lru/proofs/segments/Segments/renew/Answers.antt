use Rattle.std.proofs.Common.{◌≡◌, sym, ◌∙◌, subst}
use Rattle.geo_lru.specs.Lists.{Lists, IsApart, present}
use Rattle.geo_lru.proofs.Places.{missing}
use Rattle.geo_lru.proofs.Calls.{if_refused, apart-renewed, renewed-hot, renewed-warm, renewed-cold}
use Rattle.geo_lru.proofs.segments.Segments.renew.Goals as goal

pub invariant_of-self : goal.invariant_of-self
invariant_of-self c =
    let now : Lists = record { hot = c.self.inside.hot; warm = c.self.inside.warm; cold = c.self.inside.cold } in
    rw (c.renew.ensures.renewed, c.if-renew.true) (subst IsApart (renewed-hot c.args.known now c.self.invariant (sym c.renew.ensures.found ∙ c.if-renew.true)) (apart-renewed c.args.known now c.self.invariant))

pub returns-then-renew-clause-renewed : goal.returns-then-renew-clause-renewed
returns-then-renew-clause-renewed c =
    let now : Lists = record { hot = c.self.inside.hot; warm = c.self.inside.warm; cold = c.self.inside.cold } in
    rw (c.renew.ensures.renewed, c.if-renew.true, ← c.self.view_is) (sym (renewed-hot c.args.known now c.self.invariant (sym c.renew.ensures.found ∙ c.if-renew.true)))

pub push_head-requires : goal.push_head-requires
push_head-requires c = rw (c.renew.ensures.renewed, c.if-renew.false) (missing c.args.known c.self.inside.hot (sym c.renew.ensures.found ∙ c.if-renew.false))

pub returns-in_err-push_head-clause-not_hot : goal.returns-in_err-push_head-clause-not_hot
returns-in_err-push_head-clause-not_hot c =
    if_refused c.from_residual.result _ (subst (λ (l : Lists). present c.args.known l.hot ≡ 0) c.self.view_is (missing c.args.known c.self.inside.hot (sym c.renew.ensures.found ∙ c.if-renew.false)))

pub invariant_of-self-then-remove : goal.invariant_of-self-then-remove
invariant_of-self-then-remove c =
    let now : Lists = record { hot = c.self.inside.hot; warm = c.self.inside.warm; cold = c.self.inside.cold } in
    rw (c.in_ok-push_head.ensures.pushed, c.renew.ensures.renewed, c.if-renew.false, c.remove.ensures.removed, c.unseen.ensures)
    (subst IsApart (renewed-warm c.args.known now c.self.invariant (sym c.renew.ensures.found ∙ c.if-renew.false) (sym c.remove.ensures.found ∙ c.if-remove.true)) (apart-renewed c.args.known now c.self.invariant))

pub returns-then-remove-clause-renewed : goal.returns-then-remove-clause-renewed
returns-then-remove-clause-renewed c =
    let now : Lists = record { hot = c.self.inside.hot; warm = c.self.inside.warm; cold = c.self.inside.cold } in
    rw (c.in_ok-push_head.ensures.pushed, c.renew.ensures.renewed, c.if-renew.false, c.remove.ensures.removed, c.unseen.ensures, ← c.self.view_is)
    (sym (renewed-warm c.args.known now c.self.invariant (sym c.renew.ensures.found ∙ c.if-renew.false) (sym c.remove.ensures.found ∙ c.if-remove.true)))

pub invariant_of-self-2 : goal.invariant_of-self-2
invariant_of-self-2 c =
    let now : Lists = record { hot = c.self.inside.hot; warm = c.self.inside.warm; cold = c.self.inside.cold } in
    rw (c.in_ok-push_head.ensures.pushed, c.renew.ensures.renewed, c.if-renew.false, c.remove.ensures.removed, c.remove-2.ensures.removed, c.unseen.ensures)
    (subst IsApart (renewed-cold c.args.known now (sym c.renew.ensures.found ∙ c.if-renew.false)) (apart-renewed c.args.known now c.self.invariant))

pub returns-clause-renewed : goal.returns-clause-renewed
returns-clause-renewed c =
    let now : Lists = record { hot = c.self.inside.hot; warm = c.self.inside.warm; cold = c.self.inside.cold } in
    rw (c.in_ok-push_head.ensures.pushed, c.renew.ensures.renewed, c.if-renew.false, c.remove.ensures.removed, c.remove-2.ensures.removed, c.unseen.ensures, ← c.self.view_is)
    (sym (renewed-cold c.args.known now (sym c.renew.ensures.found ∙ c.if-renew.false)))

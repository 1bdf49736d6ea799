use Rattle.std.proofs.Common.{sym, subst}
use Rattle.geo_frame.specs.declared.message.Message.{Message}
use Rattle.geo_frame.specs.Payloads.{PayloadInRange, payload_of}
use Rattle.geo_gossip.specs.Receiving.{IsPassed}
use Rattle.geo_gossip.proofs.Hearing.{is_asked, is_passed}
use Rattle.geo_gossip.proofs.receiving.heard.Goals as goal

pub returns-then-not-is_fit-clause-becomes : goal.returns-then-not-is_fit-clause-becomes
returns-then-not-is_fit-clause-becomes g c =
    is_passed _ _ c.args.message c.args.link.now c.args.seat.now
    (subst (λ (m : Message). IsPassed (payload_of m)) (sym c.in-Ask.is) (λ r. absurd (cc (c.if-not-is_fit.true, c.requires.1 (subst (λ (m : Message). PayloadInRange (payload_of m)) (sym c.in-Ask.is) r)))))

pub returns-in-Ok-clause-becomes : goal.returns-in-Ok-clause-becomes
returns-in-Ok-clause-becomes g c =
    is_asked _ _ c.args.message _ c.in-Ok.field-0 _ _ c.args.seat.now c.in-Ask.is c.in-Ok.ensures.offered

pub returns-clause-becomes : goal.returns-clause-becomes
returns-clause-becomes g c = is_passed _ _ c.args.message c.args.link.now c.args.seat.now (subst (λ (m : Message). IsPassed (payload_of m)) (sym c.in-Offer.is) tt)

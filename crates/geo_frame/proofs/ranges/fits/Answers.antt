use Rattle.std.proofs.Common.{sym, subst}
use Rattle.std.specs.Prelude.{◌↔◌, IsTrue}
use Rattle.geo_frame.specs.declared.message.Message.{Message}
use Rattle.geo_frame.specs.Payloads.{PayloadInRange, payload_of}
use Rattle.geo_frame.proofs.Within.{ask_in_range, offer_in_range}
use Rattle.geo_frame.proofs.ranges.fits.Goals as goal

pub returns-in-Ask : goal.returns-in-Ask
returns-in-Ask c =
    let fits = c.ask_fits.ensures in
    subst (λ (m : Message). IsTrue c.ask_fits.result ↔ PayloadInRange (payload_of m)) (sym c.in-Ask.is) (ask_in_range _ _ fits.sites fits.key fits.digest)

pub returns-in-Offer : goal.returns-in-Offer
returns-in-Offer c =
    let fits = c.offer_fits.ensures in
    subst (λ (m : Message). IsTrue c.offer_fits.result ↔ PayloadInRange (payload_of m)) (sym c.in-Offer.is) (offer_in_range _ _ _ fits.range fits.key fits.digest)

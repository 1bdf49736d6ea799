use Rattle.std.proofs.Common.{◌≡◌, ◌≤◌, arith, length, refl, sym, subst}
use Rattle.geo_frame.specs.declared.message.Message.{Message}
use Rattle.geo_frame.specs.Payloads.{PayloadInRange, payload_of}
use Rattle.geo_frame.specs.Spelling.{frame_of, longest_frame}
use Rattle.geo_frame.proofs.length.frame_length.Goals as goal

pub returns-in-Ask : goal.returns-in-Ask
returns-in-Ask c =
    let n = c.ask_length.result in
    let ranges = subst (λ (m : Message). PayloadInRange (payload_of m)) c.in-Ask.is c.requires in
    subst (λ (m : Message). (n ≡ length (frame_of (payload_of m))) × (n ≤ longest_frame)) (sym c.in-Ask.is) (c.ask_length.ensures.exact _ refl ranges.digest, omega (arith, c.ask_length.ensures.most))

pub returns-in-Offer : goal.returns-in-Offer
returns-in-Offer c =
    let n = c.offer_length.result in
    let ranges = subst (λ (m : Message). PayloadInRange (payload_of m)) c.in-Offer.is c.requires in
    subst (λ (m : Message). (n ≡ length (frame_of (payload_of m))) × (n ≤ longest_frame)) (sym c.in-Offer.is) (c.offer_length.ensures.exact _ refl ranges.0.digest, omega (arith, c.offer_length.ensures.most))

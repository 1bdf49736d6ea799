use Rattle.geo_audit.proofs.sent.note_last.Goals as goal

pub returns : goal.returns
returns c = λ q. c.in_ok-insert.ensures.updates.0 q

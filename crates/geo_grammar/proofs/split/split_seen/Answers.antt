use Rattle.std.proofs.Common.{arith, ◌≡◌, ◌++◌, ◌+◌, ◌≤◌, ◌∷◌, length, take, drop, sym, ap, ◌∙◌, length-append, length-take}
use Rattle.std.proofs.lemmas.List.{take_all}
use Rattle.geo_grammar.specs.Limits.{longest_line}
use Rattle.geo_grammar.specs.Places.{NoEnd}
use Rattle.geo_grammar.proofs.Transitions.{step_seen, step_line, step_long, near_line}
use Rattle.geo_grammar.proofs.split.split_seen.Goals as goal

pub returns-in-Some-clause-leads : goal.returns-in-Some-clause-leads
returns-in-Some-clause-leads c =
    let piece = c.args.piece.now in
    let front = c.in-Some.front.now in
    let near : take c.min.result piece ≡ front ++ 10 ∷ c.in-Some.field-0-1.now = sym c.split_at.ensures.front ∙ c.in-Some.ensures.end.1 in
    rw c.split_at-in-Some.ensures.back (step_line c.args.seen.now piece front (drop (length front + 1) piece) c.in-Some.ensures.end.0 (omega (arith, ap length near, length-append front (10 ∷ c.in-Some.field-0-1.now), length-take c.min.result piece, c.min.ensures)) (near_line piece front c.in-Some.field-0-1.now c.min.result near))

pub returns-then-near-room-clause-leads : goal.returns-then-near-room-clause-leads
returns-then-near-room-clause-leads c =
    let piece = c.args.piece.now in
    let none : NoEnd (take c.min.result piece) = rw (sym c.split_at.ensures.front) c.in_default.ensures.end in
    step_long c.args.seen.now piece c.min.result none c.requires (omega (arith, c.min.ensures, length-take c.min.result piece, c.if-near-room.true))

pub returns-else-near-room-clause-leads : goal.returns-else-near-room-clause-leads
returns-else-near-room-clause-leads c =
    let piece = c.args.piece.now in
    let none : NoEnd (take c.min.result piece) = rw (sym c.split_at.ensures.front) c.in_default.ensures.end in
    let fits : length piece ≤ c.min.result = omega (arith, c.min.ensures, c.if-near-room.false, length-take c.min.result piece) in
    let whole : NoEnd piece = rw (sym (take_all c.min.result piece fits)) none in
    let room : length c.args.seen.now + length piece ≤ longest_line = omega (arith, c.requires, c.if-near-room.false, ap length c.split_at.ensures.front, ap length (take_all c.min.result piece fits)) in
    (step_seen c.args.seen.now piece whole room, room)

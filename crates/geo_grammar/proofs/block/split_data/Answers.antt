use Rattle.std.proofs.Common.{rules, arith, ◌-◌, [], length, take, drop, refl, length-append, length-take}
use Rattle.geo_grammar.specs.Places.{Skips}
use Rattle.geo_grammar.specs.declared.fault.BlockFault.TheVariants.{BadData}
use Rattle.geo_grammar.proofs.Transitions.{step_data, step_bad, block_bad, block_return, block_last, leads_stay}
use Rattle.geo_grammar.proofs.block.split_data.Goals as goal

pub returns-then-piece-room-clause-leads : goal.returns-then-piece-room-clause-leads
returns-then-piece-room-clause-leads c = (step_data c.args.head.now c.args.got.now c.args.piece.now _ (omega arith) refl, omega (arith, length-append c.args.got.now c.args.piece.now))

pub returns-then-tail-ne13-clause-leads : goal.returns-then-tail-ne13-clause-leads
returns-then-tail-ne13-clause-leads c =
    let n = c.args.head.now.size - length c.args.got.now in
    let tail = drop n c.args.piece.now in
    rw c.split_at.ensures.back (step_bad c.args.head.now c.args.got.now c.args.piece.now n [] (Skips 0 BadData) tail (omega arith) (omega arith) (search rules) (leads_stay (Skips 0 BadData) tail), search rules)

pub returns-then-tail-eq1-clause-leads : goal.returns-then-tail-eq1-clause-leads
returns-then-tail-eq1-clause-leads c =
    let n = c.args.head.now.size - length c.args.got.now in
    rw c.split_at.ensures.front (block_return c.args.head.now c.args.got.now c.args.piece.now n (omega arith) (omega arith) (search rules) (search rules), omega (arith, length-append c.args.got.now (take n c.args.piece.now), length-take n c.args.piece.now))

pub returns-then-tail-ne10-clause-leads : goal.returns-then-tail-ne10-clause-leads
returns-then-tail-ne10-clause-leads c =
    let n = c.args.head.now.size - length c.args.got.now in
    rw c.split_at.ensures.back (block_bad c.args.head.now c.args.got.now c.args.piece.now n (omega arith) (omega arith) (search rules) (search rules) (search rules), search rules)

pub returns-clause-leads : goal.returns-clause-leads
returns-clause-leads c =
    let n = c.args.head.now.size - length c.args.got.now in
    rw (c.split_at-2.ensures.back, c.split_at.ensures.back, c.split_at.ensures.front) (block_last c.args.head.now c.args.got.now c.args.piece.now n (omega arith) (omega arith) (search rules) (search rules) (search rules))

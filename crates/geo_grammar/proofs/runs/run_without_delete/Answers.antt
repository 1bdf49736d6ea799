use Rattle.std.proofs.Common.{eqb, sym, ap, ◌∙◌, arith, w8}
use lib.Count.{count_trailing_zeros}
use Rattle.std.proofs.lemmas.Simd.{bitmask_splat, leading_from_mask_l, trailing_mask_l}
use Rattle.geo_grammar.proofs.runs.run_without_delete.Goals as goal

pub returns-then-found-eq0 : goal.returns-then-found-eq0
returns-then-found-eq0 c =
    let bytes = c.args.bytes in
    let found = bitmask_splat w8 eqb bytes 16 127 c.requires (omega arith) in
    sym (leading_from_mask_l (λ b. eqb b 127) bytes (sym found ∙ c.if-found-eq0.true) ∙ c.requires)

pub returns-else-found-eq0 : goal.returns-else-found-eq0
returns-else-found-eq0 c =
    let bytes = c.args.bytes in
    let found = bitmask_splat w8 eqb bytes 16 127 c.requires (omega arith) in
    ap (count_trailing_zeros 64) found ∙ trailing_mask_l (λ b. eqb b 127) 64 bytes (omega (arith, c.requires)) (omega arith)

use Rattle.std.proofs.Common.{◌∙◌, ◌++◌, ◌∷◌, [], take, refl, sym, ap, arith}
use Rattle.std.proofs.lemmas.List.{take_all, take_more, take_more_set, length-set}
use Rattle.geo_stamp.proofs.acks.Acks.copied.Goals as goal

pub loop-index-init : goal.loop-index-init
loop-index-init c = (c.rows.invariant.rows_many, refl)

pub loop-index-preserved : goal.loop-index-preserved
loop-index-preserved c =
    let i = c.loop-index.index in
    let rows = c.loop-index.rows in
    let own = c.self.inside.rows in
    let d = c.index-self-index.result in
    let long = c.loop-index.invariant.0 in (
      length-set rows i c.copied.result ∙ long,
      take_more_set rows i c.copied.result (omega (arith, long)) ∙ ap (λ xs. xs ++ c.copied.result ∷ []) c.loop-index.invariant.1
          ∙ ap (λ x. take i own ++ x ∷ []) c.copied.ensures ∙ sym (take_more own i d (omega (arith, c.self.invariant.rows_many))),
    )

pub invariant_of-result : goal.invariant_of-result
invariant_of-result c = record { rows_many = c.loop-index.invariant.0; told_many = c.self.invariant.told_many; range = c.self.invariant.range }

pub returns : goal.returns
returns c =
    let rows = sym (take_all c.loop-index.index c.loop-index.rows (omega (arith, c.loop-index.invariant.0))) ∙ c.loop-index.invariant.1 ∙ take_all c.loop-index.index c.self.inside.rows (omega (arith, c.self.invariant.rows_many)) in
    (λ i. record { rows = rows i; told = c.self.inside.told; set = c.self.inside.set; reached = c.self.inside.reached }) ∙ c.self.view_is

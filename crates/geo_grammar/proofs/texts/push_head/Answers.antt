use Rattle.std.proofs.Transfers.{starts_with_of_append, starts_with_trans}
use Rattle.geo_grammar.proofs.texts.push_head.Goals as goal

pub returns-clause-keeps : goal.returns-clause-keeps
returns-clause-keeps c =
    let first = starts_with_of_append _ _ _ c.in_ok-extend_from_slice.ensures.items in
    let key = starts_with_trans _ _ _ (starts_with_of_append _ _ _ c.in_ok-extend_from_slice-2.ensures.items) first in
    let space = starts_with_trans _ _ _ (starts_with_of_append _ _ _ c.in_ok-extend_from_slice-3.ensures.items) key in
    let flags = starts_with_trans _ _ _ c.push_number.ensures.keeps space in
    starts_with_trans _ _ _ c.push_number-2.ensures.keeps (starts_with_trans _ _ _ (starts_with_of_append _ _ _ c.in_ok-extend_from_slice-4.ensures.items) flags)

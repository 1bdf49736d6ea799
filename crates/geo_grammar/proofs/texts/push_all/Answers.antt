use Rattle.std.proofs.Transfers.{starts_with_of_append, starts_with_trans}
use Rattle.geo_grammar.proofs.texts.push_all.Goals as goal

pub returns-in_err-push_found-clause-keeps : goal.returns-in_err-push_found-clause-keeps
returns-in_err-push_found-clause-keeps c = starts_with_trans _ _ _ c.push_found.ensures.keeps (starts_with_of_append _ _ _ c.loop-found.invariant)

use Rattle.std.proofs.Common.{sym, ◌∙◌}
use Rattle.geo_grammar.proofs.Transitions.{at_end}
use Rattle.geo_grammar.proofs.feed.feed_state.Goals as goal

pub returns-in-Ended-clause-items : goal.returns-in-Ended-clause-items
returns-in-Ended-clause-items c = rw c.in-Ended.is (c.new-in-Ended.ensures.items ∙ sym (at_end c.args.piece.now).gives)

pub returns-in-Ended-clause-next : goal.returns-in-Ended-clause-next
returns-in-Ended-clause-next c = rw c.in-Ended.is (sym (at_end c.args.piece.now).ends)

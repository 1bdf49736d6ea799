use Rattle.std.proofs.Common.{refl, sym, ◌∙◌}
use Rattle.geo_dialogue.proofs.Going.{telling_left, none_waits_there, some_waits_there, telling_none}
use Rattle.geo_dialogue.proofs.pending.Pending.is_done.Goals as goal

pub returns-then-is_some : goal.returns-then-is_some
returns-then-is_some c = telling_left c.args.self.now c.args.self.now.some (sym c.is_some.ensures ∙ c.if-is_some.true)

pub returns-in-Some : goal.returns-in-Some
returns-in-Some c = some_waits_there c.args.self.now c.args.self.now.waiting.items refl (c.in-Some.ensures.item.3).0

pub returns-in-None : goal.returns-in-None
returns-in-None c = none_waits_there c.args.self.now c.args.self.now.waiting.items refl (telling_none c.args.self.now.telling (sym c.is_some.ensures ∙ c.if-is_some.false)) (c.in-None.ensures.item.3)

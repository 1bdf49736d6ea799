use Rattle.std.proofs.Common.{◌∙◌, sym, ap}
use Rattle.std.specs.Ordering.{is_eq}
use Rattle.std.specs.Cmp.Lexicographic.{texts_ties}
use Rattle.geo_records.proofs.order.is_same.Goals as goal

pub returns-then-a-b : goal.returns-then-a-b
returns-then-a-b c = c.is_eq.ensures ∙ ap is_eq c.order.ensures ∙ sym (texts_ties c.args.a.now c.args.b.now)

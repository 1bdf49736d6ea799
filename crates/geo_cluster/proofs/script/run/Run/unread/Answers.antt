use Rattle.std.proofs.Common.{refl, sym, ◌∙◌}
use Rattle.geo_cluster.specs.Sayings.{said}
use Rattle.geo_cluster.proofs.Wanting.{wants_carried, bad_uncarried}
use Rattle.geo_cluster.proofs.script.run.Run.unread.Goals as goal

pub returns-then-carries_text-clause-ends : goal.returns-then-carries_text-clause-ends
returns-then-carries_text-clause-ends c = λ p st. (c.requires.skipped, wants_carried p (said c.args.line.now) _ _ (c.carries_text.ensures c.requires.text) (sym (c.sites.ensures ∙ st.sites)) c.if-carries_text.true)

pub returns-else-carries_text-clause-ends : goal.returns-else-carries_text-clause-ends
returns-else-carries_text-clause-ends c = λ p st. ((c.requires.skipped, bad_uncarried p (said c.args.line.now) _ _ (c.carries_text.ensures c.requires.text) (sym (c.sites.ensures ∙ st.sites)) c.if-carries_text.false), refl)

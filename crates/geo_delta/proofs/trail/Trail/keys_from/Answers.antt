use Rattle.std.proofs.Common.{sym, ap, ◌∙◌, arith, [], ◌∷◌, ◌++◌, subst}
use Rattle.std.specs.List.{All}
use Rattle.std.proofs.lemmas.List.Elements.{All-push}
use Rattle.geo_delta.specs.Heads.{IsBehind, keys_under}
use Rattle.geo_delta.proofs.Heads.{keys_push}
use Rattle.geo_delta.proofs.Spans.{keys_more, there}
use Rattle.geo_delta.proofs.trail.Trail.keys_from.Goals.{in-Some+in_ok-push, in_default}
use Rattle.geo_delta.proofs.trail.Trail.keys_from.Goals as goal

pub loop-i-preserved : goal.loop-i-preserved
loop-i-preserved c =
    elim c.match-get.branch [
      | in-Some+in_ok-push w ↦
          let keys = c.loop-i.keys.items in
          let more = ap (λ x. x.items) w.keys-is ∙ w.in_ok-push.ensures.items in
          record {
            keys =
                keys_more c.args.first c.loop-i.i c.self.inside.ring.items w.in-Some.change.now (keys_under keys) _ (omega arith) (sym w.in-Some.ensures) c.loop-i.invariant.keys
                (ap keys_under more ∙ keys_push keys w.new.result ∙ ap (λ k. keys_under keys ++ k ∷ []) w.new.ensures.key);
            heads = subst (All (IsBehind c.begin_from-begin.result.now)) (sym more) (All-push (IsBehind c.begin_from-begin.result.now) keys w.new.result c.loop-i.invariant.heads w.new.ensures.head);
          }
      | in_default w ↦ absurd (there c.self.inside.ring.items c.loop-i.i (omega arith) (sym w.in_default.ensures))
    ]

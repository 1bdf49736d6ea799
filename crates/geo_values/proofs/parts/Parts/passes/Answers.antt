use Rattle.std.proofs.Common.{◌≡◌, List, ℕ, Option, Some, IfSome, refl, subst}
use Rattle.geo_values.specs.Stock.{TestAnswers}
use Rattle.geo_values.specs.Links.{links_in}
use Rattle.geo_values.specs.Steps.{MayAnswer}
use Rattle.geo_values.specs.declared.parts.Item.{Item}
use Rattle.geo_values.proofs.Linked.{holds_some}
use Rattle.geo_values.proofs.Retained.{answers-item}
use Rattle.geo_values.proofs.parts.Parts.passes.Goals as goal

pub bytes-length-requires : goal.bytes-length-requires
bytes-length-requires g c = holds_some c.requires.linked c.in-Some.key.now c.in-Some.item.now c.in-Some.ensures.value

pub returns-clause-found : goal.returns-clause-found
returns-clause-found g c =
    subst (λ (o : Option (List ℕ × Item)). IfSome o (λ e. (links_in c.args.self.now).item e.0 ≡ Some e.1)) c.in-Some.ensures.entry c.in-Some.ensures.value

pub returns-clause-told : goal.returns-clause-told
returns-clause-told g c =
    subst (λ (o : Option (List ℕ × Item)). IfSome o (λ e. MayAnswer (TestAnswers g.F.Fn c.args.keep.now) (links_in c.args.self.now) e.0 c.keep.result)) c.in-Some.ensures.entry
    (answers-item g.F.Fn c.args.keep.now (links_in c.args.self.now) c.requires.linked c.in-Some.key.now c.in-Some.item.now c.in-Some.ensures.value c.bytes-length.result.now c.bytes-length.ensures c.in-Some.key _ refl refl c.keep.result c.keep.ensures)

use Rattle.std.proofs.Common.{sym, subst}
use Rattle.std.proofs.Math.Logic.{∥∥₁_map}
use Rattle.geo_history.specs.Stories.{story_in}
use Rattle.geo_station.specs.Wholes.{IsWhole}
use Rattle.geo_station.proofs.Noting.{whole_seated}
use Rattle.geo_station.proofs.desk.Desk.seat.Goals as goal

pub invariant_of-self-2-clause-whole : goal.invariant_of-self-2-clause-whole
invariant_of-self-2-clause-whole g c =
    let story = story_in c.args.self.now.kept in
    subst (λ all. ∥ IsWhole story all ∥₁) (sym c.in-Some.ensures.given.1) (∥∥₁_map c.args.self.now.whole (whole_seated story c.args.self.now.journal))

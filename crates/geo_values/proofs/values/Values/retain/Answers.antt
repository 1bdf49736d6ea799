use Rattle.std.proofs.Common.{◌≤◌, subst, arith}
use Rattle.geo_values.specs.Stock.{TestAnswers, IsRetained}
use Rattle.geo_values.specs.Held.{count_in}
use Rattle.geo_values.specs.Links.{Kept, links_of, links_in, kept_in, stock_of}
use Rattle.geo_values.proofs.Found.{counted}
use Rattle.geo_values.proofs.values.Values.retain.Goals as goal

pub returns-clause-retained : goal.returns-clause-retained
returns-clause-retained g c =
    subst (λ (k : Kept). IsRetained (TestAnswers g.F.Fn c.args.keep) (stock_of (links_of k)) (stock_of (links_in c.retain.new.self))) c.self.view_is c.retain.ensures.retained

pub returns-clause-no_more : goal.returns-clause-no_more
returns-clause-no_more g c =
    subst (λ (k : Kept). count_in (kept_in c.retain.new.self) ≤ count_in k) c.self.view_is (omega (arith, counted (kept_in c.retain.new.self), counted (kept_in c.self.inside.parts), c.retain.ensures.no_more))

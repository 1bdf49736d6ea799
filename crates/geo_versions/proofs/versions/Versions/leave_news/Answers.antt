use Rattle.std.proofs.Common.{rules, ap, ◌∙◌, ◌≡◌, sym, subst}
use Rattle.std.specs.List.{All}
use Rattle.geo_records.specs.Operations.{record_joined}
use Rattle.geo_versions.specs.Maps.{record_in, rec_means, listed_at}
use Rattle.geo_versions.proofs.Brought.{same_joined, each_brings}
use Rattle.geo_versions.proofs.versions.Versions.leave_news.Goals as goal

pub returns-clause-same : goal.returns-clause-same
returns-clause-same c = λ q.
    let own = record_in c.args.self.now in
    let left = c.retain.ensures.filtered in
    ap (λ es. record_joined (own q) (listed_at es q)) left.4
    ∙ same_joined own _ _ (λ e b g call. (search rules, search rules)) left.0 c.args.records.now.items left.1 left.2 left.3 q

pub returns-clause-news : goal.returns-clause-news
returns-clause-news c =
    let own = record_in c.args.self.now in
    let left = c.retain.ensures.filtered in
    subst (All (λ e. record_joined (own e.0) (rec_means e.1) ≡ own e.0 → ⊥)) (sym left.4)
    (each_brings own _ _ (λ e b g call. (search rules, search rules)) left.0 c.args.records.now.items left.1 left.2 left.3)

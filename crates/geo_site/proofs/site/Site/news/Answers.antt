use Rattle.std.proofs.Common.{◌∙◌, ap, arith, List, ℕ}
use Rattle.geo_maps.specs.Maps.{missing}
use Rattle.geo_records.specs.Keys.{same_key}
use Rattle.geo_versions.specs.Maps.{Rec, rec_means}
use Rattle.geo_site.specs.Machine.{knows_record}
use Rattle.geo_site.specs.Sites.{knows_all}
use Rattle.geo_site.proofs.Parted.{all_left, missing_left}
use Rattle.geo_site.proofs.site.Site.news.Goals as goal

pub returns-clause-fewer : goal.returns-clause-fewer
returns-clause-fewer c room =
    let mine = c.args.self.now.versions.records.entries in
    let left = c.leave_news.ensures.left in
    let is = ap (λ (es : List (List ℕ × Rec)). missing same_key mine es) (c.of.ensures ∙ left.1) in
    let was = ap (λ (es : List (List ℕ × Rec)). missing same_key mine es) c.into_vec-all.ensures in
    let fewer = missing_left same_key mine left.0 c.into_vec-all.result.items in
    omega (arith, room, is, was, fewer)

pub returns-clause-known : goal.returns-clause-known
returns-clause-known c v known =
    let left = c.leave_news.ensures.left in
    ap (knows_all v) (c.of.ensures ∙ left.1)
    ∙ all_left (λ (e : List ℕ × Rec). knows_record v (rec_means e.1)) left.0 c.into_vec-all.result.items (ap (knows_all v) c.into_vec-all.ensures ∙ known)

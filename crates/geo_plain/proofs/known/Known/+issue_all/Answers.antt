use Rattle.std.proofs.Common.{◌∷◌, List, ◌-◌, length, take, drop, sym, ap, ◌∙◌, subst}
use Rattle.geo_records.specs.Operations.{Act as ActOf}
use Rattle.geo_plain.specs.Plain.{act_of, acts_of, ChangeAdds}
use Rattle.geo_plain.proofs.Touching.{first_of, adds_more}
use Rattle.geo_plain.proofs.known.Known.+issue_all.Goals as goal

pub returns-in_ok-issue-in-len1-up-clause-adds : goal.returns-in_ok-issue-in-len1-up-clause-adds
returns-in_ok-issue-in-len1-up-clause-adds n c =
    let old = c.args.self.now in
    let mid = c.issue.new.self in
    let new = c.issue_all.new.self in
    let act = c.act-item.result in
    let rest = take (length c.args.acts.now - 1) (drop 1 c.args.acts.now) in
    let all = first_of c.args.acts.now act c.in-len1-up.len_at_least c.act-item.is in
    let same = ap act_of c.in_ok-act-in-len1-up.ensures in
    subst (λ (acts : List ActOf). ChangeAdds old new c.args.site (λ w. acts) c.issue_all.result) ((λ i. same i ∷ acts_of rest) ∙ ap acts_of (sym all))
    (adds_more old mid new c.args.site (act_of c.in_ok-act-in-len1-up.act) (acts_of rest) c.in_ok-issue-in-len1-up.ensures.adds c.issue_all.result c.issue_all.ensures.adds)

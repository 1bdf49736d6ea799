use Rattle.std.proofs.Common.{◌≤◌, ◌∙◌, ap, subst, List, ℕ, IfSome}
use Rattle.geo_maps.specs.Maps.{get, IsColumn}
use Rattle.geo_records.specs.Keys.{same_key}
use Rattle.geo_versions.specs.Records.{Rec, rec_means, record_at, lasting_of}
use Rattle.geo_versions.proofs.Cut.{changed_above, cut_normal}
use Rattle.geo_versions.proofs.Lasting.{lasts_found}
use Rattle.geo_versions.proofs.versions.Versions.raise_floor.Goals as goal

pub invariant_of-self : goal.invariant_of-self
invariant_of-self c =
    let normal = λ (q : List ℕ). cut_normal c.later.result (record_at c.args.self.now.records q) (record_at c.change_all.new.self q)
    (c.change_all.ensures.changed q ∙ changed_above c.later.result (get same_key c.args.self.now.records q)) in
    let all = c.note_all-self.ensures in
    let new = c.change_all.new.self in
    let result = c.note_all-self.result in
    let cut = ap (λ o. o.floor) all.measures.1 in
    record {
      column = all.column;
      lasting_column = subst (λ f. IsColumn (λ (r : Rec). lasting_of f (rec_means r)) new.entries c.note_all-self.new.self.others.items) cut all.other;
      cut = cut;
      lasts = λ q. lasts_found c.later.result result (get same_key new q) (subst (λ f. IfSome (get same_key new q) (λ (v : Rec). result ≤ lasting_of f (rec_means v))) cut (all.least q)) (normal q);
      above = normal;
    }

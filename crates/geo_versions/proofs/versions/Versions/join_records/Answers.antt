use Rattle.std.proofs.Common.{rules, ◌≡◌, ◌≤◌, ◌∙◌, ap, sym, subst, List, ℕ, IfSome}
use Rattle.std.specs.List.{All}
use Rattle.geo_maps.specs.Maps.{get, IsColumn}
use Rattle.geo_records.specs.Keys.{same_key}
use Rattle.geo_records.specs.Operations.{above_both, record_joined}
use Rattle.geo_versions.specs.Records.{Rec, rec_means, record_at, listed_at, LastsTo, lasting_of}
use Rattle.geo_versions.proofs.Cut.{changed_above, listed_above, cut_normal, joined_at_floor, joined_at_rise}
use Rattle.geo_versions.proofs.Lasting.{lasts_less, lasts_joined, lasts_listed, lasts_found}
use Rattle.geo_versions.proofs.versions.Versions.join_records.Goals as goal

pub returns-then-ne-clause-records : goal.returns-then-ne-clause-records
returns-then-ne-clause-records c = λ q.
    joined_at_rise c.later.result (record_at c.args.self.now.records q) (record_at c.join_list_beside.new.self q) (record_at c.change_all.new.self q) (listed_at c.args.records.items q) _
    (listed_above c.later.result c.args.records.items q) (c.join_list_beside.ensures.joined q)
    (c.change_all.ensures.changed q ∙ changed_above c.later.result (get same_key c.join_list_beside.new.self q))

pub returns-else-ne-clause-records : goal.returns-else-ne-clause-records
returns-else-ne-clause-records c = λ q.
    let v = c.args.self.now in
    let same : c.later.result ≡ v.floor = search rules in
    joined_at_floor v.floor (record_at v.records q) (record_at c.join_list_beside.new.self q) (listed_at c.args.records.items q) _ (v.above q)
    (listed_above c.later.result c.args.records.items q ∙ ap (λ f. above_both f (listed_at c.args.records.items q)) same) (c.join_list_beside.ensures.joined q)

pub invariant_of-self-else-ne : goal.invariant_of-self-else-ne
invariant_of-self-else-ne c =
    let v = c.args.self.now in
    let same : c.later.result ≡ v.floor = search rules in
    let cut = ap (λ o. o.floor) c.join_list_beside.ensures.measures.1 ∙ v.cut in
    record {
      column = c.join_list_beside.ensures.column;
      lasting_column = subst (λ f. IsColumn (λ (r : Rec). lasting_of f (rec_means r)) c.join_list_beside.new.self.entries c.join_list_beside.new.column.others.items) cut c.join_list_beside.ensures.other;
      cut = cut;
      lasts = λ q.
          subst (LastsTo c.least-lasting.result) (sym (c.join_list_beside.ensures.joined q))
          (lasts_joined c.least-lasting.result (record_at v.records q) _ (lasts_less v.lasting c.least-lasting.result (record_at v.records q) c.least-lasting.ensures.most (v.lasts q))
          (lasts_listed c.later.result c.least-lasting.result c.args.records.items (subst (λ (es : List (List ℕ × Rec)). All (λ e. c.least-lasting.result ≤ lasting_of c.later.result (rec_means e.1)) es) c.as_slice.ensures.value c.least-lasting.ensures.each) q));
      above = λ q.
          let joined = joined_at_floor v.floor (record_at v.records q) (record_at c.join_list_beside.new.self q) (listed_at c.args.records.items q) _ (v.above q)
          (listed_above c.later.result c.args.records.items q ∙ ap (λ f. above_both f (listed_at c.args.records.items q)) same) (c.join_list_beside.ensures.joined q) in
          cut_normal v.floor (record_joined (record_at v.records q) (listed_at c.args.records.items q)) (record_at c.join_list_beside.new.self q) joined;
    }

pub invariant_of-self : goal.invariant_of-self
invariant_of-self c =
    let v = c.args.self.now in
    let normal = λ (q : List ℕ). cut_normal c.later.result (record_joined (record_at v.records q) (listed_at c.args.records.items q)) (record_at c.change_all.new.self q)
    (joined_at_rise c.later.result (record_at v.records q) (record_at c.join_list_beside.new.self q) (record_at c.change_all.new.self q) (listed_at c.args.records.items q) _
    (listed_above c.later.result c.args.records.items q) (c.join_list_beside.ensures.joined q)
    (c.change_all.ensures.changed q ∙ changed_above c.later.result (get same_key c.join_list_beside.new.self q))) in
    let all = c.note_all-self.ensures in
    let new = c.change_all.new.self in
    let result = c.note_all-self.result in
    let cut = ap (λ o. o.floor) all.measures.1 in
    record {
      column = all.column;
      lasting_column = subst (λ f. IsColumn (λ (r : Rec). lasting_of f (rec_means r)) new.entries c.note_all-self.new.self.others.items) cut all.other;
      cut = cut;
      lasts = λ q. lasts_found c.later.result result (get same_key new q) (subst (λ f. IfSome (get same_key new q) (λ (v : Rec). result ≤ lasting_of f (rec_means v))) cut (all.least q)) (normal q);
      above = normal;
    }

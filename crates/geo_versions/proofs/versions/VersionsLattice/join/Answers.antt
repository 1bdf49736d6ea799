use Rattle.std.proofs.Common.{rules, ◌≤◌, None, ◌≡◌, ◌∙◌, sym, ap, subst, List, ℕ, arith}
use Rattle.geo_maps.specs.Maps.{get, meaning_or, IsColumn}
use Rattle.geo_records.specs.Keys.{same_key}
use Rattle.geo_records.proofs.Normal.{same_normal}
use Rattle.geo_records.specs.Operations.{above_both, record_joined}
use Rattle.geo_versions.specs.Records.{Rec, rec_means, record_at, lasting_of}
use Rattle.geo_versions.proofs.Ends.{forgotten}
use Rattle.geo_versions.proofs.Cut.{changed_above, cut_normal, joined_at_floor, joined_at_rise}
use Rattle.geo_versions.proofs.versions.VersionsLattice.join.Goals as goal

pub join_changed-requires : goal.join_changed-requires
join_changed-requires c = subst (λ n. n ≤ c.args.self.now.records.spare) (sym (c.settle.ensures.as_many c.args.self.now.records.entries)) c.requires.keys

pub returns-then-ne : goal.returns-then-ne
returns-then-ne c =
    let v = c.args.self.now in
    let w = c.args.other in
    let joined = λ (q : List ℕ).
    joined_at_rise c.later.result (record_at v.records q) (record_at c.join_changed.new.self q) (record_at c.change_all.new.self q) (record_at w.records q) _
    (changed_above c.later.result (get same_key c.settle.new.self q) ∙ ap (λ o. above_both c.later.result (meaning_or (None, None) rec_means o)) (c.settle.ensures.same q)) (c.join_changed.ensures q)
    (c.change_all.ensures.changed q ∙ changed_above c.later.result (get same_key c.join_changed.new.self q)) in
    same_normal _ _ ((λ i. (c.later.result, λ q. joined q i)) ∙ (λ i. (c.later.ensures i, λ q. above_both (c.later.ensures i) (record_joined (record_at v.records q) (record_at w.records q)))))

pub returns : goal.returns
returns c =
    let v = c.args.self.now in
    let w = c.args.other in
    let same : c.later.result ≡ v.floor = search rules in
    let floor = sym same ∙ c.later.ensures in
    let joined = λ (q : List ℕ).
    joined_at_floor v.floor (record_at v.records q) (record_at c.join_changed.new.self q) (record_at w.records q) _ (v.above q)
    (changed_above c.later.result (get same_key c.settle.new.self q) ∙ ap (λ o. above_both c.later.result (meaning_or (None, None) rec_means o)) (c.settle.ensures.same q) ∙ ap (λ f. above_both f (record_at w.records q)) same) (c.join_changed.ensures q) in
    same_normal _ _ ((λ i. (v.floor, λ q. joined q i)) ∙ (λ i. (floor i, λ q. above_both (floor i) (record_joined (record_at v.records q) (record_at w.records q)))))

pub invariant_of-self-else-ne : goal.invariant_of-self-else-ne
invariant_of-self-else-ne c =
    let v = c.args.self.now in
    let w = c.args.other in
    let same : c.later.result ≡ v.floor = search rules in
    record {
      column = forgotten _ _ _ c.forget.ensures.none;
      lasting_column = forgotten _ _ _ c.forget.ensures.none_other;
      cut = ap (λ o. o.floor) c.forget.ensures.measures.1 ∙ v.cut;
      lasts = λ q h lt. absurd (omega (arith, lt));
      above = λ q.
          let joined = joined_at_floor v.floor (record_at v.records q) (record_at c.join_changed.new.self q) (record_at w.records q) _ (v.above q)
          (changed_above c.later.result (get same_key c.settle.new.self q) ∙ ap (λ o. above_both c.later.result (meaning_or (None, None) rec_means o)) (c.settle.ensures.same q) ∙ ap (λ f. above_both f (record_at w.records q)) same) (c.join_changed.ensures q) in
          cut_normal v.floor (record_joined (record_at v.records q) (record_at w.records q)) (record_at c.join_changed.new.self q) joined;
    }

pub invariant_of-self : goal.invariant_of-self
invariant_of-self c =
    let v = c.args.self.now in
    let w = c.args.other in
    let all = c.note_all-least.ensures in
    let new = c.change_all.new.self in
    let cut = ap (λ o. o.floor) all.measures.1 in
    record {
      column = all.column;
      lasting_column = subst (λ f. IsColumn (λ (r : Rec). lasting_of f (rec_means r)) new.entries c.note_all-least.new.self.others.items) cut all.other;
      cut = cut;
      lasts = λ q h lt. absurd (omega (arith, lt));
      above = λ q.
          let joined = joined_at_rise c.later.result (record_at v.records q) (record_at c.join_changed.new.self q) (record_at new q) (record_at w.records q) _
          (changed_above c.later.result (get same_key c.settle.new.self q) ∙ ap (λ o. above_both c.later.result (meaning_or (None, None) rec_means o)) (c.settle.ensures.same q)) (c.join_changed.ensures q)
          (c.change_all.ensures.changed q ∙ changed_above c.later.result (get same_key c.join_changed.new.self q)) in
          cut_normal c.later.result (record_joined (record_at v.records q) (record_at w.records q)) (record_at new q) joined;
    }

use Rattle.std.proofs.Common.{◌≡◌, ◌∙◌, ap, sym, subst, List, ℕ, IfSome, ◌≤◌}
use Rattle.geo_maps.specs.Maps.{get, IsColumn}
use Rattle.geo_records.specs.Keys.{same_key}
use Rattle.geo_records.specs.Operations.{Record, above_both}
use Rattle.geo_versions.specs.Records.{Rec, record_at, rec_means, lasting_of}
use Rattle.geo_versions.proofs.Sifting.{remaining_at, remaining_above, left_at}
use Rattle.geo_versions.proofs.Lasting.{lasts_found, over_is_low}
use Rattle.geo_versions.proofs.versions.Versions.remove_below.Goals as goal

pub drop_low-self-requires-clause-low : goal.drop_low-self-requires-clause-low
drop_low-self-requires-clause-low c = λ v over. over_is_low c.may_drop.new.self.other.floor c.args.horizon (rec_means v) over

pub invariant_of-self : goal.invariant_of-self
invariant_of-self c =
    let now = c.args.self.now in
    let new = c.drop_low-self.new.self in
    let one = c.drop_low-self.ensures in
    let normal : (q : List ℕ) → ◌≡◌ {A = Record} (above_both now.floor (record_at new q)) (record_at new q) = λ q. (
    let is = one.dropped q ∙ left_at c.args.horizon (get same_key now.records q) in
    ap (above_both now.floor) is ∙ remaining_above now.floor c.args.horizon (record_at now.records q) (now.above q) ∙ sym is) in
    let cut = ap (λ o. o.floor) (one.measures.1 ∙ c.may_drop.ensures.measures.1) ∙ now.cut in
    record {
      column = one.column;
      lasting_column = subst (λ f. IsColumn (λ (r : Rec). lasting_of f (rec_means r)) new.entries c.drop_low-self.new.column.others.items) cut one.other;
      cut = cut;
      lasts = λ q. lasts_found now.floor c.drop_low-self.result (get same_key new q) (subst (λ f. IfSome (get same_key new q) (λ (v : Rec). c.drop_low-self.result ≤ lasting_of f (rec_means v))) cut (one.least q)) (normal q);
      above = normal;
    }

pub invariant_of-self-else-may_drop : goal.invariant_of-self-else-may_drop
invariant_of-self-else-may_drop c =
    let now = c.args.self.now in
    let normal : (q : List ℕ) → ◌≡◌ {A = Record} (above_both now.floor (record_at c.change_all.new.self q)) (record_at c.change_all.new.self q) = λ q. (
    let is = c.change_all.ensures.changed q ∙ remaining_at c.args.horizon (get same_key now.records q) in
    ap (above_both now.floor) is ∙ remaining_above now.floor c.args.horizon (record_at now.records q) (now.above q) ∙ sym is) in
    let cut = ap (λ o. o.floor) c.note_all-self.ensures.measures.1 in
    let result = c.note_all-self.result in
    record {
      column = c.note_all-self.ensures.column;
      lasting_column = subst (λ f. IsColumn (λ (r : Rec). lasting_of f (rec_means r)) c.change_all.new.self.entries c.note_all-self.new.self.others.items) cut c.note_all-self.ensures.other;
      cut = cut;
      lasts = λ q. lasts_found now.floor result (get same_key c.change_all.new.self q)
          (subst (λ f. IfSome (get same_key c.change_all.new.self q) (λ (v : Rec). result ≤ lasting_of f (rec_means v))) cut (c.note_all-self.ensures.least q)) (normal q);
      above = normal;
    }

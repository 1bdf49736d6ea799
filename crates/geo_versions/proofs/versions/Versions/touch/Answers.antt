use Rattle.std.proofs.Common.{◌≡◌, ◌∙◌, sym, ap, subst, cond}
use Rattle.geo_maps.specs.Maps.{IsColumn}
use Rattle.geo_records.specs.Keys.{same_key}
use Rattle.geo_records.specs.Operations.{Record, above_both, record_joined}
use Rattle.geo_versions.specs.Records.{Rec, rec_means, record_at, lasting_of}
use Rattle.geo_versions.proofs.Cut.{one_joined_normal, touch_above}
use Rattle.geo_versions.proofs.Lasting.{lasts_touch}
use Rattle.geo_versions.proofs.versions.Versions.touch.Goals as goal

pub invariant_of-self : goal.invariant_of-self
invariant_of-self c =
    let v = c.args.self.now in
    let x : Record = (c.none-left.result.register, c.of-expiry.result.register) in
    let above : above_both v.floor x ≡ x =
    (λ i. above_both v.floor (c.none-left.ensures i, c.of-expiry.ensures i)) ∙ touch_above v.floor c.args.stamp c.args.expiry (sym c.if-counts.ensures) ∙ (λ i. (sym c.none-left.ensures i, sym c.of-expiry.ensures i)) in
    let cut = ap (λ o. o.floor) c.join_at_beside.ensures.measures.1 ∙ v.cut in
    record {
      column = c.join_at_beside.ensures.column;
      lasting_column = subst (λ f. IsColumn (λ (r : Rec). lasting_of f (rec_means r)) c.join_at_beside.new.self.entries c.join_at_beside.new.column.others.items) cut c.join_at_beside.ensures.other;
      cut = cut;
      lasts = lasts_touch v.lasting (record_at v.records) (record_at c.join_at_beside.new.self) c.args.key.now c.of-expiry.result.register v.lasts c.requires
          (λ q. c.join_at_beside.ensures.joined q ∙ (λ i. cond {A = Record} (same_key c.args.key.now q) (record_joined (record_at v.records q) (c.none-left.ensures i, c.of-expiry.result.register)) (record_at v.records q)));
      above = one_joined_normal v.floor (record_at v.records) (record_at c.join_at_beside.new.self) c.args.key.now x v.above above c.join_at_beside.ensures.joined;
    }

use Rattle.std.proofs.Common.{◌≡◌, ◌≤◌, ◌∙◌, sym, ap, subst, Some, arith}
use Rattle.geo_maps.specs.Maps.{IsColumn}
use Rattle.geo_records.specs.Operations.{Record, above_both}
use Rattle.geo_versions.specs.Records.{Rec, rec_means, record_at, lasting_of}
use Rattle.geo_versions.proofs.Cut.{one_joined_normal, none_joined_is, write_above, write_below}
use Rattle.geo_versions.proofs.Lasting.{lasts_less, lasts_normal, lasts_put, lasts_same}
use Rattle.geo_versions.proofs.versions.Versions.write.Goals as goal

pub returns-then-not-counts-clause-ok : goal.returns-then-not-counts-clause-ok
returns-then-not-counts-clause-ok c =
    let v = c.args.self.now in
    none_joined_is v.floor (record_at v.records) (record_at v.records) c.args.key.now (Some (c.args.stamp, c.args.body), Some (c.args.stamp, c.args.expiry)) v.above
    (write_below v.floor c.args.stamp c.args.body c.args.expiry (sym c.if-not-counts.ensures))

pub invariant_of-self : goal.invariant_of-self
invariant_of-self c =
    let v = c.args.self.now in
    let old = record_at v.records in
    let new = record_at c.put_beside.new.self in
    let same = c.in_err-put_beside.ensures.err in
    let cut = ap (λ o. o.floor) c.put_beside.ensures.measures.1 ∙ v.cut in
    record {
      column = c.put_beside.ensures.column;
      lasting_column = subst (λ f. IsColumn (λ (r : Rec). lasting_of f (rec_means r)) c.put_beside.new.self.entries c.put_beside.new.column.others.items) cut c.put_beside.ensures.other;
      cut = cut;
      lasts = lasts_same v.lasting old new v.lasts same;
      above = λ q. ap (above_both v.floor) (same q) ∙ v.above q ∙ sym (same q);
    }

pub invariant_of-self-2 : goal.invariant_of-self-2
invariant_of-self-2 c =
    let v = c.args.self.now in
    let old = record_at v.records in
    let new = record_at c.put_beside.new.self in
    let x : Record = (c.of.result.register, c.of-2.result.register) in
    let above : above_both v.floor x ≡ x =
    (λ i. above_both v.floor (c.of.ensures i, c.of-2.ensures i)) ∙ write_above v.floor c.args.stamp c.args.body c.args.expiry (sym c.if-not-counts.ensures) ∙ (λ i. (sym c.of.ensures i, sym c.of-2.ensures i)) in
    let joined = c.in_ok-put_beside.ensures.ok in
    let least = c.min-self.ensures in
    let measured : c.measure-lasting.result ≡ lasting_of v.floor x = c.measure-lasting.ensures in
    let before : c.min-self.result ≤ v.lasting = omega (arith, least) in
    let own : c.min-self.result ≤ lasting_of v.floor x = omega (arith, least, measured) in
    let cut = ap (λ o. o.floor) c.put_beside.ensures.measures.1 ∙ v.cut in
    record {
      column = c.put_beside.ensures.column;
      lasting_column = subst (λ f. IsColumn (λ (r : Rec). lasting_of f (rec_means r)) c.put_beside.new.self.entries c.put_beside.new.column.others.items) cut c.put_beside.ensures.other;
      cut = cut;
      lasts = lasts_put c.min-self.result old new c.args.key.now x (λ q. lasts_less v.lasting c.min-self.result (old q) before (v.lasts q))
          (lasts_less (lasting_of v.floor x) c.min-self.result x own (lasts_normal v.floor x above)) joined;
      above = one_joined_normal v.floor old new c.args.key.now x v.above above joined;
    }

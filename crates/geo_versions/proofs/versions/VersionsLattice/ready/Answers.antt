use Rattle.std.proofs.Common.{◌∙◌, sym, ap, List, ℕ}
use Rattle.geo_records.proofs.Normal.{same_normal}
use Rattle.geo_records.specs.Operations.{Record, above_both}
use Rattle.geo_versions.specs.Records.{record_at}
use Rattle.geo_versions.proofs.Ends.{forgotten}
use Rattle.geo_versions.proofs.Lasting.{lasts_same}
use Rattle.geo_versions.proofs.versions.VersionsLattice.ready.Goals as goal

pub invariant_of-self : goal.invariant_of-self
invariant_of-self c =
    let v = c.args.self.now in
    let kept = λ (q : List ℕ). ap (λ (f : List ℕ → Record). f q) c.ready.ensures.kept in
    record {
      column = forgotten _ _ _ c.forget.ensures.none;
      lasting_column = forgotten _ _ _ c.forget.ensures.none_other;
      cut = ap (λ o. o.floor) c.forget.ensures.measures.1 ∙ v.cut;
      lasts = lasts_same v.lasting (record_at v.records) (record_at c.ready.new.self) v.lasts kept;
      above = λ q. ap (above_both v.floor) (kept q) ∙ v.above q ∙ sym (kept q);
    }

pub returns-clause-kept : goal.returns-clause-kept
returns-clause-kept c = same_normal _ _ (λ i. (c.args.self.now.floor, c.ready.ensures.kept i))

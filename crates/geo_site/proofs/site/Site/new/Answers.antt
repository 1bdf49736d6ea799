use Rattle.geo_delta.specs.Changes.{Traced, nothing_pending}
use Rattle.geo_delta.proofs.Tracing.{traced_first}
use Rattle.geo_delta.proofs.Trailing.{trailed_none}
use Rattle.geo_versions.specs.Maps.{record_in}
use Rattle.std.proofs.Common.{arith, subst, ap, sym, ◌∙◌, length}
use Rattle.geo_site.specs.Machine.{knows_floor, knows_record}
use Rattle.geo_site.proofs.Entries.{zeros_length}
use Rattle.geo_site.proofs.Named.{some_none}
use Rattle.geo_records.specs.Operations.{Record}
use Rattle.geo_site.proofs.Verdicts.{none_some}
use Rattle.geo_site.proofs.Rows.{rows_none}
use Rattle.geo_site.proofs.site.Site.new.Goals as goal

pub invariant_of-result : goal.invariant_of-result
invariant_of-result c =
    let z = zeros_length c.args.setup.sites in
    let len = ap length c.new-2.ensures in
    record {
      numbered = (omega arith, omega (arith, z, len), omega (arith, z, len));
      rows = rows_none c.args.setup.sites _ c.new-3.result (omega arith) (len ∙ z) c.new-3.ensures;
      floor_known = ap (knows_floor c.new-2.result) c.new-4.ensures.floor;
      covered = λ key. ap (knows_record c.new-2.result) (c.new-4.ensures.records key);
      traced = (
        subst (λ ring. Traced nothing_pending (record_in c.new-4.result) ring) (sym c.in-Ok-new.ensures.newest) (traced_first nothing_pending (record_in c.new-4.result) c.args.setup.sites c.new-4.ensures.records),
        trailed_none nothing_pending (record_in c.new-4.result) c.in-Ok-new.changes.trail c.in-Ok-new.ensures.trail,
      );
      ends = λ q st e h ne. absurd (none_some (sym (ap (λ (r : Record). r.1) (c.new-4.ensures.records q)) ∙ h));
      named = λ key bytes h. absurd (some_none (sym h ∙ c.in-Ok-fresh_values.ensures.held key));
    }

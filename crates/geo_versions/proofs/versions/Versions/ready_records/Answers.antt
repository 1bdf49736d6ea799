use Rattle.std.proofs.Common.{◌≡◌, None, sym, subst, List, ℕ}
use Rattle.geo_maps.specs.Maps.{IsColumn, meaning_or}
use Rattle.std.specs.Map.{lookup}
use Rattle.geo_records.specs.Keys.{same_key}
use Rattle.geo_versions.specs.Records.{Rec, rec_means, LastsTo, mark_in, lasting_of}
use Rattle.geo_records.specs.Operations.{above_both}
use Rattle.geo_versions.proofs.versions.Versions.ready_records.Goals as goal

pub invariant_of-self : goal.invariant_of-self
invariant_of-self c =
    let v = c.args.self.now in
    let at = λ (q : List ℕ) (es : List (List ℕ × Rec)). meaning_or (None, None) rec_means (lookup (same_key q) es) in
    record {
      column = subst (λ (es : List (List ℕ × Rec)). IsColumn (λ (r : Rec). mark_in r) es v.ends.measures.items) (sym c.ready_list.ensures.kept) v.column;
      lasting_column = subst (λ (es : List (List ℕ × Rec)). IsColumn (λ (r : Rec). lasting_of v.floor (rec_means r)) es v.ends.others.items) (sym c.ready_list.ensures.kept) v.lasting_column;
      cut = v.cut;
      lasts = λ q. subst (λ (es : List (List ℕ × Rec)). LastsTo v.lasting (at q es)) (sym c.ready_list.ensures.kept) (v.lasts q);
      above = λ q. subst (λ (es : List (List ℕ × Rec)). above_both v.floor (at q es) ≡ at q es) (sym c.ready_list.ensures.kept) (v.above q);
    }

use Rattle.std.proofs.Common.{◌≡◌, ◌≤◌, ℕ, List, true, subst}
use Rattle.std.specs.List.{list_all}
use Rattle.geo_stamp.specs.Stamps.{last_time}
use Rattle.geo_versions.specs.Maps.{Rec}
use Rattle.geo_delta.specs.Ranges.{floor_fits, is_ranged, record_fits}
use Rattle.geo_delta.proofs.Ranged.{floor_within, records_within}
use Rattle.geo_delta.proofs.ranges.stays_in_range.Goals as goal

pub returns : goal.returns
returns c =
    let p = c.args.parcel.now in
    let ranged : list_all is_ranged p.records ≡ true = subst (λ (es : List (List ℕ × Rec)). list_all is_ranged es ≡ true) c.as_slice.ensures c.records_are_ranged.ensures in
    record {
      sites = c.requires.sites;
      vectors = c.requires.vectors;
      base = subst (λ (n : ℕ). n ≤ last_time) c.greatest-base.ensures.greatest c.greatest-base.ensures.range;
      upto = subst (λ (n : ℕ). n ≤ last_time) c.greatest-upto.ensures.greatest c.greatest-upto.ensures.range;
      retired = c.requires.retired;
      places = c.bits-retired.ensures.many;
      floor = subst (λ (n : ℕ). floor_fits n p.floor ≡ true) c.requires.vectors (floor_within p.upto p.floor c.floor_is_ranged.ensures c.requires.floor_known);
      records = subst (λ (n : ℕ). list_all (record_fits n) p.records ≡ true) c.requires.vectors (records_within p.upto p.records ranged c.requires.rising c.requires.records_known c.requires.filled);
      rising = c.requires.rising;
    }

use Rattle.std.proofs.Common.{◌≡◌, ℕ, List, refl, ap, ◌∙◌}
use Rattle.geo_values.specs.Held.{stock_in}
use Rattle.geo_versions.specs.Maps.{record_in, remaining}
use Rattle.geo_site.specs.Machine.{knows_floor}
use Rattle.geo_site.specs.Sites.{horizon_in}
use Rattle.geo_site.proofs.Stocking.{stock_same}
use Rattle.geo_site.proofs.Sifting.{removed_covers, removed_traced, removed_ends, removed_named}
use Rattle.geo_site.proofs.site.Site.drop_known.Goals as goal

pub invariant_of-self : goal.invariant_of-self
invariant_of-self c =
    let s = c.args.self.now in
    let h = horizon_in s in
    let map = record_in s.versions in
    let new = record_in c.remove_below.new.self in
    let is : (q : List ℕ) → new q ≡ remaining h (map q) = λ q. c.remove_below.ensures.records q ∙ ap (λ h. remaining h (map q)) c.horizon-horizon.ensures in
    record {
      numbered = s.numbered;
      rows = s.rows;
      floor_known = ap (knows_floor s.vector) c.remove_below.ensures.floor ∙ s.floor_known;
      covered = removed_covers h map new is s.vector s.covered;
      traced = removed_traced h map new is s.changes s.traced;
      ends = removed_ends h map new is s.earliest s.ends;
      named = removed_named h map new is (stock_in s.values).held s.named;
    }

pub returns : goal.returns
returns c =
    let s = c.args.self.now in
    let map = record_in s.versions in
    record {
      left = record {
        vector = refl;
        floor = c.remove_below.ensures.floor;
        map = λ q. c.remove_below.ensures.records q ∙ ap (λ h. remaining h (map q)) c.horizon-horizon.ensures;
        stock = stock_same (stock_in s.values);
      };
      counted = c.remove_below.ensures.counts;
      rests = (refl, refl);
      stays = (refl, refl, refl);
    }

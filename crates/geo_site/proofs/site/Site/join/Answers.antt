use Rattle.std.proofs.Common.{◌≡◌, ℕ, true, List, subst, arith, ap, sym, ◌∙◌, length}
use Rattle.geo_values.specs.Held.{stock_in}
use Rattle.geo_site.proofs.Stocking.{settled_held}
use Rattle.geo_stamp.specs.Vectors.{vector_joined, greatest_of, raised}
use Rattle.geo_records.specs.Operations.{above_both, record_joined, floor_joined, version_in}
use Rattle.geo_versions.specs.Maps.{Rec, listed_at}
use Rattle.geo_versions.specs.Maps.{floor_in, record_in}
use Rattle.geo_site.specs.Machine.{knows_record, knows_floor}
use Rattle.geo_site.proofs.Entries.{Within, length_joined, length_raised}
use Rattle.std.specs.List.{All}
use Rattle.geo_site.specs.Sites.{EndFrom}
use Rattle.geo_site.proofs.Ending.{ends_joined, listed_ends}
use Rattle.geo_site.proofs.Named.{named_some}
use Rattle.geo_site.proofs.Writing.{knows_joined, knows_floors, knows_more, knows_floor_more}
use Rattle.geo_site.proofs.Taking.{left_rises, right_rises, all_listed}
use Rattle.geo_site.proofs.Noting.{traced_joined}
use Rattle.geo_site.specs.Noting.{is_listed}
use Rattle.geo_delta.specs.Telling.{Tells}
use Rattle.geo_site.proofs.Rows.{rows_on}
use Rattle.geo_site.proofs.site.Site.join.Goals as goal

pub invariant_of-self : goal.invariant_of-self
invariant_of-self c =
    let s = c.args.self.now in
    let v = s.vector in
    let n = s.number in
    let joined = vector_joined v c.args.upto in
    let vec : c.raise.new.self ≡ raised joined n (greatest_of joined) = c.raise.ensures ∙ (λ i. raised (c.join.ensures i) n (c.greatest-top.ensures.greatest i)) ∙ ap (λ w. raised joined n (greatest_of w)) c.join.ensures in
    let new = raised joined n (greatest_of joined) in
    let len = length_joined v c.args.upto (sym c.requires.many) in
    let num : Within joined n = record { above = s.numbered.0; below = (let h = s.numbered.1 in omega (arith, h, len)) } in
    let many = ap length vec ∙ length_raised joined n (greatest_of joined) ∙ len in
    let f = floor_in s.versions in
    let g = c.args.floor in
    let up = left_rises v c.args.upto n num in
    let other = right_rises v c.args.upto n num in
    let covered : (q : List ℕ) → knows_record c.raise.new.self (record_in c.join_both.new.versions q) ≡ true = λ q. (λ i. knows_record (vec i) ((c.join_both.ensures.records q ∙ ap (λ h. above_both h (record_joined (record_in s.versions q) (listed_at c.args.records q))) c.join_both.ensures.floor) i))
    ∙ knows_joined new (floor_joined f g) (record_in s.versions q) (listed_at c.args.records q) (knows_more v new up (record_in s.versions q) (s.covered q)) (knows_more c.args.upto new other (listed_at c.args.records q) (all_listed c.args.upto c.args.records q c.requires.records_known)) in
    record {
      numbered = (s.numbered.0, (let h = s.numbered.1 in omega (arith, many, h)), (let h = s.numbered.2 in omega (arith, many, h)));
      rows = rows_on (length s.vector) _ s.heard many s.rows;
      floor_known = (λ i. knows_floor (vec i) (c.join_both.ensures.floor i)) ∙ knows_floors new f g (knows_floor_more v new up f s.floor_known) (knows_floor_more c.args.upto new other g c.requires.floor_known);
      covered = λ q. covered q;
      traced = c.note_each.ensures (record_in c.join_both.new.versions) (λ q none. covered q) (subst (λ (es : List (List ℕ × Rec)). Tells (is_listed es) (record_in c.join_both.new.versions) s.changes) (sym c.as_slice-2.ensures)
          (traced_joined (floor_in c.join_both.new.versions) c.args.records (record_in s.versions) (record_in c.join_both.new.versions) s.changes c.join_both.ensures.records s.traced));
      ends = ends_joined s.earliest c.earliest_in-self.result (floor_in c.join_both.new.versions) (record_in s.versions) (listed_at c.args.records) (record_in c.join_both.new.versions) s.ends c.earliest_in-self.ensures.least
          (listed_ends c.earliest_in-self.result c.args.records (subst (λ (es : List (List ℕ × Rec)). All (EndFrom c.earliest_in-self.result) es) c.as_slice.ensures c.earliest_in-self.ensures.ends))
          c.join_both.ensures.records;
      named = λ q b h. (named_some (version_in (record_in c.join_both.new.versions q)) ((stock_in s.values).held q) b (sym (c.join_both.ensures.kept.held q ∙ settled_held (record_in c.join_both.new.versions) (stock_in s.values) q) ∙ h)).1;
    }

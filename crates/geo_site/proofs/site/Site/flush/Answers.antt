use Rattle.std.proofs.Common.{◌≡◌, ◌+◌, ℕ, List, arith, ap, ◌∙◌, length}
use Rattle.std.specs.Prelude.{Some}
use Rattle.geo_values.specs.Held.{stock_in}
use Rattle.geo_stamp.specs.Stamps.{Moment}
use Rattle.geo_stamp.specs.Vectors.{raised, greatest_of}
use Rattle.geo_records.specs.Operations.{floor_joined, version_in}
use Rattle.geo_versions.specs.Maps.{floor_in, record_in}
use Rattle.geo_site.specs.Entries.{Held, named_by}
use Rattle.geo_site.proofs.Stocking.{settled_held}
use Rattle.geo_site.specs.Machine.{knows_floor, knows_record}
use Rattle.geo_site.proofs.Entries.{Within, length_raised}
use Rattle.geo_site.proofs.Ending.{ends_above}
use Rattle.geo_site.proofs.Flushing.{flush_floor, flush_covers, flush_named, flush_same}
use Rattle.geo_site.proofs.Noting.{traced_above}
use Rattle.geo_site.proofs.Rows.{rows_on}
use Rattle.geo_site.proofs.site.Site.flush.Goals as goal

pub invariant_of-self : goal.invariant_of-self
invariant_of-self c =
    let s = c.args.self.now in
    let v = s.vector in
    let n = s.number in
    let f = floor_in s.versions in
    let f' = floor_in c.raise_floor.new.self in
    let map = record_in s.versions in
    let map' = record_in c.raise_floor.new.self in
    let before = stock_in s.values in
    let after = stock_in c.keep_named.new.values in
    let held : Held = before.held in
    let held' : Held = after.held in
    let kept : (q : List ℕ) → held' q ≡ named_by (version_in (map' q)) (held q) = λ q. c.keep_named.ensures.kept.held q ∙ settled_held map' before q in
    let num : Within v n = record { above = s.numbered.0; below = s.numbered.1 } in
    let vec : c.raise.new.self ≡ raised v n (greatest_of v + 1) = c.raise.ensures ∙ ap (raised v n) (c.time.ensures.time ∙ ap (λ (m : Moment). m.time) c.requires.next) in
    let floor : f' ≡ floor_joined f (Some (record { time = greatest_of v + 1; site = n })) = c.raise_floor.ensures.floor ∙ ap (λ (m : Moment). floor_joined f (Some m)) c.requires.next in
    let many = ap length vec ∙ length_raised v n (greatest_of v + 1) in
    record {
      numbered = (s.numbered.0, (let h = s.numbered.1 in omega (arith, many, h)), (let h = s.numbered.2 in omega (arith, many, h)));
      rows = rows_on (length s.vector) _ s.heard many s.rows;
      floor_known = ap (λ v. knows_floor v f') vec ∙ flush_floor v f f' map map' held held' n s.floor_known s.covered num floor c.raise_floor.ensures.records kept;
      ends = ends_above s.earliest f' map map' s.ends c.raise_floor.ensures.records;
      covered = λ q. ap (λ v. knows_record v (map' q)) vec ∙ flush_covers v f f' map map' held held' n s.floor_known s.covered num floor c.raise_floor.ensures.records kept q;
      traced = traced_above f' map map' s.changes c.raise_floor.ensures.records s.traced;
      named = flush_named v f f' map map' held held' n s.floor_known s.covered num floor c.raise_floor.ensures.records kept;
    }

pub returns-clause-issued : goal.returns-clause-issued
returns-clause-issued c =
    let s = c.args.self.now in
    let v = s.vector in
    let n = s.number in
    let f = floor_in s.versions in
    let f' = floor_in c.raise_floor.new.self in
    let map = record_in s.versions in
    let map' = record_in c.raise_floor.new.self in
    let before = stock_in s.values in
    let after = stock_in c.keep_named.new.values in
    let held : Held = before.held in
    let held' : Held = after.held in
    let kept : (q : List ℕ) → held' q ≡ named_by (version_in (map' q)) (held q) = λ q. c.keep_named.ensures.kept.held q ∙ settled_held map' before q in
    let num : Within v n = record { above = s.numbered.0; below = s.numbered.1 } in
    let vec : c.raise.new.self ≡ raised v n (greatest_of v + 1) = c.raise.ensures ∙ ap (raised v n) (c.time.ensures.time ∙ ap (λ (m : Moment). m.time) c.requires.next) in
    let floor : f' ≡ floor_joined f (Some (record { time = greatest_of v + 1; site = n })) = c.raise_floor.ensures.floor ∙ ap (λ (m : Moment). floor_joined f (Some m)) c.requires.next in
    let same = flush_same v f f' map map' held held' n s.floor_known s.covered num floor c.raise_floor.ensures.records kept before after c.keep_named.ensures.kept in
    record { vector = vec; floor = same.floor; map = same.map; stock = same.stock }

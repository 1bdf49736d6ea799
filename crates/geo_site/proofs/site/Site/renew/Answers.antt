use Rattle.std.proofs.Common.{refl, sym, subst, ◌≤◌, ◌≡◌, ◌+◌, ℕ, List, arith, ap, ◌∙◌, length}
use Rattle.std.specs.Prelude.{cond, Some, None, true}
use Rattle.geo_values.specs.Held.{stock_in}
use Rattle.geo_site.proofs.Stocking.{stock_same}
use Rattle.geo_stamp.specs.Stamps.{Moment}
use Rattle.geo_stamp.specs.Vectors.{raised, greatest_of}
use Rattle.geo_records.specs.Keys.{same_key}
use Rattle.geo_records.specs.Operations.{Record, above_both, record_joined}
use Rattle.geo_versions.specs.Maps.{floor_in, record_in}
use Rattle.geo_site.specs.Entries.{Held}
use Rattle.geo_site.specs.Machine.{knows_floor, knows_record}
use Rattle.geo_site.proofs.Entries.{Within, length_raised}
use Rattle.geo_site.proofs.Ending.{ends_put}
use Rattle.geo_site.proofs.Touching.{touch_floor, touch_covers, touch_bodies, touch_named, touch_same}
use Rattle.geo_site.proofs.Noting.{traced_put}
use Rattle.geo_site.proofs.Rows.{rows_on}
use Rattle.geo_site.proofs.site.Site.renew.Goals as goal

pub invariant_of-self : goal.invariant_of-self
invariant_of-self c =
    let s = c.args.self.now in
    let v = s.vector in
    let n = s.number in
    let f = floor_in s.versions in
    let f' = floor_in c.touch.new.self in
    let map = record_in s.versions in
    let map' = record_in c.touch.new.self in
    let held : Held = (stock_in s.values).held in
    let key = c.args.key.now in
    let e = c.args.expiry in
    let num : Within v n = record { above = s.numbered.0; below = s.numbered.1 } in
    let vec : c.raise.new.self ≡ raised v n (greatest_of v + 1) = c.raise.ensures ∙ ap (raised v n) (c.time.ensures.time ∙ ap (λ (m : Moment). m.time) c.requires.next) in
    let new : (q : List ℕ) → map' q ≡ cond {A = Record} (same_key q key) (above_both f (record_joined (map q) (None, Some (record { time = greatest_of v + 1; site = n }, e)))) (map q)
    = λ q. c.touch.ensures.records q ∙ (λ i. cond {A = Record} (same_key q key) (above_both f (record_joined (map q) (None, Some (c.requires.next i, e)))) (map q)) in
    let norm : (q : List ℕ) → above_both f (map q) ≡ map q = s.versions.above in
    let many = ap length vec ∙ length_raised v n (greatest_of v + 1) in
    let covered : (q : List ℕ) → knows_record c.raise.new.self (map' q) ≡ true = λ q. ap (λ v. knows_record v (map' q)) vec ∙ touch_covers v f f' map map' held n e key s.floor_known s.covered s.named norm num c.touch.ensures.floor new q in
    record {
      numbered = (s.numbered.0, (let h = s.numbered.1 in omega (arith, many, h)), (let h = s.numbered.2 in omega (arith, many, h)));
      rows = rows_on (length s.vector) _ s.heard many s.rows;
      floor_known = ap (λ v. knows_floor v f') vec ∙ touch_floor v f f' map map' held n e key s.floor_known s.covered s.named norm num c.touch.ensures.floor new;
      ends = λ q st x h ne. subst (λ least. least ≤ x) (sym c.earlier-self.ensures) (ends_put s.earliest e (record { time = greatest_of v + 1; site = n }) f map map' key None s.ends new q st x h ne);
      covered = λ q. covered q;
      traced = c.note.ensures map' (λ q none. covered q) (traced_put key map map' s.changes (λ q apart. new q ∙ ap (λ t. cond {A = Record} t (above_both f (record_joined (map q) (None, Some (record { time = greatest_of v + 1; site = n }, e)))) (map q)) apart) s.traced);
      named = touch_named v f f' map map' held n e key s.floor_known s.covered s.named norm num c.touch.ensures.floor new;
    }

pub returns-clause-issued : goal.returns-clause-issued
returns-clause-issued c =
    let s = c.args.self.now in
    let v = s.vector in
    let n = s.number in
    let f = floor_in s.versions in
    let f' = floor_in c.touch.new.self in
    let map = record_in s.versions in
    let map' = record_in c.touch.new.self in
    let held : Held = (stock_in s.values).held in
    let key = c.args.key.now in
    let e = c.args.expiry in
    let num : Within v n = record { above = s.numbered.0; below = s.numbered.1 } in
    let vec : c.raise.new.self ≡ raised v n (greatest_of v + 1) = c.raise.ensures ∙ ap (raised v n) (c.time.ensures.time ∙ ap (λ (m : Moment). m.time) c.requires.next) in
    let new : (q : List ℕ) → map' q ≡ cond {A = Record} (same_key q key) (above_both f (record_joined (map q) (None, Some (record { time = greatest_of v + 1; site = n }, e)))) (map q)
    = λ q. c.touch.ensures.records q ∙ (λ i. cond {A = Record} (same_key q key) (above_both f (record_joined (map q) (None, Some (c.requires.next i, e)))) (map q)) in
    let norm : (q : List ℕ) → above_both f (map q) ≡ map q = s.versions.above in
    let same = touch_same v f f' map map' held n e key s.floor_known s.covered s.named norm num c.touch.ensures.floor new (stock_in s.values) (stock_in s.values) refl (stock_same (stock_in s.values)) in
    record { vector = vec; floor = same.floor; map = same.map; stock = same.stock }

pub returns-clause-bodies : goal.returns-clause-bodies
returns-clause-bodies c = λ q.
    let s = c.args.self.now in
    let v = s.vector in
    let n = s.number in
    let f = floor_in s.versions in
    let f' = floor_in c.touch.new.self in
    let map = record_in s.versions in
    let map' = record_in c.touch.new.self in
    let held : Held = (stock_in s.values).held in
    let key = c.args.key.now in
    let e = c.args.expiry in
    let num : Within v n = record { above = s.numbered.0; below = s.numbered.1 } in
    let new : (q : List ℕ) → map' q ≡ cond {A = Record} (same_key q key) (above_both f (record_joined (map q) (None, Some (record { time = greatest_of v + 1; site = n }, e)))) (map q)
    = λ q. c.touch.ensures.records q ∙ (λ i. cond {A = Record} (same_key q key) (above_both f (record_joined (map q) (None, Some (c.requires.next i, e)))) (map q)) in
    let norm : (q : List ℕ) → above_both f (map q) ≡ map q = s.versions.above in
    touch_bodies v f f' map map' held n e key s.floor_known s.covered s.named norm num c.touch.ensures.floor new q

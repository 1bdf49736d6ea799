use Rattle.std.proofs.Common.{refl, ◌≡◌, ◌+◌, ℕ, List, true, false, arith, ap, ◌∙◌, length}
use Rattle.std.specs.Prelude.{cond, Some, None, Option}
use Rattle.geo_stamp.specs.Stamps.{Moment}
use Rattle.geo_stamp.specs.Vectors.{raised, greatest_of}
use Rattle.geo_records.specs.Keys.{same_key}
use Rattle.geo_records.specs.Operations.{Record, above_both, record_joined, version_in}
use Rattle.geo_records.specs.Operations.Act.{Delete}
use Rattle.geo_records.specs.declared.body.Body.TheVariants.{Gone}
use Rattle.geo_versions.specs.Maps.{floor_in, record_in}
use Rattle.geo_values.specs.Held.{stock_in}
use Rattle.geo_site.specs.Entries.{Held}
use Rattle.geo_site.specs.Machine.{knows_floor, knows_record, map_after, next_operation}
use Rattle.geo_site.specs.Sites.{state_in}
use Rattle.geo_site.proofs.Entries.{Within, length_raised}
use Rattle.geo_site.proofs.Ending.{ends_gone}
use Rattle.geo_site.proofs.Stocking.{stock_kept}
use Rattle.geo_site.proofs.Outdated.{deleted}
use Rattle.geo_site.proofs.Written.{delete_puts, map_at_key, map_elsewhere, write_floor, write_covers, write_named, write_map, write_same}
use Rattle.geo_site.proofs.Noting.{traced_put, traced_same, covers_same, ends_same, named_same}
use Rattle.geo_site.proofs.Rows.{rows_on}
use Rattle.geo_site.proofs.site.Site.delete.Goals as goal

pub invariant_of-self-2 : goal.invariant_of-self-2
invariant_of-self-2 c =
    let s = c.args.self.now in
    let v = s.vector in
    let n = s.number in
    let f = floor_in s.versions in
    let map = record_in s.versions in
    let f' = floor_in c.write.new.self in
    let map' = record_in c.write.new.self in
    let before = stock_in s.values in
    let after = stock_in c.drop_key.new.self in
    let held : Held = before.held in
    let held' : Held = after.held in
    let key = c.args.key.now in
    let num : Within v n = record { above = s.numbered.0; below = s.numbered.1 } in
    let vec : c.raise.new.self ≡ raised v n (greatest_of v + 1) = c.raise.ensures ∙ ap (raised v n) (c.time.ensures.time ∙ ap (λ (m : Moment). m.time) c.requires.next) in
    let new : (q : List ℕ) → map' q ≡ cond {A = Record} (same_key q key) (above_both f (record_joined (map q) (Some (record { time = greatest_of v + 1; site = n }, Gone), Some (record { time = greatest_of v + 1; site = n }, 0)))) (map q)
    = λ q. c.in_ok-write.ensures.ok q ∙ (λ i. cond {A = Record} (same_key q key) (above_both f (record_joined (map q) (Some (c.requires.next i, Gone), Some (c.requires.next i, 0)))) (map q)) in
    let new_held : (q : List ℕ) → held' q ≡ cond {A = Option (List ℕ)} (same_key q key) None (held q) = λ q. c.drop_key.ensures.dropped.held q in
    let norm : (q : List ℕ) → above_both f (map q) ≡ map q = s.versions.above in
    let floor = c.in_ok-write.ensures.floor in
    let puts = delete_puts key in
    let known = write_floor v f f' map map' held held' n 0 key (Delete key) Gone None puts s.floor_known s.covered s.named norm num floor new new_held in
    let covers = write_covers v f f' map map' held held' n 0 key (Delete key) Gone None puts s.floor_known s.covered s.named norm num floor new new_held in
    let many = ap length vec ∙ length_raised v n (greatest_of v + 1) in
    let covered : (q : List ℕ) → knows_record c.raise.new.self (map' q) ≡ true = λ q. ap (λ v. knows_record v (map' q)) vec ∙ covers q in
    record {
      numbered = (s.numbered.0, (let h = s.numbered.1 in omega (arith, many, h)), (let h = s.numbered.2 in omega (arith, many, h)));
      rows = rows_on (length s.vector) _ s.heard many s.rows;
      floor_known = ap (λ v. knows_floor v f') vec ∙ known;
      ends = ends_gone s.earliest (record { time = greatest_of v + 1; site = n }) f map map' key (Some (record { time = greatest_of v + 1; site = n }, Gone)) s.ends new;
      covered = λ q. covered q;
      traced = c.note.ensures map' (λ q none. covered q) (traced_put key map map' s.changes (λ q apart. new q ∙ ap (λ t. cond {A = Record} t (above_both f (record_joined (map q) (Some (record { time = greatest_of v + 1; site = n }, Gone), Some (record { time = greatest_of v + 1; site = n }, 0)))) (map q)) apart) s.traced);
      named = write_named v f f' map map' held held' n 0 key (Delete key) Gone None puts s.floor_known s.covered s.named norm num floor new new_held;
    }

pub returns-clause-deleted : goal.returns-clause-deleted
returns-clause-deleted c =
    let s = c.args.self.now in
    let v = s.vector in
    let n = s.number in
    let f = floor_in s.versions in
    let map = record_in s.versions in
    let f' = floor_in c.write.new.self in
    let map' = record_in c.write.new.self in
    let before = stock_in s.values in
    let after = stock_in c.drop_key.new.self in
    let held : Held = before.held in
    let held' : Held = after.held in
    let key = c.args.key.now in
    let num : Within v n = record { above = s.numbered.0; below = s.numbered.1 } in
    let vec : c.raise.new.self ≡ raised v n (greatest_of v + 1) = c.raise.ensures ∙ ap (raised v n) (c.time.ensures.time ∙ ap (λ (m : Moment). m.time) c.requires.next) in
    let new : (q : List ℕ) → map' q ≡ cond {A = Record} (same_key q key) (above_both f (record_joined (map q) (Some (record { time = greatest_of v + 1; site = n }, Gone), Some (record { time = greatest_of v + 1; site = n }, 0)))) (map q)
    = λ q. c.in_ok-write.ensures.ok q ∙ (λ i. cond {A = Record} (same_key q key) (above_both f (record_joined (map q) (Some (c.requires.next i, Gone), Some (c.requires.next i, 0)))) (map q)) in
    let new_held : (q : List ℕ) → held' q ≡ cond {A = Option (List ℕ)} (same_key q key) None (held q) = λ q. c.drop_key.ensures.dropped.held q in
    let norm : (q : List ℕ) → above_both f (map q) ≡ map q = s.versions.above in
    let floor = c.in_ok-write.ensures.floor in
    let puts = delete_puts key in
    let here : (q : List ℕ) → same_key q key ≡ true → version_in (map' q) ≡ None = λ q t. ap version_in (map_at_key v f f' map map' held held' n 0 key (Delete key) Gone None puts s.floor_known s.covered s.named norm num floor new new_held q t) in
    let elsewhere : (q : List ℕ) → same_key q key ≡ false → map' q ≡ map q = map_elsewhere v f f' map map' held held' n 0 key (Delete key) Gone None puts s.floor_known s.covered s.named norm num floor new new_held in
    let all = write_map v f f' map map' held held' n 0 key (Delete key) Gone None puts s.floor_known s.covered s.named norm num floor new new_held before in
    let done = write_same v f f' map map' held held' n 0 key (Delete key) Gone None puts s.floor_known s.covered s.named norm num floor new new_held before after
    (stock_kept map' (map_after (state_in s) (next_operation (greatest_of v) n (Delete key))) before after all (deleted map map' key before after s.named here elsewhere c.drop_key.ensures.dropped c.drop_key.ensures.absent)) in
    record { vector = vec; floor = done.floor; map = done.map; stock = done.stock }

pub invariant_of-self : goal.invariant_of-self
invariant_of-self c =
    let s = c.args.self.now in
    let map = record_in s.versions in
    let new = record_in c.write.new.self in
    let same : (q : List ℕ) → new q ≡ map q = c.in_err-write.ensures.err in
    let held : Held = (stock_in s.values).held in
    record {
      numbered = s.numbered;
      rows = s.rows;
      floor_known = ap (knows_floor s.vector) c.write.ensures.floor ∙ s.floor_known;
      covered = covers_same map new same s.vector s.covered;
      traced = traced_same map new s.changes same s.traced;
      ends = ends_same map new same s.earliest s.ends;
      named = named_same map new same held held (λ q. refl) s.named;
    }

use Rattle.std.proofs.Common.{refl, ◌≡◌, ◌≤◌, ◌+◌, ℕ, List, [], ◌∷◌, ◌++◌, length, sym, subst, ap, ◌∙◌, arith}
use Rattle.std.specs.Prelude.{cond, Some, Option, true}
use Rattle.sha2.specs.Sha256.{sha256}
use Rattle.geo_stamp.specs.Stamps.{Moment}
use Rattle.geo_stamp.specs.Vectors.{raised, greatest_of}
use Rattle.geo_records.specs.Keys.{same_key}
use Rattle.geo_records.specs.Operations.{Record, above_both, record_joined}
use Rattle.geo_records.specs.Operations.Act.{Write}
use Rattle.geo_records.specs.declared.body.Body.TheVariants.{Value}
use Rattle.geo_versions.specs.Maps.{floor_in, record_in, rec_means, listed_at}
use Rattle.geo_values.specs.Stock.{IsStored}
use Rattle.geo_values.specs.Held.{stock_in}
use Rattle.geo_site.specs.Entries.{Held}
use Rattle.geo_site.specs.Machine.{knows_floor, knows_record, map_after, next_operation, without, victim_by, stored}
use Rattle.geo_site.specs.Sites.{state_in}
use Rattle.geo_site.proofs.Entries.{Within, length_raised}
use Rattle.geo_site.proofs.Ending.{ends_put}
use Rattle.geo_site.proofs.Stocking.{stored_held, stored_is, victim_is, victim_fits, stock_done, without_settled}
use Rattle.geo_site.proofs.Written.{floor_none, one_joined, write_puts, write_floor, write_covers, write_named, write_map, write_same}
use Rattle.geo_site.proofs.Noting.{traced_put, traced_same, covers_same, ends_same, named_same}
use Rattle.geo_site.proofs.Rows.{rows_on}
use Rattle.geo_site.proofs.site.Site.write.Goals as goal

pub invariant_of-self-2 : goal.invariant_of-self-2
invariant_of-self-2 c =
    let s = c.args.self.now in
    let v = s.vector in
    let n = s.number in
    let f = floor_in s.versions in
    let map = record_in s.versions in
    let f' = floor_in c.join_records.new.self in
    let map' = record_in c.join_records.new.self in
    let bytes = c.args.value.now in
    let key = c.args.key.now in
    let act = Write key bytes c.args.flags c.args.expiry in
    let st : Moment = record { time = greatest_of v + 1; site = n } in
    let body = Value (sha256 bytes) c.args.flags (length bytes) in
    let before = stock_in s.values in
    let after = stock_in c.store.new.self in
    let held : Held = without (victim_by act before) before.held in
    let held' : Held = after.held in
    let num : Within v n = record { above = s.numbered.0; below = s.numbered.1 } in
    let vec : c.raise.new.self ≡ raised v n (greatest_of v + 1) = c.raise.ensures ∙ ap (raised v n) (c.time.ensures.time ∙ ap (λ (m : Moment). m.time) c.requires.next) in
    let norm : (q : List ℕ) → above_both f (map q) ≡ map q = s.versions.above in
    let floor : f' ≡ f = c.join_records.ensures.floor ∙ floor_none (floor_in c.ready_records.new.self) ∙ c.in_ok-ready_records.ensures.floor in
    let list : c.push.new.self.items ≡ (key, c.record_of.result) ∷ [] = c.in_ok-push.ensures.items ∙ (λ i. c.in_ok-records.ensures.items i ++ (c.in_ok-twin.ensures i, c.record_of.result) ∷ []) in
    let many_bytes = c.of-length.ensures ∙ ap length c.bytes.ensures in
    let means : rec_means c.record_of.result ≡ (Some (st, body), Some (st, c.args.expiry)) = c.record_of.ensures ∙ (λ i. (Some (c.requires.next i, Value (c.digest.ensures i) c.args.flags (many_bytes i)), Some (c.requires.next i, c.args.expiry))) in
    let new : (q : List ℕ) → map' q ≡ cond {A = Record} (same_key q key) (above_both f (record_joined (map q) (Some (st, body), Some (st, c.args.expiry)))) (map q)
    = λ q. c.join_records.ensures.records q ∙ (λ i. above_both (floor i) (record_joined (c.in_ok-ready_records.ensures.records q i) (listed_at c.push.new.self.items q))) ∙ one_joined f map c.push.new.self.items key c.record_of.result (Some (st, body), Some (st, c.args.expiry)) norm list means q in
    let kept : IsStored before after key bytes c.in_ok-victim.victim = c.in_ok-victim.ensures.stored in
    let same = stored_is before after key bytes c.in_ok-victim.victim kept in
    let new_held : (q : List ℕ) → held' q ≡ cond {A = Option (List ℕ)} (same_key q key) (Some bytes) (held q) = λ q. same.held q ∙ stored_held key bytes before q in
    let named = without_settled map before.held (victim_by act before) s.named in
    let puts = write_puts key bytes c.args.flags c.args.expiry in
    let known = write_floor v f f' map map' held held' n c.args.expiry key act body (Some bytes) puts s.floor_known s.covered named norm num floor new new_held in
    let covers = write_covers v f f' map map' held held' n c.args.expiry key act body (Some bytes) puts s.floor_known s.covered named norm num floor new new_held in
    let many = ap length vec ∙ length_raised v n (greatest_of v + 1) in
    let covered : (q : List ℕ) → knows_record c.raise.new.self (map' q) ≡ true = λ q. ap (λ v. knows_record v (map' q)) vec ∙ covers q in
    record {
      numbered = (s.numbered.0, (let h = s.numbered.1 in omega (arith, many, h)), (let h = s.numbered.2 in omega (arith, many, h)));
      rows = rows_on (length s.vector) _ s.heard many s.rows;
      floor_known = ap (λ v. knows_floor v f') vec ∙ known;
      ends = λ q st' e h ne. subst (λ least. least ≤ e) (sym c.earlier-self.ensures) (ends_put s.earliest c.args.expiry st f map map' key (Some (st, body)) s.ends new q st' e h ne);
      covered = λ q. covered q;
      traced = c.note.ensures map' (λ q none. covered q) (traced_put key map map' s.changes (λ q apart. new q ∙ ap (λ t. cond {A = Record} t (above_both f (record_joined (map q) (Some (st, body), Some (st, c.args.expiry)))) (map q)) apart) s.traced);
      named = write_named v f f' map map' held held' n c.args.expiry key act body (Some bytes) puts s.floor_known s.covered named norm num floor new new_held;
    }

pub returns-clause-written : goal.returns-clause-written
returns-clause-written c =
    let s = c.args.self.now in
    let v = s.vector in
    let n = s.number in
    let f = floor_in s.versions in
    let map = record_in s.versions in
    let f' = floor_in c.join_records.new.self in
    let map' = record_in c.join_records.new.self in
    let bytes = c.args.value.now in
    let key = c.args.key.now in
    let act = Write key bytes c.args.flags c.args.expiry in
    let st : Moment = record { time = greatest_of v + 1; site = n } in
    let body = Value (sha256 bytes) c.args.flags (length bytes) in
    let before = stock_in s.values in
    let after = stock_in c.store.new.self in
    let held : Held = without (victim_by act before) before.held in
    let held' : Held = after.held in
    let num : Within v n = record { above = s.numbered.0; below = s.numbered.1 } in
    let vec : c.raise.new.self ≡ raised v n (greatest_of v + 1) = c.raise.ensures ∙ ap (raised v n) (c.time.ensures.time ∙ ap (λ (m : Moment). m.time) c.requires.next) in
    let norm : (q : List ℕ) → above_both f (map q) ≡ map q = s.versions.above in
    let floor : f' ≡ f = c.join_records.ensures.floor ∙ floor_none (floor_in c.ready_records.new.self) ∙ c.in_ok-ready_records.ensures.floor in
    let list : c.push.new.self.items ≡ (key, c.record_of.result) ∷ [] = c.in_ok-push.ensures.items ∙ (λ i. c.in_ok-records.ensures.items i ++ (c.in_ok-twin.ensures i, c.record_of.result) ∷ []) in
    let many_bytes = c.of-length.ensures ∙ ap length c.bytes.ensures in
    let means : rec_means c.record_of.result ≡ (Some (st, body), Some (st, c.args.expiry)) = c.record_of.ensures ∙ (λ i. (Some (c.requires.next i, Value (c.digest.ensures i) c.args.flags (many_bytes i)), Some (c.requires.next i, c.args.expiry))) in
    let new : (q : List ℕ) → map' q ≡ cond {A = Record} (same_key q key) (above_both f (record_joined (map q) (Some (st, body), Some (st, c.args.expiry)))) (map q)
    = λ q. c.join_records.ensures.records q ∙ (λ i. above_both (floor i) (record_joined (c.in_ok-ready_records.ensures.records q i) (listed_at c.push.new.self.items q))) ∙ one_joined f map c.push.new.self.items key c.record_of.result (Some (st, body), Some (st, c.args.expiry)) norm list means q in
    let kept : IsStored before after key bytes c.in_ok-victim.victim = c.in_ok-victim.ensures.stored in
    let same = stored_is before after key bytes c.in_ok-victim.victim kept in
    let new_held : (q : List ℕ) → held' q ≡ cond {A = Option (List ℕ)} (same_key q key) (Some bytes) (held q) = λ q. same.held q ∙ stored_held key bytes before q in
    let named = without_settled map before.held (victim_by act before) s.named in
    let puts = write_puts key bytes c.args.flags c.args.expiry in
    let all = write_map v f f' map map' held held' n c.args.expiry key act body (Some bytes) puts s.floor_known s.covered named norm num floor new new_held before in
    let settles = write_named v f f' map map' held held' n c.args.expiry key act body (Some bytes) puts s.floor_known s.covered named norm num floor new new_held in
    let done = write_same v f f' map map' held held' n c.args.expiry key act body (Some bytes) puts s.floor_known s.covered named norm num floor new new_held before after
    (stock_done map' (map_after (state_in s) (next_operation (greatest_of v) n act)) (stored key bytes before) after all same settles) in
    record { vector = vec; floor = done.floor; map = done.map; stock = done.stock }

pub returns-clause-victim : goal.returns-clause-victim
returns-clause-victim c =
    let before = stock_in c.args.self.now.values in
    let after = stock_in c.store.new.self in
    victim_is before after c.args.key.now c.args.value.now c.in_ok-victim.victim c.in_ok-victim.ensures.stored

pub returns-clause-fits : goal.returns-clause-fits
returns-clause-fits c =
    let before = stock_in c.args.self.now.values in
    let after = stock_in c.store.new.self in
    victim_fits before after c.args.key.now c.args.value.now c.args.flags c.args.expiry c.in_ok-victim.victim c.in_ok-victim.ensures.stored

pub invariant_of-self : goal.invariant_of-self
invariant_of-self c =
    let s = c.args.self.now in
    let map = record_in s.versions in
    let new = record_in c.ready_records.new.self in
    let same : (q : List ℕ) → new q ≡ map q = c.in_err-ready_records.ensures.records in
    let held : Held = (stock_in s.values).held in
    record {
      numbered = s.numbered;
      rows = s.rows;
      floor_known = ap (knows_floor s.vector) c.in_err-ready_records.ensures.floor ∙ s.floor_known;
      covered = covers_same map new same s.vector s.covered;
      traced = traced_same map new s.changes same s.traced;
      ends = ends_same map new same s.earliest s.ends;
      named = named_same map new same held held (λ q. refl) s.named;
    }

pub invariant_of-self-in-Break-branch-5 : goal.invariant_of-self-in-Break-branch-5
invariant_of-self-in-Break-branch-5 c =
    let s = c.args.self.now in
    let map = record_in s.versions in
    let new = record_in c.ready_records.new.self in
    let same : (q : List ℕ) → new q ≡ map q = c.in_ok-ready_records.ensures.records in
    let held : Held = (stock_in s.values).held in
    let now : Held = (stock_in c.store.new.self).held in
    record {
      numbered = s.numbered;
      rows = s.rows;
      floor_known = ap (knows_floor s.vector) c.in_ok-ready_records.ensures.floor ∙ s.floor_known;
      covered = covers_same map new same s.vector s.covered;
      traced = traced_same map new s.changes same s.traced;
      ends = ends_same map new same s.earliest s.ends;
      named = named_same map new same held now c.in_err-victim.ensures.unchanged.held s.named;
    }

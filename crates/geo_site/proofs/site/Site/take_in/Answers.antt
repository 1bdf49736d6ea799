use Rattle.std.proofs.Common.{◌≡◌, ℕ, List, true≢false, refl, sym, ap, ◌∙◌, subst, arith, length}
use Rattle.geo_stamp.specs.Acks.{Heard, heard, looked}
use Rattle.geo_site.specs.Sites.{state_in, delta_of, horizon_in, knows_all}
use Rattle.geo_site.proofs.Stocking.{stock_same}
use Rattle.geo_site.proofs.Taking.{take_from_same, take_alike}
use Rattle.geo_versions.specs.Maps.{record_in, listed_at, HasRoomFor, Rec}
use Rattle.geo_maps.specs.Maps.{missing}
use Rattle.geo_records.specs.Keys.{same_key}
use Rattle.geo_records.specs.Operations.{Record, record_joined}
use Rattle.geo_site.proofs.Noting.{traced_same, covers_same, ends_same, named_same}
use Rattle.geo_values.specs.Held.{stock_in}
use Rattle.geo_site.specs.Machine.{Delta, Same, take, sifted_delta, knows_floor}
use Rattle.geo_site.proofs.Rows.{rows_heard, rows_looked}
use Rattle.geo_site.proofs.Sifting.{brings, sound_from, listed_sifted, missing_sifted, knows_sifted, sound_records}
use Rattle.std.specs.Result.{is_ok}
use Rattle.geo_site.proofs.site.Site.take_in.Goals as goal

pub returns-clause-does : goal.returns-clause-does
returns-clause-does c =
    let s = c.args.self.now in
    let p = c.args.parcel in
    let ready = c.ready_records.ensures in
    let brought : Delta = record { upto = p.upto; floor = p.floor; map = listed_at c.sifted-records.result } in
    let joined : Delta = record { upto = p.upto; floor = p.floor; map = listed_at c.news-records.result } in
    let alike = λ (q : List ℕ). subst (λ (r : Record). record_joined r (joined.map q) ≡ record_joined r (brought.map q)) (ready.records q) (c.news-records.ensures.same q) in
    let is : brought ≡ sifted_delta (horizon_in s) (delta_of p) = λ i. record { upto = p.upto; floor = p.floor; map = λ q. (ap (λ es. listed_at es q) c.sifted-records.ensures ∙ listed_sifted (horizon_in s) p.records q) i } in (
      c.in_default.ensures,
      subst (λ d. Same (take s.number d (state_in s)) (state_in c.join-taken.new.self)) is
          (subst (λ st. Same st (state_in c.join-taken.new.self)) (take_alike s.number joined brought (state_in s) refl refl alike)
          (take_from_same s.number joined (state_in s) _ (state_in c.join-taken.new.self) (record { vector = refl; floor = ready.floor; map = ready.records; stock = stock_same _ }) c.join-taken.ensures.joined)),
      c.join-taken.ensures.rose,
      c.join-taken.ensures.dropped,
      c.look-2.ensures ∙ (λ i. looked ((c.join-taken.ensures.stays.2 ∙ c.heard.ensures ∙ ap (λ (h : Heard). heard h p.from p.upto p.retired) c.look.ensures) i) (c.join-taken.ensures.stays.0 i) c.join-taken.new.self.vector),
    )

pub invariant_of-self : goal.invariant_of-self
invariant_of-self c =
    let s = c.args.self.now in
    let map = record_in s.versions in
    let new = record_in c.ready_records.new.self in
    let same : (q : List ℕ) → new q ≡ map q = c.ready_records.ensures.records in
    record {
      numbered = s.numbered;
      rows = s.rows;
      floor_known = ap (knows_floor s.vector) c.ready_records.ensures.floor ∙ s.floor_known;
      covered = covers_same map new same s.vector s.covered;
      traced = traced_same map new s.changes same s.traced;
      ends = ends_same map new same s.earliest s.ends;
      named = named_same map new same (stock_in s.values).held (stock_in s.values).held (λ q. refl) s.named;
    }

pub invariant_of-self-2 : goal.invariant_of-self-2
invariant_of-self-2 c =
    let s = c.args.self.now in
    let map = record_in s.versions in
    let new = record_in c.ready_records.new.self in
    let same : (q : List ℕ) → new q ≡ map q = c.ready_records.ensures.records in
    let p = c.args.parcel in
    let from = sound_from (length s.vector) s.number p c.in_default.ensures.1 in
    record {
      numbered = s.numbered;
      rows = rows_heard (length s.vector) p.from c.look.new.self c.heard.new.self p.upto p.retired (omega (arith, s.numbered.0, s.numbered.1)) from.0 from.1 from.2 from.3 c.heard.ensures
          (rows_looked (length s.vector) s.number s.heard c.look.new.self s.vector c.look.ensures s.rows);
      floor_known = ap (knows_floor s.vector) c.ready_records.ensures.floor ∙ s.floor_known;
      covered = covers_same map new same s.vector s.covered;
      traced = traced_same map new s.changes same s.traced;
      ends = ends_same map new same s.earliest s.ends;
      named = named_same map new same (stock_in s.values).held (stock_in s.values).held (λ q. refl) s.named;
    }

pub invariant_of-self-3 : goal.invariant_of-self-3
invariant_of-self-3 c =
    let new = c.join-taken.new.self in
    record {
      numbered = new.numbered;
      rows = rows_looked (length new.vector) new.number new.heard c.look-2.new.self new.vector c.look-2.ensures new.rows;
      floor_known = new.floor_known;
      covered = new.covered;
      traced = new.traced;
      ends = new.ends;
      named = new.named;
    }

pub join-taken-requires-clause-room : goal.join-taken-requires-clause-room
join-taken-requires-clause-room c =
    let s = c.args.self.now in
    let records = c.args.parcel.records in
    let new = c.ready_records.new.self in
    let room : HasRoomFor new records = subst (λ es. HasRoomFor new es) c.as_slice.ensures c.in-Ok.ensures.room in
    let fewer = missing_sifted (horizon_in s) new.records.entries records in
    let is = ap (λ (es : List (List ℕ × Rec)). missing same_key new.records.entries es) c.sifted-records.ensures in
    c.news-records.ensures.fewer (omega (arith, room, fewer, is))

pub join-taken-requires-clause-records_known : goal.join-taken-requires-clause-records_known
join-taken-requires-clause-records_known c =
    let s = c.args.self.now in
    let p = c.args.parcel in
    c.news-records.ensures.known p.upto (ap (knows_all p.upto) c.sifted-records.ensures ∙ knows_sifted p.upto (horizon_in s) p.records (sound_records (length s.vector) s.number p c.in_default.ensures.1))

pub returns-in-Err-clause-does : goal.returns-in-Err-clause-does
returns-in-Err-clause-does c =
    let s = c.args.self.now in
    let p = c.args.parcel in
    let ready = c.ready_records.ensures in (
      (c.in_default.ensures, brings s p (λ room. true≢false (sym (ready.succeeds (subst (λ es. HasRoomFor s.versions es) (sym c.as_slice.ensures) room)) ∙ ap is_ok c.in-Err.is))),
      refl,
      record { vector = refl; floor = ready.floor; map = ready.records; stock = stock_same _ },
      refl,
    )

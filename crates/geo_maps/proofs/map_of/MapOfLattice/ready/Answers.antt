use Rattle.std.proofs.Common.{◌∙◌, arith, sym, ap, true≢false}
use Rattle.std.proofs.Common.{◌≤◌, subst, subst₂}
use Rattle.std.proofs.lemmas.Result.{on_ok_weaker}
use Rattle.std.specs.Map.{lookup}
use Rattle.geo_maps.specs.Maps.{missing, RoomFor}
use Rattle.geo_maps.proofs.Joining.{room_everywhere, room_stays, next_room, drop_own}
use Rattle.geo_maps.proofs.Missing.{missing_fewer}
use Rattle.geo_maps.proofs.map_of.MapOfLattice.ready.Goals.{in-Some+in_ok-ready_at, in_default}
use Rattle.geo_maps.proofs.map_of.MapOfLattice.ready.Goals as goal

pub loop-i-preserved : goal.loop-i-preserved
loop-i-preserved g c = elim c.match-get_index.branch [
  | in-Some+in_ok-ready_at w ↦
      let one = w.in_ok-ready_at.ensures in
      let own = w.in-Some.ensures in
      record {
        kept = λ q. rw w.self-is (one.kept q ∙ c.loop-i.invariant.kept q);
        room = rw w.self-is (next_room g.L.Lattice.HasRoom g.K.PartialEq.eq g.met.K.Eq.laws _ _ _ _ _ _ own.entry own.value one.room one.others c.loop-i.invariant.room);
        places = rw w.self-is (λ h.
            let before = c.loop-i.invariant.places h in
            let fewer = missing_fewer g.K.PartialEq.eq c.loop-i.self.entries w.ready_at.new.self.entries c.other.inside.entries.entries one.keys in
            omega (arith, before, fewer, one.places));
        values = rw w.self-is (λ h. room_stays g.L.Lattice.HasRoom g.K.PartialEq.eq g.met.K.Eq.laws _ _ _ _ _ own.value one.room one.others (c.loop-i.invariant.values h));
      }
  | in_default w ↦ absurd (true≢false (sym (w.in_default.ensures.found.1 (omega arith))))
]

pub returns-clause-room : goal.returns-clause-room
returns-clause-room g c =
    let R = g.L.Lattice.HasRoom in
    let eq = g.K.PartialEq.eq in
    let mine = c.reserve.ensures.entries ∙ ap (λ m. m.entries) c.self.view_is in
    let theirs = ap (λ m. m.entries) c.other.view_is in
    on_ok_weaker c.reserve.result (λ fits. record {
      keys = let same = ap (λ es. missing eq es c.args.other.now.entries) mine in omega (arith, fits, same, c.count_missing-missing.ensures);
      values = λ q. subst₂ (λ es fs. RoomFor R (lookup (eq q) es) (lookup (eq q) fs)) (sym mine) theirs
          (room_everywhere R eq g.met.K.Eq.laws _ _ c.loop-i.i (omega arith) (drop_own R eq _ _ _ c.loop-i.invariant.room) q);
    }) c.reserve.ensures.ok

pub returns-in_err-ready_at-clause-succeeds : goal.returns-in_err-ready_at-clause-succeeds
returns-in_err-ready_at-clause-succeeds g c h =
    let R = g.L.Lattice.HasRoom in
    let eq = g.K.PartialEq.eq in
    let theirs = ap (λ m. m.entries) c.other.view_is in
    let own = c.in-Some.ensures in
    let each = c.loop-i.invariant.values (λ q. subst (λ fs. RoomFor R (lookup (eq q) c.args.self.now.entries) (lookup (eq q) fs)) (sym theirs) (h.values q)) in
    absurd (true≢false (sym (c.in_err-ready_at.ensures.succeeds (subst (RoomFor R (lookup (eq c.in-Some.key.now) c.loop-i.self.entries)) own.value (each c.in-Some.key.now)))))

pub returns-clause-succeeds : goal.returns-clause-succeeds
returns-clause-succeeds g c h =
    let eq = g.K.PartialEq.eq in
    let theirs = ap (λ m. m.entries) c.other.view_is in
    let spare = ap (λ m. m.spare) c.self.view_is in
    let fits = c.loop-i.invariant.places (subst (λ fs. missing eq c.args.self.now.entries fs ≤ c.args.self.now.spare) (sym theirs) h.keys) in
    let there = subst (λ fs. missing eq c.loop-i.self.entries fs ≤ c.loop-i.self.spare) theirs fits in
    c.reserve.ensures.succeeds (omega (arith, spare, there, c.count_missing-missing.ensures))

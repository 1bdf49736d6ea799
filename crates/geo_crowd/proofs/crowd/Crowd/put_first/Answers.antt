use Rattle.std.proofs.Common.{◌≡◌, ◌≤◌, length, vec_capacity, arith}
use Rattle.geo_crowd.proofs.Listed.{stands_rotated, length_rotated}
use Rattle.geo_crowd.proofs.crowd.Crowd.put_first.Goals as goal

pub invariant_of-self : goal.invariant_of-self
invariant_of-self g c =
    let now = c.args.self.now.listed.items in
    let next = c.rotate_left.new.self.items in
    record {
      lists = λ number h. stands_rotated c.args.count now next number c.rotate_left.ensures.items (c.args.self.now.lists number h);
      room = omega (arith, length_rotated c.args.count now next c.rotate_left.ensures.items, c.rotate_left.ensures.capacity, c.args.self.now.room);
    }

use Rattle.std.proofs.Common.{◌≤◌, ◌-◌, length, arith}
use Rattle.geo_lru.proofs.Places.{put_entries-absent}
use Rattle.geo_lru.proofs.list.ItemList.push_head.Goals as goal

pub returns-clause-pushed : goal.returns-clause-pushed
returns-clause-pushed c =
    let fits : length c.self.inside.entries.entries ≤ c.self.inside.entries.cap - 1 = omega (arith, c.self.invariant, c.len-len.ensures.fits, c.len-len.ensures.len) in
    rw (c.in_ok-put.ensures.entries, put_entries-absent c.self.inside.entries c.args.item c.args.access (rw c.self.view_is c.requires) fits, c.self.view_is)

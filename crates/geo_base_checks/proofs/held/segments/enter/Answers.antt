use Rattle.std.proofs.Common.{arith}
use Rattle.std.specs.Cmp.{nat_eq_equiv}
use Rattle.geo_lru.proofs.Calls.{places-left}
use Rattle.geo_base_checks.proofs.held.segments.enter.Goals as goal

pub enter-requires : goal.enter-requires
enter-requires c =
    let once = c.victim-next.ensures.once c.args.item in
    let gone = places-left c.args.item c.args.item c.args.segments.now once in
    rw (c.leave.ensures, gone, nat_eq_equiv.refl c.args.item) (omega (arith, once))

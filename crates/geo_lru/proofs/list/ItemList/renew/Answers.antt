use Rattle.std.proofs.Common.{◌≡◌, nat_eq, sym, Some, refl}
use Rattle.std.specs.Map.{lookup}
use Rattle.geo_lru.proofs.Places.{brought}
use Rattle.geo_lru.proofs.list.ItemList.renew.Goals as goal

pub returns-clause-renewed : goal.returns-clause-renewed
returns-clause-renewed c =
    let there : lookup (nat_eq c.args.item) c.self.inside.entries.entries ≡ Some c.in-Some.access.now = sym c.in-Some.ensures.value in
    rw (brought c.args.item c.self.inside.entries.entries c.in-Some.access.now c.unseen-fresh.result there, c.unseen-fresh.ensures, ← c.self.view_is) refl

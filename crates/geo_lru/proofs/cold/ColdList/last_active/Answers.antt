use Rattle.std.proofs.Common.{◌≡◌, refl, sym, subst, arith, inr}
use Rattle.std.proofs.lemmas.Bool.{ltb-true}
use Rattle.geo_lru.specs.Lists.{active_count}
use Rattle.geo_lru.specs.Placed.{IsFiled, IsIndexed}
use Rattle.geo_lru.proofs.Placing.{each-idle, each-more, falling-more}
use Rattle.geo_lru.proofs.Tallies.{last_active-none}
use Rattle.geo_lru.proofs.cold.ColdList.last_active.Goals as goal

pub invariant_of-self : goal.invariant_of-self
invariant_of-self c = record {
  tallied = c.self.invariant.tallied;
  falling = c.self.invariant.falling;
  below = λ t. ltb-true _ _ t;
  each = λ t. each-idle (IsFiled c.shrink_to.new.self.items c.clear-then-is_idle.new.self) c.self.inside.entries.entries (subst (λ l. active_count l ≡ 0) (sym c.self.view_is) (c.if-is_idle.ensures refl));
}

pub returns-then-is_idle-clause-found : goal.returns-then-is_idle-clause-found
returns-then-is_idle-clause-found c = sym (last_active-none c.args.self.now (c.if-is_idle.ensures refl))

pub first_active-requires-clause-falling : goal.first_active-requires-clause-falling
first_active-requires-clause-falling c = falling-more c.self.inside.next 18446744073709551616 c.self.inside.entries.entries (omega (arith, c.if-self-ge-PLACES.false)) (c.self.invariant.falling (omega (arith, c.if-self-ge-PLACES.false)))

pub invariant_of-self-2 : goal.invariant_of-self-2
invariant_of-self-2 c = record {
  tallied = c.self.invariant.tallied;
  falling = c.self.invariant.falling;
  below = λ t. omega (arith, c.if-self-ge-PLACES.false);
  each = λ t. each-more (IsIndexed c.first_active.new.index) (IsFiled c.index_all-self-inside.new.noted.items c.first_active.new.index) c.self.inside.entries.entries (λ q i has. inr has) c.first_active.ensures.indexed;
}

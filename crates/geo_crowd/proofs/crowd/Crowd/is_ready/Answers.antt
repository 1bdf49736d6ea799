use Rattle.std.proofs.Common.{◌≡◌, ℕ, ◌<◌, ◌++◌, ◌∷◌, [], List, true, false, cond, length, vec_capacity, vec_len, sym, ap, subst, ◌∙◌, arith}
use Rattle.std.proofs.lemmas.List.{length-append}
use Rattle.slab.specs.Slab.{get}
use Rattle.geo_crowd.specs.Listing.{AllListed, is_listed_at, is_unlisted}
use Rattle.geo_crowd.proofs.Listed.{unlisted_moves, listed_in, listed_still, some_carried, when_ok}
use Rattle.geo_crowd.proofs.crowd.Crowd.is_ready.Goals as goal

pub invariant_of-self : goal.invariant_of-self
invariant_of-self g c =
    let number = c.args.ready.number in
    let old = c.args.self.now.roster.members in
    let new = c.wake.new.self.members in
    let numbers = c.args.self.now.listed.items in
    let fresh : is_unlisted (get old number) ≡ false = sym c.wake.ensures.fresh ∙ c.if-not-wake.true in
    let moved = unlisted_moves number old new c.wake.ensures.others in
    let was : cond {A = ℕ} (is_unlisted (get old number)) 1 0 ≡ 0 = ap (λ b. cond {A = ℕ} b 1 0) fresh in
    let is : cond {A = ℕ} (is_unlisted (get new number)) 1 0 ≡ 0 = ap (λ b. cond {A = ℕ} b 1 0) c.wake.ensures.none in
    record {
      lists = listed_still number old new numbers c.wake.ensures.others fresh (c.wake.ensures.listed ∙ some_carried (get old number)) c.args.self.now.lists;
      room = omega (arith, moved, was, is, c.args.self.now.room);
    }

pub invariant_of-self-2 : goal.invariant_of-self-2
invariant_of-self-2 g c =
    let number = c.args.ready.number in
    let old = c.args.self.now.roster.members in
    let new = c.wake.new.self.members in
    let numbers = c.args.self.now.listed.items in
    let fresh : is_unlisted (get old number) ≡ true = sym c.wake.ensures.fresh ∙ c.if-not-wake.false in
    let moved = unlisted_moves number old new c.wake.ensures.others in
    let was : cond {A = ℕ} (is_unlisted (get old number)) 1 0 ≡ 1 = ap (λ b. cond {A = ℕ} b 1 0) fresh in
    let is : cond {A = ℕ} (is_unlisted (get new number)) 1 0 ≡ 0 = ap (λ b. cond {A = ℕ} b 1 0) c.wake.ensures.none in
    let items : c.push.new.self.items ≡ numbers ++ number ∷ [] = when_ok c.push.result numbers (numbers ++ number ∷ []) c.push.new.self.items c.push.ensures.items (c.push.ensures.succeeds (omega (arith, moved, was, is, c.args.self.now.room))) in
    record {
      lists = subst (λ (l : List ℕ). AllListed (is_listed_at new) l) (sym items) (listed_in number old new numbers c.wake.ensures.others c.args.self.now.lists);
      room = omega (arith, moved, was, is, c.args.self.now.room, c.push.ensures.capacity, ap (λ (l : List ℕ). length l) items, length-append numbers (number ∷ []));
    }

use Rattle.std.proofs.Common.{◌≡◌, ℕ, ◌++◌, ◌∷◌, [], List, cond, length, sym, ap, subst, ◌∙◌, arith}
use Rattle.std.proofs.lemmas.List.{length-append}
use Rattle.slab.specs.Slab.{get}
use Rattle.geo_crowd.specs.Listing.{AllListed, is_listed_at, is_unlisted}
use Rattle.geo_crowd.proofs.Listed.{few_slots, listed_in, listed_not, listed_same, unlisted_moves, unlisted_same, when_ok}
use Rattle.geo_crowd.proofs.crowd.Crowd.add.Goals as goal

pub invariant_of-self-in-Ok : goal.invariant_of-self-in-Ok
invariant_of-self-in-Ok g c =
    let number = c.in-Ok.number in
    let old = c.args.self.now.roster.members in
    let new = c.insert.new.self.members in
    let numbers = c.args.self.now.listed.items in
    let moved = unlisted_moves number old new c.in-Ok.ensures.others in
    let few = few_slots old.slots in
    let was : cond {A = ℕ} (is_unlisted (get old number)) 1 0 ≡ 0 = ap (λ slot. cond {A = ℕ} (is_unlisted slot) 1 0) c.in-Ok.ensures.free in
    let is : cond {A = ℕ} (is_unlisted (get new number)) 1 0 ≡ 0 = ap (λ b. cond {A = ℕ} b 1 0) (listed_not (get new number) c.in-Ok.ensures.listed) in
    let room = c.in_ok-reserve.ensures.ok in
    let items : c.push.new.self.items ≡ numbers ++ number ∷ [] = when_ok c.push.result c.reserve.new.self.items (c.reserve.new.self.items ++ number ∷ []) c.push.new.self.items c.push.ensures.items (c.push.ensures.succeeds (omega (arith, room, c.in-Some.ensures)))
    ∙ ap (λ (l : List ℕ). l ++ number ∷ []) c.reserve.ensures.items in
    record {
      lists = subst (λ (l : List ℕ). AllListed (is_listed_at new) l) (sym items) (listed_in number old new numbers c.in-Ok.ensures.others c.args.self.now.lists);
      room = omega (arith, moved, was, is, few, room, c.in-Some.ensures, c.len.ensures, c.push.ensures.capacity, ap (λ (l : List ℕ). length l) items, length-append numbers (number ∷ []), ap (λ (l : List ℕ). length l) c.reserve.ensures.items);
    }

pub invariant_of-self-in-Err-insert : goal.invariant_of-self-in-Err-insert
invariant_of-self-in-Err-insert g c =
    let old = c.args.self.now.roster.members in
    let new = c.insert.new.self.members in
    let numbers = c.args.self.now.listed.items in
    let same = c.in-Err.ensures.unchanged in
    let count = unlisted_same old new same in
    record {
      lists = subst (λ (l : List ℕ). AllListed (is_listed_at new) l) (sym c.reserve.ensures.items) (listed_same old new numbers same c.args.self.now.lists);
      room = omega (arith, count, c.args.self.now.room, c.reserve.ensures.capacity, ap (λ (l : List ℕ). length l) c.reserve.ensures.items);
    }

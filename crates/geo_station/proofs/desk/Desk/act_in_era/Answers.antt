use Rattle.std.proofs.Common.{cond, refl, inl, inr, subst}
use Rattle.geo_history.specs.Keeping.{ActsFor, DoesNothing}
use Rattle.geo_station.proofs.Stepping.{ticked_number}
use Rattle.geo_history.specs.Stories.{story_in}
use Rattle.geo_station.proofs.Counting.{few_flushes, called_after}
use Rattle.geo_station.proofs.desk.Desk.act_in_era.Goals as goal

pub returns-in-Ok-answer-clause-made : goal.returns-in-Ok-answer-clause-made
returns-in-Ok-answer-clause-made g c = (cond c.in-Ok._flushed 1 0, few_flushes c.in-Ok._flushed, called_after c.args.account.now.count c.tick.new.account.count c.answer.new.account.count (cond c.in-Ok._flushed 1 0) c.in-Ok.ensures.told c.in-Ok-answer.ensures.made)

pub returns-then-is_spent-clause-does : goal.returns-then-is_spent-clause-does
returns-then-is_spent-clause-does g c = record { mid = story_in c.args.self.now.kept; first = inl refl; then = inl refl }

pub returns-then-not-has_room-clause-does : goal.returns-then-not-has_room-clause-does
returns-then-not-has_room-clause-does g c = record { mid = story_in c.args.self.now.kept; first = inl refl; then = inl refl }

pub returns-in_default-clause-does : goal.returns-in_default-clause-does
returns-in_default-clause-does g c = record { mid = story_in c.args.self.now.kept; first = inl refl; then = inl c.in_default.ensures.does }

pub returns-then-is_spent-2-clause-does : goal.returns-then-is_spent-2-clause-does
returns-then-is_spent-2-clause-does g c = record { mid = story_in c.args.self.now.kept; first = inl refl; then = inr c.in-Ok.ensures.does.1 }

pub returns-then-not-has_room-2-clause-does : goal.returns-then-not-has_room-2-clause-does
returns-then-not-has_room-2-clause-does g c = record { mid = story_in c.args.self.now.kept; first = inl refl; then = inr c.in-Ok.ensures.does.1 }

pub returns-in-Ok-answer-clause-does : goal.returns-in-Ok-answer-clause-does
returns-in-Ok-answer-clause-does g c = record {
  flushed = c.in-Ok._flushed;
  mid = story_in c.tick.new.self.kept;
  flush = c.in-Ok.ensures.does;
  undue = c.in-Ok.ensures.undue;
  acts = subst (λ n. ActsFor (story_in c.tick.new.self.kept) (story_in c.answer.new.self.kept) n c.args.now c.args.request c.in-Ok-answer.replies) (ticked_number c.in-Ok._flushed c.args.self.now.journal c.tick.new.self.journal c.args.account.now.mark c.tick.new.account.mark c.args.now c.in-Ok.ensures.noted) c.in-Ok-answer.ensures.does;
}

pub returns-in-Err-clause-does : goal.returns-in-Err-clause-does
returns-in-Err-clause-does g c = record { mid = story_in c.tick.new.self.kept; first = inr c.in-Ok.ensures.does.1; then = subst (λ n. DoesNothing (story_in c.tick.new.self.kept) (story_in c.answer.new.self.kept) n c.args.now) (ticked_number c.in-Ok._flushed c.args.self.now.journal c.tick.new.self.journal c.args.account.now.mark c.tick.new.account.mark c.args.now c.in-Ok.ensures.noted) c.in-Err.ensures.does }

pub returns-then-is_spent-2-clause-unmade : goal.returns-then-is_spent-2-clause-unmade
returns-then-is_spent-2-clause-unmade g c = (cond c.in-Ok._flushed 1 0, few_flushes c.in-Ok._flushed, c.in-Ok.ensures.told)

pub returns-then-not-has_room-2-clause-unmade : goal.returns-then-not-has_room-2-clause-unmade
returns-then-not-has_room-2-clause-unmade g c = (cond c.in-Ok._flushed 1 0, few_flushes c.in-Ok._flushed, c.in-Ok.ensures.told)

use Rattle.std.proofs.Common.{◌≡◌, ◌+◌, false}
use Rattle.geo_history.specs.Keeping.{is_flush_due}
use Rattle.geo_history.specs.Stories.{story_in}
use Rattle.geo_station.specs.Wholes.{NotesCare}
use Rattle.geo_station.proofs.desk.Desk.reap_due.Given as goal

abbrev pub invariant-loop-count : goal.invariant-loop-count
invariant-loop-count g l = (is_flush_due (story_in l.self.kept) l.fn.now ≡ false) × (l.account.count ≡ l.fn.account.count + l.count)
    × NotesCare l.fn.self.journal l.self.journal l.fn.account.mark l.account.mark

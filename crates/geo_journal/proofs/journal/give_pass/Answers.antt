use Rattle.geo_journal.proofs.Moves.{gives_as}
use Rattle.geo_journal.proofs.journal.give_pass.Goals as goal

pub split_seat-requires : goal.split_seat-requires
split_seat-requires c = (c.requires.table.1, c.requires.table.0, gives_as _ _ _ _ _ c.requires.keeper)

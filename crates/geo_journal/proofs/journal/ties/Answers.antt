use Rattle.geo_journal.proofs.Moves.{begins}
use Rattle.geo_journal.proofs.journal.ties.Goals as goal

pub of_words-requires : goal.of_words-requires
of_words-requires c = begins c.args.start

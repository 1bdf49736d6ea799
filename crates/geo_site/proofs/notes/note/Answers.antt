use Rattle.geo_delta.specs.Changes.{nothing_pending}
use Rattle.geo_site.proofs.Noting.{traced_either, traced_one, trailed_one}
use Rattle.geo_site.proofs.notes.note.Goals as goal

pub returns : goal.returns
returns c = λ map knows t. (
  traced_either c.note.result nothing_pending map c.args.key.now c.args.after.now c.args.changes.now.newest c.note.new.self c.note.ensures.kept c.note.ensures.lost knows (traced_one map c.args.key.now c.args.changes.now.newest t.0),
  c.note-2.ensures.trailed nothing_pending map knows (trailed_one map c.args.key.now c.args.changes.now.trail t.1),
)

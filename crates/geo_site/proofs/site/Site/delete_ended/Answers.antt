use Rattle.std.proofs.Common.{refl, sym}
use Rattle.geo_site.proofs.Reaping.{reaps_nothing, reaps_not, reaps}
use Rattle.geo_site.proofs.site.Site.delete_ended.Goals as goal

pub returns-then-not-is_to_reap : goal.returns-then-not-is_to_reap
returns-then-not-is_to_reap c = record {
  mid = c.flush_due.new.self;
  flush = c.flush_due.ensures.flush;
  does = reaps_nothing c.flush_due.new.self c.flush_due.new.self c.args.now c.args.key.now (sym c.if-not-is_to_reap.ensures);
  rests = (refl, refl);
  stays = (refl, refl, refl);
}

pub returns-in_default : goal.returns-in_default
returns-in_default c = record {
  mid = c.flush_due.new.self;
  flush = c.flush_due.ensures.flush;
  does = reaps_not c.flush_due.new.self c.flush_due.new.self c.args.now c.args.key.now (sym c.if-not-is_to_reap.ensures) c.in_default.ensures;
  rests = (refl, refl);
  stays = (refl, refl, refl);
}

pub returns-in-Ok : goal.returns-in-Ok
returns-in-Ok c = record {
  mid = c.flush_due.new.self;
  flush = c.flush_due.ensures.flush;
  does = reaps c.flush_due.new.self c.delete.new.self c.args.now c.args.key.now (sym c.if-not-is_to_reap.ensures) c.in-Some.ensures.0 c.in-Ok.ensures.deleted;
  rests = c.delete.ensures.rests;
  stays = c.delete.ensures.stays;
}

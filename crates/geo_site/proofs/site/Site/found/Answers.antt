use Rattle.std.proofs.Common.{List, take, sym, subst, arith}
use Rattle.std.specs.List.{All}
use Rattle.std.proofs.lemmas.Result.{err_from_is_err_and}
use Rattle.geo_requests.specs.declared.reply.Found.{Found}
use Rattle.geo_site.specs.Machine.{visible_in}
use Rattle.geo_site.specs.Repeats.{Shows}
use Rattle.geo_site.specs.Sites.{state_in}
use Rattle.geo_site.proofs.Found.{found_more, found_some}
use Rattle.geo_site.proofs.Repeating.{found_shows}
use Rattle.geo_site.proofs.site.Site.found.Goals as goal

pub look-requires : goal.look-requires
look-requires c =
    let seen = visible_in (state_in c.args.self.now) c.args.now in
    subst (λ (found : List Found). All (Shows c.args.numbers seen) found) (sym c.loop-key.invariant) (found_shows c.args.numbers seen (take c.loop-key.key-index c.args.keys.now))

pub loop-key-preserved : goal.loop-key-preserved
loop-key-preserved c =
    let seen = visible_in (state_in c.args.self.now) c.args.now in
    found_more c.args.numbers seen c.args.keys.now c.loop-key.key-index c.key-item.result c.loop-key.findings.all.items c.look.new.findings.all.items (omega arith) c.key-item.is c.loop-key.invariant c.in_ok-look.ensures.looked

pub returns-in_err-look-clause-memory : goal.returns-in_err-look-clause-memory
returns-in_err-look-clause-memory c =
    let seen = visible_in (state_in c.args.self.now) c.args.now in
    let some = c.in_err-look.ensures.memory in
    let p = err_from_is_err_and c.from_residual.result c.from_residual.ensures.1 in
    rw p.1 (found_some c.args.numbers seen c.args.keys.now c.loop-key.key-index c.key-item.result (omega arith) c.key-item.is some)

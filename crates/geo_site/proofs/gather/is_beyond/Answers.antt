use Rattle.std.proofs.Common.{◌∙◌, sym, ap, arith}
use Rattle.std.specs.Prelude.{option_copied}
use Rattle.geo_site.proofs.Gathered.{beyond, untrue}
use Rattle.geo_site.proofs.gather.is_beyond.Goals as goal

pub returns-in-Some : goal.returns-in-Some
returns-in-Some c = λ told.
    let many = c.if-found-most.false in
    beyond c.args.key.now c.in-Some.last.now c.args.found.now c.args.most c.requires.rises c.requires.few (omega (arith, many))
    (sym c.last.ensures.value ∙ ap option_copied c.in-Some.is) (sym c.lt.ensures ∙ untrue c.lt.result told)

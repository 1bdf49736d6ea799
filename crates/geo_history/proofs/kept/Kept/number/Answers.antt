use Rattle.std.proofs.Common.{◌≡◌, ◌∙◌, sym, ap, subst}
use Rattle.geo_site.specs.Machine.{Numbered}
use Rattle.geo_site.specs.Sites.{state_in}
use Rattle.geo_site.specs.Standings.{Who}
use Rattle.geo_history.proofs.kept.Kept.number.Goals as goal

pub returns-clause-number : goal.returns-clause-number
returns-clause-number c = ap (λ (w : Who). w.number) (sym c.args.self.now.who)

pub returns-clause-among : goal.returns-clause-among
returns-clause-among c =
    let site = c.args.self.now.parts.site in
    subst (λ n. Numbered n (state_in site).vector) (ap (λ (w : Who). w.number) c.args.self.now.who) site.numbered

use Rattle.std.proofs.Common.{◌≡◌, false, Option, None, Some, is_some, refl, sym, ap, ◌∙◌}
use Rattle.std.specs.Option.{option_map}
use Rattle.geo_site.specs.Machine.{visible_in}
use Rattle.geo_site.specs.Sites.{state_in}
use Rattle.geo_site.proofs.Passing.{passed_by}
use Rattle.geo_site.proofs.site.Site.is_found.Goals as goal

none_mapped : {A B : Type 0} (f : A → B) (o : Option A) → is_some o ≡ false → is_some (option_map f o) ≡ false
none_mapped f None e = refl
none_mapped f (Some x) e = e

pub returns-else-is_some-clause-passed : goal.returns-else-is_some-clause-passed
returns-else-is_some-clause-passed c = λ ends.
    let none = ap is_some (sym c.entry.ensures) ∙ none_mapped _ c.entry.result (sym c.is_some.ensures ∙ c.if-is_some.false) in
    passed_by (visible_in (state_in c.args.self.now) c.args.now) c.args.passed.now c.args.before.now c.args.key.now none (c.requires ends)

use Rattle.std.proofs.Common.{◌≡◌, List, true, cond, [], ◌∷◌, inl, refl, sym, ap, ◌∙◌, subst, arith}
use Rattle.std.proofs.lemmas.Bool.Decides.{nat_tests}
use Rattle.geo_records.specs.Operations.{Act}
use Rattle.geo_records.specs.Operations.Act.{Flush}
use Rattle.geo_site.specs.Entries.{lacks, flushes_now}
use Rattle.geo_site.specs.Sites.{clock_in, HasIssued}
use Rattle.geo_site.proofs.Acting.{later}
use Rattle.geo_site.proofs.site.Site.flush_all.Goals as goal

pub returns-clause-issued : goal.returns-clause-issued
returns-clause-issued c =
    let old = c.args.self.now in
    let le = c.if-at-now.false in
    let is = c.expiry_of-at.ensures in
    let now : flushes_now c.args.delay c.args.now ≡ true = grind (arith, nat_tests, le, is) in
    inl (refl, ap (λ t. lacks (clock_in old) (cond {A = List Act} t (Flush ∷ []) [])) now ∙ later (clock_in old) c.in-Some.ensures.0, subst (λ t. HasIssued old c.flush.new.self (cond {A = List Act} t (Flush ∷ []) [])) (sym now) c.flush.ensures.issued)

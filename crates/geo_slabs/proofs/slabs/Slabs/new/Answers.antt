use Rattle.std.proofs.Common.{◌≡◌, ℕ, ◌+◌, ◌-◌, List, length, sym, ap, ◌∙◌, subst, arith}
use Rattle.geo_slabs.specs.Chunks.{ClassState}
use Rattle.geo_slabs.specs.Storage.{IsStorage, class_count, first_classes}
use Rattle.geo_slabs.proofs.Sizes.{first_storage}
use Rattle.geo_slabs.proofs.slabs.Slabs.new.Goals as goal

pub invariant_of-result : goal.invariant_of-result
invariant_of-result c =
    let spare : ℕ = length c.all_opened.new.spare.items in
    (subst (λ (classes : List ClassState). IsStorage classes spare) (sym c.in-Ok-all_opened.ensures.classes) (first_storage c.args.pages spare c.in-Ok-all_opened.ensures.left), c.all_opened.ensures.reserved)

pub returns-clause-opened : goal.returns-clause-opened
returns-clause-opened c =
    let least = c.if-pages-lt-CLASSES.false in
    let most = c.if-pages-gt-MOST_PAGES.false in
    let left = c.in-Ok-all_opened.ensures.left in
    let spare : length c.all_opened.new.spare.items ≡ c.args.pages - class_count = omega (arith, left) in
    (omega (arith, least), omega (arith, most), λ i. record { classes = c.in-Ok-all_opened.ensures.classes i; spare = spare i })

pub returns-clause-unused : goal.returns-clause-unused
returns-clause-unused c =
    let left = c.in-Ok-all_opened.ensures.left in
    let all : c.args.pages ≡ length c.all_opened.new.spare.items + class_count = sym left in
    let less : (length c.all_opened.new.spare.items + class_count) - class_count ≡ length c.all_opened.new.spare.items = omega arith in
    record { is = λ i. record { classes = (c.in-Ok-all_opened.ensures.classes ∙ ap (λ n. first_classes n class_count) all) i; spare = sym less i } }

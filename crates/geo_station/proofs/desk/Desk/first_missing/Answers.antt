use Rattle.std.proofs.Common.{◌≡◌, true, None, ap, sym, ◌∙◌, subst, length, arith}
use Rattle.std.specs.Prelude.{slice_get}
use Rattle.geo_site.specs.Fills.{is_missing}
use Rattle.geo_site.specs.Sites.{state_in}
use Rattle.geo_station.proofs.Firsts.{each_missing, few_first, as_many}
use Rattle.geo_station.proofs.desk.Desk.first_missing.Goals as goal

pub all_lacked-requires : goal.all_lacked-requires
all_lacked-requires g c = record {
  missing = λ at q is. subst (λ s. is_missing (state_in s) c.args.now q ≡ true) (c.site.ensures ∙ sym c.site-2.ensures)
      (each_missing (state_in c.site.result.now) c.args.now None c.args.most c.in_ok-keys.keys.items c.in_ok-keys.ensures at q (sym (ap (λ ks. slice_get ks at) c.as_slice.ensures.value) ∙ is));
}

pub returns-clause-few : goal.returns-clause-few
returns-clause-few g c =
    let few = few_first (state_in c.site.result.now) c.args.now None c.args.most c.in_ok-keys.keys.items c.in_ok-keys.ensures in
    let same = ap length c.as_slice.ensures.value in
    as_many c.all_lacked.result (λ lacked. length lacked.items) (length c.as_slice.result.now) c.args.most c.all_lacked.ensures.many (omega (arith, few, same))

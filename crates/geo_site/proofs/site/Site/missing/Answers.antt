use Rattle.std.proofs.Common.{◌∙◌, ◌+◌, sym, ap, drop, arith}
use Rattle.std.specs.Prelude.{option_copied}
use Rattle.geo_versions.specs.Maps.{keys_in}
use Rattle.geo_site.specs.Sites.{state_in}
use Rattle.geo_site.specs.Fills.{is_sought}
use Rattle.geo_site.proofs.Missing.{least_from, least_next, least_end, first_missing}
use Rattle.geo_site.proofs.site.Site.missing.Goals as goal

pub loop-place-preserved : goal.loop-place-preserved
loop-place-preserved c =
    let test = is_sought (state_in c.args.self.now) c.args.now (option_copied c.args.after) in
    let keys = keys_in c.args.self.now.versions in
    let place = c.loop-place.place in
    let all = c.loop-place.invariant.all in
    let lt = c.loop-place-test.true in
    record {
      found = ap (λ o. least_from test o (drop (place + 1) keys)) c.earlier_missing-first.ensures ∙ sym (least_next test (option_copied c.loop-place.first) keys place (omega (arith, lt, all))) ∙ c.loop-place.invariant.found;
      all = all;
    }

pub returns : goal.returns
returns c =
    let test = is_sought (state_in c.args.self.now) c.args.now (option_copied c.args.after) in
    let keys = keys_in c.args.self.now.versions in
    let place = c.loop-place.place in
    let all = c.loop-place.invariant.all in
    let past = c.loop-place-test.false in
    first_missing (state_in c.args.self.now) c.args.now (option_copied c.args.after) keys c.len-place-end.ensures.kept (option_copied c.loop-place.first)
    (sym c.loop-place.invariant.found ∙ least_end test (option_copied c.loop-place.first) keys place (omega (arith, past, all)))

use Rattle.std.proofs.Common.{ℕ, List, true, cond, arith, length, take, ap, ◌∙◌}
use Rattle.std.proofs.lemmas.List.{length-append, length-take, take_all}
use Rattle.geo_site.specs.Entries.{touched_of, found_after}
use Rattle.geo_site.specs.Machine.{visible_in}
use Rattle.geo_site.specs.Sites.{state_in, touched_in}
use Rattle.geo_site.proofs.Passing.{passed_on}
use Rattle.geo_site.proofs.Fetching.{touched_next, touched_at_most}
use Rattle.geo_site.proofs.site.Site.touch_count.Goals.{then-is_found, else-is_found}
use Rattle.geo_site.proofs.site.Site.touch_count.Goals as goal

pub overflow_add-count : goal.overflow_add-count
overflow_add-count c =
    let seen = visible_in (state_in c.args.self.now) c.args.now in
    let m = touched_at_most c.args.now c.args.expiry true seen (take c.loop-index.index c.args.keys.now) in
    let t = length-take c.loop-index.index c.args.keys.now in
    let i = c.loop-index.invariant.0 true in
    let lt = c.loop-index-test.true in
    omega (arith, m, t, i, lt)

pub loop-index-preserved : goal.loop-index-preserved
loop-index-preserved c = (
  λ numbers.
      let seen = visible_in (state_in c.args.self.now) c.args.now in
      let before = take c.loop-index.index c.args.keys.now in
      let key = c.index-keys-index.result in
      let next = ap length (touched_next c.args.now c.args.expiry numbers seen c.args.keys.now c.loop-index.index key c.loop-index-test.true c.index-keys-index.is)
      ∙ length-append (touched_of c.args.now c.args.expiry numbers seen before) (found_after c.args.now c.args.expiry numbers seen before key) in
      let i = c.loop-index.invariant.0 numbers in
      let one = c.is_found.ensures.found numbers in
      elim c.if-is_found.branch [
        | then-is_found w ↦ let n = ap (λ t. cond {A = ℕ} t 1 0) w.if-is_found.true in let e = w.count-is in omega (arith, next, i, one, n, e)
        | else-is_found w ↦ let n = ap (λ t. cond {A = ℕ} t 1 0) w.if-is_found.false in let e = w.count-is in omega (arith, next, i, one, n, e)
      ],
  λ ends. passed_on (visible_in (state_in c.args.self.now) c.args.now) c.is_found.new.passed c.args.keys.now c.loop-index.index c.index-keys-index.result c.loop-index-test.true c.index-keys-index.is (c.is_found.ensures.passed ends),
)

pub returns : goal.returns
returns c = λ numbers. c.loop-index.invariant.0 numbers ∙ ap (λ (keys : List (List ℕ)). length (touched_in c.args.self.now c.args.now c.args.expiry keys numbers)) (take_all c.loop-index.index c.args.keys.now c.loop-index-test.false)

pub is_found-requires : goal.is_found-requires
is_found-requires c = c.loop-index.invariant.1

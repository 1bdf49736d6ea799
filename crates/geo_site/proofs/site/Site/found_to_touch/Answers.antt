use Rattle.std.proofs.Common.{◌≡◌, ℕ, ◌++◌, cond, take, List, [], ap, ◌∙◌, sym, subst}
use Rattle.std.specs.List.{All}
use Rattle.std.proofs.lemmas.List.{append-nil}
use Rattle.geo_requests.specs.declared.reply.Found.{Found}
use Rattle.geo_site.specs.Entries.{found_at, found_after, touched_of}
use Rattle.geo_site.specs.Machine.{visible_in}
use Rattle.geo_site.specs.Repeats.{Shows}
use Rattle.geo_site.specs.Sites.{state_in}
use Rattle.geo_site.proofs.Passing.{passed_on}
use Rattle.geo_site.proofs.Fetching.{touched_next, found_after_one, found_after_none}
use Rattle.geo_site.proofs.Repeating.{touched_shows}
use Rattle.geo_site.proofs.site.Site.found_to_touch.Goals.{then-is_found+in_ok-look, else-is_found}
use Rattle.geo_site.proofs.site.Site.found_to_touch.Goals as goal

pub is_found-requires : goal.is_found-requires
is_found-requires c = c.loop-index.invariant.1

pub look-requires : goal.look-requires
look-requires c =
    let seen = visible_in (state_in c.args.self.now) c.args.now in
    subst (λ (found : List Found). All (Shows c.args.numbers seen) found) (sym c.loop-index.invariant.0) (touched_shows c.args.numbers seen c.args.now c.args.expiry (take c.loop-index.index c.args.keys.now))

pub loop-index-preserved : goal.loop-index-preserved
loop-index-preserved c =
    let seen = visible_in (state_in c.args.self.now) c.args.now in
    let before = take c.loop-index.index c.args.keys.now in
    let key = c.index-keys-index.result in
    let after = found_after c.args.now c.args.expiry c.args.numbers seen before key in
    let next = touched_next c.args.now c.args.expiry c.args.numbers seen c.args.keys.now c.loop-index.index key c.loop-index-test.true c.index-keys-index.is in (
      elim c.if-is_found.branch [
        | then-is_found+in_ok-look w ↦
            let one : after ≡ found_at c.args.numbers key (seen key) = found_after_one c.args.now c.args.expiry c.args.numbers seen before key (c.is_found.ensures.found c.args.numbers ∙ ap (λ t. cond {A = ℕ} t 1 0) w.if-is_found.true) in
            ap (λ x. x.all.items) w.findings-is ∙ w.in_ok-look.ensures.looked ∙ (λ i. c.loop-index.invariant.0 i ++ sym one i) ∙ sym next
        | else-is_found w ↦
            let none : after ≡ [] = found_after_none c.args.now c.args.expiry c.args.numbers seen before key (c.is_found.ensures.found c.args.numbers ∙ ap (λ t. cond {A = ℕ} t 1 0) w.if-is_found.false) in
            ap (λ x. x.all.items) w.findings-is ∙ c.loop-index.invariant.0 ∙ sym (append-nil (touched_of c.args.now c.args.expiry c.args.numbers seen before)) ∙ (λ i. touched_of c.args.now c.args.expiry c.args.numbers seen before ++ sym none i) ∙ sym next
      ],
      λ ends. passed_on seen c.is_found.new.passed c.args.keys.now c.loop-index.index key c.loop-index-test.true c.index-keys-index.is (c.is_found.ensures.passed ends),
    )

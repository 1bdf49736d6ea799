use Rattle.std.proofs.Common.{◌≡◌, ◌+◌, ◌-◌, List, arith, ap, ◌∙◌, subst, inl, length}
use Rattle.std.specs.Prelude.{min}
use Rattle.geo_requests.specs.Limits.{most_number}
use Rattle.geo_requests.specs.declared.reply.Found.{Found}
use Rattle.geo_requests.specs.declared.reply.Reply.TheVariants.{Values}
use Rattle.geo_site.specs.Entries.{keys_found}
use Rattle.geo_site.specs.Machine.{visible_in, Same, accessed}
use Rattle.geo_site.specs.Sites.{state_in, fetched}
use Rattle.geo_site.proofs.Acting.{found_at_most}
use Rattle.geo_site.proofs.site.Site.fetch.Goals as goal

pub overflow_sub-keys : goal.overflow_sub-keys
overflow_sub-keys c =
    let m = found_at_most c.args.numbers (visible_in (state_in c.args.self.now) c.args.now) c.args.keys.now in
    let is = ap length (c.as_slice-hits.ensures ∙ c.in_ok-found.ensures.list ∙ c.in_ok-all.ensures.found) in
    omega (arith, m, is)

pub returns-clause-does : goal.returns-clause-does
returns-clause-does c =
    let old = c.args.self.now in
    let shown = fetched old c.args.now c.args.keys.now c.args.numbers in
    let is = c.in_ok-found.ensures.list ∙ c.in_ok-all.ensures.found in
    let hits = subst (λ (found : List Found). Same (accessed (keys_found found) (state_in old)) (state_in c.note_hits.new.self)) (c.as_slice.ensures ∙ is) c.note_hits.ensures.hits in
    let many : length c.as_slice-hits.result.now ≡ length shown = ap length (c.as_slice-hits.ensures ∙ is) in
    let counts = c.note_hits.ensures.rests.0 in
    let found : c.saturating_add-self.result ≡ min (old.hits + length shown) most_number = c.saturating_add-self.ensures ∙ (λ i. min ((counts i).hits + many i) most_number) in
    let missed : c.saturating_add-self-2.result ≡ min (old.misses + (length c.args.keys.now - length shown)) most_number = c.saturating_add-self-2.ensures ∙ (λ i. min ((counts i).misses + (length c.args.keys.now - many i)) most_number) in (
      c.note_hits.ensures.stays,
      c.note_hits.ensures.rests.1,
      inl (c.values.ensures.reply ∙ ap (λ (found : List Found). Values found) is, hits, (λ i. record { hits = found i; misses = missed i; evictions = (counts i).evictions })),
    )

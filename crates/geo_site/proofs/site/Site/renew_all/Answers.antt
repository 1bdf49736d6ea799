use Rattle.std.proofs.Common.{◌≡◌, ◌+◌, take, refl, sym, ap, ◌∙◌, subst, arith}
use Rattle.geo_requests.specs.declared.reply.Found.{Found}
use Rattle.geo_records.specs.Operations.{Record}
use Rattle.geo_records.specs.Operations.Act.{Touch}
use Rattle.geo_stamp.specs.Vectors.{greatest_of}
use Rattle.geo_site.specs.declared.site.Site.{Site}
use Rattle.geo_site.specs.Machine.{Same, issue, issue_all}
use Rattle.geo_site.specs.Sites.{state_in, clock_in, counts_in, waiting_in, limits_of, heard_in}
use Rattle.geo_site.specs.Entries.{touches_of}
use Rattle.geo_site.specs.Changes.{HasBody}
use Rattle.geo_site.proofs.Entries.{Within, greatest_raised}
use Rattle.geo_site.proofs.Acting.{unchanged}
use Rattle.geo_site.proofs.Fetching.{touched_more}
use Rattle.geo_site.proofs.site.Site.renew_all.Goals.{in-Some, in_default}
use Rattle.geo_site.proofs.site.Site.renew_all.Goals as goal

pub loop-entry-init : goal.loop-entry-init
loop-entry-init c = (unchanged (state_in c.args.self.now), (λ q. refl), omega arith, (refl, refl), (refl, refl, refl))

pub renew-requires-clause-there : goal.renew-requires-clause-there
renew-requires-clause-there c = λ none.
    let body : HasBody c.args.self.now c.entry-item.result.key = subst (λ (f : Found). HasBody c.args.self.now f.key) (sym c.entry-item.is) (c.requires.there c.loop-entry.entry-index c.entry-item.result c.loop-entry-test.true) in
    body (sym (c.loop-entry.invariant.1 c.entry-item.result.key) ∙ ap (λ (r : Record). r.0) none)

pub loop-entry-preserved : goal.loop-entry-preserved
loop-entry-preserved c =
    let old = c.args.self.now in
    let at = c.loop-entry.self in
    let f = c.entry-item.result in
    elim c.match-stamp.branch [
      | in-Some w ↦
          let new = w.renew.new.self in
          let stays = c.loop-entry.invariant.4 in
          let rests = c.loop-entry.invariant.3 in
          let issued : Same (issue old.number (Touch f.key c.args.expiry) (state_in at)) (state_in new) = subst (λ n. Same (issue n (Touch f.key c.args.expiry) (state_in at)) (state_in new)) stays.0 w.renew.ensures.issued in
          let num : Within at.vector at.number = record { above = at.numbered.0; below = at.numbered.1 } in
          let top = greatest_raised at.vector at.number (greatest_of at.vector + 1) num in
          let clock : clock_in new ≡ clock_in at + 1 = ap greatest_of w.renew.ensures.issued.vector ∙ top ∙ omega arith in
          let before = c.loop-entry.invariant.2 in
          let is = w.self-is in
          let moved : clock_in c.match-stamp.self ≡ clock_in new = ap clock_in is in (
            subst (λ (s : Site). Same (issue_all old.number (touches_of c.args.expiry (take (c.loop-entry.entry-index + 1) c.args.found.now)) (state_in old)) (state_in s)) (sym is)
                (touched_more old.number c.args.expiry c.args.found.now c.loop-entry.entry-index f (state_in old) (state_in at) (state_in new) c.loop-entry-test.true c.entry-item.is c.loop-entry.invariant.0 issued),
            (λ q. ap (λ (s : Site). ((state_in s).map q).0) is ∙ w.renew.ensures.bodies q ∙ c.loop-entry.invariant.1 q),
            omega (arith, moved, clock, before),
            (ap counts_in is ∙ w.renew.ensures.rests.0 ∙ rests.0, ap waiting_in is ∙ w.renew.ensures.rests.1 ∙ rests.1),
            (ap (λ (s : Site). s.number) is ∙ w.renew.ensures.stays.0 ∙ stays.0, ap limits_of is ∙ w.renew.ensures.stays.1 ∙ stays.1, ap heard_in is ∙ w.renew.ensures.stays.2 ∙ stays.2),
          )
      | in_default w ↦
          let none = w.in_default.ensures in
          let before = c.loop-entry.invariant.2 in
          let most = c.requires.stamps in
          let lt = c.loop-entry-test.true in
          absurd (omega (arith, none, before, most, lt))
    ]

use Rattle.std.proofs.Common.{rules, arith, ◌≡◌, ◌+◌, ◌++◌, ◌∷◌, [], ◌&&◌, drop, length, length-append, ap, sym, ◌∙◌}
use Rattle.geo_records.specs.Keys.{is_key_byte}
use Rattle.geo_cluster.specs.Escapes.{behind, unescaped_from, unescaped}
use Rattle.geo_cluster.specs.declared.script.escape.Spot.TheVariants.{Between}
use Rattle.geo_cluster.proofs.Escaping.{behind_more, spell_on, stands_more}
use Rattle.geo_cluster.proofs.script.escape.spelling.Goals as goal
use Rattle.geo_cluster.proofs.script.escape.spelling.Goals.{in-Gives+then-stand, in-Gives+else-stand, in-Leads}

pub loop-byte-preserved : goal.loop-byte-preserved
loop-byte-preserved c =
    let i = c.loop-byte.invariant in
    elim c.match-transition_of.branch [
      | in-Gives+then-stand w ↦
          let more = i.done ++ w.in-Gives.given ∷ [] in
          let same : behind more (unescaped_from Between (drop (c.loop-byte.byte-index + 1) c.args.text.now)) ≡ unescaped c.args.text.now = sym (behind_more i.done w.in-Gives.given _) ∙ spell_on c.args.text.now c.loop-byte.byte-index _ c.loop-byte.spot i.done _ (omega (arith, c.loop-byte-test.true)) w.in-Gives.ensures.transition i.same in
          let counts : c.loop-byte.count + 1 ≡ length more = omega (arith, i.counts, length-append i.done (w.in-Gives.given ∷ [])) in
          let few = i.few in
          rw (w.spot-is, w.count-is, w.stand-is) (record { done = more; same = same; counts = counts; few = omega (arith, few); fits = w.may_stand-stand.ensures ∙ sym (stands_more i.done w.in-Gives.given ∙ ap (λ t. t && is_key_byte w.in-Gives.given) (sym i.fits ∙ w.if-stand.true)); small = tt })
      | in-Gives+else-stand w ↦
          let more = i.done ++ w.in-Gives.given ∷ [] in
          let same : behind more (unescaped_from Between (drop (c.loop-byte.byte-index + 1) c.args.text.now)) ≡ unescaped c.args.text.now = sym (behind_more i.done w.in-Gives.given _) ∙ spell_on c.args.text.now c.loop-byte.byte-index _ c.loop-byte.spot i.done _ (omega (arith, c.loop-byte-test.true)) w.in-Gives.ensures.transition i.same in
          let counts : c.loop-byte.count + 1 ≡ length more = omega (arith, i.counts, length-append i.done (w.in-Gives.given ∷ [])) in
          let few = i.few in
          rw (w.spot-is, w.count-is, w.stand-is) (record { done = more; same = same; counts = counts; few = omega (arith, few); fits = w.if-stand.false ∙ sym (stands_more i.done w.in-Gives.given ∙ ap (λ t. t && is_key_byte w.in-Gives.given) (sym i.fits ∙ w.if-stand.false)); small = tt })
      | in-Leads w ↦
          let few = i.few in
          rw (w.spot-is, w.count-is, w.stand-is) (record { done = i.done; same = spell_on c.args.text.now c.loop-byte.byte-index _ c.loop-byte.spot i.done _ (omega (arith, c.loop-byte-test.true)) w.in-Leads.ensures.transition i.same; counts = i.counts; few = omega (arith, few); fits = i.fits; small = search rules })
    ]

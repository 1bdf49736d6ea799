use Rattle.std.proofs.Common.{ℕ, ◌++◌, Vec, Global, sym, ap, ◌∙◌, subst, true≢false, Contains}
use Rattle.geo_lru.specs.Placed.{EachActive}
use Rattle.geo_lru.proofs.Placing.{walked, passed-noted}
use Rattle.geo_lru.proofs.cold.note_all.Goals as goal
use Rattle.geo_lru.proofs.cold.note_all.Goals.{else-placed-via-then-placed+else-not-note, else-placed-via-else-placed}

pub loop-item-preserved : goal.loop-item-preserved
loop-item-preserved c =
    let k = c.loop-item.invariant in (
      _,
      walked c.args.entries.now.entries c.loop-item.items c.next_back.new.self k.0 (c.in-Some.item.now, c.in-Some.placed.now) k.1 c.in-Some.ensures.steps,
      elim c.else-placed.branch [
        | else-placed-via-then-placed+else-not-note w ↦ passed-noted c.loop-item.noted.items c.else-placed.noted.items (c.in-Some.item.now, c.in-Some.placed.now) k.0
            (ap (λ (v : Vec (ℕ × ℕ) Global). v.items) w.noted-is ∙ w.note.ensures.noted w.if-not-note.false) k.2
        | else-placed-via-else-placed w ↦ ((λ on. absurd (true≢false (sym on ∙ w.if-placed.false))), subst (λ (v : Vec (ℕ × ℕ) Global). EachActive (λ q i. Contains v.items (q, i)) k.0) (sym w.noted-is) k.2)
      ],
    )

pub returns : goal.returns
returns c = λ _. let k = c.loop-item.invariant in
    subst (EachActive (λ q i. Contains c.loop-item.noted.items (q, i))) (sym (k.1 ∙ ap (λ l. l ++ k.0) c.in_default.ensures.steps.0)) k.2

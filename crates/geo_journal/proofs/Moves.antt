-- Each move keeps the one history.
use Rattle.std.proofs.Common.{◌≡◌, ◌≢◌, ◌⊎◌, ℕ, zero, suc, ◌+◌, ◌≤◌, ◌<◌, eqb, if◌then◌else◌, List, [], ◌∷◌, ◌++◌, length, set, Bool, true, false, true≢false, refl, sym, ap, ◌∙◌, subst, inl, inr, ⊎_elim, arith, eq-eqb, ne_eqb, append_assoc, append-nil}
use mathlib.Core.Option.{Option, none, some, some-ne-none, some-injective}
use mathlib.Core.List.{IsPrefix}
use lib.ListN.{get_elem?}
use Rattle.atomic_table.specs.Table.{State, Me, keeps, step, Allows, Splits, Joins}
use Rattle.atomic_table.proofs.Lists.{at_set, set_else}
use Rattle.geo_history.specs.declared.step.Step.{Step}
use Rattle.geo_history.specs.Replays.{steps_of}
use Rattle.geo_history.proofs.Keeps.{steps_mine, steps_other}
use Rattle.geo_journal.specs.declared.table.Start.{Start}
use Rattle.geo_journal.specs.declared.table.View.{View}
use Rattle.geo_journal.specs.Views.{keeper, sitter, holder, nobody, seat_part, keeper_part, met, giver, newcomer, FitsKeeper, FitsSeat, IsKept, appended, Appended, Checked}

-- the rule, of a table
abbrev pub Holds : State Step View → Type 0
Holds s = IsKept s.views

at_end : {A : Type 0} (l : List A) (a b : A) (j : ℕ) → get_elem? (l ++ a ∷ []) j ≡ some b → (get_elem? l j ≡ some b) ⊎ ((j ≡ length l) × (a ≡ b))
at_end [] a b zero e = inr (refl, some-injective a b e)
at_end [] a b (suc j) e = absurd (some-ne-none b (sym e))
at_end (x ∷ xs) a b zero e = inl e
at_end (x ∷ xs) a b (suc j) e = ⊎_elim (λ was. inl was) (λ t. inr (omega (arith, t.0), t.1)) (at_end xs a b j e)

off : false ≡ true → ⊥
off e = true≢false (sym e)

prefix_more : (xs ys : List Step) (s : Step) → IsPrefix xs ys → IsPrefix xs (ys ++ s ∷ [])
prefix_more xs ys s p = (p.0 ++ s ∷ [], sym (append_assoc xs p.0 (s ∷ [])) ∙ ap (λ l. l ++ s ∷ []) p.1)

-- a fact of each view stays when one view changes
all_set : (F : ℕ → View → Type 0) (views : List View) (id : ℕ) (w : View) → ((j : ℕ) (u : View) → j ≢ id → get_elem? views j ≡ some u → F j u) → F id w
    → (j : ℕ) (u : View) → get_elem? (set views id w) j ≡ some u → F j u
all_set F views id w others mine j u e =
    ⊎_elim
    (λ (t : (j ≡ id) × (w ≡ u)). subst (λ (y : ℕ × View). F y.0 y.1) (λ i. (sym t.0 i, t.1 i)) mine)
    (λ (t : (j ≢ id) × (get_elem? views j ≡ some u)). others j u t.0 t.1)
    (at_set views id j w u e)

-- and when one comes last
all_snoc : (F : ℕ → View → Type 0) (views : List View) (w : View) → ((j : ℕ) (u : View) → get_elem? views j ≡ some u → F j u) → F (length views) w
    → (j : ℕ) (u : View) → get_elem? (views ++ w ∷ []) j ≡ some u → F j u
all_snoc F views w others mine j u e =
    ⊎_elim
    (λ was. others j u was)
    (λ (t : (j ≡ length views) × (w ≡ u)). subst (λ (y : ℕ × View). F y.0 y.1) (λ i. (sym t.0 i, t.1 i)) mine)
    (at_end views w u j e)

pub begins : (start : Start) → IsKept (keeper start [] 0 ∷ [])
begins start = record {
  start = start;
  log = [];
  given = 0;
  at = 0;
  on = λ s. s;
  keepers = keeps_one;
  seats = sits_none;
  fresh = λ seat le. refl;
}
  where
    keeps_one : (by : ℕ) (v : View) → get_elem? (keeper start [] 0 ∷ []) by ≡ some v → FitsKeeper start 0 [] 0 by v
    keeps_one zero v e = subst (FitsKeeper start 0 [] 0 0) (some-injective _ _ e) (λ _. (refl, refl, refl, refl))
    keeps_one (suc by) v e = absurd (some-ne-none v (sym e))

    sits_none : (by : ℕ) (v : View) → get_elem? (keeper start [] 0 ∷ []) by ≡ some v → FitsSeat start (λ s. s) [] 0 by v
    sits_none zero v e = subst (FitsSeat start (λ s. s) [] 0 0) (some-injective _ _ e) (λ c. absurd (off c))
    sits_none (suc by) v e = absurd (some-ne-none v (sym e))

-- a pass that keeps the history parts with it
pub parts : (id : ℕ) (v : View) → v.keeps ≡ true → Splits Holds id v (seat_part v) (keeper_part v)
parts id v has s kept there =
    let mine = kept.keepers id v there has in
    let views = set s.views id (seat_part v) in record {
      start = kept.start;
      log = kept.log;
      given = kept.given;
      at = length views;
      on = kept.on;
      keepers = all_snoc (FitsKeeper kept.start (length views) kept.log kept.given) views (keeper_part v)
          (all_set (FitsKeeper kept.start (length views) kept.log kept.given) s.views id (seat_part v) (λ j u apart e k. absurd (apart ((kept.keepers j u e k).0 ∙ sym mine.0))) (λ c. absurd (off c)))
          (λ _. (refl, mine.1, mine.2, mine.3));
      seats = all_snoc (FitsSeat kept.start kept.on kept.log kept.given) views (keeper_part v)
          (all_set (FitsSeat kept.start kept.on kept.log kept.given) s.views id (seat_part v) (λ j u _ e. kept.seats j u e) (λ c. kept.seats id v there c))
          (λ c. absurd (off c));
      fresh = kept.fresh;
    }

-- a pass takes the history in
pub meets : (id : ℕ) (v : View) (other : ℕ) (w : View) → w.keeps ≡ true → Joins Holds id v other w (met v w) nobody
meets id v other w has s kept there apart away =
    let e : get_elem? s.views other ≡ some w = sym (set_else s.views id other (met v w) apart) ∙ away in
    let theirs = kept.keepers other w e has in
    let views = set s.views id (met v w) in record {
      start = kept.start;
      log = kept.log;
      given = kept.given;
      at = id;
      on = kept.on;
      keepers = all_set (FitsKeeper kept.start id kept.log kept.given) views other nobody
          (λ j u n e' k. ⊎_elim
          (λ (t : (j ≡ id) × (met v w ≡ u)). (t.0, ap (λ (x : View). x.all) (sym t.1) ∙ theirs.1, ap (λ (x : View). x.given) (sym t.1) ∙ theirs.2, ap (λ (x : View). x.opened) (sym t.1) ∙ theirs.3))
          (λ (t : (j ≢ id) × (get_elem? s.views j ≡ some u)). absurd (n ((kept.keepers j u t.1 k).0 ∙ sym theirs.0)))
          (at_set s.views id j (met v w) u e'))
          (λ c. absurd (off c));
      seats = all_set (FitsSeat kept.start kept.on kept.log kept.given) views other nobody
          (λ j u n e'. all_set (FitsSeat kept.start kept.on kept.log kept.given) s.views id (met v w) (λ i x _ e''. kept.seats i x e'') (λ c. kept.seats id v there c) j u e')
          (λ c. absurd (off c));
      fresh = kept.fresh;
    }

-- a keeper gives a seat
pub gives : (id : ℕ) (v : View) → v.keeps ≡ true → v.sits ≡ false → Splits Holds id v (giver v) (newcomer v)
gives id v has stands s kept there =
    let mine = kept.keepers id v there has in
    let views = set s.views id (giver v) in
    let given = kept.given + 1 in
    let on : ℕ → ℕ = λ seat. if eqb seat v.given then length views else kept.on seat in
    let old : (j : ℕ) (u : View) → get_elem? s.views j ≡ some u → FitsSeat kept.start on kept.log given j u = λ j u e c.
    let f = kept.seats j u e c in
    let apart : u.seat ≢ v.given = λ same. omega (arith, same, mine.2, f.1) in
    (f.0 ∙ sym (ap (λ b. if b then length views else kept.on u.seat) (ne_eqb u.seat v.given apart)), omega (arith, f.1), f.2, f.3, f.4) in record {
      start = kept.start;
      log = kept.log;
      given = given;
      at = kept.at;
      on = on;
      keepers = all_snoc (FitsKeeper kept.start kept.at kept.log given) views (newcomer v)
          (all_set (FitsKeeper kept.start kept.at kept.log given) s.views id (giver v) (λ j u apart e k. absurd (apart ((kept.keepers j u e k).0 ∙ sym mine.0))) (λ _. (mine.0, mine.1, ap (λ n. n + 1) mine.2, mine.3)))
          (λ c. absurd (off c));
      seats = all_snoc (FitsSeat kept.start on kept.log given) views (newcomer v)
          (all_set (FitsSeat kept.start on kept.log given) s.views id (giver v) (λ j u _ e. old j u e) (λ c. absurd (off (sym stands ∙ c))))
          (λ _. (sym (ap (λ b. if b then length views else kept.on v.given) (eq-eqb v.given v.given refl)), omega (arith, mine.2), sym (kept.fresh v.given (omega (arith, mine.2))), (kept.log, refl), mine.3));
      fresh = λ seat le. kept.fresh seat (omega (arith, le));
    }

-- who keeps the history and sits on a seat appends a step of the seat
pub appends : (id word : ℕ) (v : View) (x : Step) (f : ℕ → ℕ) (slots a b : ℕ) → v.keeps ≡ true → v.sits ≡ true → x.seat ≡ v.seat
    → Allows Holds slots id (v, []) word f (Appended (step slots word a b (some x)) (v, []))
appends id word v x f slots a b has sits own s kept many there fits =
    let mine = kept.keepers id v there has in
    let seated = kept.seats id v there sits in
    let log = kept.log ++ x ∷ [] in
    let w = appended v (some x) in
    let here : v.all ≡ kept.log = mine.1 in (
      w,
      keeps,
      tt,
      record {
        start = kept.start;
        log = log;
        given = kept.given;
        at = kept.at;
        on = kept.on;
        keepers = all_set (FitsKeeper kept.start kept.at log kept.given) s.views id w (λ j u apart e k. absurd (apart ((kept.keepers j u e k).0 ∙ sym mine.0))) (λ _. (mine.0, ap (λ l. l ++ x ∷ []) here, mine.2, mine.3));
        seats = all_set (FitsSeat kept.start kept.on log kept.given) s.views id w
            (λ j u apart e c.
            let g = kept.seats j u e c in
            let others : x.seat ≢ u.seat = λ same. apart (g.0 ∙ ap kept.on (sym same ∙ own) ∙ sym seated.0) in
            (g.0, g.1, g.2 ∙ sym (steps_other u.seat kept.log x others), prefix_more u.seen kept.log x g.3, g.4))
            (λ _. (seated.0, seated.1, ap (λ ss. ss ++ x ∷ []) seated.2 ∙ sym (steps_mine v.seat kept.log x own), ([], ap (λ l. (l ++ x ∷ []) ++ []) here ∙ append-nil log), seated.4));
        fresh = λ seat le. steps_other seat kept.log x (λ same. omega (arith, same, own, seated.1, le)) ∙ kept.fresh seat le;
      },
      (refl, refl, (seated.2 ∙ ap (steps_of v.seat) (sym here), subst (λ l. IsPrefix v.seen l) (sym here) seated.3, seated.4 ∙ sym mine.3)),
    )

-- who keeps the history and sits on a seat compares the two
pub checks : (id word : ℕ) (v : View) (slots : ℕ) → v.keeps ≡ true → v.sits ≡ true → Allows Holds slots id (v, []) word (λ n. n) (Checked (step slots word 0 0 none) (v, []))
checks id word v slots has sits s kept many there fits =
    let mine = kept.keepers id v there has in
    let seated = kept.seats id v there sits in
    let here : v.all ≡ kept.log = mine.1 in (
      v,
      keeps,
      tt,
      record {
        start = kept.start;
        log = kept.log;
        given = kept.given;
        at = kept.at;
        on = kept.on;
        keepers = all_set (FitsKeeper kept.start kept.at kept.log kept.given) s.views id v (λ j u _ e. kept.keepers j u e) (λ _. mine);
        seats = all_set (FitsSeat kept.start kept.on kept.log kept.given) s.views id v (λ j u _ e. kept.seats j u e) (λ _. seated);
        fresh = kept.fresh;
      },
      (refl, refl, (seated.2 ∙ ap (steps_of v.seat) (sym here), subst (λ l. IsPrefix v.seen l) (sym here) seated.3, seated.4 ∙ sym mine.3)),
    )

-- the moves, of a pass whose view is known
pub gives_as : (id : ℕ) (me : Me Step View) (opened : Start) (all : List Step) (given : ℕ) → me ≡ (keeper opened all given, []) → Splits Holds id me.0 (giver me.0) (newcomer me.0)
gives_as id me opened all given is = gives id me.0 (ap (λ (m : Me Step View). m.0.keeps) is) (ap (λ (m : Me Step View). m.0.sits) is)

pub met_as : (pass whole : Me Step View) (opened : Start) (all : List Step) (given : ℕ) (start : Start) (seat : ℕ) (own seen : List Step) → pass ≡ (sitter start seat own seen, []) → whole ≡ (keeper opened all given, [])
    → ◌≡◌ {A = Me Step View} (met pass.0 whole.0, pass.1) (holder opened all given start seat own seen, [])
met_as pass whole opened all given start seat own seen p w = λ i. (met (p i).0 (w i).0, (p i).1)

pub appends_as : (id word : ℕ) (me : Me Step View) (x : Step) (f : ℕ → ℕ) (slots a b : ℕ) (opened : Start) (all : List Step) (given : ℕ) (start : Start) (own seen : List Step) → me ≡ (holder opened all given start x.seat own seen, [])
    → Allows Holds slots id me word f (Appended (step slots word a b (some x)) me)
appends_as id word me x f slots a b opened all given start own seen is =
    subst (λ (m : Me Step View). Allows Holds slots id m word f (Appended (step slots word a b (some x)) m)) (sym is) (appends id word (holder opened all given start x.seat own seen) x f slots a b refl refl refl)

pub checks_as : (id word : ℕ) (me : Me Step View) (slots : ℕ) (opened : Start) (all : List Step) (given : ℕ) (start : Start) (seat : ℕ) (own seen : List Step) → me ≡ (holder opened all given start seat own seen, [])
    → Allows Holds slots id me word (λ n. n) (Checked (step slots word 0 0 none) me)
checks_as id word me slots opened all given start seat own seen is =
    subst (λ (m : Me Step View). Allows Holds slots id m word (λ n. n) (Checked (step slots word 0 0 none) m)) (sym is) (checks id word (holder opened all given start seat own seen) slots refl refl)

-- Places that are linked by their marks.
use Rattle.std.proofs.Common.{◌≡◌, ◌≢◌, ◌⊎◌, inl, inr, ◌≤◌, ◌<◌, ◌+◌, ◌==◌, ◌&&◌, ℕ, zero, suc, Bool, true, false, cond, List, [], ◌∷◌, ◌++◌, length, get_or, Option, None, Some, slice_get, refl, sym, ap, subst, ◌∙◌, arith, Result, Ok, Err, OnOk, length-append, eq-eqb}
use Rattle.std.proofs.lemmas.Bool.Decides.{eqb_tells}
use Rattle.std.proofs.lemmas.Option.{slice_get_within, slice_get_read}
use Rattle.geo_delta.specs.declared.parcel.Parcel.{Parcel}
use Rattle.geo_history.specs.declared.history.History.{History}
use Rattle.geo_audit.specs.declared.sent.Mark.{Mark}
use Rattle.geo_audit.specs.declared.sent.Place.{Place}
use Rattle.geo_audit.specs.Merging.{same_mark, mark_of, parcel_at, reach, IsLink, IsLinked, IsUnsent}
use Rattle.geo_audit.proofs.Lists.{none_some, some_is, got_left, got_more}

-- marks are one where the test says so
both_true : (a b : Bool) → (a && b) ≡ true → (a ≡ true) × (b ≡ true)
both_true true b e = (refl, e)
both_true false b e = (e, cc)

eq_of : (a b : ℕ) → (a == b) ≡ true → a ≡ b
eq_of a b e = elim (eqb_tells a b) [ inl t ↦ t.1 | inr f ↦ let g : true ≡ false = sym e ∙ f.0 in cc ]

pub one_mark : (a b : Mark) → same_mark a b ≡ true → a ≡ b
one_mark a b e = let first = both_true (a.from == b.from) (a.to == b.to && a.clock == b.clock) e in
    let rest = both_true (a.to == b.to) (a.clock == b.clock) first.1 in
    λ i. record { from = eq_of a.from b.from first.0 i; to = eq_of a.to b.to rest.0 i; clock = eq_of a.clock b.clock rest.1 i }

and_true : (x y : Bool) → x ≡ true → y ≡ true → (x && y) ≡ true
and_true true y e f = f
and_true false y e f = e

own_mark : (a : Mark) → same_mark a a ≡ true
own_mark a = and_true (a.from == a.from) (a.to == a.to && a.clock == a.clock) (eq-eqb a.from a.from refl) (and_true (a.to == a.to) (a.clock == a.clock) (eq-eqb a.to a.to refl) (eq-eqb a.clock a.clock refl))

-- a link stays one where a place is appended beyond its end
link_stays : (places : List Place) (place : Place) (mark : Mark) (link : Option ℕ) (end : ℕ) → end ≤ length places → IsLink places mark link end → IsLink (places ++ place ∷ []) mark link end
link_stays places place mark link end inside is = record { before = is.before; same = same; last = last }
  where
    same : (n : ℕ) (p : Place) → link ≡ Some n → slice_get (places ++ place ∷ []) n ≡ Some p → p.mark ≡ mark
    same n p l at = is.same n p l (sym (got_left places (place ∷ []) n early) ∙ at)
      where
        reached : n + 1 ≤ end
        reached = subst (λ o. reach o ≤ end) l is.before

        early : n < length places
        early = omega (arith, reached, inside)

    last : (n : ℕ) (p : Place) → reach link ≤ n → n < end → slice_get (places ++ place ∷ []) n ≡ Some p → p.mark ≢ mark
    last n p r b at = is.last n p r b (sym (got_left places (place ∷ []) n (omega (arith, b, inside))) ∙ at)

-- a place more, to which no link leads
link_passes : (places : List Place) (place : Place) (mark : Mark) (link : Option ℕ) → place.mark ≢ mark → IsLink places mark link (length places) → IsLink (places ++ place ∷ []) mark link (length places + 1)
link_passes places place mark link other is = record { before = omega (arith, is.before); same = stays.same; last = last }
  where
    stays : IsLink (places ++ place ∷ []) mark link (length places)
    stays = link_stays places place mark link (length places) (omega arith) is

    last : (n : ℕ) (p : Place) → reach link ≤ n → n < length places + 1 → slice_get (places ++ place ∷ []) n ≡ Some p → p.mark ≢ mark
    last n p r b at = elim (got_more places place p n at) [
      | inl before ↦ stays.last n p r before.0 at
      | inr end ↦ λ e. other (ap (λ (q : Place). q.mark) end.1 ∙ e)
    ]

-- the last place of all
link_ends : (places : List Place) (place : Place) (mark : Mark) → place.mark ≡ mark → IsLink (places ++ place ∷ []) mark (Some (length places)) (length places + 1)
link_ends places place mark own = record { before = omega arith; same = same; last = last }
  where
    same : (n : ℕ) (p : Place) → Some (length places) ≡ Some n → slice_get (places ++ place ∷ []) n ≡ Some p → p.mark ≡ mark
    same n p l at = elim (got_more places place p n at) [
      | inl before ↦ let e : length places ≡ n = some_is (length places) n l in absurd (omega (arith, e, before.0))
      | inr end ↦ ap (λ (q : Place). q.mark) (sym end.1) ∙ own
    ]

    last : (n : ℕ) (p : Place) → length places + 1 ≤ n → n < length places + 1 → slice_get (places ++ place ∷ []) n ≡ Some p → p.mark ≢ mark
    last n p r b at = absurd (omega (arith, r, b))

pub linked_more : (histories : List History) (places : List Place) (last new : Mark → Option ℕ) (place : Place) (parcel : Parcel) → IsLinked histories places last → parcel_at histories place ≡ Some parcel → place.mark ≡ mark_of parcel → place.before ≡ last place.mark
    → ((q : Mark) → new q ≡ cond (same_mark place.mark q) (Some (length places)) (last q)) → IsLinked histories (places ++ place ∷ []) new
linked_more histories places last new place parcel is made marked before noted = record { marks = marks; links = links; heads = heads }
  where
    marks : (n : ℕ) (p : Place) (q : Parcel) → slice_get (places ++ place ∷ []) n ≡ Some p → parcel_at histories p ≡ Some q → p.mark ≡ mark_of q
    marks n p q at f = elim (got_more places place p n at) [
      | inl early ↦ is.marks n p q early.1 f
      | inr end ↦ ap (λ (r : Place). r.mark) (sym end.1) ∙ marked ∙ ap mark_of (some_is parcel q (sym made ∙ ap (parcel_at histories) end.1 ∙ f))
    ]

    links : (n : ℕ) (p : Place) → slice_get (places ++ place ∷ []) n ≡ Some p → IsLink (places ++ place ∷ []) p.mark p.before n
    links n p at = elim (got_more places place p n at) [
      | inl early ↦ link_stays places place p.mark p.before n (omega (arith, early.0)) (is.links n p early.1)
      | inr end ↦ subst (λ (r : Place). IsLink (places ++ place ∷ []) r.mark r.before n) end.1
          (subst (λ m. IsLink (places ++ place ∷ []) place.mark place.before m) (sym end.0)
          (subst (λ o. IsLink (places ++ place ∷ []) place.mark o (length places)) (sym before)
          (link_stays places place place.mark (last place.mark) (length places) (omega arith) (is.heads place.mark))))
    ]

    many : length places + 1 ≡ length (places ++ place ∷ [])
    many = sym (length-append places (place ∷ []))

    tested : (q : Mark) (b : Bool) → same_mark place.mark q ≡ b → IsLink (places ++ place ∷ []) q (cond b (Some (length places)) (last q)) (length places + 1)
    tested q true e = link_ends places place q (one_mark place.mark q e)
    tested q false e = link_passes places place q (last q) (λ f. apart (sym (ap (same_mark place.mark) f) ∙ own_mark place.mark)) (is.heads q)
      where
        apart : same_mark place.mark q ≡ true → ⊥
        apart t = let g : true ≡ false = sym t ∙ e in cc

    heads : (q : Mark) → IsLink (places ++ place ∷ []) q (new q) (length (places ++ place ∷ []))
    heads q = subst (λ m. IsLink (places ++ place ∷ []) q (new q) m) many
        (subst (λ o. IsLink (places ++ place ∷ []) q o (length places + 1)) (sym (noted q)) (tested q (same_mark place.mark q) refl))

-- nothing is linked at first
pub linked_none : (histories : List History) (last : Mark → Option ℕ) → ((q : Mark) → last q ≡ None) → IsLinked histories [] last
linked_none histories last none = record {
  marks = λ n p parcel at f. absurd (none_some p at);
  links = λ n p at. absurd (none_some p at);
  heads = λ mark. subst (λ o. IsLink [] mark o 0) (sym (none mark)) (record { before = omega arith; same = λ n p l at. absurd (none_some p at); last = λ n p r b at. absurd (none_some p at) });
}

-- beyond a link a parcel was not found
pub record Seeks (histories : List History) (places : List Place) (parcel : Parcel) (link : Option ℕ) : Type 0 where
  pub inside : reach link ≤ length places
  pub same : (n : ℕ) (p : Place) → link ≡ Some n → slice_get places n ≡ Some p → p.mark ≡ mark_of parcel
  pub unseen : (n : ℕ) (p : Place) → reach link ≤ n → slice_get places n ≡ Some p → parcel_at histories p ≢ Some parcel

pub seeks_first : (histories : List History) (places : List Place) (last : Mark → Option ℕ) (parcel : Parcel) → IsLinked histories places last → Seeks histories places parcel (last (mark_of parcel))
seeks_first histories places last parcel is = let head = is.heads (mark_of parcel) in record {
  inside = head.before;
  same = head.same;
  unseen = λ n p r at made. head.last n p r (slice_get_within places n p at) at (is.marks n p parcel at made);
}

pub seeks_further : (histories : List History) (places : List Place) (last : Mark → Option ℕ) (parcel : Parcel) (number : ℕ) (place : Place) → IsLinked histories places last → Seeks histories places parcel (Some number) → slice_get places number ≡ Some place → parcel_at histories place ≢ Some parcel → Seeks histories places parcel place.before
seeks_further histories places last parcel number place is seeks there other = record { inside = inside; same = same; unseen = unseen }
  where
    link : IsLink places place.mark place.before number
    link = is.links number place there

    own : place.mark ≡ mark_of parcel
    own = seeks.same number place refl there

    within : number < length places
    within = slice_get_within places number place there

    inside : reach place.before ≤ length places
    inside = omega (arith, link.before, within)

    same : (n : ℕ) (p : Place) → place.before ≡ Some n → slice_get places n ≡ Some p → p.mark ≡ mark_of parcel
    same n p l at = link.same n p l at ∙ own

    after : (n : ℕ) (p : Place) → number + 1 ≤ n → slice_get places n ≡ Some p → parcel_at histories p ≢ Some parcel
    after n p h at = seeks.unseen n p h at

    unseen : (n : ℕ) (p : Place) → reach place.before ≤ n → slice_get places n ≡ Some p → parcel_at histories p ≢ Some parcel
    unseen n p r at = elim (split n number) [
      | inl early ↦ λ made. link.last n p r early at (is.marks n p parcel at made ∙ sym own)
      | inr rest ↦ elim rest [
        | inl e ↦ λ made. other (ap (parcel_at histories) (some_is place p (sym there ∙ ap (slice_get places) (sym e) ∙ at)) ∙ made)
        | inr late ↦ after n p late at
      ]
    ]
      where
        split : (n m : ℕ) → (n < m) ⊎ ((n ≡ m) ⊎ (m + 1 ≤ n))
        split zero zero = inr (inl refl)
        split zero (suc m) = inl (omega arith)
        split (suc n) zero = inr (inr (omega arith))
        split (suc n) (suc m) = elim (split n m) [
          | inl h ↦ inl (omega (arith, h))
          | inr h ↦ elim h [ inl e ↦ inr (inl (ap (λ k. suc k) e)) | inr l ↦ inr (inr (omega (arith, l))) ]
        ]

pub seeks_none : (histories : List History) (places : List Place) (parcel : Parcel) → Seeks histories places parcel None → IsUnsent histories places parcel
seeks_none histories places parcel seeks n p at = seeks.unseen n p (omega arith) at

pub on_ok : {X E : Type 0} {P Q : Type 0} (r : Result X E) → OnOk r P → (P → Q) → OnOk r Q
on_ok (Ok x) p f = f p
on_ok (Err e) p f = tt

pub linked_nothing : (histories : List History) (places : List Place) (last : Mark → Option ℕ) → places ≡ [] → ((q : Mark) → last q ≡ None) → IsLinked histories places last
linked_nothing histories places last e none = subst (λ p. IsLinked histories p last) (sym e) (linked_none histories last none)

-- one link further, where the place to which it leads made another parcel
pub seeks_on : (histories : List History) (places : List Place) (last : Mark → Option ℕ) (parcel : Parcel) (link : Option ℕ) (number : ℕ) (place : Place) → IsLinked histories places last → Seeks histories places parcel link → link ≡ Some number → place ≡ get_or places number place → parcel_at histories place ≢ Some parcel → Seeks histories places parcel place.before
seeks_on histories places last parcel link number place is seeks e there other = seeks_further histories places last parcel number place is here (slice_get_read places (length places) number place refl within there) other
  where
    here : Seeks histories places parcel (Some number)
    here = subst (λ o. Seeks histories places parcel o) e seeks

    inside : number + 1 ≤ length places
    inside = here.inside

    within : number < length places
    within = omega (arith, inside)

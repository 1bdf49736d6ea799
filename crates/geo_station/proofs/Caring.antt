-- Steps of a maintenance, one after the other.
use Rattle.std.proofs.Common.{◌≡◌, ◌⊎◌, inl, inr, ℕ, ◌==◌, ◌&&◌, Bool, true, false, List, [], ◌∷◌, ◌++◌, refl, ap, sym, ◌∙◌, subst, arith, append_assoc}
use Rattle.std.proofs.lemmas.List.{append-nil}
use Rattle.std.proofs.lemmas.Bool.Decides.{nat_tests}
use Rattle.geo_site.specs.declared.event.Event.{Event}
use Rattle.geo_site.specs.declared.event.Answer.{Answer}
use Rattle.geo_history.specs.declared.step.Step.{Step}
use Rattle.geo_journal.specs.Marks.{Noted, Marked, Agree}
use Rattle.geo_station.specs.Wholes.{NotesNone, NotesOne, NotesFlush, NotesCare, is_care, all_care}

eq-self : (n : ℕ) → (n == n) ≡ true
eq-self n = grind (arith, nat_tests)

both : (a b : Bool) → a ≡ true → b ≡ true → (a && b) ≡ true
both a b p q = rw p q

care_append : (seat : ℕ) (xs ys : List Step) → all_care seat xs ≡ true → all_care seat ys ≡ true → all_care seat (xs ++ ys) ≡ true
care_append seat [] ys p q = q
care_append seat (s ∷ xs) ys p q = by (s.seat == seat) (is_care s.event) (all_care seat xs) (care_append seat xs ys) p
  where
    by : (a b c : Bool) → (c ≡ true → all_care seat ys ≡ true → all_care seat (xs ++ ys) ≡ true) → (a && b && c) ≡ true → (a && b && all_care seat (xs ++ ys)) ≡ true
    by true true c more h = more h q
    by true false c more h = h
    by false b c more h = h

-- nothing
pub care_none : (olds news : Noted) (old new : Marked) → NotesNone olds news old new → NotesCare olds news old new
care_none olds news old new none = record {
  more = [];
  care = refl;
  all = none.0 ∙ (λ i. record olds { steps = sym (append-nil olds.steps) i });
  mark = inl (refl, none.1);
}

-- a step
pub care_one : (olds news : Noted) (old new : Marked) (event : Event) (answer : Answer) → is_care event ≡ true → NotesOne olds news old new event answer → NotesCare olds news old new
care_one olds news old new event answer is one = record {
  more = one.step ∷ [];
  care = both ((one.step.seat == old.number) && is_care one.step.event) true (both (one.step.seat == old.number) (is_care one.step.event) (ap (λ n. n == old.number) one.seat ∙ eq-self old.number) (ap is_care one.asked ∙ is)) refl;
  all = one.all;
  mark = inr (one.agree, one.mark);
}

pub care_flush : (olds news : Noted) (old new : Marked) (now : ℕ) → NotesFlush olds news old new now → NotesCare olds news old new
care_flush olds news old new now (true, one) = care_one olds news old new _ _ refl one
care_flush olds news old new now (false, none) = care_none olds news old new none

-- the number of a mark stays
pub care_number : (olds news : Noted) (old new : Marked) → NotesCare olds news old new → new.number ≡ old.number
care_number olds news old new care = by care.mark
  where
    by : ((care.more ≡ []) × (new ≡ old)) ⊎ (Agree olds old × (new ≡ record old { own = old.own ++ care.more; seen = olds.steps ++ care.more })) → new.number ≡ old.number
    by (inl p) = ap (λ (m : Marked). m.number) p.1
    by (inr p) = ap (λ (m : Marked). m.number) p.1

abbrev Marking : Noted → Marked → Marked → List Step → Type 0
Marking olds old new more = ((more ≡ []) × (new ≡ old)) ⊎ (Agree olds old × (new ≡ record old { own = old.own ++ more; seen = olds.steps ++ more }))

-- what comes behind it
mark_then : (a b : Noted) (l m n : Marked) (xs ys : List Step) → b ≡ record a { steps = a.steps ++ xs } → Marking a l m xs → Marking b m n ys → Marking a l n (xs ++ ys)
mark_then a b l m n xs ys all (inl p) (inl q) = inl (ap (λ (zs : List Step). zs ++ ys) p.0 ∙ q.0, q.1 ∙ p.1)
mark_then a b l m n xs ys all (inl p) (inr q) =
    let none : (xs ++ ys) ≡ ys = ap (λ (zs : List Step). zs ++ ys) p.0 in
    let same : b.steps ≡ a.steps = ap (λ (x : Noted). x.steps) all ∙ ap (λ (zs : List Step). a.steps ++ zs) p.0 ∙ append-nil a.steps in
    let agree : Agree a l = subst (λ (x : Noted). Agree x l) (all ∙ (λ i. record a { steps = (sym (ap (λ (x : Noted). x.steps) all) ∙ same) i })) (subst (λ (x : Marked). Agree b x) p.1 q.0) in
    inr (agree, q.1 ∙ (λ i. record (p.1 i) { own = (p.1 i).own ++ sym none i; seen = same i ++ sym none i }))
mark_then a b l m n xs ys all (inr p) (inl q) =
    let none : xs ≡ xs ++ ys = sym (append-nil xs) ∙ ap (λ (zs : List Step). xs ++ zs) (sym q.0) in
    inr (p.0, q.1 ∙ p.1 ∙ (λ i. record l { own = l.own ++ none i; seen = a.steps ++ none i }))
mark_then a b l m n xs ys all (inr p) (inr q) =
    let own : (l.own ++ xs) ++ ys ≡ l.own ++ (xs ++ ys) = append_assoc l.own xs ys in
    let seen : b.steps ++ ys ≡ a.steps ++ (xs ++ ys) = ap (λ (x : Noted). x.steps ++ ys) all ∙ append_assoc a.steps xs ys in
    inr (p.0, q.1 ∙ (λ i. record (p.1 i) { own = (p.1 i).own ++ ys; seen = b.steps ++ ys }) ∙ (λ i. record l { own = own i; seen = seen i }))

pub care_then : (a b c : Noted) (l m n : Marked) → NotesCare a b l m → NotesCare b c m n → NotesCare a c l n
care_then a b c l m n p q = record {
  more = p.more ++ q.more;
  care = care_append l.number p.more q.more p.care (subst (λ (k : ℕ). all_care k q.more ≡ true) (care_number a b l m p) q.care);
  all = q.all ∙ (λ i. record (p.all i) { steps = (p.all i).steps ++ q.more }) ∙ (λ i. record a { steps = append_assoc a.steps p.more q.more i });
  mark = mark_then a b l m n p.more q.more p.all p.mark q.mark;
}

-- A round by its passes.
use Rattle.std.proofs.Common.{◌≡◌, ℕ, ◌+◌, ◌≤◌, List, [], ◌∷◌, ◌++◌, Option, refl, sym, ap, subst, ◌∙◌, length, take, drop, arith, append-nil, append_assoc}
use Rattle.std.proofs.lemmas.List.{take-append-drop, take-append-le, drop-append-le, length-append, length-take-le}
use Rattle.std.proofs.Math.Seq.{drop-append_seam, take-append_seam}
use Rattle.geo_requests.specs.declared.reply.Reply.{Reply}
use Rattle.geo_requests.specs.declared.request.Request.{Request}
use Rattle.geo_crowd.specs.Carrying.{Carriage}
use Rattle.geo_crowd.specs.Crowds.{AllHeard, HasNext, IsBoth, Passes, Rounds, Stand}
use Rattle.geo_crowd.specs.Standings.{Sums}
use Rattle.geo_crowd.specs.declared.passed.Passed.{Passed}
use Rattle.geo_crowd.specs.declared.polling.Ready.{Ready}
use Rattle.geo_crowd.proofs.Hearing.{heard_turned}
use Rattle.geo_crowd.proofs.Passing.{no_sums, passes_from, sums_at}

-- the number that came first stands last, behind the others
pub turned_last : (count : ℕ) (due now : List ℕ) → 1 ≤ length due → now ≡ drop 1 due ++ take 1 due → count + 1 ≡ length now → (drop count now ≡ take 1 due) × (take count now ≡ drop 1 due)
turned_last count due now some is many =
    let one : length (take 1 due) ≡ 1 = length-take-le 1 due some in
    let all : length now ≡ length (drop 1 due) + length (take 1 due) = ap (λ (l : List ℕ). length l) is ∙ length-append (drop 1 due) (take 1 due) in
    let place : count ≡ length (drop 1 due) = omega (arith, one, all, many) in (
      ap (λ (n : ℕ). drop n now) place ∙ ap (λ (l : List ℕ). drop (length (drop 1 due)) l) is ∙ drop-append_seam (drop 1 due) (take 1 due),
      ap (λ (n : ℕ). take n now) place ∙ ap (λ (l : List ℕ). take (length (drop 1 due)) l) is ∙ take-append_seam (drop 1 due) (take 1 due),
    )

-- what stands behind the first so many, and these
pub parted : (count : ℕ) (first more now : List ℕ) → count ≡ length first → now ≡ first ++ more → (drop count now ≡ more) × (take count now ≡ first)
parted count first more now many is = (
  ap (λ (n : ℕ). drop n now) many ∙ ap (λ (l : List ℕ). drop (length first) l) is ∙ drop-append_seam first more,
  ap (λ (n : ℕ). take n now) many ∙ ap (λ (l : List ℕ). take (length first) l) is ∙ take-append_seam first more,
)

-- those in front stay, and behind them stands what is left
pub kept_front : (count : ℕ) (front now : List ℕ) → take count now ≡ front → now ≡ front ++ drop count now
kept_front count front now is = sym (take-append-drop count now) ∙ ap (λ (l : List ℕ). l ++ drop count now) is

empty_of : (numbers : List ℕ) → length numbers ≡ 0 → numbers ≡ []
empty_of [] h = refl
empty_of (n ∷ numbers) h = absurd (omega (arith, h))

module _ {S : Type 0} (answers : S → Request → Reply → S → Type 0) (refuses : S → Request → S → Type 0) (told : List Ready) (due more now next : List ℕ) (count : ℕ) (passed : Passed)
    (old mid far : ℕ → Option Carriage) (before between : S) (many : count ≡ length due) (is : now ≡ due ++ more) (heard : AllHeard told old now) (stand : Stand old mid) (front : take count next ≡ take count now)
    (passes : Passes answers refuses (drop count now) (sums_at (drop count next) passed.ended passed.faults) mid far before between) where
  listened : AllHeard told old (more ++ due)
  listened = heard_turned told old due more (subst (λ (l : List ℕ). AllHeard told old l) is heard)

  fresh : Passes answers refuses more (sums_at (drop count next) passed.ended passed.faults) old far before between
  fresh = passes_from answers refuses more (sums_at (drop count next) passed.ended passed.faults) old mid far before between stand
      (subst (λ (l : List ℕ). Passes answers refuses l (sums_at (drop count next) passed.ended passed.faults) mid far before between) (parted count due more now many is).0 passes)

  stood : next ≡ due ++ drop count next
  stood = kept_front count due next (front ∙ (parted count due more now many is).1)

  -- nobody was due
  pub rounds_alone : count ≡ 0 → Rounds answers refuses told due (sums_at next passed.ended passed.faults) old far before between
  rounds_alone zero_many =
      let none : due ≡ [] = empty_of due (omega (arith, zero_many, many)) in
      let first : Sums = sums_at (drop count next) passed.ended passed.faults in
      let nobody : Passes answers refuses [] no_sums far far between between = record {
        mid = far;
        far = far;
        begin = λ k. refl;
        goes = (λ k. refl, refl);
        ends = (record { later = refl; ended = refl; faults = refl }, λ k. refl);
      } in
      let later : next ≡ drop count next = stood ∙ ap (λ (l : List ℕ). l ++ drop count next) none in
      let both : IsBoth first no_sums [] (sums_at next passed.ended passed.faults) = record { later = later ∙ sym (append-nil (drop count next)); ended = omega arith; faults = omega arith } in
      record {
        more = more;
        mid = far;
        between = between;
        first = first;
        second = no_sums;
        heard = listened;
        passes = fresh;
        next = subst (λ (l : List ℕ). Passes answers refuses (take 1 l) no_sums far far between between) (sym none) nobody;
        both = subst (λ (l : List ℕ). IsBoth first no_sums (drop 1 l) (sums_at next passed.ended passed.faults)) (sym none) both;
      }

  -- the first of those that were due has a turn too
  pub rounds_both : (sums : Sums) (new : ℕ → Option Carriage) (after : S) → 1 ≤ count → HasNext answers refuses next passed sums far new between after → Rounds answers refuses told due sums old new before after
  rounds_both sums new after some turn =
      let later : List ℕ = drop count next in
      let there : 1 ≤ length due = omega (arith, some, many) in
      let one : take 1 next ≡ take 1 due = ap (λ (l : List ℕ). take 1 l) stood ∙ take-append-le 1 due later there in
      let rest : drop 1 next ≡ drop 1 due ++ later = ap (λ (l : List ℕ). drop 1 l) stood ∙ drop-append-le 1 due later there in
      record {
        more = more;
        mid = far;
        between = between;
        first = sums_at later passed.ended passed.faults;
        second = turn.second;
        heard = listened;
        passes = fresh;
        next = subst (λ (l : List ℕ). Passes answers refuses l turn.second far new between after) one turn.passes;
        both = record {
          later = turn.later ∙ ap (λ (l : List ℕ). l ++ turn.second.later) rest ∙ append_assoc (drop 1 due) later turn.second.later;
          ended = turn.ended;
          faults = turn.faults;
        };
      }

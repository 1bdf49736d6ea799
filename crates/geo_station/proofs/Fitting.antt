-- Whether a history tells of a seat what the seat keeps, by how the seat's calls in it end.
use Rattle.std.proofs.Common.{◌≡◌, ◌⊎◌, inl, inr, ℕ, ◌+◌, Bool, true, false, List, [], ◌∷◌, ◌++◌, length, refl, sym, ap, ◌∙◌, length-append, true≢false, arith}
use Rattle.geo_history.specs.declared.history.Opening.{Opening}
use Rattle.geo_history.specs.declared.step.Step.{Step}
use Rattle.geo_history.specs.Keeping.{opened_with}
use Rattle.geo_history.specs.Replays.{steps_of}
use Rattle.geo_station.specs.declared.call.Call.{Call}
use Rattle.geo_station.specs.declared.fits.Ending.TheVariants.{Whole, Tail, More, Other}
use Rattle.geo_station.specs.Endings.{EndsSo}
use Rattle.geo_station.specs.Seats.{Seated, EndsWith, FitsIn, calls_of}

-- lists that end with each other are one
both_ends : (a b : List Call) → EndsWith a b → EndsWith b a → a ≡ b
both_ends a b one two = by one.0 one.1
  where
    by : (first : List Call) → a ≡ first ++ b → a ≡ b
    by [] e = e
    by (c ∷ first) e =
        let m = ap length e ∙ length-append (c ∷ first) b in
        let n = ap length two.1 ∙ length-append two.0 a in
        absurd (omega (arith, m, n))

module _ (opening : Opening) (steps : List Step) (seat : Seated) where
  module _ (count : opened_with opening seat.mark.number + length (steps_of seat.mark.number steps) ≡ seat.steps) where
    pub fits_whole : EndsSo Whole (calls_of seat.mark.number steps) seat.calls → FitsIn opening steps seat
    fits_whole same = record {
      count = count;
      ends = inl ([], same);
      kept = λ none. ([], sym same);
      told = λ first. ([], same);
      whole = λ none first. same;
    }

    pub fits_tail : EndsSo Tail (calls_of seat.mark.number steps) seat.calls → seat.forgot ≡ true → FitsIn opening steps seat
    fits_tail ends forgot = record {
      count = count;
      ends = inl ends.0;
      kept = λ none. absurd (true≢false (sym forgot ∙ none));
      told = λ first. ends.0;
      whole = λ none first. absurd (true≢false (sym forgot ∙ none));
    }

    pub fits_more : EndsSo More (calls_of seat.mark.number steps) seat.calls → (opening.era ≡ 0 → ⊥) → FitsIn opening steps seat
    fits_more ends later = record {
      count = count;
      ends = inr ends.0;
      kept = λ none. ends.0;
      told = λ first. absurd (later first);
      whole = λ none first. absurd (later first);
    }

  pub unfit_tail : EndsSo Tail (calls_of seat.mark.number steps) seat.calls → seat.forgot ≡ false → FitsIn opening steps seat → ⊥
  unfit_tail ends none fits = ends.1 (both_ends (calls_of seat.mark.number steps) seat.calls ends.0 (fits.kept none))

  pub unfit_more : EndsSo More (calls_of seat.mark.number steps) seat.calls → opening.era ≡ 0 → FitsIn opening steps seat → ⊥
  unfit_more ends first fits = ends.1 (both_ends (calls_of seat.mark.number steps) seat.calls (fits.told first) ends.0)

  pub unfit_other : EndsSo Other (calls_of seat.mark.number steps) seat.calls → FitsIn opening steps seat → ⊥
  unfit_other apart fits = apart fits.ends

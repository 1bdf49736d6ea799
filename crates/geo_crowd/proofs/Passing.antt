-- A pass that has gone so far with some connections goes on with the next.
use Rattle.std.proofs.Common.{◌≡◌, ◌⊎◌, inl, inr, ℕ, ◌+◌, ◌<◌, ◌≤◌, Bool, true, false, List, [], ◌∷◌, ◌++◌, Option, None, Some, Ok, Err, refl, sym, ap, subst, ◌∙◌, length, take, drop, arith, append-nil}
use Rattle.std.specs.Bool.{MatchBool}
use Rattle.std.proofs.Math.ListN.{set, get_or}
use Rattle.std.proofs.lemmas.List.{take_all, take_more, take_more_set, take-set-le, drop_more, drop-set-lt, drop-append-le, length-set, length-take, length-take-le, get_or-drop}
use Rattle.std.proofs.Math.ListN.{drop_of_length-le}
use Rattle.geo_requests.specs.declared.reply.Reply.{Reply}
use Rattle.geo_requests.specs.declared.request.Request.{Request}
use Rattle.geo_crowd.specs.Carrying.{Carriage}
use Rattle.geo_crowd.specs.Crowds.{BeginAll, BeginsAt, BeginsThere, EndAll, EndsAt, EndsThere, GoOnAll, GoesOnAt, GoesOnThere, IsNotThere, Passes, Stand}
use Rattle.geo_crowd.specs.Standings.{Sums, IsNothing, IsSum, next_due, ends_by, faults_by}
use Rattle.geo_crowd.specs.declared.standing.Standing.{Standing}
use Rattle.geo_crowd.specs.declared.standing.Standing.TheVariants.{Again, Waits, Over}

next_due-append : (standing : Option Standing) (number : ℕ) (more last : List ℕ) → next_due standing number (more ++ last) ≡ next_due standing number more ++ last
next_due-append (Some Again) number more last = refl
next_due-append (Some Waits) number more last = refl
next_due-append (Some (Over outcome)) number more last = refl
next_due-append None number more last = refl

ends_by-few : (standing : Option Standing) → ends_by standing ≤ 1
ends_by-few (Some Again) = omega arith
ends_by-few (Some Waits) = omega arith
ends_by-few (Some (Over outcome)) = omega arith
ends_by-few None = omega arith

faults_by-few : (standing : Option Standing) → faults_by standing ≤ 1
faults_by-few (Some Again) = omega arith
faults_by-few (Some Waits) = omega arith
faults_by-few (Some (Over (Ok end))) = omega arith
faults_by-few (Some (Over (Err fault))) = omega arith
faults_by-few None = omega arith

-- with one turn more behind them
abbrev pub sums_then : Sums → ℕ → Option Standing → Sums
sums_then sums number standing = record {
  later = sums.later ++ next_due standing number [];
  ended = sums.ended + ends_by standing;
  faults = sums.faults + faults_by standing;
}

abbrev pub sums_at : List ℕ → ℕ → ℕ → Sums
sums_at later ended faults = record { later = later; ended = ended; faults = faults }

abbrev pub no_sums : Sums
no_sums = record { later = []; ended = 0; faults = 0 }

-- ---- turns that begin

begins_from : (number : ℕ) (first old new : ℕ → Option Carriage) → Stand first old → BeginsAt number old new → BeginsAt number first new
begins_from number first old new same (inl none) = inl (sym (same number) ∙ none.0, λ k. none.1 k ∙ same k)
begins_from number first old new same (inr v) =
    inr (record { had = v.had; has = v.has; there = sym (same number) ∙ v.there; begins = v.begins; stays = v.stays; others = λ k other. v.others k other ∙ same k })

begin_from : (numbers : List ℕ) (first old new : ℕ → Option Carriage) → Stand first old → BeginAll numbers old new → BeginAll numbers first new
begin_from [] first old new same h = λ k. h k ∙ same k
begin_from (n ∷ numbers) first old new same (m, one, rest) = (m, begins_from n first old m same one, rest)

begin_more : (numbers : List ℕ) (old mid new : ℕ → Option Carriage) (number : ℕ) → BeginAll numbers old mid → BeginsAt number mid new
    → BeginAll (numbers ++ number ∷ []) old new
begin_more [] old mid new number h one = (new, begins_from number old mid new h one, λ k. refl)
begin_more (n ∷ numbers) old mid new number (m, first, rest) one = (m, first, begin_more numbers m mid new number rest one)

begins_by : (there : Bool) (number : ℕ) (old new : ℕ → Option Carriage) → MatchBool there (BeginsThere number old new) (IsNotThere number old new)
    → BeginsAt number old new
begins_by true number old new h = inr h
begins_by false number old new h = inl h

pub begin_none : (items : List ℕ) (at : ℕ → Option Carriage) → BeginAll (take 0 items) at at
begin_none items at = λ k. refl

-- of the numbers that are listed the first have begun, and now the next has
pub begin_next : (items : List ℕ) (place number : ℕ) (there : Bool) (old mid new : ℕ → Option Carriage) → place < length items
    → number ≡ get_or items place 0 → BeginAll (take place items) old mid
    → MatchBool there (BeginsThere number mid new) (IsNotThere number mid new) → BeginAll (take (place + 1) items) old new
begin_next items place number there old mid new lt is before one =
    let more : take (place + 1) items ≡ take place items ++ number ∷ [] = take_more items place 0 lt ∙ ap (λ n. take place items ++ n ∷ []) (sym is) in
    subst (λ (l : List ℕ). BeginAll l old new) (sym more) (begin_more (take place items) old mid new number before (begins_by there number mid new one))

pub begin_all : (items : List ℕ) (place : ℕ) (old new : ℕ → Option Carriage) → length items ≤ place → BeginAll (take place items) old new → BeginAll items old new
begin_all items place old new all h = subst (λ (l : List ℕ). BeginAll l old new) (take_all place items all) h

-- ---- what waits is answered

module _ {S : Type 0} (answers : S → Request → Reply → S → Type 0) (refuses : S → Request → S → Type 0) where
  goes_from : (number : ℕ) (first old new : ℕ → Option Carriage) (start before after : S) → Stand first old → before ≡ start
      → GoesOnAt answers refuses number old new before after → GoesOnAt answers refuses number first new start after
  goes_from number first old new start before after same begun (inl none) =
      inl ((sym (same number) ∙ none.0.0, λ k. none.0.1 k ∙ same k), none.1 ∙ begun)
  goes_from number first old new start before after same begun (inr v) =
      subst (λ (s : S). GoesOnAt answers refuses number first new s after) begun
      (inr (record { had = v.had; has = v.has; there = sym (same number) ∙ v.there; goes = v.goes; stays = v.stays; others = λ k other. v.others k other ∙ same k }))

  go_on_more : (numbers : List ℕ) (old mid new : ℕ → Option Carriage) (before between after : S) (number : ℕ)
      → GoOnAll answers refuses numbers old mid before between → GoesOnAt answers refuses number mid new between after
      → GoOnAll answers refuses (numbers ++ number ∷ []) old new before after
  go_on_more [] old mid new before between after number h one =
      (new, after, goes_from number old mid new before between after h.0 h.1 one, (λ k. refl, refl))
  go_on_more (n ∷ numbers) old mid new before between after number (m, b, first, rest) one =
      (m, b, first, go_on_more numbers m mid new b between after number rest one)

  goes_by : (there : Bool) (number : ℕ) (old new : ℕ → Option Carriage) (before after : S)
      → MatchBool there (GoesOnThere answers refuses number old new before after) (IsNotThere number old new × (after ≡ before))
      → GoesOnAt answers refuses number old new before after
  goes_by true number old new before after h = inr h
  goes_by false number old new before after h = inl h

  pub go_on_none : (items : List ℕ) (at : ℕ → Option Carriage) (backend : S) → GoOnAll answers refuses (take 0 items) at at backend backend
  go_on_none items at backend = (λ k. refl, refl)

  -- of the numbers that are listed the first have gone on, and now the next has
  pub go_on_next : (items : List ℕ) (place number : ℕ) (there : Bool) (old mid new : ℕ → Option Carriage) (before between after : S)
      → place < length items → number ≡ get_or items place 0 → GoOnAll answers refuses (take place items) old mid before between
      → MatchBool there (GoesOnThere answers refuses number mid new between after) (IsNotThere number mid new × (after ≡ between))
      → GoOnAll answers refuses (take (place + 1) items) old new before after
  go_on_next items place number there old mid new before between after lt is done one =
      let more : take (place + 1) items ≡ take place items ++ number ∷ [] = take_more items place 0 lt ∙ ap (λ n. take place items ++ n ∷ []) (sym is) in
      subst (λ (l : List ℕ). GoOnAll answers refuses l old new before after) (sym more)
      (go_on_more (take place items) old mid new before between after number done (goes_by there number mid new between after one))

  pub go_on_all : (items : List ℕ) (place : ℕ) (old new : ℕ → Option Carriage) (before after : S) → length items ≤ place
      → GoOnAll answers refuses (take place items) old new before after → GoOnAll answers refuses items old new before after
  go_on_all items place old new before after all h = subst (λ (l : List ℕ). GoOnAll answers refuses l old new before after) (take_all place items all) h

  -- a pass over connections that stand as others did
  pub passes_from : (numbers : List ℕ) (sums : Sums) (first old new : ℕ → Option Carriage) (before after : S) → Stand first old
      → Passes answers refuses numbers sums old new before after → Passes answers refuses numbers sums first new before after
  passes_from numbers sums first old new before after same h =
      record { mid = h.mid; far = h.far; begin = begin_from numbers first old h.mid same h.begin; goes = h.goes; ends = h.ends }

-- ---- turns that end

ends_from : (number : ℕ) (standing : Option Standing) (first old new : ℕ → Option Carriage) → Stand first old → EndsAt number standing old new
    → EndsAt number standing first new
ends_from number None first old new same v = (sym (same number) ∙ v.0, λ k. v.1 k ∙ same k)
ends_from number (Some standing) first old new same v =
    record { had = v.had; has = v.has; there = sym (same number) ∙ v.there; last = v.last; stands = v.stands; leaves = v.leaves; others = λ k other. v.others k other ∙ same k }

end_more : (numbers : List ℕ) (sums : Sums) (old mid new : ℕ → Option Carriage) (number : ℕ) (standing : Option Standing)
    → EndAll numbers sums old mid → EndsAt number standing mid new → EndAll (numbers ++ number ∷ []) (sums_then sums number standing) old new
end_more [] sums old mid new number standing h v =
    let none = h.0 in
    let sum : IsSum number standing no_sums (sums_then sums number standing) = record {
      later = ap (λ l. l ++ next_due standing number []) none.later;
      ended = omega (arith, none.ended);
      faults = omega (arith, none.faults);
    } in
    let nothing : IsNothing no_sums = record { later = refl; ended = refl; faults = refl } in
    (new, standing, no_sums, ends_from number standing old mid new h.1 v, sum, (nothing, λ k. refl))
end_more (n ∷ numbers) sums old mid new number standing (m, s, more, first, is, rest) v =
    let sum : IsSum n s (sums_then more number standing) (sums_then sums number standing) = record {
      later = ap (λ l. l ++ next_due standing number []) is.later ∙ sym (next_due-append s n more.later (next_due standing number []));
      ended = omega (arith, is.ended);
      faults = omega (arith, is.faults);
    } in
    (m, s, sums_then more number standing, first, sum, end_more numbers more m mid new number standing rest v)

-- behind the first so many numbers the turns of some have ended, and those that go on stand in front of the others
pub record Going (from : ℕ) (first now : List ℕ) (place kept ended faults : ℕ) (old mid : ℕ → Option Carriage) : Type 0 where
  pub long : length now ≡ length first
  pub begun : from ≤ kept
  pub few : kept ≤ place
  pub few_ended : from + ended ≤ place
  pub few_faults : from + faults ≤ place
  pub front : take from now ≡ take from first
  pub rest : drop place now ≡ drop place first
  pub ends : EndAll (drop from (take place first)) (sums_at (drop from (take kept now)) ended faults) old mid

pub goes_none : (from : ℕ) (items : List ℕ) (at : ℕ → Option Carriage) → Going from items items from from 0 0 at at
goes_none from items at =
    let none : drop from (take from items) ≡ [] = drop_of_length-le (take from items) (omega (arith, length-take from items)) in
    let nothing : IsNothing no_sums = record { later = refl; ended = refl; faults = refl } in
    let ends : EndAll [] no_sums at at = (nothing, λ k. refl) in
    record {
      long = refl;
      begun = omega arith;
      few = omega arith;
      few_ended = omega arith;
      few_faults = omega arith;
      front = refl;
      rest = refl;
      ends = subst (λ (l : List ℕ). EndAll l (sums_at l 0 0) at at) (sym none) ends;
    }

-- the next one is as it was
waits : (first now : List ℕ) (place number : ℕ) → drop place now ≡ drop place first → number ≡ get_or now place number → get_or first place number ≡ number
waits first now place number rest is =
    ap (λ i. get_or first i number) (omega arith) ∙ sym (get_or-drop place first 0 number) ∙ ap (λ l. get_or l 0 number) (sym rest) ∙ get_or-drop place now 0 number ∙ ap (λ i. get_or now i number) (omega arith) ∙ sym is

module _ (from : ℕ) (first now : List ℕ) (place kept ended faults ended_now faults_now number : ℕ) (old mid new : ℕ → Option Carriage) (standing : Option Standing)
    (going : Going from first now place kept ended faults old mid) (lt : place < length now) (is : number ≡ get_or now place number) (v : EndsAt number standing mid new)
    (ends : ended_now ≡ ended + ends_by standing) (fails : faults_now ≡ faults + faults_by standing) where
  ended_all : (later : List ℕ) → drop from (take kept now) ++ next_due standing number [] ≡ later
      → EndAll (drop from (take (place + 1) first)) (sums_at later ended_now faults_now) old new
  ended_all later same =
      let long : length (take place first) ≡ place = length-take-le place first (omega (arith, lt, going.long)) in
      let turned : drop from (take (place + 1) first) ≡ drop from (take place first) ++ number ∷ [] =
      ap (λ (l : List ℕ). drop from l) (take_more first place number (omega (arith, lt, going.long)) ∙ ap (λ n. take place first ++ n ∷ []) (waits first now place number going.rest is))
      ∙ drop-append-le from (take place first) (number ∷ []) (omega (arith, long, going.begun, going.few)) in
      let sums : sums_then (sums_at (drop from (take kept now)) ended faults) number standing ≡ sums_at later ended_now faults_now =
      ap (λ l. sums_at l (ended + ends_by standing) (faults + faults_by standing)) same ∙ ap (λ e. sums_at later e (faults + faults_by standing)) (sym ends) ∙ ap (λ e. sums_at later ended_now e) (sym fails) in
      subst (λ (l : List ℕ). EndAll l (sums_at later ended_now faults_now) old new) (sym turned)
      (subst (λ (t : Sums). EndAll (drop from (take place first) ++ number ∷ []) t old new) sums
      (end_more (drop from (take place first)) (sums_at (drop from (take kept now)) ended faults) old mid new number standing going.ends v))

  behind : drop (place + 1) now ≡ drop (place + 1) first
  behind = ap (drop 1) (sym (drop_more now place number lt) ∙ going.rest ∙ drop_more first place number (omega (arith, lt, going.long)))

  -- it goes on
  pub goes_kept : next_due standing number [] ≡ number ∷ [] → Going from first (set now kept number) (place + 1) (kept + 1) ended_now faults_now old new
  goes_kept again =
      let long : length (take kept now) ≡ kept = length-take-le kept now (omega (arith, going.few, lt)) in
      let last : drop from (take (kept + 1) (set now kept number)) ≡ drop from (take kept now) ++ number ∷ [] =
      ap (λ (l : List ℕ). drop from l) (take_more_set now kept number (omega (arith, going.few, lt)))
      ∙ drop-append-le from (take kept now) (number ∷ []) (omega (arith, long, going.begun)) in
      record {
        long = length-set now kept number ∙ going.long;
        begun = omega (arith, going.begun);
        few = omega (arith, going.few);
        few_ended = omega (arith, going.few_ended, ends, ends_by-few standing);
        few_faults = omega (arith, going.few_faults, fails, faults_by-few standing);
        front = take-set-le from now kept number going.begun ∙ going.front;
        rest = drop-set-lt (place + 1) now kept number (omega (arith, going.few)) ∙ behind;
        ends = ended_all (drop from (take (kept + 1) (set now kept number))) (ap (λ l. drop from (take kept now) ++ l) again ∙ sym last);
      }

  -- it does not
  pub goes_past : next_due standing number [] ≡ [] → Going from first now (place + 1) kept ended_now faults_now old new
  goes_past over = record {
    long = going.long;
    begun = going.begun;
    few = omega (arith, going.few);
    few_ended = omega (arith, going.few_ended, ends, ends_by-few standing);
    few_faults = omega (arith, going.few_faults, fails, faults_by-few standing);
    front = going.front;
    rest = behind;
    ends = ended_all (drop from (take kept now)) (ap (λ l. drop from (take kept now) ++ l) over ∙ append-nil (drop from (take kept now)));
  }

-- all turns have ended
pub goes_all : (from : ℕ) (first now : List ℕ) (place kept ended faults : ℕ) (old mid : ℕ → Option Carriage) → Going from first now place kept ended faults old mid → length now ≤ place
    → EndAll (drop from first) (sums_at (drop from (take kept now)) ended faults) old mid
goes_all from first now place kept ended faults old mid going all =
    subst (λ (l : List ℕ). EndAll (drop from l) (sums_at (drop from (take kept now)) ended faults) old mid) (take_all place first (omega (arith, all, going.long))) going.ends

-- Which connections are listed, while they are put in, woken, and given their turns.
use Rattle.std.proofs.Common.{◌≡◌, ◌≢◌, ℕ, zero, suc, ◌+◌, ◌<◌, ◌≤◌, Bool, true, false, not, cond, ◌||◌, eqb, List, [], ◌∷◌, ◌++◌, Option, None, Some, is_some, option_map, Result, Ok, Err, is_ok, if◌then◌else◌, IsOk, refl, sym, ap, subst, ◌∙◌, length, take, drop, arith, sum_by, count_by, eqb-true, eq-eqb, true≢false}
use Rattle.std.proofs.Math.ListN.{set, get_or}
use Rattle.std.proofs.lemmas.List.{take_more_set, drop_more, drop_all, drop-set-lt, length-append, length-set, length-take, take-append-drop}
use Rattle.std.proofs.Math.Bool.{or_comm}
use Rattle.std.proofs.lemmas.List.Folds.{list_any-append}
use Rattle.std.proofs.lemmas.List.Sums.{sum_by-cons}
use Rattle.std.proofs.lemmas.Bool.{eqb-false}
use Rattle.std.specs.List.{list_any}
use Rattle.slab.specs.Slab.{Slab, get, slab_len}
use Rattle.geo_crowd.specs.Listing.{AllListed, HasRoomForAll, OthersKeep, Same, SameFlags, StandsIn, is_listed, is_listed_at, is_unlisted}
use Rattle.geo_crowd.specs.declared.roster.Member.{Member}

suc_not_zero : (n : ℕ) → suc n ≢ 0
suc_not_zero n h = cc

zero_not_suc : (n : ℕ) → 0 ≢ suc n
zero_not_suc n h = cc

suc_apart : (n m : ℕ) → n ≢ m → suc n ≢ suc m
suc_apart n m ne h = ne (omega (arith, h))

bit_few : (b : Bool) → cond b 1 0 ≤ 1
bit_few true = omega arith
bit_few false = omega arith

-- ---- sums over slots, of which those behind the end weigh nothing

module _ {X : Type 0} (f : Option X → ℕ) (none : f None ≡ 0) where
  sum_same : (xs ys : List (Option X)) → ((k : ℕ) → f (get_or ys k None) ≡ f (get_or xs k None)) → sum_by f ys ≡ sum_by f xs
  sum_same [] [] same = refl
  sum_same [] (y ∷ ys) same =
      let here : f y ≡ f None = same 0 in
      let rest : sum_by f ys ≡ sum_by f [] = sum_same [] ys (λ k. same (suc k)) in
      omega (arith, none, here, rest, sum_by-cons f y ys)
  sum_same (x ∷ xs) [] same =
      let here : f None ≡ f x = same 0 in
      let rest : sum_by f [] ≡ sum_by f xs = sum_same xs [] (λ k. same (suc k)) in
      omega (arith, none, here, rest, sum_by-cons f x xs)
  sum_same (x ∷ xs) (y ∷ ys) same =
      let here : f y ≡ f x = same 0 in
      let rest : sum_by f ys ≡ sum_by f xs = sum_same xs ys (λ k. same (suc k)) in
      omega (arith, here, rest, sum_by-cons f x xs, sum_by-cons f y ys)

  -- where one slot changes, its weight alone does
  sum_moves : (xs ys : List (Option X)) (k : ℕ) → ((j : ℕ) → j ≢ k → f (get_or ys j None) ≡ f (get_or xs j None)) → sum_by f ys + f (get_or xs k None) ≡ sum_by f xs + f (get_or ys k None)
  sum_moves [] [] k same = refl
  sum_moves [] (y ∷ ys) zero same =
      let rest : sum_by f ys ≡ sum_by f [] = sum_same [] ys (λ j. same (suc j) (suc_not_zero j)) in
      omega (arith, none, rest, sum_by-cons f y ys)
  sum_moves [] (y ∷ ys) (suc k) same =
      let here : f y ≡ f None = same 0 (zero_not_suc k) in
      let rest : sum_by f ys + f (get_or [] k None) ≡ sum_by f [] + f (get_or ys k None) = sum_moves [] ys k (λ j ne. same (suc j) (suc_apart j k ne)) in
      omega (arith, none, here, rest, sum_by-cons f y ys)
  sum_moves (x ∷ xs) [] zero same =
      let rest : sum_by f [] ≡ sum_by f xs = sum_same xs [] (λ j. same (suc j) (suc_not_zero j)) in
      omega (arith, none, rest, sum_by-cons f x xs)
  sum_moves (x ∷ xs) [] (suc k) same =
      let here : f None ≡ f x = same 0 (zero_not_suc k) in
      let rest : sum_by f [] + f (get_or xs k None) ≡ sum_by f xs + f (get_or [] k None) = sum_moves xs [] k (λ j ne. same (suc j) (suc_apart j k ne)) in
      omega (arith, none, here, rest, sum_by-cons f x xs)
  sum_moves (x ∷ xs) (y ∷ ys) zero same =
      let rest : sum_by f ys ≡ sum_by f xs = sum_same xs ys (λ j. same (suc j) (suc_not_zero j)) in
      omega (arith, rest, sum_by-cons f x xs, sum_by-cons f y ys)
  sum_moves (x ∷ xs) (y ∷ ys) (suc k) same =
      let here : f y ≡ f x = same 0 (zero_not_suc k) in
      let rest : sum_by f ys + f (get_or xs k None) ≡ sum_by f xs + f (get_or ys k None) = sum_moves xs ys k (λ j ne. same (suc j) (suc_apart j k ne)) in
      omega (arith, here, rest, sum_by-cons f x xs, sum_by-cons f y ys)

-- ---- flags

module _ {S : Type 0} where
  pub listed_not : (slot : Option (Member S)) → is_listed slot ≡ true → is_unlisted slot ≡ false
  listed_not None h = refl
  listed_not (Some member) h = ap not h

  -- where one number's slot changes, it alone is counted otherwise
  pub unlisted_moves : (number : ℕ) (old new : Slab (Member S)) → OthersKeep number old new
      → count_by is_unlisted new.slots + cond (is_unlisted (get old number)) 1 0 ≡ count_by is_unlisted old.slots + cond (is_unlisted (get new number)) 1 0
  unlisted_moves number old new others =
      sum_moves (λ (slot : Option (Member S)). cond (is_unlisted slot) 1 0) refl old.slots new.slots number (λ j ne. ap (λ (slot : Option (Member S)). cond (is_unlisted slot) 1 0) (others j ne))

  pub unlisted_same : (old new : Slab (Member S)) → Same old new → count_by is_unlisted new.slots ≡ count_by is_unlisted old.slots
  unlisted_same old new same =
      sum_same (λ (slot : Option (Member S)). cond (is_unlisted slot) 1 0) refl old.slots new.slots (λ j. ap (λ (slot : Option (Member S)). cond (is_unlisted slot) 1 0) (same j))

  -- where each is listed as before, as many are unlisted, and the same stand in a list
  pub unlisted_kept : (old new : Slab (Member S)) → SameFlags old new → count_by is_unlisted new.slots ≡ count_by is_unlisted old.slots
  unlisted_kept old new same =
      sum_same (λ (slot : Option (Member S)). cond (is_unlisted slot) 1 0) refl old.slots new.slots (λ j. ap (λ (b : Bool). cond {A = ℕ} b 1 0) (same j).1)

  pub listed_kept : (old new : Slab (Member S)) (numbers : List ℕ) → SameFlags old new → AllListed (is_listed_at old) numbers → AllListed (is_listed_at new) numbers
  listed_kept old new numbers same lists other h = lists other (sym (same other).0 ∙ h)

  pub room_kept : (old new : Slab (Member S)) (count capacity : ℕ) → SameFlags old new → HasRoomForAll old count capacity → HasRoomForAll new count capacity
  room_kept old new count capacity same room = omega (arith, unlisted_kept old new same, room)

  pub same_flags : (members : Slab (Member S)) → SameFlags members members
  same_flags members = λ k. (refl, refl)

  slot_few : (slot : Option (Member S)) → cond (is_unlisted slot) 1 0 ≤ cond (is_some slot) 1 0
  slot_few None = omega arith
  slot_few (Some member) = bit_few (not member.is_listed)

  pub few_slots : (slots : List (Option (Member S))) → count_by is_unlisted slots ≤ count_by is_some slots
  few_slots [] = omega arith
  few_slots (slot ∷ slots) =
      let one = slot_few slot in
      let rest = few_slots slots in
      omega (arith, one, rest, sum_by-cons (λ (s : Option (Member S)). cond (is_unlisted s) 1 0) slot slots, sum_by-cons (λ (s : Option (Member S)). cond (is_some s) 1 0) slot slots)

  -- none is listed, and there is none
  pub none_listed : (members : Slab (Member S)) → members.slots ≡ [] → AllListed (is_listed_at members) []
  none_listed members none number h = absurd (true≢false (sym h ∙ ap (λ (l : List (Option (Member S))). is_listed (get_or l number None)) none ∙ empty number))
    where
      empty : (k : ℕ) → is_listed {S = S} (get_or {A = Option (Member S)} [] k None) ≡ false
      empty zero = refl
      empty (suc k) = refl

  -- whoever stands there is carried there
  pub some_carried : (slot : Option (Member S)) → is_some (option_map (λ (m : Member S). m.carried) slot) ≡ is_some slot
  some_carried None = refl
  some_carried (Some member) = refl

-- what is appended where there is room
pub when_ok : {T F : Type 0} (r : Result T F) (were are now : List ℕ) → now ≡ (if is_ok r then are else were) → IsOk r → now ≡ are
when_ok (Ok x) were are now h ok = h
when_ok (Err e) were are now h ok = absurd (true≢false (sym ok))

-- ---- numbers in a list

pub stands_left : (numbers more : List ℕ) (number : ℕ) → StandsIn numbers number → StandsIn (numbers ++ more) number
stands_left numbers more number h = list_any-append (eqb number) numbers more ∙ ap (λ b. b || list_any (eqb number) more) h

pub stands_turned : (a b : List ℕ) (number : ℕ) → StandsIn (a ++ b) number → StandsIn (b ++ a) number
stands_turned a b number h =
    list_any-append (eqb number) b a ∙ or_comm (list_any (eqb number) b) (list_any (eqb number) a) ∙ sym (list_any-append (eqb number) a b) ∙ h

-- behind the first so many stand the others, or before them
pub stands_rotated : (count : ℕ) (now next : List ℕ) (number : ℕ) → next ≡ drop count now ++ take count now → StandsIn now number → StandsIn next number
stands_rotated count now next number is h =
    let whole : StandsIn (take count now ++ drop count now) number = subst (λ l. StandsIn l number) (sym (take-append-drop count now)) h in
    subst (λ l. StandsIn l number) (sym is) (stands_turned (take count now) (drop count now) number whole)

pub length_rotated : (count : ℕ) (now next : List ℕ) → next ≡ drop count now ++ take count now → length next ≡ length now
length_rotated count now next is =
    let whole : length (take count now) + length (drop count now) ≡ length now = sym (length-append (take count now) (drop count now)) ∙ ap (λ (l : List ℕ). length l) (take-append-drop count now) in
    let turned : length next ≡ length (drop count now) + length (take count now) = ap (λ (l : List ℕ). length l) is ∙ length-append (drop count now) (take count now) in
    omega (arith, whole, turned)

decide : (t : Bool) (P : Type 0) → (t ≡ true → P) → (t ≡ false → P) → P
decide true P same apart = same refl
decide false P same apart = apart refl

not_not : (b : Bool) → not b ≡ false → b ≡ true
not_not true h = refl
not_not false h = cc

or_right : (a b : Bool) → b ≡ true → (a || b) ≡ true
or_right true b h = refl
or_right false b h = h

or_false : (b : Bool) → (b || false) ≡ b
or_false true = refl
or_false false = refl

or_grown : (a b c : Bool) → (a ≡ true → b ≡ true) → (a || c) ≡ true → (b || c) ≡ true
or_grown true b c more h = ap (λ t. t || c) (more refl)
or_grown false b c more h = or_right b c h

stands_end : (numbers : List ℕ) (number other : ℕ) → eqb other number ≡ true → StandsIn (numbers ++ number ∷ []) other
stands_end numbers number other h =
    list_any-append (eqb other) numbers (number ∷ []) ∙ or_right (list_any (eqb other) numbers) (eqb other number || false) (ap (λ b. b || false) h)

pub stands_last : (numbers : List ℕ) (number : ℕ) → StandsIn (numbers ++ number ∷ []) number
stands_last numbers number = stands_end numbers number number (eq-eqb number number refl)

module _ {S : Type 0} where
  was_listed : (slot : Option (Member S)) → is_unlisted slot ≡ false → is_some slot ≡ true → is_listed slot ≡ true
  was_listed None none there = cc
  was_listed (Some member) listed there = not_not member.is_listed listed

  -- a number is listed behind the others
  pub listed_in : (number : ℕ) (old new : Slab (Member S)) (numbers : List ℕ) → OthersKeep number old new → AllListed (is_listed_at old) numbers → AllListed (is_listed_at new) (numbers ++ number ∷ [])
  listed_in number old new numbers others lists other h =
      decide
      (eqb other number)
      (StandsIn (numbers ++ number ∷ []) other)
      (λ same. stands_end numbers number other same)
      (λ apart. stands_left numbers (number ∷ []) other (lists other (sym (ap is_listed (others other (eqb-false other number apart))) ∙ h)))

  -- it was listed before
  pub listed_still : (number : ℕ) (old new : Slab (Member S)) (numbers : List ℕ) → OthersKeep number old new → is_unlisted (get old number) ≡ false → is_listed_at new number ≡ is_some (get old number)
      → AllListed (is_listed_at old) numbers → AllListed (is_listed_at new) numbers
  listed_still number old new numbers others fresh listed lists other h =
      decide
      (eqb other number)
      (StandsIn numbers other)
      (λ same.
      let is : other ≡ number = eqb-true other number same in
      let there : is_some (get old number) ≡ true = sym listed ∙ subst (λ n. is_listed_at new n ≡ true) is h in
      subst (λ n. StandsIn numbers n) (sym is) (lists number (was_listed (get old number) fresh there)))
      (λ apart. lists other (sym (ap is_listed (others other (eqb-false other number apart))) ∙ h))

  pub listed_before : (number : ℕ) (old : Slab (Member S)) (numbers : List ℕ) → AllListed (is_listed_at old) numbers → is_unlisted (get old number) ≡ false → is_some (get old number) ≡ true → StandsIn numbers number
  listed_before number old numbers lists fresh there = lists number (was_listed (get old number) fresh there)

  pub listed_same : (old new : Slab (Member S)) (numbers : List ℕ) → Same old new → AllListed (is_listed_at old) numbers → AllListed (is_listed_at new) numbers
  listed_same old new numbers same lists other h = lists other (sym (ap is_listed (same other)) ∙ h)

  -- one more is touched, and stays listed or not
  pub flags_next : (number : ℕ) (first old new : Slab (Member S)) → SameFlags first old → is_listed_at new number ≡ is_listed_at old number
      → is_unlisted (get new number) ≡ is_unlisted (get old number) → OthersKeep number old new → SameFlags first new
  flags_next number first old new same listed unlisted others other =
      decide
      (eqb other number)
      ((is_listed_at new other ≡ is_listed_at first other) × (is_unlisted (get new other) ≡ is_unlisted (get first other)))
      (λ is. subst (λ (n : ℕ). (is_listed_at new n ≡ is_listed_at first n) × (is_unlisted (get new n) ≡ is_unlisted (get first n))) (sym (eqb-true other number is))
      (listed ∙ (same number).0, unlisted ∙ (same number).1))
      (λ apart.
      let kept = others other (eqb-false other number apart) in
      (ap is_listed kept ∙ (same other).0, ap is_unlisted kept ∙ (same other).1))

  pub flags_then : (first mid last : Slab (Member S)) → SameFlags first mid → SameFlags mid last → SameFlags first last
  flags_then first mid last one two = λ k. ((two k).0 ∙ (one k).0, (two k).1 ∙ (one k).1)

  -- ---- a pass

  -- of the listed numbers the first have had their turns, and those that go on stand in front; there is room for each
  pub record Keeps (members : Slab (Member S)) (now : List ℕ) (place kept capacity : ℕ) : Type 0 where
    pub lists : AllListed (is_listed_at members) (take kept now ++ drop place now)
    pub room : kept + length now + count_by is_unlisted members.slots ≤ capacity + place

  module _ (members next : Slab (Member S)) (now : List ℕ) (place kept capacity number : ℕ) (goes : Bool) (keeps : Keeps members now place kept capacity) (few : kept ≤ place) (lt : place < length now) (is : number ≡ get_or now place number)
      (listed : is_listed_at next number ≡ goes) (others : OthersKeep number members next) where
    -- what stood in the list stands there still, or is this one
    stood : (other : ℕ) → is_listed_at members other ≡ true → eqb other number ≡ false → (list_any (eqb other) (take kept now) || list_any (eqb other) (drop (place + 1) now)) ≡ true
    stood other h apart =
        let split : drop place now ≡ number ∷ drop (place + 1) now = drop_more now place number lt ∙ ap (λ n. n ∷ drop (place + 1) now) (sym is) in
        let whole : (list_any (eqb other) (take kept now) || list_any (eqb other) (drop place now)) ≡ true = sym (list_any-append (eqb other) (take kept now) (drop place now)) ∙ keeps.lists other h in
        let here : (list_any (eqb other) (take kept now) || (eqb other number || list_any (eqb other) (drop (place + 1) now))) ≡ true = subst (λ l. (list_any (eqb other) (take kept now) || list_any (eqb other) l) ≡ true) split whole in
        subst (λ b. (list_any (eqb other) (take kept now) || (b || list_any (eqb other) (drop (place + 1) now))) ≡ true) apart here

    before : (other : ℕ) → eqb other number ≡ false → is_listed_at next other ≡ true → is_listed_at members other ≡ true
    before other apart h = sym (ap is_listed (others other (eqb-false other number apart))) ∙ h

    -- it goes on
    pub keeps_on : goes ≡ true → Keeps next (set now kept number) (place + 1) (kept + 1) capacity
    keeps_on on =
        let moved = unlisted_moves number members next others in
        let gone : cond {A = ℕ} (is_unlisted (get next number)) 1 0 ≡ 0 = ap (λ b. cond {A = ℕ} b 1 0) (listed_not (get next number) (listed ∙ on)) in
        let front : take (kept + 1) (set now kept number) ≡ take kept now ++ number ∷ [] = take_more_set now kept number (omega (arith, few, lt)) in
        let rest : drop (place + 1) (set now kept number) ≡ drop (place + 1) now = drop-set-lt (place + 1) now kept number (omega (arith, few)) in
        record {
          lists = λ other h.
              let both : StandsIn ((take kept now ++ number ∷ []) ++ drop (place + 1) now) other =
              list_any-append (eqb other) (take kept now ++ number ∷ []) (drop (place + 1) now)
              ∙ decide
              (eqb other number)
              ((list_any (eqb other) (take kept now ++ number ∷ []) || list_any (eqb other) (drop (place + 1) now)) ≡ true)
              (λ same. ap (λ b. b || list_any (eqb other) (drop (place + 1) now)) (stands_end (take kept now) number other same))
              (λ apart. or_grown (list_any (eqb other) (take kept now)) (list_any (eqb other) (take kept now ++ number ∷ [])) (list_any (eqb other) (drop (place + 1) now)) (stands_left (take kept now) (number ∷ []) other) (stood other (before other apart h) apart)) in
              rw (front, rest) both;
          room = omega (arith, moved, gone, keeps.room, length-set now kept number);
        }

    -- it does not
    pub keeps_past : goes ≡ false → Keeps next now (place + 1) kept capacity
    keeps_past off =
        let moved = unlisted_moves number members next others in
        let few_more = bit_few (is_unlisted (get next number)) in
        record {
          lists = λ other h.
              list_any-append (eqb other) (take kept now) (drop (place + 1) now)
              ∙ decide
              (eqb other number)
              ((list_any (eqb other) (take kept now) || list_any (eqb other) (drop (place + 1) now)) ≡ true)
              (λ same. let both : false ≡ true = sym off ∙ sym listed ∙ subst (λ n. is_listed_at next n ≡ true) (eqb-true other number same) h in cc)
              (λ apart. stood other (before other apart h) apart);
          room = omega (arith, moved, few_more, keeps.room);
        }

  pub keeps_start : (members : Slab (Member S)) (from : ℕ) (now : List ℕ) (capacity : ℕ) → AllListed (is_listed_at members) now → HasRoomForAll members (length now) capacity → Keeps members now from from capacity
  keeps_start members from now capacity lists room = record {
    lists = subst (λ (l : List ℕ). AllListed (is_listed_at members) l) (sym (take-append-drop from now)) lists;
    room = omega (arith, room);
  }

  pub keeps_end : (members : Slab (Member S)) (now : List ℕ) (place kept capacity : ℕ) → Keeps members now place kept capacity → length now ≤ place → AllListed (is_listed_at members) (take kept now)
  keeps_end members now place kept capacity keeps all other h =
      let none : drop place now ≡ [] = drop_all place now all in
      sym (list_any-append (eqb other) (take kept now) [] ∙ or_false (list_any (eqb other) (take kept now))) ∙ subst (λ l. StandsIn (take kept now ++ l) other) none (keeps.lists other h)

  pub keeps_room : (members : Slab (Member S)) (now : List ℕ) (place kept capacity : ℕ) → Keeps members now place kept capacity → place ≡ length now → HasRoomForAll members (length (take kept now)) capacity
  keeps_room members now place kept capacity keeps all =
      let few : length (take kept now) ≤ kept = omega (arith, length-take kept now) in
      omega (arith, keeps.room, few, all)

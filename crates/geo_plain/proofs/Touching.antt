-- The touches of a fetch that touches, key by key.
use Rattle.std.proofs.Common.{◌≡◌, ℕ, ◌+◌, ◌≤◌, ◌-◌, get_or, take, drop, Bool, true, false, cond, nat_lt, List, [], ◌∷◌, ◌++◌, length, Ok, Err, sym, ap, ◌∙◌, arith, true≢false}
use Rattle.std.specs.Prelude.{Result, IfOk}
use Rattle.std.proofs.lemmas.List.{map-append, append_assoc, append-nil, take_all}
use Rattle.geo_stamp.specs.Stamps.{last_time}
use Rattle.geo_records.specs.Operations.{Act, latest}
use Rattle.geo_records.specs.Operations.Act.{Touch}
use Rattle.geo_versions.proofs.Meaning.{latest_append}
use Rattle.geo_site.specs.Entries.{Visible, found_after, touched_after, touches_of, lacks}
use Rattle.geo_site.specs.Machine.{act_held}
use Rattle.geo_world.specs.Schedule as schedule
use Rattle.geo_world.specs.Schedule.{issues, new_operation}
use Rattle.geo_world.proofs.Sound.{here}
use Rattle.geo_plain.specs.declared.operation.Act.{Act as Plain}
use Rattle.geo_plain.specs.declared.operation.Act.TheVariants as plain
use Rattle.geo_plain.specs.declared.known.Known.{Known}
use Rattle.geo_plain.specs.declared.known.PlainError.{PlainError}
use Rattle.geo_plain.specs.declared.known.PlainError.TheVariants.{NotThere, ClockEnded, Memory}
use Rattle.geo_plain.specs.Plain.{acts_of, Meets, ChangeAdds}

-- the first of a list, and the rest
pub first_of : {A : Type 0} (xs : List A) (x : A) → 1 ≤ length xs → x ≡ get_or xs 0 x → xs ≡ x ∷ take (length xs - 1) (drop 1 xs)
first_of [] x h e = absurd (omega arith)
first_of (y ∷ ys) x h e = let all = take_all (length (y ∷ ys) - 1) ys (omega arith) in λ i. sym e i ∷ sym all i

-- a key is touched where it is found
pub touched : (old new : List Plain) (own key : List ℕ) (expiry : ℕ) (found : Bool) → found ≡ true → new ≡ old ++ plain.Touch own expiry ∷ [] → own ≡ key → acts_of new ≡ acts_of old ++ cond {A = List Act} found (Touch key expiry ∷ []) []
touched old new own key expiry found is more same = ap acts_of more ∙ map-append _ old (plain.Touch own expiry ∷ []) ∙ (λ i. acts_of old ++ cond {A = List Act} (sym is i) (Touch (same i) expiry ∷ []) [])

pub untouched : (old new : List Plain) (key : List ℕ) (expiry : ℕ) (found : Bool) → found ≡ false → new ≡ old → acts_of new ≡ acts_of old ++ cond {A = List Act} found (Touch key expiry ∷ []) []
untouched old new key expiry found is same = ap acts_of same ∙ sym (append-nil (acts_of old)) ∙ (λ i. acts_of old ++ cond {A = List Act} (sym is i) (Touch key expiry ∷ []) [])

-- one key more
pub touches_more : {E : Type 0} (now expiry : ℕ) (seen : Visible) (old mid new one : List Act) (before slice later : List (List ℕ)) (own key : List ℕ) (keys : List (List ℕ)) → slice ≡ before → later ≡ before ++ own ∷ [] → own ≡ key
    → ((numbers : Bool) → touches_of expiry (found_after now expiry numbers seen slice key) ≡ one) → mid ≡ old ++ one
    → (result : Result (Unit {0}) E) → IfOk result (λ _. (numbers : Bool) → new ≡ mid ++ touches_of expiry (touched_after now expiry numbers seen later keys))
    → IfOk result (λ _. (numbers : Bool) → new ≡ old ++ touches_of expiry (touched_after now expiry numbers seen before (key ∷ keys)))
touches_more now expiry seen old mid new one before slice later own key keys same more is found first (Err e) h = tt
touches_more now expiry seen old mid new one before slice later own key keys same more is found first (Ok u) h = λ numbers.
    let touch = touches_of expiry in
    let this = found_after now expiry numbers seen before key in
    let rest = touched_after now expiry numbers seen (before ++ key ∷ []) keys in
    let shown : one ≡ touch this = sym (found numbers) ∙ (λ i. touches_of expiry (found_after now expiry numbers seen (same i) key)) in
    let place : later ≡ before ++ key ∷ [] = more ∙ (λ i. before ++ is i ∷ []) in
    h numbers ∙ (λ i. (first ∙ ap (λ t. old ++ t) shown) i ++ touch (touched_after now expiry numbers seen (place i) keys)) ∙ append_assoc old (touch this) (touch rest) ∙ ap (λ t. old ++ t) (sym (map-append _ this rest))

-- ---- acts that are issued one after the other
latest_issued : (w : schedule.Known) (s : ℕ) (act : Act) → latest ((issues w s (act ∷ [])).at s) ≡ latest (w.at s) + 1
latest_issued w s act =
    let e = ap latest (here w s (w.at s ++ new_operation w s act ∷ []) (act_held act (w.held s))) in
    let l = latest_append (w.at s) (new_operation w s act ∷ []) in
    omega (arith, e, l)

lacks_more : (clock : ℕ) (act : Act) (acts : List Act) → lacks (clock + 1) acts ≡ true → lacks clock (act ∷ acts) ≡ true
lacks_more clock act [] h = absurd (true≢false (sym h))
lacks_more clock act (a ∷ acts) h = let e : clock + length (act ∷ a ∷ acts) ≡ clock + 1 + length (a ∷ acts) = omega arith in ap (nat_lt last_time) e ∙ h

pub adds_more : (old mid new : Known) (site : ℕ) (act : Act) (acts : List Act) → ((w : schedule.Known) → Meets old.sites.items old.sent.items w → Meets mid.sites.items mid.sent.items (issues w site (act ∷ [])))
    → (result : Result (Unit {0}) PlainError) → ChangeAdds mid new site (λ w. acts) result → ChangeAdds old new site (λ w. act ∷ acts) result
adds_more old mid new site act acts first (Ok u) h = λ w meets. h (issues w site (act ∷ [])) (first w meets)
adds_more old mid new site act acts first (Err NotThere) h = h
adds_more old mid new site act acts first (Err ClockEnded) h = λ w meets. lacks_more (latest (w.at site)) act acts (ap (λ c. lacks c acts) (sym (latest_issued w site act)) ∙ h (issues w site (act ∷ [])) (first w meets))
adds_more old mid new site act acts first (Err Memory) h = h

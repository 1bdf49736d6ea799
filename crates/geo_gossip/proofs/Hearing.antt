-- What was heard goes on with what comes next.
use Rattle.std.proofs.Common.{◌≡◌, inl, inr, ℕ, ◌+◌, Bool, false, if◌then◌else◌, List, [], ◌∷◌, ◌++◌, refl, sym, ap, ◌∙◌, subst}
use Rattle.std.proofs.Common.{arith, ◌≤◌, true, Option, None, Some, Vec, Global, length}
use Rattle.std.specs.Prelude.{min, option_map}
use Rattle.std.specs.Option.{IfSome}
use Rattle.sha2.specs.Sha256.{sha256}
use Rattle.geo_delta.specs.Ranges.{sites_fit}
use Rattle.geo_frame.specs.Payloads.{PayloadInRange, WantedInRange, payload_of, wanted}
use Rattle.geo_frame.specs.Payloads.Payload.{Asks, Offers}
use Rattle.geo_gossip.specs.Receiving.{Answers, IsPassed, Offered}
use Rattle.geo_frame.specs.declared.message.Message.{Message}
use Rattle.geo_frame.specs.declared.message.Message.TheVariants as message
use Rattle.geo_gossip.specs.Receiving.Came.{Got, Asked, Passed, Missed}
use Rattle.geo_gossip.specs.Receiving.{Came, Becomes, Hears, HearsAll, is_taken, most_counted, count_one, count_taken}
use Rattle.geo_gossip.specs.Rounds.{KeepsLast}
use Rattle.geo_link.specs.declared.fault.LinkError.{LinkError}
use Rattle.geo_station.specs.Seats.{Seated}

pub hears_next : {K : Type 0} (puts gets : K → Message → K → Type 0) (put_fails : K → Message → LinkError → K → Type 0) (get_fails : K → LinkError → K → Type 0) (came : List Came) (one : Came) (old mid new : K) (seat between after : Seated)
    → HearsAll puts gets put_fails get_fails came old mid seat between → Hears puts gets put_fails get_fails one mid new between after → HearsAll puts gets put_fails get_fails (came ++ one ∷ []) old new seat after
hears_next {K} puts gets put_fails get_fails [] one old mid new seat between after (same, kept) last =
    (new, after, subst (λ (s : Seated). Hears puts gets put_fails get_fails one old new s after) kept (subst (λ (l : K). Hears puts gets put_fails get_fails one l new between after) same last), (refl, refl))
hears_next puts gets put_fails get_fails (first ∷ more) one old mid new seat between after (l, s, heard, rest) last =
    (l, s, heard, hears_next puts gets put_fails get_fails more one l mid new s between after rest last)

pub count_next : (count : ℕ) (came : List Came) (one : Came) → count_taken count (came ++ one ∷ []) ≡ count_one (count_taken count came) one
count_next count [] one = refl
count_next count (first ∷ more) one = count_next (count_one count first) more one

-- what was heard so far, and how many of it were taken
pub record HearsSome {K : Type 0} (puts gets : K → Message → K → Type 0) (put_fails : K → Message → LinkError → K → Type 0) (get_fails : K → LinkError → K → Type 0) (old new : K) (seat after : Seated) (count : ℕ) : Type 0 where
  pub came : List Came
  pub heard : HearsAll puts gets put_fails get_fails came old new seat after
  pub counted : count ≡ count_taken 0 came

pub hears_on : {K : Type 0} (puts gets : K → Message → K → Type 0) (put_fails : K → Message → LinkError → K → Type 0) (get_fails : K → LinkError → K → Type 0) (old mid new : K) (seat between after : Seated) (count more : ℕ) (took : Bool)
    → HearsSome puts gets put_fails get_fails old mid seat between count → (one : Came) × Hears puts gets put_fails get_fails one mid new between after × (is_taken one ≡ took) → more ≡ (if took then min (count + 1) most_counted else count)
    → HearsSome puts gets put_fails get_fails old new seat after more
hears_on puts gets put_fails get_fails old mid new seat between after count more took some (one, heard, is) counted = record {
  came = some.came ++ one ∷ [];
  heard = hears_next puts gets put_fails get_fails some.came one old mid new seat between after some.heard heard;
  counted = counted ∙ ap (λ (b : Bool). if b then min (count + 1) most_counted else count) (sym is) ∙ ap (λ (n : ℕ). count_one n one) some.counted ∙ sym (count_next 0 some.came one);
}

-- what is got and what becomes of it
pub hears_got : {K : Type 0} (puts gets : K → Message → K → Type 0) (put_fails : K → Message → LinkError → K → Type 0) (get_fails : K → LinkError → K → Type 0) (one : Came) (m : Message) (old mid new : K) (seat after : Seated)
    → gets old m mid → Becomes puts put_fails one m mid new seat after → Hears puts gets put_fails get_fails one old new seat after
hears_got puts gets put_fails get_fails (Got parcel answer) m old mid new seat after got (is, same, takes) =
    (subst (λ (k : _). gets old (message.Parcel parcel) k) (sym same) (subst (λ (m : Message). gets old m mid) is got), takes)
hears_got puts gets put_fails get_fails (Asked ask failed) m old mid new seat after got (is, offered, same) = (mid, subst (λ (m : Message). gets old m mid) is got, offered, same)
hears_got puts gets put_fails get_fails (Passed other) m old mid new seat after got (is, none, kept, same) =
    (subst (λ (k : _). gets old other k) (sym kept) (subst (λ (m : Message). gets old m mid) is got), none, same)
hears_got puts gets put_fails get_fails (Missed why) m old mid new seat after got none = absurd none

-- a seat that keeps its last call alone keeps it alone behind the next
pub keeps_on : (a b c : Seated) → KeepsLast a b → KeepsLast b c → KeepsLast a c
keeps_on a b c first (inl same) = subst (λ (s : Seated). KeepsLast a s) (sym same) first
keeps_on a b c first (inr few) = inr few

-- an ask between two sites can be turned round
turns : (from to n : ℕ) → sites_fit from to n ≡ true → sites_fit to from n ≡ true
unfolding sites_fit
turns from to n h = grind arith

-- and so an offer of few bytes to whoever asked has a frame
pub turned_in_range : (from to n : ℕ) (key digest : List ℕ) (bytes : Option (Vec ℕ Global)) → WantedInRange (wanted from to n key digest) → IfSome bytes (λ b. length b.items ≤ 1048576)
    → PayloadInRange (Offers (wanted to from n key digest) (option_map (λ v. v.items) bytes))
turned_in_range from to n key digest None fits short = (record { sites = turns from to n fits.sites; key = fits.key; digest = fits.digest }, tt)
turned_in_range from to n key digest (Some bytes) fits short = (record { sites = turns from to n fits.sites; key = fits.key; digest = fits.digest }, short)

-- what is offered has the SHA-256 that was asked for
pub answers_ask : (from to n : ℕ) (key digest : List ℕ) (bytes : Option (Vec ℕ Global)) → IfSome bytes (λ b. sha256 b.items ≡ digest)
    → Answers (Asks (wanted from to n key digest)) (Offers (wanted to from n key digest) (option_map (λ v. v.items) bytes))
answers_ask from to n key digest None is = (refl, tt)
answers_ask from to n key digest (Some bytes) is = (refl, is)

-- what is no call of the site, and no ask that can be answered, is passed over
pub is_passed : {K : Type 0} (puts : K → Message → K → Type 0) (put_fails : K → Message → LinkError → K → Type 0) (m : Message) (link : K) (seat : Seated) → IsPassed (payload_of m)
    → (one : Came) × Becomes puts put_fails one m link link seat seat × (is_taken one ≡ false)
is_passed puts put_fails m link seat none = (Passed m, (refl, none, refl, refl), refl)

-- an ask is answered
pub is_asked : {K : Type 0} (puts : K → Message → K → Type 0) (put_fails : K → Message → LinkError → K → Type 0) (m ask : Message) (failed : Option LinkError) (old new : K) (seat : Seated)
    → m ≡ ask → Offered puts put_fails (payload_of ask) failed old new → (one : Came) × Becomes puts put_fails one m old new seat seat × (is_taken one ≡ false)
is_asked puts put_fails m ask failed old new seat is offered = (Asked ask failed, (is, offered, refl), refl)

-- What one peer is asked for, one after the other.
use Rattle.std.proofs.Common.{arith, ◌≡◌, ℕ, suc, ◌+◌, ◌<◌, ◌≤◌, Bool, Option, Some, None, List, [], ◌∷◌, ◌++◌, length, take, drop, get_or, refl, sym, ap, ◌∙◌, subst, append_assoc}
use Rattle.std.specs.List.{remove}
use Rattle.std.proofs.Math.Seq.{take-append_seam, drop-append_seam}
use Rattle.std.proofs.lemmas.List.{append-nil, drop_more, length-take-le, take-append-drop, take_more}
use Rattle.std.proofs.lemmas.List.Edits.{length-remove}
use Rattle.geo_gossip.specs.Fetching.{Ways, AsksAll, AsksPeer, StopsAt, TellsThis, ask_of, done_by, still}
use Rattle.geo_gossip.specs.declared.rounds.Peer.{Peer}
use Rattle.geo_site.specs.declared.fill.Filled.{Filled}
use Rattle.geo_site.specs.declared.fill.Filled.TheVariants.{NotNamed, Held, Full, Done}
use Rattle.geo_station.specs.Seats.{Seated}
use Rattle.geo_station.specs.declared.missing.Missing.{Missing}

pub asks_next : {K : Type 0} (by : Ways K) (site : ℕ) (asked left : List Missing) (m : Missing) (old mid new : K) (seat between after : Seated) (count : ℕ) (told : Option Filled)
    → AsksAll by site asked left old mid seat between count → TellsThis by told (ask_of site m) mid new between after
    → AsksAll by site (asked ++ m ∷ []) (left ++ still told m) old new seat after (count + done_by told)
unfolding AsksAll
asks_next {K} by site [] left m old mid new seat between after count told (none, same, kept, zero) last =
    (told, new, after, [], 0, subst (λ (s : Seated). TellsThis by told (ask_of site m) old new s after) kept (subst (λ (k : K). TellsThis by told (ask_of site m) k new between after) same last), (refl, refl, refl, refl), ap (λ l. l ++ still told m) none ∙ sym (append-nil (still told m)), omega (arith, zero))
asks_next by site (a ∷ asked) left m old mid new seat between after count told (t, k, s, rest, more, first, all, is, sums) last =
    (t, k, s, rest ++ still told m, more + done_by told, first, asks_next by site asked rest m k mid new s between after more told all last, ap (λ l. l ++ still told m) is ∙ append_assoc (still t a) rest (still told m), omega (arith, sums))

seam_taken : {X : Type 0} (n : ℕ) (xs ys : List X) → length xs ≡ n → take n (xs ++ ys) ≡ xs
seam_taken n xs ys e = subst (λ (k : ℕ). take k (xs ++ ys) ≡ xs) e (take-append_seam xs ys)

seam_dropped : {X : Type 0} (n : ℕ) (xs ys : List X) → length xs ≡ n → drop n (xs ++ ys) ≡ ys
seam_dropped n xs ys e = subst (λ (k : ℕ). drop k (xs ++ ys) ≡ ys) e (drop-append_seam xs ys)

removed : {X : Type 0} (xs : List X) (i : ℕ) → remove xs i ≡ take i xs ++ drop (i + 1) xs
removed xs i = let next : suc i ≡ i + 1 = omega arith in ap (λ (n : ℕ). take i xs ++ drop n xs) next

-- the first of what is sought were asked for, and what they left stands before those that were not
pub record Goes {K : Type 0} (by : Ways K) (site : ℕ) (first now : List Missing) (at : ℕ) (old mid : K) (seat between : Seated) (count : ℕ) : Type 0 where
  pub within : at ≤ length now
  pub asked : List Missing
  pub split : first ≡ asked ++ drop at now
  pub all : AsksAll by site asked (take at now) old mid seat between count
  pub few : count + length now ≤ length first
  pub steps : seat.steps + count ≤ between.steps
  pub stays : between ≡ record seat { mark = between.mark; steps = between.steps }

pub goes_lacked : {K : Type 0} (by : Ways K) (site : ℕ) (first now : List Missing) (at : ℕ) (old mid new : K) (seat between after : Seated) (count : ℕ) (m : Missing)
    → Goes by site first now at old mid seat between count → at < length now → m ≡ get_or now at m → TellsThis by None (ask_of site m) mid new between after → after ≡ between
    → Goes by site first now (at + 1) old new seat after count
goes_lacked {K} by site first now at old mid new seat between after count m goes lt is told same = record {
  within = omega (arith, lt);
  asked = goes.asked ++ m ∷ [];
  split = goes.split ∙ ap (λ l. goes.asked ++ l) (drop_more now at m lt ∙ ap (λ x. x ∷ drop (at + 1) now) (sym is)) ∙ sym (append_assoc goes.asked (m ∷ []) (drop (at + 1) now));
  all = subst (λ (l : List Missing). AsksAll by site (goes.asked ++ m ∷ []) l old new seat after count) (ap (λ x. take at now ++ x ∷ []) is ∙ sym (take_more now at m lt))
      (subst (λ (n : ℕ). AsksAll by site (goes.asked ++ m ∷ []) (take at now ++ m ∷ []) old new seat after n) (omega arith) (asks_next by site goes.asked (take at now) m old mid new seat between after count None goes.all told));
  few = goes.few;
  steps = subst (λ (s : Seated). seat.steps + count ≤ s.steps) (sym same) goes.steps;
  stays = subst (λ (s : Seated). s ≡ record seat { mark = s.mark; steps = s.steps }) (sym same) goes.stays;
}

pub goes_filled : {K : Type 0} (by : Ways K) (site : ℕ) (first now : List Missing) (at : ℕ) (old mid new : K) (seat between after : Seated) (count : ℕ) (m : Missing) (filled : Filled)
    → Goes by site first now at old mid seat between count → at < length now → m ≡ get_or now at m → TellsThis by (Some filled) (ask_of site m) mid new between after
    → done_by (Some filled) ≤ 1 → between.steps + done_by (Some filled) ≤ after.steps → after ≡ record between { mark = after.mark; steps = after.steps }
    → (later : List Missing) (done : ℕ) → later ≡ remove now at → done ≡ done_by (Some filled) → Goes by site first later at old new seat after (count + done)
goes_filled {K} by site first now at old mid new seat between after count m filled goes lt is told one more stays later done removes counts =
    let before : length (take at now) ≡ at = length-take-le at now goes.within in
    let kept : take at later ≡ take at now = ap (take at) (removes ∙ removed now at) ∙ seam_taken at (take at now) (drop (at + 1) now) before in
    let rest : drop at later ≡ drop (at + 1) now = ap (drop at) (removes ∙ removed now at) ∙ seam_dropped at (take at now) (drop (at + 1) now) before in
    let fewer : length later + 1 ≡ length now = ap (λ l. length l + 1) removes ∙ length-remove now at lt in
    record {
      within = omega (arith, lt, fewer);
      asked = goes.asked ++ m ∷ [];
      split = goes.split ∙ ap (λ l. goes.asked ++ l) (drop_more now at m lt ∙ ap (λ x. x ∷ drop (at + 1) now) (sym is)) ∙ sym (append_assoc goes.asked (m ∷ []) (drop (at + 1) now))
          ∙ ap (λ l. (goes.asked ++ m ∷ []) ++ l) (sym rest);
      all = subst (λ (l : List Missing). AsksAll by site (goes.asked ++ m ∷ []) l old new seat after (count + done)) (append-nil (take at now) ∙ sym kept)
          (subst (λ (n : ℕ). AsksAll by site (goes.asked ++ m ∷ []) (take at now ++ []) old new seat after (count + n)) (sym counts)
          (asks_next by site goes.asked (take at now) m old mid new seat between after count (Some filled) goes.all told));
      few = omega (arith, goes.few, fewer, one, counts);
      steps = omega (arith, goes.steps, more, counts);
      stays = stays ∙ ap (λ (s : Seated). record s { mark = after.mark; steps = after.steps }) goes.stays;
    }

-- where no more is asked, so the peer was asked
pub asks_so : {K : Type 0} (by : Ways K) (first now : List Missing) (at : ℕ) (old new : Peer K) (mid : K) (seat after : Seated) (count : ℕ) (goes_on : Bool)
    → Goes by old.site first now at old.link mid seat after count → new.site ≡ old.site → StopsAt by goes_on old.site (drop at now) mid new.link → AsksPeer by goes_on first now old new seat after count
asks_so by first now at old new mid seat after count goes_on goes same stops = record {
  site = same;
  asked = goes.asked;
  kept = take at now;
  rest = drop at now;
  last = mid;
  split = goes.split;
  remain = sym (take-append-drop at now);
  all = goes.all;
  stops = stops;
}

-- nobody was asked yet
pub goes_first : {K : Type 0} (by : Ways K) (site : ℕ) (first : List Missing) (old : K) (seat : Seated) → Goes by site first first 0 old old seat seat 0
unfolding AsksAll
goes_first by site first old seat = record { within = omega arith; asked = []; split = refl; all = (refl, refl, refl, refl); few = omega arith; steps = omega arith; stays = refl }

-- at most one fill comes of one ask
pub few_done : (filled : Filled) → done_by (Some filled) ≤ 1
few_done NotNamed = omega arith
few_done Held = omega arith
few_done Full = omega arith
few_done Done = omega arith

-- the peer brings nothing for the next, and the seat is as it was
pub asks_silent : {K : Type 0} (by : Ways K) (first now : List Missing) (at : ℕ) (old new : Peer K) (mid : K) (seat between after : Seated) (count : ℕ) (m : Missing) (goes_on : Bool)
    → Goes by old.site first now at old.link mid seat between count → at < length now → m ≡ get_or now at m → new.site ≡ old.site → after ≡ between → StopsAt by goes_on old.site (m ∷ drop (at + 1) now) mid new.link
    → AsksPeer by goes_on first now old new seat after count
asks_silent by first now at old new mid seat between after count m goes_on goes lt is same kept stops =
    asks_so by first now at old new mid seat after count goes_on (subst (λ (s : Seated). Goes by old.site first now at old.link mid seat s count) (sym kept) goes) same
    (subst (λ (l : List Missing). StopsAt by goes_on old.site l mid new.link) (ap (λ x. x ∷ drop (at + 1) now) is ∙ sym (drop_more now at m lt)) stops)

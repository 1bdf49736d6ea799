-- What peers are asked for, one after the other.
use Rattle.std.proofs.Common.{arith, ◌≡◌, ℕ, ◌+◌, ◌<◌, ◌≤◌, true, false, inl, inr, List, [], ◌∷◌, ◌++◌, length, take, drop, get_or, refl, sym, ap, ◌∙◌, subst, append_assoc}
use Rattle.std.proofs.Math.ListN.{length-set, set}
use Rattle.std.proofs.lemmas.List.{drop_more, drop-set-lt, take-append-drop, take_all, take_more, take_more_set}
use Rattle.geo_gossip.specs.Fetching.{Ways, AsksPeer, AsksPeers, AsksFor}
use Rattle.geo_gossip.proofs.Going.{waits}
use Rattle.geo_gossip.specs.declared.rounds.Peer.{Peer}
use Rattle.geo_station.specs.Seats.{Seated}
use Rattle.geo_station.specs.declared.missing.Missing.{Missing}

pub peers_next : {K : Type 0} (by : Ways K) (sought left more : List Missing) (olds news : List (Peer K)) (old new : Peer K) (seat mid after : Seated) (count n : ℕ)
    → AsksPeers by sought left olds news seat mid count → AsksPeer by true left more old new mid after n
    → AsksPeers by sought more (olds ++ old ∷ []) (news ++ new ∷ []) seat after (count + n)
unfolding AsksPeers
peers_next by sought left more [] [] old new seat mid after count n (same, kept, zero) last =
    (more, after, n, 0, subst (λ (s : Seated). AsksPeer by true sought more old new s after n) kept (subst (λ (l : List Missing). AsksPeer by true l more old new mid after n) same last), (refl, refl, refl), omega (arith, zero))
peers_next by sought left more (o ∷ olds) (p ∷ news) old new seat mid after count n (b, m, f, k, one, rest, sums) last =
    (b, m, f, k + n, one, peers_next by b left more olds news old new m mid after k n rest last, omega (arith, sums))
peers_next by sought left more [] (p ∷ news) old new seat mid after count n none last = absurd none
peers_next by sought left more (o ∷ olds) [] old new seat mid after count n none last = absurd none

-- the first peers were asked, and the others stay
pub record Fetched {K : Type 0} (by : Ways K) (first now : List (Peer K)) (at : ℕ) (sought left : List Missing) (seat mid : Seated) (count : ℕ) : Type 0 where
  pub small : length sought ≤ 64
  pub long : length now ≡ length first
  pub all : AsksPeers by sought left (take at first) (take at now) seat mid count
  pub rest : drop at now ≡ drop at first
  pub few : count + length left ≤ length sought
  pub steps : seat.steps + count ≤ mid.steps
  pub stays : mid ≡ record seat { mark = mid.mark; steps = mid.steps }

pub fetched_none : {K : Type 0} (by : Ways K) (peers : List (Peer K)) (sought : List Missing) (seat : Seated) → length sought ≤ 64 → Fetched by peers peers 0 sought sought seat seat 0
unfolding AsksPeers
fetched_none by peers sought seat small = record { small = small; long = refl; all = (refl, refl, refl); rest = refl; few = omega arith; steps = omega arith; stays = refl }

pub fetched_next : {K : Type 0} (by : Ways K) (first now : List (Peer K)) (at : ℕ) (sought left more : List Missing) (seat mid after : Seated) (count n : ℕ) (old new : Peer K)
    → Fetched by first now at sought left seat mid count → at < length now → old ≡ get_or now at old → AsksPeer by true left more (get_or now at old) new mid after n
    → n + length more ≤ length left → mid.steps + n ≤ after.steps → after ≡ record mid { mark = after.mark; steps = after.steps }
    → Fetched by first (set now at new) (at + 1) sought more seat after (count + n)
fetched_next {K} by first now at sought left more seat mid after count n old new was lt is asked fewer steps stays = record {
  small = was.small;
  long = length-set now at new ∙ was.long;
  all = rw (take_more first at old (omega (arith, lt, was.long)), waits first now at old was.rest is, take_more_set now at new lt)
      (peers_next by sought left more (take at first) (take at now) old new seat mid after count n was.all (subst (λ (o : Peer K). AsksPeer by true left more o new mid after n) (sym is) asked));
  rest = drop-set-lt (at + 1) now at new (omega arith) ∙ ap (drop 1) (sym (drop_more now at old lt) ∙ was.rest ∙ drop_more first at old (omega (arith, lt, was.long)));
  few = omega (arith, was.few, fewer);
  steps = omega (arith, was.steps, steps);
  stays = stays ∙ ap (λ (s : Seated). record s { mark = after.mark; steps = after.steps }) was.stays;
}

set_splits : {X : Type 0} (xs : List X) (i : ℕ) (y : X) → i < length xs → set xs i y ≡ take i xs ++ y ∷ drop (i + 1) xs
set_splits xs i y lt = sym (take-append-drop (i + 1) (set xs i y)) ∙ ap (λ l. l ++ drop (i + 1) (set xs i y)) (take_more_set xs i y lt) ∙ append_assoc (take i xs) (y ∷ []) (drop (i + 1) (set xs i y))
    ∙ ap (λ l. take i xs ++ y ∷ l) (drop-set-lt (i + 1) xs i y (omega arith))

splits : {X : Type 0} (xs : List X) (i : ℕ) (x : X) → i < length xs → x ≡ get_or xs i x → xs ≡ take i xs ++ x ∷ drop (i + 1) xs
splits xs i x lt is = sym (take-append-drop i xs) ∙ ap (λ l. take i xs ++ l) (drop_more xs i x lt ∙ ap (λ y. y ∷ drop (i + 1) xs) (sym is))

pub fetched_early : {K : Type 0} (by : Ways K) (first now : List (Peer K)) (at : ℕ) (sought left more : List Missing) (seat mid after : Seated) (count n : ℕ) (old new : Peer K)
    → Fetched by first now at sought left seat mid count → at < length now → old ≡ get_or now at old → AsksPeer by false left more (get_or now at old) new mid after n
    → AsksFor by sought first (set now at new) seat after (count + n)
fetched_early {K} by first now at sought left more seat mid after count n old new was lt is asked =
    let here : old ≡ get_or first at old = sym (waits first now at old was.rest is) in
    let later : drop (at + 1) now ≡ drop (at + 1) first = ap (drop 1) (sym (drop_more now at old lt) ∙ was.rest ∙ drop_more first at old (omega (arith, lt, was.long))) in (
      more,
      inr (record {
        before = take at first;
        later = drop (at + 1) first;
        asked = take at now;
        old = old;
        new = new;
        between = left;
        left = more;
        mid = mid;
        first = count;
        more = n;
        split = splits first at old (omega (arith, lt, was.long)) here;
        result = set_splits now at new lt ∙ ap (λ l. take at now ++ new ∷ l) later;
        all = was.all;
        last = subst (λ (o : Peer K). AsksPeer by false left more o new mid after n) (sym is) asked;
        counted = refl;
      }),
    )

pub fetched_all : {K : Type 0} (by : Ways K) (first now : List (Peer K)) (at : ℕ) (sought left : List Missing) (seat after : Seated) (count : ℕ)
    → Fetched by first now at sought left seat after count → length now ≤ at → AsksFor by sought first now seat after count
fetched_all {K} by first now at sought left seat after count was end = (
  left,
  inl (subst (λ (l : List (Peer K)). AsksPeers by sought left l now seat after count) (take_all at first (omega (arith, end, was.long)))
      (subst (λ (l : List (Peer K)). AsksPeers by sought left (take at first) l seat after count) (take_all at now end) was.all)),
)

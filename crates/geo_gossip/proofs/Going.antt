-- A round that has served some peers goes on with the next.
use Rattle.std.proofs.Common.{◌≡◌, ℕ, ◌+◌, ◌<◌, ◌≤◌, Bool, true, false, cond, List, [], ◌∷◌, ◌++◌, length, take, drop, refl, sym, ◌∙◌, subst, ap, arith}
use Rattle.std.proofs.Math.ListN.{set, get_or}
use Rattle.std.proofs.lemmas.List.{take_more, take_more_set, drop_more, drop-set-lt, length-set, get_or-drop}
use Rattle.geo_frame.specs.declared.message.Message.{Message}
use Rattle.geo_gossip.specs.Rounds.{Served, ServedAll}
use Rattle.geo_gossip.specs.declared.rounds.Peer.{Peer}
use Rattle.geo_link.specs.declared.fault.LinkError.{LinkError}
use Rattle.geo_station.specs.Seats.{Seated}

pub served_next : {K : Type 0} (puts : K → Message → K → Type 0) (put_fails : K → Message → LinkError → K → Type 0) (olds news : List (Peer K)) (old new : Peer K) (seat mid after : Seated) (count : ℕ) (put : Bool)
    → ServedAll puts put_fails olds news seat mid count → Served puts put_fails put old new mid after
    → ServedAll puts put_fails (olds ++ old ∷ []) (news ++ new ∷ []) seat after (count + cond put 1 0)
unfolding ServedAll
served_next puts put_fails [] [] old new seat mid after count put (same, none) last =
    (after, put, 0, subst (λ (s : Seated). Served puts put_fails put old new s after) same last, (refl, refl), omega (arith, none))
served_next puts put_fails (o ∷ olds) (n ∷ news) old new seat mid after count put (m, p, more, first, rest, sums) last =
    (m, p, more + cond put 1 0, first, served_next puts put_fails olds news old new m mid after more put rest last, omega (arith, sums))
served_next puts put_fails [] (n ∷ news) old new seat mid after count put none last = absurd none
served_next puts put_fails (o ∷ olds) [] old new seat mid after count put none last = absurd none

-- no more parcels are put than there are peers
pub served_few : {K : Type 0} (puts : K → Message → K → Type 0) (put_fails : K → Message → LinkError → K → Type 0) (olds news : List (Peer K)) (seat after : Seated) (count : ℕ)
    → ServedAll puts put_fails olds news seat after count → count ≤ length olds
unfolding ServedAll
served_few puts put_fails [] [] seat after count (same, none) = omega (arith, none)
served_few puts put_fails (o ∷ olds) (n ∷ news) seat after count (m, true, more, first, rest, sums) = omega (arith, sums, served_few puts put_fails olds news m after more rest)
served_few puts put_fails (o ∷ olds) (n ∷ news) seat after count (m, false, more, first, rest, sums) = omega (arith, sums, served_few puts put_fails olds news m after more rest)
served_few puts put_fails [] (n ∷ news) seat after count none = absurd none
served_few puts put_fails (o ∷ olds) [] seat after count none = absurd none

-- the first peers of a round are served, and the others stay
pub record Goes {K : Type 0} (puts : K → Message → K → Type 0) (put_fails : K → Message → LinkError → K → Type 0) (first now : List (Peer K)) (seat : Seated) (at : ℕ) (mid : Seated) (count : ℕ) : Type 0 where
  pub long : length now ≡ length first
  pub done : ServedAll puts put_fails (take at first) (take at now) seat mid count
  pub rest : drop at now ≡ drop at first

-- the next one is as it was
pub waits : {K : Type 0} (first now : List (Peer K)) (at : ℕ) (old : Peer K) → drop at now ≡ drop at first → old ≡ get_or now at old → get_or first at old ≡ old
waits first now at old rest is =
    ap (λ i. get_or first i old) (omega arith) ∙ sym (get_or-drop at first 0 old) ∙ ap (λ l. get_or l 0 old) (sym rest) ∙ get_or-drop at now 0 old ∙ ap (λ i. get_or now i old) (omega arith) ∙ sym is

pub goes_on : {K : Type 0} (puts : K → Message → K → Type 0) (put_fails : K → Message → LinkError → K → Type 0) (first now : List (Peer K)) (seat mid after : Seated) (at count more : ℕ) (put : Bool) (old new : Peer K)
    → more ≡ count + cond put 1 0 → Goes puts put_fails first now seat at mid count → at < length now → old ≡ get_or now at old → Served puts put_fails put (get_or now at old) new mid after
    → Goes puts put_fails first (set now at new) seat (at + 1) after more
goes_on {K = K} puts put_fails first now seat mid after at count more put old new counted goes lt is served =
    record {
      long = length-set now at new ∙ goes.long;
      done = rw (counted, take_more first at old (omega (arith, lt, goes.long)), waits first now at old goes.rest is, take_more_set now at new lt)
          (served_next puts put_fails (take at first) (take at now) old new seat mid after count put goes.done (subst (λ (o : Peer K). Served puts put_fails put o new mid after) (sym is) served));
      rest = drop-set-lt (at + 1) now at new (omega arith) ∙ ap (drop 1) (sym (drop_more now at old lt) ∙ goes.rest ∙ drop_more first at old (omega (arith, lt, goes.long)));
    }

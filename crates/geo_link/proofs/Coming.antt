-- The next frame of what comes: taken, refused, or not whole.
use Rattle.std.proofs.Common.{◌≡◌, ℕ, ◌<◌, ◌≤◌, false, List, [], ◌++◌, length, take, drop, Option, None, Some, Result, Ok, Err, IfErr, inl, inr, refl, sym, ap, subst, ◌∙◌, append_assoc, take-append-drop, arith}
use Rattle.std.specs.Io.KnownBytes.{Consumes, Keeps, IsAtEnd, prepend_known}
use Rattle.std.specs.Result.{IsErrAnd}
use Rattle.std.proofs.lemmas.List.{length-take}
use Rattle.geo_frame.specs.Payloads.{Payload, PayloadInRange}
use Rattle.geo_frame.specs.declared.fault.FrameFault.{FrameFault}
use Rattle.geo_frame.specs.declared.fault.FrameFault.TheVariants.{Short, Magic, Version, Field, Order, Damaged, Trailing}
use Rattle.geo_frame.specs.declared.fault.FrameFault.TheVariants as frame
use Rattle.geo_frame.specs.Reading.{Fails, frame_in, size_in}
use Rattle.geo_frame.specs.Spelling.{IsFrameOf, longest_frame}
use Rattle.geo_link.specs.declared.fault.LinkError.{LinkError}
use Rattle.geo_link.specs.declared.fault.LinkError.TheVariants.{Closed, Frame, Io, Memory, TooLong}
use Rattle.geo_link.specs.Streams.{error_of, Incoming, ReadsOn, RefusesFrame, TakesFrame, StopsFill, StopsNext, left_in}
use Rattle.geo_link.proofs.Arrivals.{reads_keep}
use Rattle.geo_link.proofs.Heads.{head_of, never_short, size_front, size_more, size_fewer, head_refused, frame_cut, frame_few}

-- a fault that is passed on
pub at_err : {T F : Type 0} (r : Result T F) (f : F) (P : F → Type 0) → IsErrAnd r (λ e. e ≡ f) → P f → IfErr r P
at_err (Ok x) f P h p = absurd h
at_err (Err e) f P h p = rw h p

all_is : (w : List ℕ) (u : Option (List ℕ)) → Consumes (prepend_known w u) u w
all_is w None = tt
all_is w (Some x) = refl

part_is : (n : ℕ) (w : List ℕ) (u : Option (List ℕ)) → Consumes (prepend_known w u) (prepend_known (drop n w) u) (take n w)
part_is n w None = tt
part_is n w (Some x) = ap (λ (t : List ℕ). t ++ x) (sym (take-append-drop n w)) ∙ append_assoc (take n w) (drop n w) x

ends_here : (w : List ℕ) (u : Option (List ℕ)) → w ≡ [] → IsAtEnd u → IsAtEnd (prepend_known w u)
ends_here w None e h = tt
ends_here w (Some x) e h = ap (λ (t : List ℕ). t ++ x) e ∙ h

kept_then : (a b c : Option (List ℕ)) (bs : List ℕ) → Keeps a b → Consumes b c bs → Consumes a c bs
kept_then None b c bs p q = tt
kept_then (Some x) None c bs p q = absurd p
kept_then (Some x) (Some y) None bs p q = absurd q
kept_then (Some x) (Some y) (Some z) bs p q = sym p ∙ q

-- the end comes within a frame
cut_off : (v : Incoming) → 0 < length v.waiting → frame_in v.waiting ≡ Err Short → IsAtEnd v.unread → RefusesFrame (left_in v) Short
cut_off v some short end = record { came = v.waiting; behind = v.unread; begins = all_is v.waiting v.unread; refused = short; due = inr (inr (some, refl, end)) }

-- within its head
pub first_stops : (u w : Incoming) (e : LinkError) → StopsFill 9 u e w → StopsNext u e w
first_stops u w Closed h = (ends_here w.waiting w.unread h.0 h.1, h.2)
first_stops u w (Frame fault) h = (subst (λ (f : FrameFault). RefusesFrame (left_in w) f) (sym h.0) (cut_off w h.1 (frame_few w.waiting h.2) h.3), h.4)
first_stops u w Io h = h
first_stops u w Memory h = h
first_stops u w TooLong h = h

size_after : (v w : Incoming) (size : ℕ) → size_in v.waiting ≡ Ok size → ReadsOn v w → size_in w.waiting ≡ Ok size
size_after v w size e r = ap size_in r.waiting ∙ size_more v.waiting r.more size e

-- behind its head
pub then_stops : (size : ℕ) (u v w : Incoming) (e : LinkError) → size_in v.waiting ≡ Ok size → ReadsOn v w → (u.failed ≡ false → v.failed ≡ false) → StopsFill size v e w → StopsNext u e w
then_stops size u v w Closed s r works h = (ends_here w.waiting w.unread h.0 h.1, λ fresh. h.2 (works fresh))
then_stops size u v w (Frame fault) s r works h =
    (subst (λ (f : FrameFault). RefusesFrame (left_in w) f) (sym h.0) (cut_off w h.1 (frame_cut w.waiting size (size_after v w size s r) h.2) h.3), λ fresh. h.4 (works fresh))
then_stops size u v w Io s r works h = h
then_stops size u v w Memory s r works h = λ fresh. h (works fresh)
then_stops size u v w TooLong s r works h = h

pub size_stays : (v w : Incoming) (size : ℕ) → size_in v.waiting ≡ Ok size → ReadsOn v w → size_in w.waiting ≡ Ok size
size_stays v w size e r = size_after v w size e r

-- the head is no frame's
pub head_stops : (v : Incoming) (fault : FrameFault) → 9 ≤ length v.waiting → size_in v.waiting ≡ Err fault → RefusesFrame (left_in v) fault
head_stops v fault long e = record {
  came = take 9 v.waiting;
  behind = prepend_known (drop 9 v.waiting) v.unread;
  begins = part_is 9 v.waiting v.unread;
  refused = head_refused (take 9 v.waiting) fault (size_front v.waiting long ∙ e);
  due = inl (omega (arith, length-take 9 v.waiting, long), λ is. never_short v.waiting long (e ∙ ap (λ (f : FrameFault). Err f) is));
}

-- the whole is no frame
whole_stops : (v : Incoming) (size : ℕ) (fault : FrameFault) → size_in v.waiting ≡ Ok size → size ≤ length v.waiting → frame_in (take size v.waiting) ≡ Err fault → RefusesFrame (left_in v) fault
whole_stops v size fault s fits e =
    let least : 9 ≤ size = omega (arith, (head_of v.waiting size s).least) in
    let long : length (take size v.waiting) ≡ size = omega (arith, length-take size v.waiting, fits) in
    record {
      came = take size v.waiting;
      behind = prepend_known (drop size v.waiting) v.unread;
      begins = part_is size v.waiting v.unread;
      refused = e;
      due = inr (inl (omega (arith, long, least), long ∙ (head_of (take size v.waiting) size (size_fewer size v.waiting size s least fits)).field));
    }

pub whole_answers : (u v : Incoming) (size : ℕ) (fault : FrameFault) → size_in v.waiting ≡ Ok size → size ≤ length v.waiting → Fails fault (frame_in (take size v.waiting)) → (u.failed ≡ false → v.failed ≡ false) → StopsNext u (error_of fault) v
whole_answers u v size Short s fits e works = (whole_stops v size Short s fits e, works)
whole_answers u v size Magic s fits e works = (whole_stops v size Magic s fits e, works)
whole_answers u v size Version s fits e works = (whole_stops v size Version s fits e, works)
whole_answers u v size Field s fits e works = (whole_stops v size Field s fits e, works)
whole_answers u v size Order s fits e works = (whole_stops v size Order s fits e, works)
whole_answers u v size Damaged s fits e works = (whole_stops v size Damaged s fits e, works)
whole_answers u v size Trailing s fits e works = (whole_stops v size Trailing s fits e, works)
whole_answers u v size frame.Memory s fits e works = works

-- the whole is a message's frame
pub whole_taken : (u v : Incoming) (rest : List ℕ) (unread : Option (List ℕ)) (size : ℕ) (m : Payload) → ReadsOn u v → rest ≡ drop size v.waiting → unread ≡ v.unread → PayloadInRange m → IsFrameOf (take size v.waiting) m
    → length (take size v.waiting) ≤ longest_frame → TakesFrame (left_in u) (prepend_known rest unread) m
whole_taken u v rest unread size m r e same ranges is most =
    let left : Option (List ℕ) = prepend_known rest unread in
    let here : prepend_known (drop size v.waiting) v.unread ≡ left = λ i. prepend_known (sym e i) (sym same i) in
    let part : Consumes (left_in v) left (take size v.waiting) = subst (λ (x : Option (List ℕ)). Consumes (left_in v) x (take size v.waiting)) here (part_is size v.waiting v.unread) in
    record {
      frame = take size v.waiting;
      taken = kept_then (left_in u) (left_in v) left (take size v.waiting) (reads_keep u v r) part;
      spelled = is;
      ranges = ranges;
      most = most;
    }

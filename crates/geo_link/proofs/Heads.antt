-- What the first bytes of a frame tell.
use Rattle.std.proofs.Common.{◌≡◌, ◌≢◌, ℕ, ◌<◌, ◌≤◌, Bool, true, false, cond, not, ◌||◌, eqb, ltb, List, [], ◌∷◌, ◌++◌, length, take, drop, Result, Ok, Err, IfErr, refl, sym, ap, subst, ◌∙◌, take-append-drop, arith}
use Rattle.std.specs.Prelude.{IsOk, codes}
use Rattle.std.specs.Str.{bytes_eq}
use Rattle.std.proofs.lemmas.Bool.{ltb-false, le-ltb, lt-ltb}
use Rattle.std.proofs.lemmas.List.{length-take, length-append, take-take, take-append-le}
use Rattle.geo_frame.specs.Payloads.{payload_of}
use Rattle.geo_frame.specs.declared.message.Message.{Message}
use Rattle.geo_frame.specs.declared.fault.FrameFault.{FrameFault}
use Rattle.geo_frame.specs.declared.fault.FrameFault.TheVariants.{Short, Magic, Version, Field, Order, Damaged, Trailing, Memory}
use Rattle.geo_frame.specs.Reading.{Gives, version_field, is_version, shortest_frame, length_field, size_in, fields_sized, fields_in, frame_in, first_key_in}
use Rattle.geo_frame.specs.Spelling.{longest_frame}

-- ---- the head is told by nine bytes

-- a test of the head that did not fail, and one that did
passed : {A : Type 0} (b : Bool) (f : FrameFault) (r : Result A FrameFault) (y : A) → cond b (Err f) r ≡ Ok y → (b ≡ false) × (r ≡ Ok y)
passed true f r y e = absurd cc
passed false f r y e = (refl, e)

abbrev fault_in : {A : Type 0} → Result A FrameFault → FrameFault
fault_in (Ok x) = Short
fault_in (Err f) = f

other : {A : Type 0} (b : Bool) (f g : FrameFault) (r : Result A FrameFault) → f ≢ g → cond b (Err f) r ≡ Err g → r ≡ Err g
other true f g r n e = absurd (n (ap fault_in e))
other false f g r n e = e

neither : (a b : Bool) → (a || b) ≡ false → (a ≡ false) × (b ≡ false)
neither true b h = absurd cc
neither false b h = (refl, h)

pub record HasHead (bytes : List ℕ) (size : ℕ) : Type 0 where
  pub long : 9 ≤ length bytes
  pub field : size ≡ length_field bytes
  pub least : 79 ≤ size
  pub most : size ≤ longest_frame

shortest_least : (version : ℕ) → 79 ≤ shortest_frame version
shortest_least version = by (eqb version 1)
  where
    by : (old : Bool) → 79 ≤ cond old 89 79
    by true = omega arith
    by false = omega arith

pub head_of : (bytes : List ℕ) (size : ℕ) → size_in bytes ≡ Ok size → HasHead bytes size
unfolding size_in
head_of bytes size e =
    let v = version_field bytes in
    let last : Result ℕ FrameFault = cond (ltb (length_field bytes) (shortest_frame v) || ltb longest_frame (length_field bytes)) (Err Field) (Ok (length_field bytes)) in
    let third : Result ℕ FrameFault = cond (not (is_version v)) (Err Version) last in
    let second : Result ℕ FrameFault = cond (not (bytes_eq (take 4 bytes) (codes "GCDS"))) (Err Magic) third in
    let a = passed (ltb (length bytes) 9) Short second size e in
    let b = passed (not (bytes_eq (take 4 bytes) (codes "GCDS"))) Magic third size a.1 in
    let c = passed (not (is_version v)) Version last size b.1 in
    let d = passed (ltb (length_field bytes) (shortest_frame v) || ltb longest_frame (length_field bytes)) Field (Ok (length_field bytes)) size c.1 in
    let f = neither (ltb (length_field bytes) (shortest_frame v)) (ltb longest_frame (length_field bytes)) d.0 in
    let is : length_field bytes ≡ size = let e = d.1 in cc in
    record {
      long = ltb-false _ _ a.0;
      field = sym is;
      least = subst (λ (n : ℕ). 79 ≤ n) is (omega (arith, ltb-false _ _ f.0, shortest_least v));
      most = subst (λ (n : ℕ). n ≤ longest_frame) is (ltb-false _ _ f.1);
    }

-- nine bytes are enough
pub never_short : (bytes : List ℕ) → 9 ≤ length bytes → size_in bytes ≡ Err Short → ⊥
unfolding size_in
never_short bytes long e =
    let v = version_field bytes in
    let last : Result ℕ FrameFault = cond (ltb (length_field bytes) (shortest_frame v) || ltb longest_frame (length_field bytes)) (Err Field) (Ok (length_field bytes)) in
    let third : Result ℕ FrameFault = cond (not (is_version v)) (Err Version) last in
    let second : Result ℕ FrameFault = cond (not (bytes_eq (take 4 bytes) (codes "GCDS"))) (Err Magic) third in
    let a : second ≡ Err Short = sym (ap (λ (b : Bool). cond b (Err Short) second) (le-ltb _ _ long)) ∙ e in
    let b = other (not (bytes_eq (take 4 bytes) (codes "GCDS"))) Magic Short third (λ h. cc) a in
    let c = other (not (is_version v)) Version Short last (λ h. cc) b in
    let d = other (ltb (length_field bytes) (shortest_frame v) || ltb longest_frame (length_field bytes)) Field Short (Ok (length_field bytes)) (λ h. cc) c in
    cc

few : (bytes : List ℕ) → length bytes < 9 → size_in bytes ≡ Err Short
unfolding size_in
few bytes h = let less : ltb (length bytes) 9 ≡ true = lt-ltb _ _ h in rw less refl

size_long : (front back : List ℕ) → length front ≡ 9 → size_in (front ++ back) ≡ size_in front
unfolding size_in
size_long [] back h = absurd (omega arith)
size_long (a ∷ []) back h = absurd (omega arith)
size_long (a ∷ b ∷ []) back h = absurd (omega arith)
size_long (a ∷ b ∷ c ∷ []) back h = absurd (omega arith)
size_long (a ∷ b ∷ c ∷ d ∷ []) back h = absurd (omega arith)
size_long (a ∷ b ∷ c ∷ d ∷ e ∷ []) back h = absurd (omega arith)
size_long (a ∷ b ∷ c ∷ d ∷ e ∷ f ∷ []) back h = absurd (omega arith)
size_long (a ∷ b ∷ c ∷ d ∷ e ∷ f ∷ g ∷ []) back h = absurd (omega arith)
size_long (a ∷ b ∷ c ∷ d ∷ e ∷ f ∷ g ∷ i ∷ []) back h = absurd (omega arith)
size_long (a ∷ b ∷ c ∷ d ∷ e ∷ f ∷ g ∷ i ∷ j ∷ front) back h =
    let all : List ℕ = a ∷ b ∷ c ∷ d ∷ e ∷ f ∷ g ∷ i ∷ j ∷ front in
    let long : ltb (length (all ++ back)) 9 ≡ false = le-ltb _ _ (omega (arith, h, length-append all back)) in
    let here : ltb (length all) 9 ≡ false = le-ltb _ _ (omega (arith, h)) in
    rw (long, here) refl

pub size_front : (bytes : List ℕ) → 9 ≤ length bytes → size_in (take 9 bytes) ≡ size_in bytes
size_front bytes long = sym (size_long (take 9 bytes) (drop 9 bytes) (omega (arith, length-take 9 bytes, long))) ∙ ap size_in (take-append-drop 9 bytes)

-- more bytes change nothing
pub size_more : (bytes more : List ℕ) (size : ℕ) → size_in bytes ≡ Ok size → size_in (bytes ++ more) ≡ Ok size
size_more bytes more size e =
    let long : 9 ≤ length bytes = (head_of bytes size e).long in
    sym (size_front (bytes ++ more) (omega (arith, long, length-append bytes more))) ∙ ap size_in (take-append-le 9 bytes more long) ∙ size_front bytes long ∙ e

-- nor do fewer, while there are nine
pub size_fewer : (n : ℕ) (bytes : List ℕ) (size : ℕ) → size_in bytes ≡ Ok size → 9 ≤ n → n ≤ length bytes → size_in (take n bytes) ≡ Ok size
size_fewer n bytes size e nine fits =
    let long : 9 ≤ length bytes = omega arith in
    sym (size_front (take n bytes) (omega (arith, length-take n bytes))) ∙ ap size_in (take-take 9 n bytes nine) ∙ size_front bytes long ∙ e

-- ---- frames that are cut off, or refused by their head

pub head_refused : (bytes : List ℕ) (fault : FrameFault) → size_in bytes ≡ Err fault → frame_in bytes ≡ Err fault
unfolding frame_in fields_in
head_refused bytes fault e = rw e refl

no_key : (bytes : List ℕ) (fault : FrameFault) → fields_in bytes ≡ Err fault → IsOk (first_key_in bytes) → ⊥
unfolding first_key_in
no_key bytes fault e = rw e (λ h. cc)

fields_refused : (bytes : List ℕ) (fault : FrameFault) → size_in bytes ≡ Err fault → fields_in bytes ≡ Err fault
unfolding fields_in
fields_refused bytes fault e = rw e refl

fields_cut : (bytes : List ℕ) (size : ℕ) → size_in bytes ≡ Ok size → length bytes < size → fields_in bytes ≡ Err Short
unfolding fields_in fields_sized
fields_cut bytes size e h = let less : ltb (length bytes) size ≡ true = lt-ltb _ _ h in rw (e, less) refl

frame_refused : (bytes : List ℕ) (fault : FrameFault) → fields_in bytes ≡ Err fault → frame_in bytes ≡ Err fault
unfolding frame_in
frame_refused bytes fault e = rw e refl

pub frame_cut : (bytes : List ℕ) (size : ℕ) → size_in bytes ≡ Ok size → length bytes < size → frame_in bytes ≡ Err Short
frame_cut bytes size e h = frame_refused bytes Short (fields_cut bytes size e h)

pub frame_few : (bytes : List ℕ) → length bytes < 9 → frame_in bytes ≡ Err Short
frame_few bytes h = head_refused bytes Short (few bytes h)

-- ---- the answer to nine bytes

-- what it says of the head
abbrev pub TellsHead : Result Message FrameFault → List ℕ → Type 0
TellsHead (Ok p) bytes = ⊥
TellsHead (Err Short) bytes = size_in bytes ≡ Ok (length_field bytes)
TellsHead (Err Magic) bytes = size_in bytes ≡ Err Magic
TellsHead (Err Version) bytes = size_in bytes ≡ Err Version
TellsHead (Err Field) bytes = size_in bytes ≡ Err Field
TellsHead (Err Order) bytes = size_in bytes ≡ Err Order
TellsHead (Err Damaged) bytes = size_in bytes ≡ Err Damaged
TellsHead (Err Trailing) bytes = size_in bytes ≡ Err Trailing
TellsHead (Err Memory) bytes = ⊥

-- a good head: only the bytes behind it lack
tells_good : (bytes head : List ℕ) (r : Result Message FrameFault) → size_in bytes ≡ Ok (length_field bytes) → fields_in head ≡ Err Short → frame_in head ≡ Err Short → Gives payload_of r (frame_in head)
    → IfErr r (λ e. e ≡ Memory → IsOk (first_key_in head)) → TellsHead r bytes
tells_good bytes head (Ok p) s f e g m = cc
tells_good bytes head (Err Short) s f e g m = s
tells_good bytes head (Err Magic) s f e g m = absurd cc
tells_good bytes head (Err Version) s f e g m = absurd cc
tells_good bytes head (Err Field) s f e g m = absurd cc
tells_good bytes head (Err Order) s f e g m = absurd cc
tells_good bytes head (Err Damaged) s f e g m = absurd cc
tells_good bytes head (Err Trailing) s f e g m = absurd cc
tells_good bytes head (Err Memory) s f e g m = no_key head Short f (m refl)

tells_bad : (bytes head : List ℕ) (fault : FrameFault) (r : Result Message FrameFault) → 9 ≤ length bytes → size_in bytes ≡ Err fault → fields_in head ≡ Err fault → frame_in head ≡ Err fault → Gives payload_of r (frame_in head)
    → IfErr r (λ e. e ≡ Memory → IsOk (first_key_in head)) → TellsHead r bytes
tells_bad bytes head fault (Ok p) long s f e g m = cc
tells_bad bytes head fault (Err Short) long s f e g m = absurd (never_short bytes long cc)
tells_bad bytes head fault (Err Magic) long s f e g m = cc
tells_bad bytes head fault (Err Version) long s f e g m = cc
tells_bad bytes head fault (Err Field) long s f e g m = cc
tells_bad bytes head fault (Err Order) long s f e g m = cc
tells_bad bytes head fault (Err Damaged) long s f e g m = cc
tells_bad bytes head fault (Err Trailing) long s f e g m = cc
tells_bad bytes head fault (Err Memory) long s f e g m = no_key head fault f (m refl)

tells_by : (bytes : List ℕ) (s : Result ℕ FrameFault) (r : Result Message FrameFault) → 9 ≤ length bytes → size_in bytes ≡ s → Gives payload_of r (frame_in (take 9 bytes))
    → IfErr r (λ e. e ≡ Memory → IsOk (first_key_in (take 9 bytes))) → TellsHead r bytes
tells_by bytes (Ok size) r long s g m =
    let head = head_of bytes size s in
    let first : size_in (take 9 bytes) ≡ Ok size = size_front bytes long ∙ s in
    let less : length (take 9 bytes) < size = omega (arith, length-take 9 bytes, head.least) in
    let cut : fields_in (take 9 bytes) ≡ Err Short = fields_cut (take 9 bytes) size first less in
    tells_good bytes (take 9 bytes) r (s ∙ ap (λ (n : ℕ). Ok n) head.field) cut (frame_refused _ _ cut) g m
tells_by bytes (Err fault) r long s g m =
    let refused : fields_in (take 9 bytes) ≡ Err fault = fields_refused (take 9 bytes) fault (size_front bytes long ∙ s) in
    tells_bad bytes (take 9 bytes) fault r long s refused (frame_refused _ _ refused) g m

pub tells_head : (bytes : List ℕ) (r : Result Message FrameFault) → 9 ≤ length bytes → Gives payload_of r (frame_in (take 9 bytes)) → IfErr r (λ e. e ≡ Memory → IsOk (first_key_in (take 9 bytes))) → TellsHead r bytes
tells_head bytes r long g m = tells_by bytes (size_in bytes) r long refl g m

pub tells_fault : (bytes : List ℕ) (fault : FrameFault) → fault ≢ Short → TellsHead (Err fault) bytes → size_in bytes ≡ Err fault
tells_fault bytes Short n h = absurd (n refl)
tells_fault bytes Magic n h = h
tells_fault bytes Version n h = h
tells_fault bytes Field n h = h
tells_fault bytes Order n h = h
tells_fault bytes Damaged n h = h
tells_fault bytes Trailing n h = h
tells_fault bytes Memory n h = absurd h

pub tells_front : (bytes front : List ℕ) (r : Result Message FrameFault) → front ≡ take 9 bytes → 9 ≤ length bytes → Gives payload_of r (frame_in front) → IfErr r (λ e. e ≡ Memory → IsOk (first_key_in front)) → TellsHead r bytes
tells_front bytes front r is long g m = tells_head bytes r long (subst (λ (x : List ℕ). Gives payload_of r (frame_in x)) is g) (subst (λ (x : List ℕ). IfErr r (λ e. e ≡ Memory → IsOk (first_key_in x))) is m)

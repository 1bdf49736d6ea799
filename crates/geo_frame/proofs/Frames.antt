-- A frame that is read is a frame of what it gives, and each frame of a message is read again.
use Rattle.std.proofs.Common.{◌≡◌, ℕ, zero, suc, ◌+◌, ◌-◌, ◌^◌, ◌<◌, ◌≤◌, Bool, true, false, cond, not, ◌||◌, eqb, ltb, List, [], ◌∷◌, ◌++◌, length, get_or, take, drop, Result, Ok, Err, refl, sym, ap, subst, ◌∙◌, append_assoc, arith, inl, inr}
use Rattle.std.specs.Prelude.{IfOk, codes}
use Rattle.std.specs.Int.{w32, from_be_bytes}
use Rattle.std.specs.Str.{bytes_eq}
use Rattle.std.proofs.lemmas.Bool.{ltb-false, le-ltb}
use Rattle.std.proofs.lemmas.List.{append-nil, nil_from_length, take_at, drop_at, take-append-drop, length-append, length-take, length-drop}
use Rattle.std.proofs.lemmas.Slice.Eq.{bytes_eq-Decides}
use Rattle.sha2.specs.Sha256.{sha256}
use Rattle.sha2.proofs.Facts256.{length-sha256}
use Rattle.geo_delta.specs.declared.parcel.Parcel.{Parcel}
use Rattle.geo_delta.specs.Ranges.{InRange}
use Rattle.geo_stamp.specs.Retired.{no_sites}
use Rattle.geo_frame.specs.declared.fault.FrameFault.{FrameFault}
use Rattle.geo_frame.specs.declared.fault.FrameFault.TheVariants.{Short, Magic, Version, Field, Damaged, Trailing, Memory}
use Rattle.geo_frame.specs.declared.message.Message.{Message}
use Rattle.geo_frame.specs.Payloads.{Wanted, WantedInRange, Payload, PayloadInRange, payload_of}
use Rattle.geo_frame.specs.Payloads.Payload.{Tells, Asks, Offers}
use Rattle.geo_frame.specs.Spelling.{four, parcel_bytes, fields_of, head_bytes, content_of, framed, frame_of, old_frame_of, IsFrameOf, longest_frame}
use Rattle.geo_frame.specs.Reading.{◌>>=◌, Gives, payload_in, version_field, is_version, shortest_frame, length_field, size_in, fields_sized, fields_in, frame_in}
use Rattle.geo_frame.proofs.Memory.{Clean, clean_cond, clean_then, field}
use Rattle.geo_frame.proofs.Lengths.{four_length, records_few, head_length, framed_length, frame_size, frame_length, old_frame_length, ask_frame_length, offer_frame_length}
use Rattle.geo_frame.proofs.Within.{sites_least, key_least}
use Rattle.geo_frame.proofs.Fields.{IsBytes, IsBytes-drop, IsBytes-take, bind_ok, pass_ok, ok_is, four_is, four_back}
use Rattle.geo_frame.proofs.Messages.{Few, payload_takes, fields_again, old_again}
use Rattle.geo_frame.proofs.Messages.Gave.{Old, New}

-- ---- heads

-- a test of the head that did not fail
passed : {A : Type 0} (b : Bool) (f : FrameFault) (r : Result A FrameFault) (y : A) → cond b (Err f) r ≡ Ok y → (b ≡ false) × (r ≡ Ok y)
passed true f r y e = absurd cc
passed false f r y e = (refl, e)

not_false : (b : Bool) → not b ≡ false → b ≡ true
not_false true h = refl
not_false false h = absurd cc

neither : (a b : Bool) → (a || b) ≡ false → (a ≡ false) × (b ≡ false)
neither true b h = absurd cc
neither false b h = (refl, h)

record IsHead (bytes : List ℕ) (size : ℕ) : Type 0 where
  long : 9 ≤ length bytes
  magic : take 4 bytes ≡ codes "GCDS"
  version : is_version (version_field bytes) ≡ true
  field : size ≡ length_field bytes
  least : 79 ≤ size
  most : size ≤ longest_frame

shortest_least : (version : ℕ) → 79 ≤ shortest_frame version
shortest_least version = by (eqb version 1)
  where
    by : (old : Bool) → 79 ≤ cond old 89 79
    by true = omega arith
    by false = omega arith

size_takes : (bytes : List ℕ) (size : ℕ) → size_in bytes ≡ Ok size → IsHead bytes size
unfolding size_in
size_takes bytes size e =
    let v = version_field bytes in
    let last : Result ℕ FrameFault = cond (ltb (length_field bytes) (shortest_frame v) || ltb longest_frame (length_field bytes)) (Err Field) (Ok (length_field bytes)) in
    let third : Result ℕ FrameFault = cond (not (is_version v)) (Err Version) last in
    let second : Result ℕ FrameFault = cond (not (bytes_eq (take 4 bytes) (codes "GCDS"))) (Err Magic) third in
    let a = passed (ltb (length bytes) 9) Short second size e in
    let b = passed (not (bytes_eq (take 4 bytes) (codes "GCDS"))) Magic third size a.1 in
    let c = passed (not (is_version v)) Version last size b.1 in
    let d = passed (ltb (length_field bytes) (shortest_frame v) || ltb longest_frame (length_field bytes)) Field (Ok (length_field bytes)) size c.1 in
    let f = neither (ltb (length_field bytes) (shortest_frame v)) (ltb longest_frame (length_field bytes)) d.0 in
    let is : length_field bytes ≡ size = ok_is (length_field bytes) size d.1 in
    record {
      long = ltb-false _ _ a.0;
      magic = (bytes_eq-Decides (take 4 bytes) (codes "GCDS")).0 (not_false _ b.0);
      version = not_false _ c.0;
      field = sym is;
      least = subst (λ (n : ℕ). 79 ≤ n) is (omega (arith, ltb-false _ _ f.0, shortest_least v));
      most = subst (λ (n : ℕ). n ≤ longest_frame) is (ltb-false _ _ f.1);
    }

nine : (bytes : List ℕ) → 9 ≤ length bytes → take 9 bytes ≡ take 4 bytes ++ get_or bytes 4 0 ∷ take 4 (drop 5 bytes)
nine [] h = absurd (omega arith)
nine (a ∷ []) h = absurd (omega arith)
nine (a ∷ b ∷ []) h = absurd (omega arith)
nine (a ∷ b ∷ c ∷ []) h = absurd (omega arith)
nine (a ∷ b ∷ c ∷ d ∷ []) h = absurd (omega arith)
nine (a ∷ b ∷ c ∷ d ∷ e ∷ []) h = absurd (omega arith)
nine (a ∷ b ∷ c ∷ d ∷ e ∷ f ∷ []) h = absurd (omega arith)
nine (a ∷ b ∷ c ∷ d ∷ e ∷ f ∷ g ∷ []) h = absurd (omega arith)
nine (a ∷ b ∷ c ∷ d ∷ e ∷ f ∷ g ∷ i ∷ []) h = absurd (omega arith)
nine (a ∷ b ∷ c ∷ d ∷ e ∷ f ∷ g ∷ i ∷ j ∷ bytes) h = refl

head_is : (bytes : List ℕ) (size : ℕ) → IsBytes bytes → IsHead bytes size → take 9 bytes ≡ head_bytes (version_field bytes) size
unfolding head_bytes
head_is bytes size fits h =
    let four-is : four size ≡ take 4 (drop 5 bytes) = ap four h.field ∙ four_is (take 4 (drop 5 bytes)) (omega (arith, length-take 4 (drop 5 bytes), length-drop 5 bytes, h.long)) (IsBytes-take 4 (drop 5 bytes) (IsBytes-drop 5 bytes fits)) in
    nine bytes h.long ∙ (λ i. h.magic i ++ version_field bytes ∷ sym four-is i)

-- ---- frames

record IsFramed (bytes fields : List ℕ) : Type 0 where
  whole : bytes ≡ framed (version_field bytes) fields
  version : is_version (version_field bytes) ≡ true
  most : length bytes ≤ longest_frame
  fits : IsBytes fields

fields_take : (bytes fields : List ℕ) → IsBytes bytes → fields_in bytes ≡ Ok fields → IsFramed bytes fields
unfolding fields_in fields_sized framed content_of
fields_take bytes fields fits e =
    let a = bind_ok (size_in bytes) (λ size. fields_sized bytes size) fields e in
    let size = a.0 in
    let h = size_takes bytes size a.1 in
    let content : List ℕ = take (size - 32) bytes in
    let digest : List ℕ = drop (size - 32) bytes in
    let last : Result (List ℕ) FrameFault = cond (bytes_eq (sha256 content) digest) (Ok (drop 9 content)) (Err Damaged) in
    let b = passed (ltb (length bytes) size) Short (cond (ltb size (length bytes)) (Err Trailing) last) fields a.2 in
    let c = passed (ltb size (length bytes)) Trailing last fields b.1 in
    let d = pass_ok (bytes_eq (sha256 content) digest) Damaged (drop 9 content) fields c.1 in
    let low : size ≤ length bytes = ltb-false _ _ b.0 in
    let high : length bytes ≤ size = ltb-false _ _ c.0 in
    let content-length : length content ≡ size - 32 = omega (arith, length-take (size - 32) bytes, low, h.least) in
    let rest-length : 41 + length fields ≡ size = omega (arith, ap length (sym d.1), length-drop 9 content, content-length, h.least) in
    let front : take 9 content ≡ take 9 bytes = take_of_take 9 (size - 32) bytes (omega (arith, h.least)) in
    let v = version_field bytes in
    let is : content ≡ head_bytes v (41 + length fields) ++ fields = sym (take-append-drop 9 content) ∙ (λ i. (front ∙ head_is bytes size fits h ∙ ap (head_bytes v) (sym rest-length)) i ++ d.1 i) in
    record {
      whole = sym (take-append-drop (size - 32) bytes) ∙ ap (λ (x : List ℕ). content ++ x) (sym ((bytes_eq-Decides (sha256 content) digest).0 d.0)) ∙ ap (λ (x : List ℕ). x ++ sha256 x) is;
      version = h.version;
      most = omega (arith, high, h.most);
      fits = subst IsBytes d.1 (IsBytes-drop 9 content (IsBytes-take (size - 32) bytes fits));
    }
  where
    take_of_take : (m n : ℕ) (xs : List ℕ) → m ≤ n → take m (take n xs) ≡ take m xs
    take_of_take zero n xs h = refl
    take_of_take (suc m) zero xs h = absurd (omega arith)
    take_of_take (suc m) (suc n) [] h = refl
    take_of_take (suc m) (suc n) (x ∷ xs) h = ap (λ (ys : List ℕ). x ∷ ys) (take_of_take m n xs (omega arith))

is_new : (m : Payload) (bytes : List ℕ) → bytes ≡ frame_of m → IsFrameOf bytes m
is_new (Tells p) bytes e = inl e
is_new (Asks w) bytes e = e
is_new (Offers w b) bytes e = e

two_is : (version : ℕ) → is_version version ≡ true → (version ≡ 1 → ⊥) → version ≡ 2
two_is version h n = grind arith

pub frame_takes : (bytes : List ℕ) (m : Payload) → IsBytes bytes → frame_in bytes ≡ Ok m → PayloadInRange m × IsFrameOf bytes m × (length bytes ≤ longest_frame)
unfolding frame_in frame_of old_frame_of
frame_takes bytes m fits e =
    let a = bind_ok (fields_in bytes) (λ fields. payload_in (version_field bytes) fields) m e in
    let f = fields_take bytes a.0 fits a.1 in
    elim (payload_takes (version_field bytes) a.0 m f.fits a.2) [
      | Old old told ↦
          let is : bytes ≡ old_frame_of told.parcel = f.whole ∙ (λ i. framed (old i) (told.spelled i)) in
          subst (λ (m : Payload). PayloadInRange m × IsFrameOf bytes m × (length bytes ≤ longest_frame)) (sym told.told) (told.ranges, inr (is, told.none refl), f.most)
      | New new ranges spelled ↦ (ranges, is_new m bytes (f.whole ∙ (λ i. framed (two_is (version_field bytes) f.version new i) (spelled i))), f.most)
    ]

field_again : (version size : ℕ) (rest : List ℕ) → size ≤ longest_frame → length_field (head_bytes version size ++ rest) ≡ size
unfolding head_bytes
field_again version size rest most = ap (from_be_bytes w32) (take_at (four size) rest 4 (four_length size)) ∙ four_back size (omega (arith, most))

head_again : (version size : ℕ) (rest : List ℕ) → is_version version ≡ true → shortest_frame version ≤ size → size ≤ longest_frame → size_in (head_bytes version size ++ rest) ≡ Ok size
unfolding head_bytes size_in
head_again version size rest known least most =
    let long : ltb (length (head_bytes version size ++ rest)) 9 ≡ false = le-ltb _ _ (omega (arith, length-append (four size) rest, four_length size)) in
    let field : from_be_bytes w32 (take 4 (four size ++ rest)) ≡ size = field_again version size rest most in
    let low : ltb size (shortest_frame version) ≡ false = le-ltb _ _ least in
    let high : ltb longest_frame size ≡ false = le-ltb _ _ most in
    rw (long, known, field, low, high) refl

sized_again : (content digest : List ℕ) (size : ℕ) → size ≡ length content + 32 → digest ≡ sha256 content → fields_sized (content ++ digest) size ≡ Ok (drop 9 content)
unfolding fields_sized
sized_again content digest size n e =
    let length-digest : length digest ≡ 32 = ap length e ∙ length-sha256 content in
    let whole : length (content ++ digest) ≡ size = omega (arith, length-append content digest, length-digest, n) in
    let low : ltb (length (content ++ digest)) size ≡ false = le-ltb _ _ (omega (arith, whole)) in
    let high : ltb size (length (content ++ digest)) ≡ false = le-ltb _ _ (omega (arith, whole)) in
    let k : length content ≡ size - 32 = omega (arith, n) in
    let same : bytes_eq (sha256 content) digest ≡ true = (bytes_eq-Decides (sha256 content) digest).1 (sym e) in
    rw (low, high, take_at content digest (size - 32) k, drop_at content digest (size - 32) k, same) refl

framed_again : (version : ℕ) (fields : List ℕ) → is_version version ≡ true → shortest_frame version ≤ 41 + length fields → 41 + length fields ≤ longest_frame → fields_in (framed version fields) ≡ Ok fields
unfolding fields_in framed content_of
framed_again version fields known least most =
    let size : ℕ = 41 + length fields in
    let head : List ℕ = head_bytes version size in
    let content : List ℕ = head ++ fields in
    let one : size_in (content ++ sha256 content) ≡ Ok size = ap size_in (append_assoc head fields (sha256 content)) ∙ head_again version size (fields ++ sha256 content) known least most in
    let n : size ≡ length content + 32 = omega (arith, length-append head fields, head_length version size) in
    let two : fields_sized (content ++ sha256 content) size ≡ Ok fields = sized_again content (sha256 content) size n refl ∙ ap (λ (x : List ℕ). Ok x) (drop_at head fields 9 (head_length version size)) in
    ap (λ (r : Result ℕ FrameFault). r >>= λ size. fields_sized (content ++ sha256 content) size) one ∙ two

version_framed : (version : ℕ) (fields : List ℕ) → version_field (framed version fields) ≡ version
unfolding framed content_of head_bytes
version_framed version fields = refl

message_again : (version : ℕ) (fields : List ℕ) (m : Payload) → is_version version ≡ true → shortest_frame version ≤ 41 + length fields → 41 + length fields ≤ longest_frame → payload_in version fields ≡ Ok m → frame_in (framed version fields) ≡ Ok m
unfolding frame_in
message_again version fields m known least most e =
    let one : fields_in (framed version fields) ≡ Ok fields = framed_again version fields known least most in
    ap (λ (r : Result (List ℕ) FrameFault). r >>= λ x. payload_in (version_field (framed version fields)) x) one ∙ ap (λ (v : ℕ). payload_in v fields) (version_framed version fields) ∙ e

pub few_told : (p : Parcel) → length (frame_of (Tells p)) ≤ longest_frame → length p.records < 2 ^ 32
few_told p most = omega (arith, frame_length p, records_few p.records, most)

few_in : (m : Payload) → length (frame_of m) ≤ longest_frame → Few m
few_in (Tells p) most = few_told p most
few_in (Asks w) most = tt
few_in (Offers w b) most = tt

two_sites : (p : Parcel) → InRange p → 4 ≤ length p.base + length p.upto
two_sites p h = omega (arith, sites_least p.from p.to (length p.base) h.sites, h.vectors)

some_key : (w : Wanted) → WantedInRange w → 79 ≤ 46 + length w.key + length w.digest
some_key w h = omega (arith, h.digest, key_least w.key h.key)

least_of : (m : Payload) → PayloadInRange m → 79 ≤ length (frame_of m)
least_of (Tells p) h = omega (arith, frame_length p, two_sites p h)
least_of (Asks w) h = omega (arith, ask_frame_length w, some_key w h)
least_of (Offers w b) h = omega (arith, offer_frame_length w b, some_key w h.0)

new_again : (m : Payload) → PayloadInRange m → length (frame_of m) ≤ longest_frame → frame_in (frame_of m) ≡ Ok m
unfolding frame_of
new_again m h most =
    let size = frame_size m in
    message_again 2 (fields_of m) m refl (omega (arith, least_of m h, size)) (omega (arith, most, size)) (fields_again m h (few_in m most))

told_before : (p : Parcel) → InRange p → p.retired ≡ no_sites → length (old_frame_of p) ≤ longest_frame → frame_in (old_frame_of p) ≡ Ok (Tells p)
unfolding old_frame_of
told_before p h none most =
    let n = old_frame_length p in
    let size = framed_length 1 (parcel_bytes 1 p) in
    message_again 1 (parcel_bytes 1 p) (Tells p) refl (omega (arith, n, size, two_sites p h)) (omega (arith, size, most)) (old_again p h none (omega (arith, n, records_few p.records, most)))

pub frame_again : (m : Payload) (frame : List ℕ) → PayloadInRange m → IsFrameOf frame m → length frame ≤ longest_frame → frame_in frame ≡ Ok m
frame_again (Tells p) frame h (inl e) most = ap frame_in e ∙ new_again (Tells p) h (subst (λ (x : List ℕ). length x ≤ longest_frame) e most)
frame_again (Tells p) frame h (inr e) most = ap frame_in e.0 ∙ told_before p h e.1 (subst (λ (x : List ℕ). length x ≤ longest_frame) e.0 most)
frame_again (Asks w) frame h e most = ap frame_in e ∙ new_again (Asks w) h (subst (λ (x : List ℕ). length x ≤ longest_frame) e most)
frame_again (Offers w b) frame h e most = ap frame_in e ∙ new_again (Offers w b) h (subst (λ (x : List ℕ). length x ≤ longest_frame) e most)

-- ---- laws

pub one_message : (m n : Payload) (frame : List ℕ) → PayloadInRange m → PayloadInRange n → length frame ≤ longest_frame → IsFrameOf frame m → IsFrameOf frame n → m ≡ n
one_message m n frame h k most e f = ok_is m n (sym (frame_again m frame h e most) ∙ frame_again n frame k f most)

-- the length field of a frame, whatever follows
field_of_framed : (version : ℕ) (fields more : List ℕ) → length (framed version fields) ≤ longest_frame → length_field (framed version fields ++ more) ≡ length (framed version fields)
unfolding framed content_of
field_of_framed version fields more most =
    let size : ℕ = 41 + length fields in
    let head : List ℕ = head_bytes version size in
    let digest : List ℕ = sha256 (head ++ fields) in
    let whole = framed_length version fields in
    let parts : head ++ fields ++ digest ++ more ≡ head ++ (fields ++ (digest ++ more)) = append_assoc (head ++ fields) digest more ∙ append_assoc head fields (digest ++ more) in
    ap length_field parts ∙ field_again version size (fields ++ (digest ++ more)) (omega (arith, whole, most)) ∙ sym whole

field_of_new : (m : Payload) (frame more : List ℕ) → frame ≡ frame_of m → length frame ≤ longest_frame → length_field (frame ++ more) ≡ length frame
unfolding frame_of
field_of_new m frame more e most =
    subst (λ (x : List ℕ). length_field (x ++ more) ≡ length x) (sym e) (field_of_framed 2 (fields_of m) more (subst (λ (x : List ℕ). length x ≤ longest_frame) e most))

field_of_old : (p : Parcel) (frame more : List ℕ) → frame ≡ old_frame_of p → length frame ≤ longest_frame → length_field (frame ++ more) ≡ length frame
unfolding old_frame_of
field_of_old p frame more e most =
    subst (λ (x : List ℕ). length_field (x ++ more) ≡ length x) (sym e) (field_of_framed 1 (parcel_bytes 1 p) more (subst (λ (x : List ℕ). length x ≤ longest_frame) e most))

field_of_frame : (m : Payload) (frame more : List ℕ) → IsFrameOf frame m → length frame ≤ longest_frame → length_field (frame ++ more) ≡ length frame
field_of_frame (Tells p) frame more (inl e) most = field_of_new (Tells p) frame more e most
field_of_frame (Tells p) frame more (inr e) most = field_of_old p frame more e.0 most
field_of_frame (Asks w) frame more e most = field_of_new (Asks w) frame more e most
field_of_frame (Offers w b) frame more e most = field_of_new (Offers w b) frame more e most

field_of_front : (front back : List ℕ) → 9 ≤ length front → length_field front ≡ length_field (front ++ back)
field_of_front [] back h = absurd (omega arith)
field_of_front (a ∷ []) back h = absurd (omega arith)
field_of_front (a ∷ b ∷ []) back h = absurd (omega arith)
field_of_front (a ∷ b ∷ c ∷ []) back h = absurd (omega arith)
field_of_front (a ∷ b ∷ c ∷ d ∷ []) back h = absurd (omega arith)
field_of_front (a ∷ b ∷ c ∷ d ∷ e ∷ []) back h = absurd (omega arith)
field_of_front (a ∷ b ∷ c ∷ d ∷ e ∷ f ∷ []) back h = absurd (omega arith)
field_of_front (a ∷ b ∷ c ∷ d ∷ e ∷ f ∷ g ∷ []) back h = absurd (omega arith)
field_of_front (a ∷ b ∷ c ∷ d ∷ e ∷ f ∷ g ∷ i ∷ []) back h = absurd (omega arith)
field_of_front (a ∷ b ∷ c ∷ d ∷ e ∷ f ∷ g ∷ i ∷ j ∷ front) back h = refl

pub told_early : (m : Payload) (frame front back more : List ℕ) → IsFrameOf frame m → length frame ≤ longest_frame → 9 ≤ length front → front ++ back ≡ frame ++ more → length_field front ≡ length frame
told_early m frame front back more is most long e = field_of_front front back long ∙ ap length_field e ∙ field_of_frame m frame more is most

pub none_begins : (m n : Payload) (one other more : List ℕ) → IsFrameOf one m → IsFrameOf other n → length one ≤ longest_frame → length other ≤ longest_frame → one ++ more ≡ other → more ≡ []
none_begins m n one other more p q pm qm e =
    let same : length one ≡ length other = sym (field_of_frame m one more p pm) ∙ ap length_field (e ∙ sym (append-nil other)) ∙ field_of_frame n other [] q qm in
    nil_from_length more (omega (arith, same, ap length (sym e), length-append one more))

-- ---- memory is no fault of the bytes

short : Short ≡ Memory → ⊥
short h = absurd cc

magic : Magic ≡ Memory → ⊥
magic h = absurd cc

version : Version ≡ Memory → ⊥
version h = absurd cc

trailing : Trailing ≡ Memory → ⊥
trailing h = absurd cc

damaged : Damaged ≡ Memory → ⊥
damaged h = absurd cc

clean_size : (bytes : List ℕ) → Clean (size_in bytes)
unfolding size_in
clean_size bytes = clean_cond (ltb (length bytes) 9) _ _ short (clean_cond (not (bytes_eq (take 4 bytes) (codes "GCDS"))) _ _ magic (clean_cond (not (is_version (version_field bytes))) _ _ version (clean_cond (ltb (length_field bytes) (shortest_frame (version_field bytes)) || ltb longest_frame (length_field bytes)) (Err Field) (Ok (length_field bytes)) field tt)))

clean_sized : (bytes : List ℕ) (size : ℕ) → Clean (fields_sized bytes size)
unfolding fields_sized
clean_sized bytes size = clean_cond (ltb (length bytes) size) _ _ short (clean_cond (ltb size (length bytes)) _ _ trailing (clean_cond (bytes_eq (sha256 (take (size - 32) bytes)) (drop (size - 32) bytes)) (Ok (drop 9 (take (size - 32) bytes))) (Err Damaged) tt damaged))

clean_fields : (bytes : List ℕ) → Clean (fields_in bytes)
unfolding fields_in
clean_fields bytes = clean_then (size_in bytes) (λ size. fields_sized bytes size) (clean_size bytes) (λ size. clean_sized bytes size)

pub no_memory : (bytes : List ℕ) (e : FrameFault) → fields_in bytes ≡ Err e → e ≡ Memory → ⊥
no_memory bytes e h = subst (λ (r : Result (List ℕ) FrameFault). Clean r) h (clean_fields bytes)

pub is_found : (bytes : List ℕ) (r : Result Message FrameFault) → IsBytes bytes → Gives payload_of r (frame_in bytes)
    → IfOk r (λ m. PayloadInRange (payload_of m) × IsFrameOf bytes (payload_of m) × (length bytes ≤ longest_frame))
is_found bytes (Ok m) fits given = frame_takes bytes (payload_of m) fits given
is_found bytes (Err e) fits given = tt

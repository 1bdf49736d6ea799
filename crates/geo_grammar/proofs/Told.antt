-- A reply that shows values, told piece by piece: there is always something of it to be told.
use Rattle.std.proofs.Common.{◌≡◌, ◌≢◌, ℕ, ◌+◌, ◌<◌, ◌≤◌, true, List, [], ◌∷◌, ◌++◌, length, ltb, get_or, take, drop, codes, Option, None, Some, refl, sym, ap, ◌∙◌, arith, append_assoc, length-append}
use Rattle.std.specs.List.{flat_map}
use Rattle.std.proofs.lemmas.Bool.{ltb-true}
use Rattle.std.proofs.lemmas.List.{drop-drop, drop_more, take-append-drop}
use Rattle.geo_grammar.specs.Replies.{found_bytes, reply_bytes}
use Rattle.geo_grammar.specs.Tellings.{IsBegun, bytes_left, text_left, value_left}
use Rattle.geo_requests.specs.declared.reply.Found.{Found}
use Rattle.geo_requests.specs.declared.reply.Reply.TheVariants.{Values}

pub some_to_tell : (found : List Found) → reply_bytes (Values found) ≢ []
some_to_tell found h =
    let none = ap (λ (x : List ℕ). length x) h in
    let sum = length-append (flat_map found_bytes found) (codes "END\r\n") in
    absurd (omega (arith, none, sum))

-- something is left, however far it is told
pub some_left : (found : List Found) (part : Option ℕ) → IsBegun found part → text_left found part ≢ []
some_left found None begun = some_to_tell found
some_left [] (Some told) begun = absurd begun
some_left (first ∷ more) (Some told) begun = λ h.
    let none = ap (λ (x : List ℕ). length x) h in
    let sum = length-append (bytes_left first.bytes told) (reply_bytes (Values more)) in
    let rest = length-append (flat_map found_bytes more) (codes "END\r\n") in
    absurd (omega (arith, none, sum, rest))

-- what is left of the first value, and then the others
left_first : (first : Found) (more : List Found) (part : Option ℕ) → text_left (first ∷ more) part ≡ value_left first part ++ reply_bytes (Values more)
left_first first more None = append_assoc (found_bytes first) (flat_map found_bytes more) (codes "END\r\n")
left_first first more (Some told) = refl

module _ (found more : List Found) (first : Found) (part : Option ℕ) (old new : List ℕ) (is : found ≡ first ∷ more) where
  behind_old : (old ++ value_left first part) ++ reply_bytes (Values more) ≡ old ++ text_left found part
  behind_old = append_assoc old (value_left first part) (reply_bytes (Values more)) ∙ ap (λ (x : List ℕ). old ++ x) (sym (left_first first more part) ∙ ap (λ (v : List Found). text_left v part) (sym is))

  -- the first value is told
  pub value_told : new ≡ old ++ value_left first part → new ++ text_left more None ≡ old ++ text_left found part
  value_told h = ap (λ (x : List ℕ). x ++ reply_bytes (Values more)) h ∙ behind_old

  -- a piece of it is
  pub part_told : (told : ℕ) → new ++ value_left first (Some told) ≡ old ++ value_left first part → new ++ text_left found (Some told) ≡ old ++ text_left found part
  part_told told h =
      ap (λ (v : List Found). new ++ text_left v (Some told)) is ∙ sym (append_assoc new (value_left first (Some told)) (reply_bytes (Values more))) ∙ ap (λ (x : List ℕ). x ++ reply_bytes (Values more)) h ∙ behind_old

  pub part_begun : (told : ℕ) → told ≤ length first.bytes → IsBegun found (Some told)
  part_begun told within = rw is within

-- more bytes of a value are told
pub bytes_told : (bytes : List ℕ) (told count : ℕ) (old new piece left : List ℕ) → left ≡ drop told bytes → piece ≡ take count left → new ≡ old ++ piece → new ++ bytes_left bytes (told + count) ≡ old ++ bytes_left bytes told
bytes_told bytes told count old new piece left behind front text =
    let rest : drop (told + count) bytes ≡ drop count left = sym (drop-drop count told bytes) ∙ ap (drop count) (sym behind) in
    let whole : piece ++ drop (told + count) bytes ≡ drop told bytes = ap (λ (x : List ℕ). x ++ drop (told + count) bytes) front ∙ ap (λ (x : List ℕ). take count left ++ x) rest ∙ take-append-drop count left ∙ behind in
    ap (λ (x : List ℕ). x ++ bytes_left bytes (told + count)) text ∙ append_assoc old piece (bytes_left bytes (told + count))
    ∙ ap (λ (x : List ℕ). old ++ x) (sym (append_assoc piece (drop (told + count) bytes) (codes "\r\n")) ∙ ap (λ (x : List ℕ). x ++ codes "\r\n") whole)

-- the first of those that aren't told
pub first_left : (found : List Found) (told : ℕ) (first : Found) → true ≡ ltb told (length found) → first ≡ get_or found told first → drop told found ≡ first ∷ drop (told + 1) found
first_left found told first there is = drop_more found told first (ltb-true told (length found) (sym there)) ∙ ap (λ (x : Found). x ∷ drop (told + 1) found) (sym is)

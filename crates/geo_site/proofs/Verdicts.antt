-- What plain memcached decides of one key shows no values, is no refusal of a site, and writes no more than a value may have.
use Rattle.std.proofs.Common.{◌≡◌, ℕ, ℤ, ◌≤◌, ◌<◌, Bool, true, false, cond, ◌&&◌, nat_lt, nat_le, List, [], ◌∷◌, length, Option, None, Some, refl, subst, arith}
use Rattle.std.specs.Prelude.{decimal}
use Rattle.std.specs.Str.{all_ascii_digits}
use Rattle.std.specs.Str.Parse.{digits_value_after}
use Rattle.std.proofs.lemmas.Bool.Decides.{nat_tests}
use Rattle.std.proofs.lemmas.Fmt.{length-decimal-le}
use Rattle.geo_requests.specs.Limits.{longest_value, most_number}
use Rattle.geo_requests.specs.Numbers.{number_of}
use Rattle.geo_requests.specs.declared.request.Verb.{Verb}
use Rattle.geo_requests.specs.declared.request.Verb.TheVariants.{Set, Add, Replace, Append, Prepend, Cas}
use Rattle.geo_requests.specs.declared.reply.Reply.TheVariants.{Stored, TooLarge}
use Rattle.geo_memcache.specs.Entries.{Entry, expiry_at}
use Rattle.geo_memcache.specs.Decisions.{Verdict, unless_long, keeps, makes, is_seen, stores, deletes, touches, number_in, counted, counts_from, counts}
use Rattle.geo_memcache.specs.declared.decision.Effect.TheVariants.{Nothing, Keep, Made, Renew, Tomb}
use Rattle.geo_memcache.specs.declared.decision.Effect.{Effect}
use Rattle.geo_site.specs.Entries.{is_done, values_in}
use Rattle.geo_site.specs.Changes.{IsShort}

some_same : {A : Type 0} {x y : A} → Some x ≡ Some y → x ≡ y
some_same h = cc

pub none_some : {A : Type 0} {x : A} → None ≡ Some x → ⊥
none_some h = cc

pub record Plain (v : Verdict) (bytes : List ℕ) : Type 0 where
  pub silent : values_in v.0 ≡ []
  pub done : is_done v.0 ≡ true
  pub short : IsShort v.1 bytes

unless_long_plain : (made bytes : List ℕ) (v : Verdict) → (length made ≤ longest_value → Plain v bytes) → Plain (unless_long made v) bytes
unless_long_plain made bytes v h = by (nat_lt longest_value (length made)) refl
  where
    by : (t : Bool) → nat_lt longest_value (length made) ≡ t → Plain (cond {A = Verdict} t (TooLarge, Nothing) v) bytes
    by true e = record { silent = refl; done = refl; short = tt }
    by false e = h (grind (arith, nat_tests))

keeps_plain : (flags : ℕ) (exptime : ℤ) (bytes : List ℕ) (now : ℕ) → Plain (keeps flags exptime bytes now) bytes
keeps_plain flags exptime bytes now = unless_long_plain bytes bytes (Stored, Keep flags (expiry_at exptime now)) (λ le. record { silent = refl; done = refl; short = le })

makes_plain : (e : Entry) (made bytes : List ℕ) → Plain (makes Stored e made) bytes
makes_plain e made bytes = unless_long_plain made bytes (Stored, Made made e.flags e.expiry) (λ le. record { silent = refl; done = refl; short = le })

pub stores_plain : (verb : Verb) (flags : ℕ) (exptime : ℤ) (seen : Option ℕ) (bytes : List ℕ) (now : ℕ) (present : Option Entry) → Plain (stores verb flags exptime seen bytes now present) bytes
stores_plain Set flags exptime seen bytes now present = keeps_plain flags exptime bytes now
stores_plain Add flags exptime seen bytes now None = keeps_plain flags exptime bytes now
stores_plain Add flags exptime seen bytes now (Some e) = record { silent = refl; done = refl; short = tt }
stores_plain Replace flags exptime seen bytes now None = record { silent = refl; done = refl; short = tt }
stores_plain Replace flags exptime seen bytes now (Some e) = keeps_plain flags exptime bytes now
stores_plain Append flags exptime seen bytes now None = record { silent = refl; done = refl; short = tt }
stores_plain Append flags exptime seen bytes now (Some e) = makes_plain e (Rattle.std.specs.Prelude.◌++◌ e.bytes bytes) bytes
stores_plain Prepend flags exptime seen bytes now None = record { silent = refl; done = refl; short = tt }
stores_plain Prepend flags exptime seen bytes now (Some e) = makes_plain e (Rattle.std.specs.Prelude.◌++◌ bytes e.bytes) bytes
stores_plain Cas flags exptime seen bytes now None = record { silent = refl; done = refl; short = tt }
stores_plain Cas flags exptime seen bytes now (Some e) = by (is_seen seen e.unique)
  where
    by : (t : Bool) → Plain (cond {A = Verdict} t (keeps flags exptime bytes now) (Rattle.geo_requests.specs.declared.reply.Reply.TheVariants.Exists, Nothing)) bytes
    by true = keeps_plain flags exptime bytes now
    by false = record { silent = refl; done = refl; short = tt }

pub deletes_plain : (present : Option Entry) → Plain (deletes present) []
deletes_plain None = record { silent = refl; done = refl; short = tt }
deletes_plain (Some e) = record { silent = refl; done = refl; short = tt }

pub touches_plain : (exptime : ℤ) (now : ℕ) (present : Option Entry) → Plain (touches exptime now present) []
touches_plain exptime now None = record { silent = refl; done = refl; short = tt }
touches_plain exptime now (Some e) = record { silent = refl; done = refl; short = tt }

-- no store and no count renews anything
abbrev pub is_renewal : Effect → Bool
is_renewal Nothing = false
is_renewal (Keep flags expiry) = false
is_renewal (Made made flags expiry) = false
is_renewal (Renew expiry) = true
is_renewal Tomb = false

unless_long_fixed : (made : List ℕ) (v : Verdict) → is_renewal v.1 ≡ false → is_renewal (unless_long made v).1 ≡ false
unless_long_fixed made v h = by (nat_lt longest_value (length made))
  where
    by : (t : Bool) → is_renewal (cond {A = Verdict} t (TooLarge, Nothing) v).1 ≡ false
    by true = refl
    by false = h

pub stores_fixed : (verb : Verb) (flags : ℕ) (exptime : ℤ) (seen : Option ℕ) (bytes : List ℕ) (now : ℕ) (present : Option Entry) → is_renewal (stores verb flags exptime seen bytes now present).1 ≡ false
stores_fixed Set flags exptime seen bytes now present = unless_long_fixed bytes (Stored, Keep flags (expiry_at exptime now)) refl
stores_fixed Add flags exptime seen bytes now None = unless_long_fixed bytes (Stored, Keep flags (expiry_at exptime now)) refl
stores_fixed Add flags exptime seen bytes now (Some e) = refl
stores_fixed Replace flags exptime seen bytes now None = refl
stores_fixed Replace flags exptime seen bytes now (Some e) = unless_long_fixed bytes (Stored, Keep flags (expiry_at exptime now)) refl
stores_fixed Append flags exptime seen bytes now None = refl
stores_fixed Append flags exptime seen bytes now (Some e) = let made = Rattle.std.specs.Prelude.◌++◌ e.bytes bytes in unless_long_fixed made (Stored, Made made e.flags e.expiry) refl
stores_fixed Prepend flags exptime seen bytes now None = refl
stores_fixed Prepend flags exptime seen bytes now (Some e) = let made = Rattle.std.specs.Prelude.◌++◌ bytes e.bytes in unless_long_fixed made (Stored, Made made e.flags e.expiry) refl
stores_fixed Cas flags exptime seen bytes now None = refl
stores_fixed Cas flags exptime seen bytes now (Some e) = by (is_seen seen e.unique)
  where
    by : (t : Bool) → is_renewal (cond {A = Verdict} t (keeps flags exptime bytes now) (Rattle.geo_requests.specs.declared.reply.Reply.TheVariants.Exists, Nothing)).1 ≡ false
    by true = unless_long_fixed bytes (Stored, Keep flags (expiry_at exptime now)) refl
    by false = refl

counts_from_fixed : (up : Bool) (by : ℕ) (e : Entry) (o : Option ℕ) → is_renewal (counts_from up by e o).1 ≡ false
counts_from_fixed up by e None = refl
counts_from_fixed up by e (Some n) = refl

pub counts_fixed : (up : Bool) (by : ℕ) (present : Option Entry) → is_renewal (counts up by present).1 ≡ false
counts_fixed up by None = refl
counts_fixed up by (Some e) = counts_from_fixed up by e (number_in e.bytes)

-- a number that is written is at most the greatest
number_at_most : (most : ℕ) (word : List ℕ) (n : ℕ) → number_of most word ≡ Some n → n ≤ most
number_at_most most [] n h = absurd (none_some h)
number_at_most most (b ∷ bs) n h = by (all_ascii_digits (b ∷ bs)) (nat_le (digits_value_after 10 0 (b ∷ bs)) most) refl h
  where
    by : (t u : Bool) → nat_le (digits_value_after 10 0 (b ∷ bs)) most ≡ u → cond {A = Option ℕ} (t && u) (Some (digits_value_after 10 0 (b ∷ bs))) None ≡ Some n → n ≤ most
    by true true e h = let le : digits_value_after 10 0 (b ∷ bs) ≤ most = grind (arith, nat_tests) in subst (λ n. n ≤ most) (some_same h) le
    by true false e h = absurd (none_some h)
    by false u e h = absurd (none_some h)

value_at_most : (bytes : List ℕ) (n : ℕ) → number_in bytes ≡ Some n → n ≤ most_number
value_at_most bytes n h = by (nat_le (length bytes) 20) h
  where
    by : (t : Bool) → cond {A = Option ℕ} t (number_of most_number bytes) None ≡ Some n → n ≤ most_number
    by true h = number_at_most most_number bytes n h
    by false h = absurd (none_some h)

counted_below : (up : Bool) (n by : ℕ) → n ≤ most_number → counted up n by < 18446744073709551616
counted_below true n by le = omega arith
counted_below false n by le = omega arith

counts_from_plain : (up : Bool) (by : ℕ) (e : Entry) (o : Option ℕ) → number_in e.bytes ≡ o → Plain (counts_from up by e o) []
counts_from_plain up by e None h = record { silent = refl; done = refl; short = tt }
counts_from_plain up by e (Some n) h =
    let lt = counted_below up n by (value_at_most e.bytes n h) in
    let le = length-decimal-le 20 (counted up n by) (omega arith) (omega (arith, lt)) (omega (arith, lt)) in
    record { silent = refl; done = refl; short = (omega (arith, le)) }

pub counts_plain : (up : Bool) (by : ℕ) (present : Option Entry) → Plain (counts up by present) []
counts_plain up by None = record { silent = refl; done = refl; short = tt }
counts_plain up by (Some e) = counts_from_plain up by e (number_in e.bytes) refl

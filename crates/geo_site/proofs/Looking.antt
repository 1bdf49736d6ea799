-- Where what is held is named, a key of which bytes with its version's digest are not held is not visible.
use Rattle.std.proofs.Common.{◌≡◌, ℕ, ◌==◌, ◌&&◌, Bool, true, false, cond, List, length, Option, None, Some, refl, sym, ap, ◌∙◌, subst}
use Rattle.std.specs.Cmp.Lexicographic.{same_text}
use Rattle.std.specs.Str.{bytes_eq}
use Rattle.sha2.specs.Sha256.{sha256}
use Rattle.geo_values.specs.Stock.{with_digest}
use Rattle.geo_records.specs.declared.version.Version.{Version}
use Rattle.geo_site.specs.Entries.{names, entry_in}
use Rattle.geo_site.proofs.Verdicts.{none_some}
use Rattle.geo_site.proofs.Writing.{same_bytes}

equal_bytes : (a b : List ℕ) → bytes_eq a b ≡ true → bytes_eq b a ≡ true
equal_bytes a b h = subst (λ x. bytes_eq x a ≡ true) (same_text a b (sym h)) (same_bytes a)

both_true : (a b : Bool) → a && b ≡ true → a ≡ true
both_true true b h = refl
both_true false b h = h

pub unseen : (now : ℕ) (v : Version) (o : Option (List ℕ)) → ((b : List ℕ) → o ≡ Some b → names (Some v) b ≡ true) → with_digest v.digest o ≡ None → entry_in now (Some v) o ≡ None
unseen now v None named h = refl
unseen now v (Some b) named h =
    absurd (none_some (sym h ∙ ap (λ t. cond {A = Option (List ℕ)} t (Some b) None) (equal_bytes v.digest (sha256 b) (both_true (bytes_eq v.digest (sha256 b)) (v.length == length b) (named b refl)))))

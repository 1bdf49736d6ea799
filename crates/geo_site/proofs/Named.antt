-- What an option has, and what is still held of a key: that is named by its version, and was held.
use Rattle.std.proofs.Common.{◌≡◌, Bool, true, false, cond, List, ℕ, Option, None, Some, refl, sym, subst}
use Rattle.geo_records.specs.declared.version.Version.{Version}
use Rattle.geo_site.specs.Entries.{names, named_by}

pub some_same : {A : Type 0} {x y : A} → Some x ≡ Some y → x ≡ y
some_same h = cc

pub some_none : {V : Type 0} {x : V} → Some x ≡ None → ⊥
some_none h = cc

pub named_some : (v : Option Version) (o : Option (List ℕ)) (bytes : List ℕ) → named_by v o ≡ Some bytes → (o ≡ Some bytes) × (names v bytes ≡ true)
named_some v None bytes h = absurd (some_none (sym h))
named_some v (Some b) bytes h = by (names v b) refl h
  where
    by : (t : Bool) → names v b ≡ t → cond t (Some b) None ≡ Some bytes → (Some b ≡ Some bytes) × (names v bytes ≡ true)
    by true e h = (h, subst (λ b. names v b ≡ true) (some_same h) e)
    by false e h = absurd (some_none (sym h))

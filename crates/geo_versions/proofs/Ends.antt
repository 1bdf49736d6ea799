-- The column of ends beside the records.
use Rattle.std.proofs.Common.{◌≡◌, ℕ, List, [], Some, sym, subst, slice_get}
use Rattle.geo_maps.specs.Maps.{IsColumn}
use Rattle.geo_maps.proofs.Entries.{some_none}

-- no measures are a column beside any entries
pub forgotten : {K V : Type 0} (measured : V → ℕ) (es : List (K × V)) (cs : List ℕ) → cs ≡ [] → IsColumn measured es cs
forgotten measured es cs none i k v m at is = absurd (some_none (sym (subst (λ xs. slice_get xs i ≡ Some m) none is)))

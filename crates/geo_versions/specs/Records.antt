-- What the code's records mean, in the words of operations.
use Rattle.std.specs.Prelude.{◌≡◌, ℕ, Bool, true, false, cond, not, ◌&&◌, ◌||◌, ◌==◌, ◌<◌, ◌+◌, ◌*◌, ◌%◌, min, nat_le, nat_lt, List, [], ◌∷◌, Option, None, Some, is_some}
use Rattle.std.specs.Ordering.{nat_cmp}
use Rattle.std.specs.Cmp.Lexicographic.{slice_cmp}
use Rattle.std.specs.declared.cmp.Ordering.TheVariants.{Less}
use Rattle.geo_maps.specs.Maps.{get, meaning_or, all_joined}
use Rattle.geo_maps.specs.declared.map_of.MapOf.{MapOf}
use Rattle.geo_lattice.specs.declared.lww.Lww.{Lww}
use Rattle.geo_lattice.specs.declared.pair.Pair.{Pair}
use Rattle.geo_stamp.specs.Stamps.{Moment}
use Rattle.geo_stamp.specs.Vectors.{entry_of}
use Rattle.geo_records.specs.Keys.{same_key}
use Rattle.geo_records.specs.Operations.{Record, Register, record_joined, above, above_both, version_in}
use Rattle.geo_records.specs.declared.body.Body.{Body}
use Rattle.geo_records.specs.declared.version.Version.{Version}

abbrev pub Rec : Type 0
Rec = Pair (Lww Moment Body) (Lww Moment ℕ)

-- the two registers of a record
abbrev pub rec_means : Rec → Record
rec_means r = (r.left.register, r.right.register)

-- what a map has at a key
abbrev pub record_at : MapOf (List ℕ) Rec → List ℕ → Record
record_at m key = meaning_or (None, None) rec_means (get same_key m key)

-- whether a record has a register
abbrev pub has_register : Record → Bool
has_register r = is_some r.0 || is_some r.1

-- what listed records have at a key, joined
abbrev pub listed_at : List (List ℕ × Rec) → List ℕ → Record
listed_at = all_joined (None, None) rec_means record_joined same_key

-- the record, without the registers that are not above the floor
abbrev pub rec_above : Option Moment → Rec → Rec
rec_above floor r = record {
  left = record { register = above floor r.left.register };
  right = record { register = above floor r.right.register };
}

-- a vector does not know a register
abbrev pub is_unknown : {A : Type 0} → List ℕ → Register A → Bool
is_unknown base None = false
is_unknown base (Some r) = not (nat_le r.0.time (entry_of base r.0.site))

-- the record, where the vector does not know one of its registers
abbrev pub since : List ℕ → Record → Record
since base r = cond (is_unknown base r.0 || is_unknown base r.1) r (None, None)

abbrev pub rec_since : List ℕ → Rec → Option Rec
rec_since base r = cond (is_unknown base r.left.register || is_unknown base r.right.register) (Some r) None

-- the version is a write of this site that ended before a moment
abbrev pub has_ended : ℕ → ℕ → Option Version → Bool
has_ended site before None = false
has_ended site before (Some v) = (v.stamp.site == site) && (not (v.expiry == 0) && nat_lt v.expiry before)

-- the moment in an expiry's register, the greatest number where it is no end
abbrev pub end_in : Register ℕ → ℕ
end_in None = 18446744073709551615
end_in (Some r) = cond (r.1 == 0) 18446744073709551615 r.1

-- an end, and behind it whose write it is, of whose site's number the last four bits: ends are told apart up to 2^59
abbrev pub mark_of : ℕ → ℕ → ℕ
mark_of end site = cond (end == 18446744073709551615) 18446744073709551615 (min end 576460752303423488 * 16 + site % 16)

-- the site of a register, 0 where there is none
abbrev pub site_in : {A : Type 0} → Register A → ℕ
site_in None = 0
site_in (Some r) = r.0.site

-- the mark of a record: the end of its value, and whose write that is
abbrev pub mark_in : Rec → ℕ
mark_in r = mark_of (end_in r.right.register) (site_in r.left.register)

-- a register of which the time is at or below a horizon, which every site knows already
abbrev pub is_old : {A : Type 0} → ℕ → Register A → Bool
is_old horizon None = true
is_old horizon (Some r) = nat_le r.0.time horizon

-- the register, where it is not old
abbrev pub recent : {A : Type 0} → ℕ → Register A → Register A
recent horizon r = cond (is_old horizon r) None r

-- the record, without its old registers
abbrev pub recent_both : ℕ → Record → Record
recent_both horizon r = (recent horizon r.0, recent horizon r.1)

abbrev pub rec_recent : ℕ → Rec → Rec
rec_recent horizon r = record {
  left = record { register = recent horizon r.left.register };
  right = record { register = recent horizon r.right.register };
}

-- listed records without their old registers, and without those that are left with none
abbrev pub sifted : ℕ → List (List ℕ × Rec) → List (List ℕ × Rec)
sifted horizon [] = []
sifted horizon (e ∷ es) =
    cond (has_register (rec_means (rec_recent horizon e.1))) ((e.0, rec_recent horizon e.1) ∷ sifted horizon es) (sifted horizon es)

-- whether a record has no version, and no register that isn't old
abbrev pub is_over : ℕ → Record → Bool
is_over horizon r = not (is_some (version_in r)) && (is_old horizon r.0 && is_old horizon r.1)

-- the record, where it isn't over
abbrev pub remaining : ℕ → Record → Record
remaining horizon r = cond (is_over horizon r) (None, None) r

abbrev pub rec_remaining : ℕ → Rec → Rec
rec_remaining horizon r =
    cond (is_over horizon (rec_means r)) (record { left = record { register = None }; right = record { register = None } }) r

-- the record stays whole over each removal at a horizon below a time
abbrev pub LastsTo : ℕ → Record → Type 0
LastsTo time r = (horizon : ℕ) → horizon < time → remaining horizon r ≡ r

-- the time of a register, the greatest number where it is empty
abbrev pub time_in : {A : Type 0} → Register A → ℕ
time_in None = 18446744073709551615
time_in (Some r) = r.0.time

-- a time that a record lasts to once it is cut at a floor: no removal takes what has a version, nor what has a later time
abbrev pub lasting_of : Option Moment → Record → ℕ
lasting_of floor r = cond (is_some (version_in (above_both floor r))) 18446744073709551615 (min (time_in r.0) (time_in r.1))

-- each key is greater than the one before it, byte by byte
abbrev pub Above : {V : Type 0} → List ℕ → List (List ℕ × V) → Type 0
Above key [] = Unit {0}
Above key (e ∷ es) = slice_cmp nat_cmp key e.0 ≡ Less

abbrev pub Rising : {V : Type 0} → List (List ℕ × V) → Type 0
Rising [] = Unit {0}
Rising (e ∷ es) = Above e.0 es × Rising es

-- What a change of records leaves to be noted: the keys that it is of.
use Rattle.std.proofs.Common.{◌≡◌, ℕ, Bool, true, false, cond, ◌||◌, List, [], ◌∷◌, Option, None, refl, sym, ap, ◌∙◌, subst, true≢false}
use Rattle.geo_stamp.specs.Stamps.{Moment}
use Rattle.geo_records.specs.Keys.{same_key}
use Rattle.geo_records.specs.Operations.{Record, above_both, record_joined, version_in}
use Rattle.geo_records.proofs.Above.{joined_none}
use Rattle.geo_versions.specs.Maps.{Rec, rec_means, listed_at}
use Rattle.geo_delta.specs.declared.changes.Changes.{Changes}
use Rattle.geo_delta.specs.Changes.{Ring, KnowsBut, Traced, noted, emptied, nothing_pending}
use Rattle.geo_delta.specs.Telling.{Tells}
use Rattle.geo_delta.specs.Trails.{Path, Trailed}
use Rattle.geo_delta.proofs.Told.{tells_on}
use Rattle.geo_delta.proofs.Tracing.{traced_on, traced_noted, traced_emptied}
use Rattle.geo_delta.proofs.Trailing.{trailed_on}
use Rattle.geo_site.specs.Entries.{Held, names}
use Rattle.geo_site.specs.Machine.{knows_record, Covers, EndsFrom, Settled}
use Rattle.geo_site.specs.Noting.{is_key, is_listed}
use Rattle.geo_site.proofs.Flushing.{knows_above}

-- a change of one key
pub traced_put : (key : List ℕ) (map new : List ℕ → Record) (changes : Changes) → ((q : List ℕ) → same_key q key ≡ false → new q ≡ map q) → Tells nothing_pending map changes → Tells (is_key key) new changes
traced_put key map new changes same = tells_on nothing_pending (is_key key) map new changes (λ q apart. (refl, λ v h. ap (knows_record v) (same q apart) ∙ h))

-- a floor that rises brings nothing new
pub traced_above : (floor : Option Moment) (map new : List ℕ → Record) (changes : Changes) → ((q : List ℕ) → new q ≡ above_both floor (map q)) → Tells nothing_pending map changes → Tells nothing_pending new changes
traced_above floor map new changes is = tells_on nothing_pending nothing_pending map new changes (λ q none. (refl, λ v h. ap (knows_record v) (is q) ∙ knows_above v floor (map q) h))

-- records that have nothing at a key
listed_none : (records : List (List ℕ × Rec)) (q : List ℕ) → is_listed records q ≡ false → listed_at records q ≡ (None, None)
listed_none [] q h = refl
listed_none (e ∷ es) q h = by (same_key q e.0) (listed_none es q) h
  where
    by : (t : Bool) → (is_listed es q ≡ false → listed_at es q ≡ (None, None)) → t || is_listed es q ≡ false → cond {A = Record} t (record_joined (rec_means e.1) (listed_at es q)) (listed_at es q) ≡ (None, None)
    by true rec h = absurd (true≢false h)
    by false rec h = rec h

-- records that are joined
pub traced_joined : (floor : Option Moment) (records : List (List ℕ × Rec)) (map new : List ℕ → Record) (changes : Changes) → ((q : List ℕ) → new q ≡ above_both floor (record_joined (map q) (listed_at records q))) → Tells nothing_pending map changes → Tells (is_listed records) new changes
traced_joined floor records map new changes is = tells_on nothing_pending (is_listed records) map new changes (λ q apart. (
  refl,
  λ v h.
      ap (knows_record v) (is q ∙ ap (λ r. above_both floor (record_joined (map q) r)) (listed_none records q apart) ∙ ap (above_both floor) (joined_none (map q))) ∙ knows_above v floor (map q) h,
))

-- the same records
pub traced_same : (map new : List ℕ → Record) (changes : Changes) → ((q : List ℕ) → new q ≡ map q) → Tells nothing_pending map changes → Tells nothing_pending new changes
traced_same map new changes same = tells_on nothing_pending nothing_pending map new changes (λ q none. (refl, λ v h. ap (knows_record v) (same q) ∙ h))

module _ (map new : List ℕ → Record) (same : (q : List ℕ) → new q ≡ map q) where
  pub covers_same : (v : List ℕ) → Covers v map → Covers v new
  covers_same v covers q = ap (knows_record v) (same q) ∙ covers q

  pub ends_same : (least : ℕ) → EndsFrom least map → EndsFrom least new
  ends_same least ends q st e h = ends q st e (sym (ap (λ (r : Record). r.1) (same q)) ∙ h)

  pub named_same : (held now : Held) → ((q : List ℕ) → now q ≡ held q) → Settled map held → Settled new now
  named_same held now holds named q bytes h = ap (λ r. names (version_in r) bytes) (same q) ∙ named q bytes (sym (holds q) ∙ h)

-- a key is noted, or nothing is kept
pub traced_either : (done : Bool) (pending : List ℕ → Bool) (map : List ℕ → Record) (key after : List ℕ) (old new : Ring)
    → (done ≡ true → new ≡ noted key after old) → (done ≡ false → new ≡ emptied after)
    → KnowsBut nothing_pending after map → Traced (λ q. same_key q key || pending q) map old → Traced pending map new
traced_either true pending map key after old new kept lost knows t = subst (Traced pending map) (sym (kept refl)) (traced_noted pending map key after old knows t)
traced_either false pending map key after old new kept lost knows t = subst (Traced pending map) (sym (lost refl)) (traced_emptied pending map after knows)

first_false : (a : Bool) → a || false ≡ false → a ≡ false
first_false true h = absurd (true≢false h)
first_false false h = refl

-- one key alone
pub traced_one : (map : List ℕ → Record) (key : List ℕ) (ring : Ring) → Traced (is_key key) map ring → Traced (λ q. same_key q key || nothing_pending q) map ring
traced_one map key ring = traced_on (is_key key) (λ q. same_key q key || nothing_pending q) map map ring (λ q apart. (first_false (same_key q key) apart, λ v h. h))

pub trailed_one : (map : List ℕ → Record) (key : List ℕ) (path : Path) → Trailed (is_key key) map path → Trailed (λ q. same_key q key || nothing_pending q) map path
trailed_one map key path = trailed_on (is_key key) (λ q. same_key q key || nothing_pending q) map map path (λ q apart. (first_false (same_key q key) apart, λ v h. h))

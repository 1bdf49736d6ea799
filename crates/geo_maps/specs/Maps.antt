-- Maps as functions: what stands at a key, or the least where there is nothing.
use Rattle.std.specs.Prelude.{◌≡◌, Bool, true, List, refl, [], ◌∷◌, if◌then◌else◌, not, is_some, count_by}
use Rattle.std.specs.Prelude.{Option, None, Some, ℕ, ◌+◌, ◌/◌, ◌<◌, ◌≤◌, nat_le, slice_get, IsSomeAnd}
use Rattle.std.specs.Map.{lookup}
use Rattle.std.specs.Coded.{Coded, code_by, coded×, coded_ℕ, coded_list}

-- the entries of a map, in no order that counts, and how many more keys fit without memory
pub record Entries (K V : Type 0) : Type 0 where
  pub entries : List (K × V)
  pub spare : ℕ

abbrev pub entries_code : {K V : Type 0} → Coded K → Coded V → Coded (Entries K V)
entries_code {K} {V} k v =
    code_by (List (K × V) × ℕ) (coded× (coded_list (coded× k v)) coded_ℕ) (λ m. (m.entries, m.spare))
    (λ p. record { entries = p.0; spare = p.1 }) (λ _. refl)

-- the value at a key
abbrev pub get : {K V : Type 0} → (K → K → Bool) → Entries K V → K → Option V
get eq m k = lookup (eq k) m.entries

-- what a value means, and the least where there is none
abbrev pub meaning_or : {V M : Type 0} → M → (V → M) → Option V → M
meaning_or z f None = z
meaning_or z f (Some v) = f v

-- what a map means at a key
abbrev pub meaning_at : {K V M : Type 0} → M → (V → M) → (K → K → Bool) → Entries K V → K → M
meaning_at z f eq m k = meaning_or z f (get eq m k)

-- where there is a value at both keys, there is room for the second in the first
abbrev pub RoomFor : {V : Type 0} → (V → V → Type 0) → Option V → Option V → Type 0
RoomFor R mine None = Unit {0}
RoomFor R None (Some v) = Unit {0}
RoomFor R (Some u) (Some v) = R u v

-- how many of the entries have a key that the map has not
abbrev pub missing : {K U V : Type 0} → (K → K → Bool) → List (K × U) → List (K × V) → ℕ
missing {K} {U} {V} eq mine es = count_by (λ (e : K × V). not (is_some (lookup (eq e.0) mine))) es

-- a map has room for another: for each of its keys that is missing, and in the values that are there
pub record HasRoomFor {K V : Type 0} (R : V → V → Type 0) (eq : K → K → Bool) (mine other : Entries K V) : Type 0 where
  pub keys : missing eq mine.entries other.entries ≤ mine.spare
  pub values : (k : K) → RoomFor R (get eq mine k) (get eq other k)

-- a map has room for entries whose values take no memory to join
abbrev pub HasRoomForList : {K V : Type 0} → (K → K → Bool) → Entries K V → List (K × V) → Type 0
HasRoomForList eq mine es = missing eq mine.entries es ≤ mine.spare

-- each value that is found meets P
abbrev pub EachFound : {K V : Type 0} → (V → Type 0) → (K → K → Bool) → List (K × V) → Type 0
EachFound {K} {V} P eq es = (k : K) (v : V) → lookup (eq k) es ≡ Some v → P v

-- each of the first n entries meets P
abbrev pub EachOf : {K V : Type 0} → (K → V → Type 0) → List (K × V) → ℕ → Type 0
EachOf {K} {V} P es n = (j : ℕ) (k : K) (v : V) → j < n → slice_get es j ≡ Some (k, v) → P k v

-- what the values at a key join to
abbrev pub all_joined : {K V M : Type 0} → M → (V → M) → (M → M → M) → (K → K → Bool) → List (K × V) → K → M
all_joined z mean join eq [] q = z
all_joined z mean join eq (e ∷ es) q = if eq q e.0 then join (mean e.1) (all_joined z mean join eq es q) else all_joined z mean join eq es q

-- a key stands at a place
abbrev pub StandsAt : {K V : Type 0} → (K → K → Bool) → List (K × V) → ℕ → K → Type 0
StandsAt eq es i k = IsSomeAnd (slice_get es i) (λ e. eq k e.0 ≡ true)

-- but for what stands at one place, lists are the same
abbrev pub OthersStand : {A : Type 0} → List A → List A → ℕ → Type 0
OthersStand es es' i = (j : ℕ) → (j ≡ i → ⊥) → slice_get es' j ≡ slice_get es j

-- a column has the measure of each entry beside which it has a number
abbrev pub IsColumn : {K V : Type 0} → (V → ℕ) → List (K × V) → List ℕ → Type 0
IsColumn {K} {V} measured es column =
    (i : ℕ) (k : K) (v : V) (m : ℕ) → slice_get es i ≡ Some (k, v) → slice_get column i ≡ Some m → m ≡ measured v

-- what stands at a place in the second list stood there in the first, but that at one place, which stood last
pub record SwappedOut {A : Type 0} (xs ys : List A) (i last : ℕ) : Type 0 where
  pub moved : (x : A) → slice_get ys i ≡ Some x → slice_get xs last ≡ Some x
  pub others : (j : ℕ) (x : A) → (j ≡ i → ⊥) → slice_get ys j ≡ Some x → slice_get xs j ≡ Some x

-- each of so many places stands where an order says that it came
abbrev pub HasAll : List ℕ → List ℕ → ℕ → Type 0
HasAll order came n = (p : ℕ) → p < n → IsSomeAnd (slice_get came p) (λ i. slice_get order i ≡ Some p)

-- what is counted is no less than before, and no less than what is seen
abbrev pub Counts : ℕ → ℕ → ℕ → Type 0
Counts before now seen = (before ≤ now) × (seen ≤ now)

-- how many numbers of a column are no greater than a bound
abbrev pub low_count : ℕ → List ℕ → ℕ
low_count most column = count_by (λ m. nat_le m most) column

-- of a table's places so many may be lost: as many are left as it ever held values, and all but a sixteenth of those that it has and of
-- the most that it ever had
pub record MayLose (lost places most_values most_places : ℕ) : Type 0 where
  pub values : most_values + lost ≤ places
  pub few : lost ≤ places / 16
  pub places_kept : most_places + lost ≤ places + most_places / 16

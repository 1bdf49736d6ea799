-- What a take leaves: a vector that knows what both knew, and records whose stamps are known.
use Rattle.std.proofs.Common.{◌≡◌, ℕ, ◌≤◌, Bool, true, false, cond, ◌&&◌, List, [], ◌∷◌, refl, sym, subst, arith, true≢false}
use Rattle.geo_stamp.specs.Vectors.{entry_of, greatest_of, vector_joined, raised}
use Rattle.geo_records.specs.Keys.{same_key}
use Rattle.geo_records.specs.Operations.{Record, record_joined, floor_joined, above_both}
use Rattle.geo_versions.specs.Maps.{Rec, rec_means, listed_at}
use Rattle.geo_site.specs.Machine.{SiteState, Delta, Same, take, settled, knows_record}
use Rattle.geo_site.specs.Sites.{knows_all}
use Rattle.geo_site.proofs.Entries.{Within, entry_joined, entry_rises}
use Rattle.geo_site.proofs.Stocking.{state_path}
use Rattle.geo_site.proofs.Writing.{knows_pair}

module _ (v upto : List ℕ) (n : ℕ) (num : Within (vector_joined v upto) n) where
  pub left_rises : (j : ℕ) → entry_of v j ≤ entry_of (raised (vector_joined v upto) n (greatest_of (vector_joined v upto))) j
  left_rises j = let r = entry_rises (vector_joined v upto) n (greatest_of (vector_joined v upto)) j num in let e = entry_joined v upto j in omega (arith, r, e)

  pub right_rises : (j : ℕ) → entry_of upto j ≤ entry_of (raised (vector_joined v upto) n (greatest_of (vector_joined v upto))) j
  right_rises j = let r = entry_rises (vector_joined v upto) n (greatest_of (vector_joined v upto)) j num in let e = entry_joined v upto j in omega (arith, r, e)

both : (a b : Bool) → a && b ≡ true → (a ≡ true) × (b ≡ true)
both true b h = (refl, h)
both false b h = absurd (true≢false (sym h))

-- what is listed at a key is known where each record is
pub all_listed : (v : List ℕ) (records : List (List ℕ × Rec)) (q : List ℕ) → knows_all v records ≡ true → knows_record v (listed_at records q) ≡ true
all_listed v [] q h = refl
all_listed v (e ∷ es) q h = by (same_key q e.0) (all_listed v es q (both (knows_record v (rec_means e.1)) (knows_all v es) h).1)
  where
    by : (t : Bool) → knows_record v (listed_at es q) ≡ true → knows_record v (cond {A = Record} t (record_joined (rec_means e.1) (listed_at es q)) (listed_at es q)) ≡ true
    by true r = knows_pair v (rec_means e.1) (listed_at es q) (both (knows_record v (rec_means e.1)) (knows_all v es) h).0 r
    by false r = r

-- a take from an equal state
pub take_from_same : (n : ℕ) (d : Delta) (a b x : SiteState) → Same a b → Same (take n d b) x → Same (take n d a) x
take_from_same n d a b x s t = subst (λ st. Same (take n d st) x) (state_path a b s) t

-- a take of what comes to the same where it is joined
pub take_alike : (n : ℕ) (d e : Delta) (st : SiteState) → d.upto ≡ e.upto → d.floor ≡ e.floor → ((q : List ℕ) → record_joined (st.map q) (d.map q) ≡ record_joined (st.map q) (e.map q)) → take n d st ≡ take n e st
take_alike n d e st upto floor same = λ i.
    let vector = vector_joined st.vector (upto i) in
    let to = floor_joined st.floor (floor i) in
    let map = λ (q : List ℕ). above_both to (same q i) in
    record { vector = raised vector n (greatest_of vector); floor = to; map = map; stock = settled map st.stock }

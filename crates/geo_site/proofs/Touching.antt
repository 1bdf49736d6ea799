-- What a touch leaves: another expiry, and all else as it was.
use Rattle.std.proofs.Common.{◌≡◌, ℕ, ◌+◌, ◌≤◌, not, Bool, true, false, cond, List, Option, None, Some, refl, sym, ap, ◌∙◌, subst, arith}
use Rattle.std.specs.declared.cmp.Ordering.{Ordering}
use Rattle.geo_laws.specs.Registers.{newer, by_both}
use Rattle.geo_stamp.specs.Stamps.{Moment, stamp_cmp}
use Rattle.geo_stamp.specs.Vectors.{entry_of, greatest_of, raised}
use Rattle.geo_records.specs.Keys.{same_key}
use Rattle.geo_records.specs.Bodies.{body_cmp}
use Rattle.geo_records.specs.Operations.{Register, Record, above, above_both, body_joined, record_joined, floor_joined, version_in}
use Rattle.geo_records.specs.Operations.Act.{Touch}
use Rattle.geo_records.specs.declared.body.Body.{Body}
use Rattle.geo_records.specs.declared.body.Body.TheVariants.{Value, Gone}
use Rattle.geo_site.specs.Entries.{Held, names}
use Rattle.geo_values.specs.Stock.{Stock}
use Rattle.geo_values.specs.Stock as stocks
use Rattle.geo_site.proofs.Stocking.{stock_done, stock_path}
use Rattle.geo_site.specs.Machine.{Same, issue, Covers, Settled, knows_record, knows_floor}
use Rattle.geo_site.proofs.Entries.{Within, entry_raised, entry_rises}
use Rattle.geo_site.proofs.Writing.{knows_joined, knows_more, knows_floor_more, time_known}
use Rattle.geo_records.proofs.Above.{joined_none}

newer_none : {A : Type 0} (cmp : A → A → Ordering) (o : Option A) → newer cmp o None ≡ o
newer_none cmp None = refl
newer_none cmp (Some x) = refl

-- a version names bytes by its body alone
names_body : (b : Register Body) (x y : Register ℕ) (bytes : List ℕ) → names (version_in (b, x)) bytes ≡ names (version_in (b, y)) bytes
names_body None x y bytes = refl
names_body (Some (s, Gone)) x y bytes = refl
names_body (Some (s, Value d f l)) None None bytes = refl
names_body (Some (s, Value d f l)) None (Some y) bytes = refl
names_body (Some (s, Value d f l)) (Some x) None bytes = refl
names_body (Some (s, Value d f l)) (Some x) (Some y) bytes = refl

touch_body : (f : Option Moment) (r : Record) (x : Register ℕ) → above_both f r ≡ r → above f (body_joined r.0 None) ≡ r.0
touch_body f r x norm = ap (above f) (newer_none (by_both stamp_cmp body_cmp) r.0) ∙ ap (λ (s : Record). s.0) norm

module _ (v : List ℕ) (f f' : Option Moment) (map map' : List ℕ → Record) (held : Held) (number expiry : ℕ) (key : List ℕ)
    (kf : knows_floor v f ≡ true) (cov : Covers v map) (nam : Settled map held) (norm : (q : List ℕ) → above_both f (map q) ≡ map q) (num : Within v number) (same_floor : f' ≡ f)
    (new : (q : List ℕ) → map' q ≡ cond {A = Record} (same_key q key) (above_both f (record_joined (map q) (None, Some (record { time = greatest_of v + 1; site = number }, expiry)))) (map q)) where
  rises : (j : ℕ) → entry_of v j ≤ entry_of (raised v number (greatest_of v + 1)) j
  rises j = entry_rises v number (greatest_of v + 1) j num

  pub touch_floor : knows_floor (raised v number (greatest_of v + 1)) f' ≡ true
  touch_floor = ap (knows_floor (raised v number (greatest_of v + 1))) same_floor ∙ knows_floor_more v (raised v number (greatest_of v + 1)) rises f kf

  pub touch_covers : Covers (raised v number (greatest_of v + 1)) map'
  touch_covers q = by (same_key q key) (new q)
    where
      own : Rattle.geo_versions.specs.Maps.is_unknown (raised v number (greatest_of v + 1)) (Some (record { time = greatest_of v + 1; site = number }, expiry)) ≡ false
      own = let o = entry_raised v number (greatest_of v + 1) num in time_known (raised v number (greatest_of v + 1)) (record { time = greatest_of v + 1; site = number }, expiry) (omega (arith, o))

      by : (t : Bool) → map' q ≡ cond {A = Record} t (above_both f (record_joined (map q) (None, Some (record { time = greatest_of v + 1; site = number }, expiry)))) (map q) → knows_record (raised v number (greatest_of v + 1)) (map' q) ≡ true
      by true e = ap (knows_record (raised v number (greatest_of v + 1))) e
          ∙ knows_joined (raised v number (greatest_of v + 1)) f (map q) (None, Some (record { time = greatest_of v + 1; site = number }, expiry)) (knows_more v (raised v number (greatest_of v + 1)) rises (map q) (cov q)) (ap not own)
      by false e = ap (knows_record (raised v number (greatest_of v + 1))) e ∙ knows_more v (raised v number (greatest_of v + 1)) rises (map q) (cov q)

  -- the body of each key stays
  pub touch_bodies : (q : List ℕ) → (map' q).0 ≡ (map q).0
  touch_bodies q = by (same_key q key) (new q)
    where
      by : (t : Bool) → map' q ≡ cond {A = Record} t (above_both f (record_joined (map q) (None, Some (record { time = greatest_of v + 1; site = number }, expiry)))) (map q) → (map' q).0 ≡ (map q).0
      by true e = ap (λ (s : Record). s.0) e ∙ touch_body f (map q) None (norm q)
      by false e = ap (λ (s : Record). s.0) e

  pub touch_named : Settled map' held
  touch_named q b h = (λ i. names (version_in (touch_bodies q i, (map' q).1)) b) ∙ names_body (map q).0 (map' q).1 (map q).1 b ∙ nam q b h

  pub touch_map : (q : List ℕ) → map' q ≡ above_both (floor_joined f None) (record_joined (map q) (None, cond {A = Register ℕ} (same_key q key) (Some (record { time = greatest_of v + 1; site = number }, expiry)) None))
  touch_map q = new q ∙ by (same_key q key) ∙ ap (λ g. above_both g (record_joined (map q) (None, cond {A = Register ℕ} (same_key q key) (Some (record { time = greatest_of v + 1; site = number }, expiry)) None))) (sym (newer_none stamp_cmp f))
    where
      by : (t : Bool) → cond {A = Record} t (above_both f (record_joined (map q) (None, Some (record { time = greatest_of v + 1; site = number }, expiry)))) (map q)
          ≡ above_both f (record_joined (map q) (None, cond {A = Register ℕ} t (Some (record { time = greatest_of v + 1; site = number }, expiry)) None))
      by true = refl
      by false = sym (norm q) ∙ ap (above_both f) (sym (joined_none (map q)))

  pub touch_same : (s t : Stock) → s.held ≡ held → stocks.Same s t → Same (issue number (Touch key expiry) (record { vector = v; floor = f; map = map; stock = s })) (record { vector = raised v number (greatest_of v + 1); floor = f'; map = map'; stock = t })
  touch_same s t is same = record {
    vector = refl;
    floor = same_floor ∙ sym (newer_none stamp_cmp f);
    map = touch_map;
    stock = stock_done map' _ s t touch_map same (subst (Settled map') (sym (ap (λ (s : Stock). s.held) (stock_path s t same) ∙ is)) touch_named);
  }

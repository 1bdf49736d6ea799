-- What an operation on a key leaves: the state that the machine says, in which all is known and named again.
use Rattle.std.proofs.Common.{◌≡◌, ℕ, ◌+◌, ◌≤◌, Bool, true, false, cond, List, [], ◌∷◌, length, Option, None, Some, refl, sym, ap, ◌∙◌, subst, arith}
use Rattle.std.specs.Ordering.{nat_cmp}
use Rattle.sha2.specs.Sha256.{sha256}
use Rattle.geo_stamp.specs.Stamps.{Moment, stamp_cmp}
use Rattle.geo_stamp.specs.Vectors.{entry_of, greatest_of, raised}
use Rattle.geo_records.specs.Keys.{same_key}
use Rattle.geo_records.specs.Operations.{Act, Register, Record, above_both, record_joined, floor_joined, version_in, body_of, expiry_of, flush_of}
use Rattle.geo_records.specs.Operations.Act.{Write, Delete}
use Rattle.geo_records.proofs.Above.{newer_none, joined_none}
use Rattle.geo_versions.specs.Maps.{Rec, rec_means, listed_at}
use Rattle.geo_records.specs.declared.body.Body.{Body}
use Rattle.geo_records.specs.declared.body.Body.TheVariants.{Value, Gone}
use Rattle.geo_site.specs.Entries.{Held, names}
use Rattle.geo_values.specs.Stock.{Stock}
use Rattle.geo_values.specs.Stock as stocks
use Rattle.geo_site.specs.Machine.{Same, issue, settled, act_stock, next_operation, map_after, Covers, Settled, knows_record, knows_floor}
use Rattle.geo_site.proofs.Entries.{Within, entry_rises, entry_raised}
use Rattle.geo_site.proofs.Writing.{write_wins, written_named, knows_more, knows_floor_more, time_known}
use Rattle.geo_site.proofs.Named.{some_same, some_none}

pub floor_none : (f : Option Moment) → floor_joined f None ≡ f
floor_none = newer_none stamp_cmp

-- one record that is joined
pub one_joined : (f : Option Moment) (map : List ℕ → Record) (records : List (List ℕ × Rec)) (key : List ℕ) (r : Rec) (x : Record) → ((q : List ℕ) → above_both f (map q) ≡ map q) → records ≡ (key, r) ∷ [] → rec_means r ≡ x
    → (q : List ℕ) → above_both f (record_joined (map q) (listed_at records q)) ≡ cond {A = Record} (same_key q key) (above_both f (record_joined (map q) x)) (map q)
one_joined f map records key r x norm is means q = ap (λ rs. above_both f (record_joined (map q) (listed_at rs q))) is ∙ by (same_key q key)
  where
    by : (t : Bool) → above_both f (record_joined (map q) (cond {A = Record} t (record_joined (rec_means r) (None, None)) (None, None))) ≡ cond {A = Record} t (above_both f (record_joined (map q) x)) (map q)
    by true = ap (λ y. above_both f (record_joined (map q) y)) (joined_none (rec_means r) ∙ means)
    by false = ap (above_both f) (joined_none (map q)) ∙ norm q

-- an operation that leaves a body and an expiry at its key, and these bytes there
pub record Puts (act : Act) (key : List ℕ) (body : Body) (expiry : ℕ) (put : Option (List ℕ)) : Type 0 where
  pub registers : (q : List ℕ) (st : Moment) → ◌≡◌ {A = Record} (body_of q (record { stamp = st; act = act }), expiry_of q (record { stamp = st; act = act })) (cond {A = Record} (same_key q key) (Some (st, body), Some (st, expiry)) (None, None))
  pub no_flush : (st : Moment) → flush_of (record { stamp = st; act = act }) ≡ None
  pub named : (st : Moment) (bytes : List ℕ) → put ≡ Some bytes → names (version_in (Some (st, body), Some (st, expiry))) bytes ≡ true

pub write_puts : (key bytes : List ℕ) (flags expiry : ℕ) → Puts (Write key bytes flags expiry) key (Value (sha256 bytes) flags (length bytes)) expiry (Some bytes)
write_puts key bytes flags expiry = record {
  registers = λ q st. both (same_key q key) st;
  no_flush = λ st. refl;
  named = λ st b e. subst (λ b. names (version_in (Some (st, Value (sha256 bytes) flags (length bytes)), Some (st, expiry))) b ≡ true) (some_same e) (written_named st bytes flags expiry);
}
  where
    both : (t : Bool) (st : Moment) → ◌≡◌ {A = Record} (cond {A = Register Body} t (Some (st, Value (sha256 bytes) flags (length bytes))) None, cond {A = Register ℕ} t (Some (st, expiry)) None) (cond {A = Record} t (Some (st, Value (sha256 bytes) flags (length bytes)), Some (st, expiry)) (None, None))
    both true st = refl
    both false st = refl

pub delete_puts : (key : List ℕ) → Puts (Delete key) key Gone 0 None
delete_puts key = record {
  registers = λ q st. both (same_key q key) st;
  no_flush = λ st. refl;
  named = λ st b e. absurd (some_none (sym e));
}
  where
    both : (t : Bool) (st : Moment) → ◌≡◌ {A = Record} (cond {A = Register Body} t (Some (st, Gone)) None, cond {A = Register ℕ} t (Some (st, 0)) None) (cond {A = Record} t (Some (st, Gone), Some (st, 0)) (None, None))
    both true st = refl
    both false st = refl

module _ (v : List ℕ) (f f' : Option Moment) (map map' : List ℕ → Record) (held held' : Held) (number expiry : ℕ) (key : List ℕ) (act : Act) (body : Body) (put : Option (List ℕ)) (puts : Puts act key body expiry put)
    (kf : knows_floor v f ≡ true) (cov : Covers v map) (nam : Settled map held) (norm : (q : List ℕ) → above_both f (map q) ≡ map q) (num : Within v number) (same_floor : f' ≡ f)
    (new : (q : List ℕ) → map' q ≡ cond {A = Record} (same_key q key) (above_both f (record_joined (map q) (Some (record { time = greatest_of v + 1; site = number }, body), Some (record { time = greatest_of v + 1; site = number }, expiry)))) (map q))
    (new_held : (q : List ℕ) → held' q ≡ cond (same_key q key) put (held q)) where
  stamp : Moment
  stamp = record { time = greatest_of v + 1; site = number }

  rises : (j : ℕ) → entry_of v j ≤ entry_of (raised v number (greatest_of v + 1)) j
  rises j = entry_rises v number (greatest_of v + 1) j num

  pub map_at_key : (q : List ℕ) → same_key q key ≡ true → map' q ≡ (Some (record { time = greatest_of v + 1; site = number }, body), Some (record { time = greatest_of v + 1; site = number }, expiry))
  map_at_key q t =
      let r : Record = (Some (record { time = greatest_of v + 1; site = number }, body), Some (record { time = greatest_of v + 1; site = number }, expiry)) in
      new q ∙ ap (λ t. cond {A = Record} t (above_both f (record_joined (map q) r)) (map q)) t
      ∙ write_wins v f (map q) (record { time = greatest_of v + 1; site = number }) body expiry kf (cov q) (omega arith)

  pub map_elsewhere : (q : List ℕ) → same_key q key ≡ false → map' q ≡ map q
  map_elsewhere q t = new q ∙ ap (λ t. cond {A = Record} t (above_both f (record_joined (map q) (Some (record { time = greatest_of v + 1; site = number }, body), Some (record { time = greatest_of v + 1; site = number }, expiry)))) (map q)) t

  pub write_floor : knows_floor (raised v number (greatest_of v + 1)) f' ≡ true
  write_floor = ap (knows_floor (raised v number (greatest_of v + 1))) same_floor ∙ knows_floor_more v (raised v number (greatest_of v + 1)) rises f kf

  pub write_covers : Covers (raised v number (greatest_of v + 1)) map'
  write_covers q = by (same_key q key) refl
    where
      own : (A : Type 0) (x : A) → Rattle.geo_versions.specs.Maps.is_unknown (raised v number (greatest_of v + 1)) (Some (record { time = greatest_of v + 1; site = number }, x)) ≡ false
      own A x = let o = entry_raised v number (greatest_of v + 1) num in time_known (raised v number (greatest_of v + 1)) (record { time = greatest_of v + 1; site = number }, x) (omega (arith, o))

      by : (t : Bool) → same_key q key ≡ t → knows_record (raised v number (greatest_of v + 1)) (map' q) ≡ true
      by true t = ap (knows_record (raised v number (greatest_of v + 1))) (map_at_key q t)
          ∙ (λ i. Rattle.std.specs.Prelude.not (Rattle.std.specs.Prelude.◌||◌ (own Body body i) (own ℕ expiry i)))
      by false t = ap (knows_record (raised v number (greatest_of v + 1))) (map_elsewhere q t) ∙ knows_more v (raised v number (greatest_of v + 1)) rises (map q) (cov q)

  pub write_named : Settled map' held'
  write_named q b h = by (same_key q key) refl
    where
      by : (t : Bool) → same_key q key ≡ t → names (version_in (map' q)) b ≡ true
      by true t = ap (λ r. names (version_in r) b) (map_at_key q t)
          ∙ puts.named (record { time = greatest_of v + 1; site = number }) b (sym (new_held q ∙ ap (λ t. cond t put (held q)) t) ∙ h)
      by false t = ap (λ r. names (version_in r) b) (map_elsewhere q t) ∙ nam q b (sym (new_held q ∙ ap (λ t. cond t put (held q)) t) ∙ h)

  pub write_map : (stock : Stock) (q : List ℕ) → map' q ≡ map_after (record { vector = v; floor = f; map = map; stock = stock }) (next_operation (greatest_of v) number act) q
  write_map stock q =
      let st : Moment = record { time = greatest_of v + 1; site = number } in
      new q ∙ by (same_key q key) ∙ (λ i. above_both (sym (floor_none f) i) (record_joined (map q) (sym (puts.registers q st) i)))
      ∙ ap (λ g. above_both (floor_joined f g) (record_joined (map q) (body_of q (record { stamp = st; act = act }), expiry_of q (record { stamp = st; act = act })))) (sym (puts.no_flush st))
    where
      by : (t : Bool) → cond {A = Record} t (above_both f (record_joined (map q) (Some (record { time = greatest_of v + 1; site = number }, body), Some (record { time = greatest_of v + 1; site = number }, expiry)))) (map q)
          ≡ above_both f (record_joined (map q) (cond {A = Record} t (Some (record { time = greatest_of v + 1; site = number }, body), Some (record { time = greatest_of v + 1; site = number }, expiry)) (None, None)))
      by true = refl
      by false = sym (norm q) ∙ ap (above_both f) (sym (joined_none (map q)))

  pub write_same : (s t : Stock) → stocks.Same (settled (map_after (record { vector = v; floor = f; map = map; stock = s }) (next_operation (greatest_of v) number act)) (act_stock act s)) t
      → Same (issue number act (record { vector = v; floor = f; map = map; stock = s })) (record { vector = raised v number (greatest_of v + 1); floor = f'; map = map'; stock = t })
  write_same s t same = record {
    vector = refl;
    floor = same_floor ∙ sym (floor_none f) ∙ ap (floor_joined f) (sym (puts.no_flush (record { time = greatest_of v + 1; site = number })));
    map = write_map s;
    stock = same;
  }

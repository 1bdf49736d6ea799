-- What a flush leaves: nothing that was written before it, and all is known still.
use Rattle.std.proofs.Common.{◌≡◌, ℕ, ℤ, ◌+◌, ◌≤◌, Bool, true, false, true≢false, cond, inl, inr, not, nat_le, List, [], ◌∷◌, Option, None, Some, refl, sym, ap, ◌∙◌, arith}
use Rattle.std.proofs.lemmas.Bool.Decides.{nat_tests}
use Rattle.geo_stamp.specs.Stamps.{Moment}
use Rattle.geo_stamp.specs.Vectors.{entry_of, greatest_of, raised}
use Rattle.geo_records.specs.Operations.{Act, Record, above_both, record_joined, floor_joined, version_in}
use Rattle.geo_records.specs.Operations.Act.{Flush}
use Rattle.geo_site.specs.Entries.{Held, named_by, flushes_now, flush_acts, is_done}
use Rattle.geo_site.specs.declared.site.Site.{Site}
use Rattle.geo_site.specs.Sites.{FirstVictimFits, HasIssuedAfter, IssuesAs}
use Rattle.geo_requests.specs.declared.reply.Reply.{Reply}
use Rattle.geo_requests.specs.declared.reply.Reply.TheVariants.{Done}
use Rattle.geo_values.specs.Stock.{Stock}
use Rattle.geo_values.specs.Stock as stocks
use Rattle.geo_site.proofs.Stocking.{stock_kept}
use Rattle.geo_site.specs.Machine.{settled, Same, issue, Covers, Settled, knows_record, knows_floor}
use Rattle.geo_site.proofs.Entries.{Within, entry_raised, entry_rises}
use Rattle.geo_site.proofs.Named.{named_some}
use Rattle.geo_site.proofs.Writing.{knows_joined, knows_floors, knows_more, knows_floor_more}
use Rattle.geo_records.proofs.Above.{joined_none}

-- a record of which nothing new is known
pub knows_above : (v : List ℕ) (f : Option Moment) (r : Record) → knows_record v r ≡ true → knows_record v (above_both f r) ≡ true
knows_above v f r h = ap (λ x. knows_record v (above_both f x)) (sym (joined_none r)) ∙ knows_joined v f r (None, None) h refl

-- a floor of the site's own next stamp is known once its clock is raised
knows_own : (v : List ℕ) (number : ℕ) → Within v number → knows_floor (raised v number (greatest_of v + 1)) (Some (record { time = greatest_of v + 1; site = number })) ≡ true
knows_own v number num =
    let own = entry_raised v number (greatest_of v + 1) num in
    let le : nat_le (greatest_of v + 1) (entry_of (raised v number (greatest_of v + 1)) number) ≡ true = grind (arith, nat_tests, own) in
    ap (λ t. not (not t)) le

module _ (v : List ℕ) (f f' : Option Moment) (map map' : List ℕ → Record) (held held' : Held) (number : ℕ)
    (kf : knows_floor v f ≡ true) (cov : Covers v map) (num : Within v number)
    (floor : f' ≡ floor_joined f (Some (record { time = greatest_of v + 1; site = number })))
    (new : (q : List ℕ) → map' q ≡ above_both f' (map q))
    (kept : (q : List ℕ) → held' q ≡ named_by (version_in (map' q)) (held q)) where
  rises : (j : ℕ) → entry_of v j ≤ entry_of (raised v number (greatest_of v + 1)) j
  rises j = entry_rises v number (greatest_of v + 1) j num

  pub flush_floor : knows_floor (raised v number (greatest_of v + 1)) f' ≡ true
  flush_floor = ap (knows_floor (raised v number (greatest_of v + 1))) floor
      ∙ knows_floors (raised v number (greatest_of v + 1)) f (Some (record { time = greatest_of v + 1; site = number })) (knows_floor_more v (raised v number (greatest_of v + 1)) rises f kf) (knows_own v number num)

  pub flush_covers : Covers (raised v number (greatest_of v + 1)) map'
  flush_covers q = ap (knows_record (raised v number (greatest_of v + 1))) (new q)
      ∙ knows_above (raised v number (greatest_of v + 1)) f' (map q) (knows_more v (raised v number (greatest_of v + 1)) rises (map q) (cov q))

  pub flush_named : Settled map' held'
  flush_named q b h = (named_some (version_in (map' q)) (held q) b (sym (kept q) ∙ h)).1

  pub flush_map : (q : List ℕ) → map' q ≡ above_both (floor_joined f (Some (record { time = greatest_of v + 1; site = number }))) (record_joined (map q) (None, None))
  flush_map q = new q ∙ (λ i. above_both (floor i) (sym (joined_none (map q)) i))

  pub flush_same : (s t : Stock) → stocks.Same (settled map' s) t → Same (issue number Flush (record { vector = v; floor = f; map = map; stock = s })) (record { vector = raised v number (greatest_of v + 1); floor = f'; map = map'; stock = t })
  flush_same s t same = record {
    vector = refl;
    floor = floor;
    map = flush_map;
    stock = stock_kept map' _ s t flush_map same;
  }

-- ---- a flush_all that is carried out
pub flush_done : (old new : Site) (now : ℕ) (delay : ℤ) (said : Reply) → IssuesAs [] old new (flush_acts delay now) Done said → is_done said ≡ true → HasIssuedAfter [] old new (flush_acts delay now)
flush_done old new now delay said does t = elim does [ inl d ↦ d.2 | inr d ↦ absurd (true≢false (sym t ∙ ap is_done d.0)) ]

pub flush_fits : (site : Site) (now : ℕ) (delay : ℤ) → FirstVictimFits site (flush_acts delay now)
flush_fits site now delay = by (flushes_now delay now)
  where
    by : (t : Bool) → FirstVictimFits site (cond {A = List Act} t (Flush ∷ []) [])
    by true = tt
    by false = tt

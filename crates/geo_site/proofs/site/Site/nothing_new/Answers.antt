use Rattle.std.proofs.Common.{rules, ◌≡◌, ◌∙◌, ℕ, List, [], None, length, ap, sym, refl, subst}
use Rattle.std.specs.List.{All}
use Rattle.geo_delta.specs.Ranges.{sites_fit}
use Rattle.geo_stamp.specs.Retired.{set_fits}
use Rattle.geo_versions.specs.Maps.{Rec, Rising, rec_means, listed_at, since, record_in}
use Rattle.geo_site.specs.Machine.{knows_floor, knows_record}
use Rattle.geo_site.proofs.Sending.{left_out, other_fits}
use Rattle.geo_site.proofs.site.Site.nothing_new.Goals as goal

pub stays_in_range-requires : goal.stays_in_range-requires
stays_in_range-requires c =
    let s = c.args.self.now in
    let other = c.requires.other in
    let base = ap length (c.copied.ensures ∙ c.requires.row) ∙ s.rows.many c.args.to other.0 other.1 in
    let empty : c.of.result ≡ [] = c.of.ensures ∙ c.new.ensures.items in
    record {
      sites = (λ i. sites_fit s.number c.args.to (base i)) ∙ other_fits (length s.vector) s.number c.args.to s.numbered.0 s.numbered.1 s.numbered.2 other.0 other.1 other.2;
      vectors = ap length c.copied-2.ensures ∙ sym base;
      floor_known = (λ i. knows_floor (c.copied-2.ensures i) (c.floor.ensures i)) ∙ s.floor_known;
      records_known = λ q. ap (λ es. knows_record c.copied-2.result (listed_at es q)) empty;
      retired = (λ i. set_fits (base i) (c.retired.ensures i)) ∙ s.rows.fits;
      filled = subst (All (λ (e : List ℕ × Rec). rec_means e.1 ≡ (None, None) → ⊥)) (sym empty) (search rules);
      rising = subst Rising (sym empty) (search rules);
    }

pub returns : goal.returns
returns c =
    let s = c.args.self.now in
    let base = c.copied.ensures ∙ c.requires.row in
    let empty : c.of.result ≡ [] = c.of.ensures ∙ c.new.ensures.items in
    record {
      sender = refl;
      addressee = refl;
      base = base;
      upto = c.copied-2.ensures;
      retired = c.retired.ensures;
      floor = c.floor.ensures;
      rising = subst Rising (sym empty) (search rules);
      filled = subst (All (λ (e : List ℕ × Rec). rec_means e.1 ≡ (None, None) → ⊥)) (sym empty) (search rules);
      records = λ q. ap (λ es. listed_at es q) empty ∙ sym (ap (λ b. since b (record_in s.versions q)) (sym c.requires.row) ∙ left_out s.vector c.args.base.now (record_in s.versions q) c.requires.known (s.covered q));
      ranges = c.stays_in_range.ensures;
    }

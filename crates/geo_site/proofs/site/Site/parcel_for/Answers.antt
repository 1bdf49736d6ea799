use Rattle.std.proofs.Common.{◌≤◌, ◌∙◌, ap, arith, length, sym}
use Rattle.geo_delta.specs.Ranges.{sites_fit}
use Rattle.geo_stamp.specs.Retired.{is_in, set_fits}
use Rattle.geo_versions.specs.Maps.{since, record_in}
use Rattle.geo_site.specs.Machine.{knows_floor, knows_record}
use Rattle.geo_site.proofs.Sending.{other_fits, told_known}
use Rattle.geo_site.proofs.site.Site.parcel_for.Goals as goal

pub nothing_new-requires-clause-other : goal.nothing_new-requires-clause-other
nothing_new-requires-clause-other c =
    let n = c.sites-sites.ensures.sites in
    (let a = c.if-to-eq0.false in omega arith, let b = c.if-to-sites.false in omega (arith, n), c.if-to-self.false)

pub stays_in_range-requires : goal.stays_in_range-requires
stays_in_range-requires c =
    let s = c.args.self.now in
    let to = c.args.to in
    let e = c.in-Ok.ensures in
    let n = c.sites-sites.ensures.sites in
    let first : 1 ≤ to = (let a = c.if-to-eq0.false in omega arith) in
    let last : to ≤ length s.vector = (let b = c.if-to-sites.false in omega (arith, n)) in
    let row = s.rows.many to first last in
    let base = ap length (e.vectors.0 ∙ c.row-base.ensures) ∙ row in
    record {
      sites = (λ i. sites_fit (e.sites.0 i) (e.sites.1 i) (base i)) ∙ other_fits (length s.vector) s.number to s.numbered.0 s.numbered.1 s.numbered.2 first last c.if-to-self.false;
      vectors = ap length e.vectors.1 ∙ sym base;
      floor_known = (λ i. knows_floor (e.vectors.1 i) (e.floor i)) ∙ s.floor_known;
      records_known = λ q. (λ i. knows_record (e.vectors.1 i) (e.delta q i)) ∙ told_known s.vector c.row-base.result.now (record_in s.versions q) (s.covered q);
      retired = (λ i. set_fits (base i) ((e.retired ∙ c.retired-2.ensures) i)) ∙ s.rows.fits;
      filled = e.filled;
      rising = e.rising;
    }

pub returns-in-Ok : goal.returns-in-Ok
returns-in-Ok c =
    let e = c.in-Ok.ensures in
    let n = c.sites-sites.ensures.sites in
    let row = c.row-base.ensures in (
      (let a = c.if-to-eq0.false in omega arith, let b = c.if-to-sites.false in omega (arith, n), c.if-to-self.false),
      ap (λ set. is_in set c.args.to) (sym c.retired.ensures) ∙ sym c.has.ensures ∙ c.if-has.false,
      record {
        sender = e.sites.0;
        addressee = e.sites.1;
        base = e.vectors.0 ∙ row;
        upto = e.vectors.1;
        retired = e.retired ∙ c.retired-2.ensures;
        floor = e.floor;
        rising = e.rising;
        filled = e.filled;
        records = λ q. e.delta q ∙ ap (λ b. since b (record_in c.args.self.now.versions q)) row;
        ranges = c.stays_in_range.ensures;
      },
    )

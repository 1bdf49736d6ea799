use Rattle.std.proofs.Common.{◌≤◌, length, not, refl, ap, ◌∙◌, arith}
use Rattle.geo_stamp.specs.Acks.{Heard, retires, looked}
use Rattle.geo_stamp.specs.Retired.{is_in}
use Rattle.geo_site.proofs.Rows.{rows_looked, rows_retired}
use Rattle.geo_site.proofs.Stocking.{stock_same}
use Rattle.geo_site.proofs.site.Site.hold_for_gone.Goals as goal

pub invariant_of-self : goal.invariant_of-self
invariant_of-self c =
    let s = c.args.self.now in
    let n = length s.vector in
    let last : c.args.other ≤ n = (let b = c.if-other-sites.false in omega (arith, c.sites-sites.ensures.sites)) in
    let before = rows_looked n s.number s.heard c.look.new.self s.vector c.look.ensures s.rows in
    let added = rows_retired n c.args.other c.look.new.self c.retire-is_new.new.self last c.retire-is_new.ensures.retired before in
    record {
      numbered = s.numbered;
      rows = rows_looked n s.number c.retire-is_new.new.self c.look-2.new.self s.vector c.look-2.ensures added;
      floor_known = s.floor_known;
      covered = s.covered;
      traced = s.traced;
      ends = s.ends;
      named = s.named;
    }

pub returns-clause-does : goal.returns-clause-does
returns-clause-does c =
    let s = c.args.self.now in
    let other = c.args.other in (
      (let a = c.if-other-eq0.false in omega arith, let b = c.if-other-sites.false in omega (arith, c.sites-sites.ensures.sites), c.if-other-self.false),
      c.retire-is_new.ensures.told ∙ ap (λ (h : Heard). not (is_in h.set other)) c.look.ensures,
      record { vector = refl; floor = refl; map = λ _. refl; stock = stock_same _ },
      c.look-2.ensures ∙ (λ i. looked ((c.retire-is_new.ensures.retired ∙ ap (λ (h : Heard). retires h other) c.look.ensures) i) s.number s.vector),
    )

use Rattle.std.proofs.Common.{◌≡◌, ◌+◌, ◌<◌, ◌&&◌, not, Bool, [], length, ℕ, arith, sym, ◌∙◌, ap, get_or}
use Rattle.std.proofs.SliceLists.{any-default}
use Rattle.geo_stamp.specs.Vectors.{entry_of}
use Rattle.geo_stamp.specs.Retired.{is_in}
use Rattle.geo_stamp.specs.Acks.{Heard, least_of_sites, least_of_row, row_of, with_own}
use Rattle.geo_stamp.proofs.Heard.{row_more, with_own_here, with_own_elsewhere}
use Rattle.geo_stamp.proofs.Least.{least_kept, least_left}
use Rattle.geo_stamp.proofs.acks.Acks.least.Goals.{then-not-has, then-site-own, else-site-own, else-not-has}
use Rattle.geo_stamp.proofs.acks.Acks.least.Goals as goal

pub loop-at-preserved : goal.loop-at-preserved
loop-at-preserved c =
    let h = c.args.self.now in
    let v = c.args.vector.now in
    let own = c.args.own in
    let at = c.loop-at.at in
    let keep : ℕ → Bool = λ t. not (is_in h.set t) in
    let row : ℕ → ℕ = least_of_row c.args.leave h own v in
    let set = ap (λ (h : Heard). h.set) c.self.view_is in
    let fits : at < 16 = omega (arith, c.loop-at-test.true, c.sites-sites.ensures.most) in
    let long : at < length h.rows = omega (arith, fits, ap (λ (h : Heard). length h.rows) c.self.view_is, c.self.invariant.rows_many) in
    let here = c.has.ensures ∙ ap (λ s. is_in s (at + 1)) set in
    elim c.if-not-has.branch [
      | then-not-has w ↦
          let known : w.if-site-own.known.now ≡ row_of (with_own h.rows own v) (at + 1) = elim w.if-site-own.branch [
            | then-site-own x ↦ ap (λ b. b.now) x.known-is ∙ sym (with_own_here h.rows own v at x.if-site-own.true long) ∙ sym (row_more (with_own h.rows own v) at)
            | else-site-own x ↦ ap (λ b. b.now) x.known-is ∙ any-default c.self.inside.rows at x.index-self-at.result [] (omega (arith, fits, c.self.invariant.rows_many))
                ∙ ap (λ (h : Heard). get_or h.rows at []) c.self.view_is ∙ sym (with_own_elsewhere h.rows own v at x.if-site-own.false) ∙ sym (row_more (with_own h.rows own v) at)
          ] in
          let least : w.least_in.result ≡ row (at + 1) = w.least_in.ensures.least ∙ (λ i. least_of_sites (c.sites-sites.ensures.sites i) (λ j. not (c.args.leave && is_in (set i) j)) (entry_of (known i))) in
          let more = least_kept at keep row (ap not (sym here ∙ w.if-not-has.true)) in
          record { is = omega (arith, more, least, w.least-is, w.min-least.ensures, c.loop-at.invariant.is); range = omega (arith, w.least-is, w.min-least.ensures, c.loop-at.invariant.range) }
      | else-not-has w ↦
          let more = least_left at keep row (ap not (sym here ∙ w.if-not-has.false)) in
          record { is = omega (arith, more, w.least-is, c.loop-at.invariant.is); range = omega (arith, w.least-is, c.loop-at.invariant.range) }
    ]

pub returns-clause-least : goal.returns-clause-least
returns-clause-least c =
    let h = c.args.self.now in
    let v = c.args.vector.now in
    let all : c.loop-at.at ≡ length v = omega (arith, c.loop-at-test.false, c.loop-at.auto.at-end, c.sites-sites.ensures.sites) in
    c.loop-at.invariant.is ∙ ap (λ n. least_of_sites n (λ t. not (is_in h.set t)) (least_of_row c.args.leave h c.args.own v)) all

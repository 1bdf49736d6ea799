use Rattle.std.proofs.Common.{◌≡◌, ℕ, max, cond, not, false, arith, sym, ◌∙◌, ap}
use Rattle.geo_stamp.specs.Retired.{is_in}
use Rattle.geo_stamp.specs.Acks.{Heard, agrees, horizon_by}
use Rattle.geo_stamp.proofs.Least.{none_left}
use Rattle.geo_stamp.proofs.acks.Acks.horizon.Goals.{then-not-is_empty, else-not-is_empty}
use Rattle.geo_stamp.proofs.acks.Acks.horizon.Goals as goal

pub returns : goal.returns
returns c =
    let h = c.args.self.now in
    let own = c.args.own in
    let v = c.args.vector.now in
    let set = ap (λ (h : Heard). h.set) c.self.view_is in
    let outside : is_in h.set own ≡ false = ap (λ s. is_in s own) (sym set) ∙ sym c.has.ensures ∙ c.if-has.false in
    let by : horizon_by c.if-not-is_empty.leave h own v ≡ horizon_by (agrees h own v) h own v = elim c.if-not-is_empty.branch [
      | then-not-is_empty w ↦ ap (λ b. horizon_by b h own v) (w.leave-is ∙ w.agrees-leave.ensures)
      | else-not-is_empty w ↦ ap (λ b. horizon_by b h own v) (w.leave-is ∙ ap not w.if-not-is_empty.false)
          ∙ sym (none_left h own v (agrees h own v) (λ site. ap (λ s. is_in s site) (sym set) ∙ c.is_empty.ensures.0 w.if-not-is_empty.false site))
    ] in
    let now : ℕ = max h.reached (horizon_by (agrees h own v) h own v) in
    let reached = ap (λ (h : Heard). h.reached) c.self.view_is in
    record {
      horizon = c.max.ensures ∙ (λ i. max (reached i) ((c.least.ensures.least ∙ by) i)) ∙ sym (ap (λ b. cond b h.reached now) outside);
      range = omega (arith, c.max.ensures, c.least.ensures.range, c.self.invariant.range);
    }

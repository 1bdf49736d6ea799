use Rattle.std.proofs.Common.{◌≡◌, true, arith, sym, subst}
use Rattle.geo_stamp.specs.Retired.{set_fits}
use Rattle.geo_audit.proofs.opening.is_untold.Goals as goal

pub returns-then-not-names_none : goal.returns-then-not-names_none
returns-then-not-names_none c = λ h. c.if-not-names_none.ensures
    (subst (λ set. set_fits 0 set ≡ true) (sym c.told.ensures) (h c.loop-at.at (omega arith) (omega arith)))

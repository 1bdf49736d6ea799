use Rattle.std.proofs.Common.{sym, length, ap, ◌∙◌, ◌+◌}
use Rattle.std.specs.Prelude.{nat_le}
use Rattle.geo_stamp.specs.Stamps.{last_time}
use Rattle.geo_site.specs.Machine.{visible_in}
use Rattle.geo_site.specs.Sites.{state_in, clock_in, touched_in}
use Rattle.geo_site.proofs.Fetching.{touched_at_most, fewer}
use Rattle.geo_site.proofs.site.Site.can_touch.Goals as goal

pub returns-then-has_stamps-clause-left : goal.returns-then-has_stamps-clause-left
returns-then-has_stamps-clause-left c = λ numbers.
    let most = touched_at_most c.args.now c.args.expiry numbers (visible_in (state_in c.args.self.now) c.args.now) c.args.keys.now in
    let left = c.if-has_stamps.ensures.left in
    sym (fewer (clock_in c.args.self.now) (length (touched_in c.args.self.now c.args.now c.args.expiry c.args.keys.now numbers)) (length c.args.keys.now) most (sym left))

pub returns-clause-left : goal.returns-clause-left
returns-clause-left c = λ numbers. c.has_stamps-2.ensures.left ∙ ap (λ n. nat_le (clock_in c.args.self.now + n) last_time) (c.touch_count.ensures numbers)

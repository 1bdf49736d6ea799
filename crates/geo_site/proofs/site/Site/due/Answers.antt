use Rattle.std.proofs.Common.{◌≡◌, ◌+◌, ◌∙◌, sym, arith}
use Rattle.geo_records.specs.Operations.{version_in}
use Rattle.geo_site.specs.Sites.{state_in}
use Rattle.geo_versions.specs.Maps.{record_in}
use Rattle.geo_site.proofs.Ending.{early_kept}
use Rattle.geo_site.proofs.Reaping.{ended_reapable, matched}
use Rattle.geo_site.proofs.site.Site.due.Goals as goal

pub returns : goal.returns
returns c =
    let s = c.args.self.now in
    let before = c.in_ok-before.before in
    let le = c.in_ok-before.ensures.0 in
    let is = c.in_ok-before.ensures.1 in
    let moment : before + s.limits.reap_after ≡ c.args.now = omega (arith, le, is) in
    matched c.ended.result
    (λ h q. sym (ended_reapable s.number s.limits.reap_after before c.args.now (version_in ((state_in s).map q)) moment) ∙ h q)
    (λ key h. sym (ended_reapable s.number s.limits.reap_after before c.args.now (version_in ((state_in s).map key.now)) moment) ∙ h)
    c.ended.ensures

pub returns-then-before-self : goal.returns-then-before-self
returns-then-before-self c = λ q.
    let s = c.args.self.now in
    let le = c.in_ok-before.ensures.0 in
    let is = c.in_ok-before.ensures.1 in
    let moment : c.in_ok-before.before + s.limits.reap_after ≡ c.args.now = omega (arith, le, is) in
    early_kept s.earliest c.in_ok-before.before s.limits.reap_after c.args.now s.number (record_in s.versions) s.ends c.if-before-self.true moment q

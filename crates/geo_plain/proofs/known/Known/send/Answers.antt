use Rattle.std.proofs.Common.{◌-◌, ℕ, List, length, arith, sym, ap, ◌∙◌, subst, ◌++◌, ◌∷◌, []}
use Rattle.geo_plain.specs.declared.known.Sending.{Sending}
use Rattle.geo_plain.specs.declared.operation.Operation.{Operation}
use Rattle.geo_plain.specs.Plain.{Meets}
use Rattle.geo_world.proofs.Worlds.{there_is, read_is}
use Rattle.geo_plain.proofs.Meeting.{meets_sent}
use Rattle.geo_plain.proofs.known.Known.send.Goals as goal

pub returns-clause-kept : goal.returns-clause-kept
returns-clause-kept c = λ w meets.
    let there = there_is (length c.args.self.now.sites.items) c.args.site c.requires.there in
    let lo = there.first in
    let hi = there.last in
    let got = read_is c.args.self.now.sites.items (c.args.site - 1) c.index-at.result.now (omega arith) c.index-at.ensures in
    let old = c.index-at.result.now in
    let told : List Operation → Sending = λ ops. record { from = c.args.site; to = c.args.to; retired = old.retired; ops = ops } in
    subst (λ (sent : List Sending). Meets c.args.self.now.sites.items sent (record { at = w.at; held = w.held; counts = w.counts; waiting = w.waiting; limits = w.limits; sets = w.sets; sites = w.sites; sent = w.sent ++ record { from = c.args.site; to = c.args.to; set = w.sets c.args.site; ops = w.at c.args.site } ∷ [] })) (sym c.in_ok-push.ensures.items)
    (meets_sent c.args.self.now.sites.items c.args.self.now.sent.items w meets (c.args.site - 1) c.args.site (omega arith) old got c.args.to (told c.in_ok-ops.ops) (ap told (c.in_ok-ops.ensures ∙ c.as_slice.ensures.value)))

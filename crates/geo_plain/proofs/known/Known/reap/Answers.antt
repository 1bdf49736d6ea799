use Rattle.std.proofs.Common.{◌≡◌, ◌-◌, Bool, true, false, cond, ℕ, List, [], ◌∷◌, length, sym, ap, ◌∙◌, subst, arith}
use Rattle.geo_records.specs.Operations.{Act, version_of}
use Rattle.geo_records.specs.Operations.Act.{Delete}
use Rattle.geo_site.specs.Entries.{is_reapable}
use Rattle.geo_world.specs.Schedule.{issues, reaps_on}
use Rattle.geo_plain.specs.Plain.{Meets}
use Rattle.geo_world.proofs.Worlds.{there_is, read_is}
use Rattle.geo_plain.proofs.Requesting.{adds_same}
use Rattle.geo_plain.proofs.known.Known.reap.Goals as goal

pub returns-then-not-is_to_reap-clause-adds : goal.returns-then-not-is_to_reap-clause-adds
returns-then-not-is_to_reap-clause-adds c = λ w meets.
    let there = there_is (length c.args.self.now.sites.items) c.args.site c.requires.there in
    let lo = there.first in
    let hi = there.last in
    let sites = c.args.self.now.sites.items in
    let at = c.index.result.now in
    let got = read_is sites (c.args.site - 1) at (omega arith) c.index.ensures in
    let kept = meets.reaps (c.args.site - 1) c.args.site at (omega arith) got in
    let known = (meets.each (c.args.site - 1) c.args.site at (omega arith) got).operations in
    let no : is_reapable c.args.site (w.limits c.args.site).reap_after c.args.now (version_of (w.at c.args.site) c.args.key.now) ≡ false = (λ i. is_reapable c.args.site (sym kept i) c.args.now (version_of (sym known i) c.args.key.now)) ∙ sym c.if-not-is_to_reap.ensures in
    subst (λ (b : Bool). Meets sites c.args.self.now.sent.items (issues w c.args.site (cond {A = List Act} b (Delete c.args.key.now ∷ []) []))) (sym no) meets

pub returns-clause-adds : goal.returns-clause-adds
returns-clause-adds c =
    let there = there_is (length c.args.self.now.sites.items) c.args.site c.requires.there in
    let lo = there.first in
    let hi = there.last in
    let sites = c.args.self.now.sites.items in
    let at = c.index.result.now in
    let got = read_is sites (c.args.site - 1) at (omega arith) c.index.ensures in
    adds_same c.args.self.now c.issue.new.self c.args.site (λ w. Delete c.in_ok-key.key ∷ []) (λ w. reaps_on w c.args.site c.args.now c.args.key.now)
    (λ w meets.
    let kept = meets.reaps (c.args.site - 1) c.args.site at (omega arith) got in
    let known = (meets.each (c.args.site - 1) c.args.site at (omega arith) got).operations in
    let yes : is_reapable c.args.site (w.limits c.args.site).reap_after c.args.now (version_of (w.at c.args.site) c.args.key.now) ≡ true = (λ i. is_reapable c.args.site (sym kept i) c.args.now (version_of (sym known i) c.args.key.now)) ∙ sym c.if-not-is_to_reap.ensures in
    ap (λ (key : List ℕ). Delete key ∷ []) c.in_ok-key.ensures ∙ ap (λ (b : Bool). cond {A = List Act} b (Delete c.args.key.now ∷ []) []) (sym yes))
    c.issue.result c.issue.ensures.adds

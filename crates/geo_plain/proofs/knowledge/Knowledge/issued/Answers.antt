use Rattle.std.proofs.Common.{◌≡◌, Bool, true, List, sym, ap, ◌∙◌, subst}
use Rattle.std.specs.Prelude.{IfOk}
use Rattle.geo_records.specs.Operations.{Act as ActOf}
use Rattle.geo_requests.specs.Requests.{is_of_one_key, is_noreply}
use Rattle.geo_memcache.specs.Asks.{request_of}
use Rattle.geo_site.specs.Entries.{issued}
use Rattle.geo_site.specs.Changes.{is_change}
use Rattle.geo_site.proofs.Acting.{one_changes}
use Rattle.geo_plain.specs.Plain.{acts_of, shown}
use Rattle.geo_plain.proofs.Requesting.{one_issued}
use Rattle.geo_plain.proofs.knowledge.Knowledge.issued.Goals as goal

pub returns-in-Some : goal.returns-in-Some
returns-in-Some c =
    let now = c.args.now in
    let seen = shown c.args.self.now now in
    let noreply : Bool = is_noreply c.args.request.now in
    let asked : c.args.request.now ≡ request_of c.in-Some.key.now c.in-Some.ask noreply = c.in-Some.ensures.asks in
    let change : is_change c.in-Some.ask ≡ true = one_changes c.in-Some.key.now c.in-Some.ask noreply (ap is_of_one_key (sym asked) ∙ sym c.in-Some.ensures.one_key) in
    subst (λ (issues : List ActOf). IfOk c.asked.result (λ acts. acts_of acts.items ≡ issues)) (one_issued now seen c.in-Some.key.now c.in-Some.ask noreply change ∙ ap (issued now seen) (sym asked)) c.asked.ensures

use Rattle.std.proofs.Common.{ℕ, Option, List, sym, ap, subst}
use Rattle.std.specs.Prelude.{IfOk}
use Rattle.std.specs.Option.{option_copied}
use Rattle.geo_site.specs.Entries.{evicted_on}
use Rattle.geo_world.specs.Schedule.{Known, counts_keys, lets_go}
use Rattle.geo_plain.specs.Plain.{Meets}
use Rattle.geo_plain.proofs.Meeting.{still_there}
use Rattle.geo_plain.proofs.known.Known.let_go.Goals as goal

pub returns-in-None-clause-kept : goal.returns-in-None-clause-kept
returns-in-None-clause-kept c = λ w meets.
    let old = c.args.self.now in
    let s = c.args.site in
    subst (λ (victim : Option (List ℕ)). Meets old.sites.items old.sent.items (counts_keys (lets_go w s victim) s (evicted_on victim (w.counts s)))) (sym (ap option_copied c.in-None.is)) (still_there old.sites.items old.sent.items w s meets)

pub returns-in-Some-clause-kept : goal.returns-in-Some-clause-kept
returns-in-Some-clause-kept c =
    let old = c.args.self.now in
    let new = c.evict.new.self in
    let s = c.args.site in
    subst (λ (victim : Option (List ℕ)). IfOk c.evict.result (λ _. (w : Known) → Meets old.sites.items old.sent.items w → Meets new.sites.items new.sent.items (counts_keys (lets_go w s victim) s (evicted_on victim (w.counts s))))) (sym (ap option_copied c.in-Some.is)) c.evict.ensures.kept

use Rattle.std.proofs.Common.{◌≡◌, refl, sym, ap, ◌∙◌, subst}
use Rattle.std.proofs.lemmas.Grind.{merely}
use Rattle.geo_site.specs.declared.setup.Setup.{Setup}
use Rattle.geo_history.specs.declared.history.Opening.{Opening}
use Rattle.geo_site.specs.Standings.{Describes, nothing_yet, who_of}
use Rattle.geo_history.proofs.Keeps.{describes_none, counted_none, keeps_none}
use Rattle.geo_history.proofs.kept.Kept.opened.Goals as goal

pub invariant_of-result : goal.invariant_of-result
invariant_of-result c =
    let site = c.in_ok-site.site in
    let opening : Opening = record { era = 0; state = c.empty.result; counts = c.new-3.result } in
    let own : c.copied-own.result ≡ c.args.setup = c.copied-own.ensures in
    let opens : Describes opening.state (nothing_yet c.args.setup.sites) = subst (λ (s : Setup). Describes opening.state (nothing_yet s.sites)) own (describes_none opening.state c.copied-own.result.sites c.empty.ensures) in
    let e = c.in_ok-site.ensures in
    record {
      kept = merely (keeps_none site opening c.in-Ok-new.steps.items c.args.setup.sites c.args.setup.pages opens c.in-Ok-new.ensures.items e.9 e.8 e.7 e.6);
      counted = counted_none opening c.in-Ok-new.steps.items c.in-Ok.counts.items c.new-3.ensures.items c.in-Ok-new.ensures.items c.in-Ok.ensures;
      who = (λ i. record { number = e.4 i; limits = e.5 i }) ∙ ap who_of (sym own);
    }

pub returns-clause-opens : goal.returns-clause-opens
returns-clause-opens c =
    let opening : Opening = record { era = 0; state = c.empty.result; counts = c.new-3.result } in
    let own : c.copied-own.result ≡ c.args.setup = c.copied-own.ensures in
    let opens : Describes opening.state (nothing_yet c.args.setup.sites) = subst (λ (s : Setup). Describes opening.state (nothing_yet s.sites)) own (describes_none opening.state c.copied-own.result.sites c.empty.ensures) in
    record {
      site = c.in_ok-site.ensures;
      era = refl;
      state = opens;
      counts = λ seat i. Rattle.std.specs.Prelude.slice_index_or (c.new-3.ensures.items i) seat 0;
      steps = c.in-Ok-new.ensures.items;
    }

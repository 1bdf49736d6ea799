use Rattle.std.proofs.Common.{◌∙◌, ◌+◌, ◌≡◌, sym, subst, take, List, ℕ, arith}
use Rattle.std.specs.Prelude.{option_copied}
use Rattle.geo_versions.specs.Maps.{keys_in}
use Rattle.geo_site.specs.Sites.{state_in}
use Rattle.geo_site.specs.Fills.{is_sought}
use Rattle.geo_site.proofs.Missing.{missing_recorded}
use Rattle.geo_site.proofs.Gathered.{Gathered, Among, gathers_at, gathered_all}
use Rattle.geo_site.proofs.site.Site.first_missing.Goals as goal

pub note_missing-requires-clause-few : goal.note_missing-requires-clause-few
note_missing-requires-clause-few c = c.loop-at.invariant.found.few

pub note_missing-requires-clause-rises : goal.note_missing-requires-clause-rises
note_missing-requires-clause-rises c = c.loop-at.invariant.found.rises

pub loop-at-preserved : goal.loop-at-preserved
loop-at-preserved c =
    let test = is_sought (state_in c.args.self.now) c.args.now (option_copied c.args.after) in
    let keys = keys_in c.args.self.now.versions in
    let at = c.loop-at.at in
    let lt = c.loop-at-test.true in
    let all = c.loop-at.invariant.all in
    record {
      found = subst (λ (x : List (List ℕ)). Gathered test c.args.most (λ q. Among q (take (at + 1) keys)) x) (sym c.in_ok-note_missing.ensures)
          (gathers_at test c.args.most keys c.loop-at.found.items at c.len-at-end.ensures.apart (omega (arith, lt, all)) c.loop-at.invariant.found);
      all = all;
    }

pub returns : goal.returns
returns c =
    let st = state_in c.args.self.now in
    let past = c.loop-at-test.false in
    let all = c.loop-at.invariant.all in
    gathered_all st c.args.now (option_copied c.args.after) c.args.most (keys_in c.args.self.now.versions) c.loop-at.found.items c.loop-at.at
    (λ q is. c.len-at-end.ensures.kept q ∙ missing_recorded (st.map q) c.args.now (st.stock.held q) st.stock is) (omega (arith, past, all)) c.loop-at.invariant.found

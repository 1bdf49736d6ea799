use Rattle.std.proofs.Common.{Bool, true, false, refl, sym, subst, ◌∙◌}
use Rattle.std.proofs.lemmas.Result.{err_from_is_err_and}
use Rattle.geo_values.specs.Stock.{IsAdmitted}
use Rattle.geo_values.specs.Held.{stock_in}
use Rattle.geo_versions.specs.Maps.{record_in}
use Rattle.geo_site.specs.Sites.{state_in}
use Rattle.geo_site.proofs.Filling.{came_here, settled_admitted, done_told, full_up_told, refused_told, fill_refused}
use Rattle.geo_site.proofs.site.Site.admit.Goals as goal

pub invariant_of-self : goal.invariant_of-self
invariant_of-self c =
    let s = c.args.self.now in
    record {
      numbered = s.numbered;
      rows = s.rows;
      floor_known = s.floor_known;
      covered = s.covered;
      traced = s.traced;
      ends = s.ends;
      named = settled_admitted (record_in s.versions) (stock_in s.values) (stock_in c.admit.new.self) c.args.key.now c.args.blob.now c.admit.result
          (sym c.if-not-names_offered.ensures.told) s.named c.admit.ensures.admitted c.admit.ensures.unchanged;
    }

pub returns-in_err-admit-clause-does : goal.returns-in_err-admit-clause-does
returns-in_err-admit-clause-does c =
    let s = c.args.self.now in
    let p = err_from_is_err_and c.from_residual.result c.from_residual.ensures.1 in
    fill_refused s _ c.args.key.now c.args.blob.now c.from_residual.result p.0 p.1
    (refused_told (state_in s) c.args.key.now c.args.blob.now (stock_in c.admit.new.self) (sym c.if-not-names_offered.ensures.told) (sym c.if-holds.ensures) c.in_err-admit.ensures.room)
    (record { vector = refl; floor = refl; map = λ q. refl; stock = c.in_err-admit.ensures.unchanged }) (refl, refl) (refl, refl, refl)

pub returns-then-branch-clause-does : goal.returns-then-branch-clause-does
returns-then-branch-clause-does c =
    let s = c.args.self.now in
    let stock = stock_in c.admit.new.self in
    let h : IsAdmitted (stock_in s.values) stock c.args.key.now c.args.blob.now true = subst (λ (done : Bool). IsAdmitted (stock_in s.values) stock c.args.key.now c.args.blob.now done) c.if-branch.true c.in_ok-admit.ensures.admitted in
    let told = done_told (state_in s) c.args.key.now c.args.blob.now stock (sym c.if-not-names_offered.ensures.told) (sym c.if-holds.ensures) h in
    record {
      does = (told.0, record { vector = refl; floor = refl; map = λ q. refl; stock = told.1 });
      rests = (refl, refl);
      stays = (refl, refl, refl);
    }

pub returns-then-branch-clause-shows : goal.returns-then-branch-clause-shows
returns-then-branch-clause-shows c = λ done.
    let s = c.args.self.now in
    let stock = stock_in c.admit.new.self in
    let h : IsAdmitted (stock_in s.values) stock c.args.key.now c.args.blob.now true = subst (λ (done : Bool). IsAdmitted (stock_in s.values) stock c.args.key.now c.args.blob.now done) c.if-branch.true c.in_ok-admit.ensures.admitted in
    let told = done_told (state_in s) c.args.key.now c.args.blob.now stock (sym c.if-not-names_offered.ensures.told) (sym c.if-holds.ensures) h in
    (told.1.held c.args.key.now ∙ came_here c.args.key.now c.args.blob.now (stock_in s.values), sym c.if-not-names_offered.ensures.told)

pub returns-else-branch-clause-does : goal.returns-else-branch-clause-does
returns-else-branch-clause-does c =
    let s = c.args.self.now in
    let stock = stock_in c.admit.new.self in
    let h : IsAdmitted (stock_in s.values) stock c.args.key.now c.args.blob.now false = subst (λ (done : Bool). IsAdmitted (stock_in s.values) stock c.args.key.now c.args.blob.now done) c.if-branch.false c.in_ok-admit.ensures.admitted in
    let told = full_up_told (state_in s) c.args.key.now c.args.blob.now stock (sym c.if-not-names_offered.ensures.told) (sym c.if-holds.ensures) h in
    record {
      does = (told.0, record { vector = refl; floor = refl; map = λ q. refl; stock = told.1 });
      rests = (refl, refl);
      stays = (refl, refl, refl);
    }

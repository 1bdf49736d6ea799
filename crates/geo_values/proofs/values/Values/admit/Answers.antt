use Rattle.std.proofs.Common.{◌≡◌, ◌∙◌, ℕ, List, true, false, not, length, refl, sym, ap, subst}
use Rattle.geo_slabs.specs.Storage.{IsClassOf}
use Rattle.geo_lru.proofs.Calls.{if_refused}
use Rattle.geo_values.specs.Stock.{is_full}
use Rattle.geo_values.specs.Held.{stock_in}
use Rattle.geo_values.specs.Links.{Kept, links_in}
use Rattle.geo_values.proofs.Admitted.{full-told}
use Rattle.geo_values.proofs.values.Values.admit.Goals as goal

pub returns-then-is_full-clause-admitted : goal.returns-then-is_full-clause-admitted
returns-then-is_full-clause-admitted c =
    let class = c.class_of-its_class.result in
    let fits : IsClassOf (length c.args.blob.now) class = subst (λ (x : List ℕ). IsClassOf (length x) class) c.bytes.ensures c.class_of-its_class.ensures in
    let told : c.is_full.result ≡ is_full (stock_in c.args.self.now) class = subst (λ (k : Kept). c.is_full.result ≡ is_full (stock_in k) class) c.self.view_is
    (full-told (links_in c.self.inside.parts) c.self.invariant.1 class fits.0 c.is_full.result c.is_full.ensures.full c.is_full.ensures.room) in
    record {
      class = class;
      fits = fits;
      told = sym (ap not (sym told ∙ c.if-is_full.true));
      admitted = record { held = λ q. refl; lists = λ k. refl; pages = λ k. refl; spare = refl };
    }

pub admit_in-requires-clause-not_full : goal.admit_in-requires-clause-not_full
admit_in-requires-clause-not_full c =
    let class = c.class_of-its_class.result in
    let fits : IsClassOf (length c.args.blob.now) class = subst (λ (x : List ℕ). IsClassOf (length x) class) c.bytes.ensures c.class_of-its_class.ensures in
    let told : c.is_full.result ≡ is_full (stock_in c.args.self.now) class = subst (λ (k : Kept). c.is_full.result ≡ is_full (stock_in k) class) c.self.view_is
    (full-told (links_in c.self.inside.parts) c.self.invariant.1 class fits.0 c.is_full.result c.is_full.ensures.full c.is_full.ensures.room) in
    sym told ∙ c.if-is_full.false

pub returns-in_err-admit_in-clause-room : goal.returns-in_err-admit_in-clause-room
returns-in_err-admit_in-clause-room c =
    let class = c.class_of-its_class.result in
    let fits : IsClassOf (length c.args.blob.now) class = subst (λ (x : List ℕ). IsClassOf (length x) class) c.bytes.ensures c.class_of-its_class.ensures in
    let told : c.is_full.result ≡ is_full (stock_in c.args.self.now) class = subst (λ (k : Kept). c.is_full.result ≡ is_full (stock_in k) class) c.self.view_is
    (full-told (links_in c.self.inside.parts) c.self.invariant.1 class fits.0 c.is_full.result c.is_full.ensures.full c.is_full.ensures.room) in
    if_refused c.from_residual.result _ (record { class = class; fits = fits; told = sym (sym told ∙ c.if-is_full.false) })

pub returns-clause-admitted : goal.returns-clause-admitted
returns-clause-admitted c =
    let class = c.class_of-its_class.result in
    let fits : IsClassOf (length c.args.blob.now) class = subst (λ (x : List ℕ). IsClassOf (length x) class) c.bytes.ensures c.class_of-its_class.ensures in
    let told : c.is_full.result ≡ is_full (stock_in c.args.self.now) class = subst (λ (k : Kept). c.is_full.result ≡ is_full (stock_in k) class) c.self.view_is
    (full-told (links_in c.self.inside.parts) c.self.invariant.1 class fits.0 c.is_full.result c.is_full.ensures.full c.is_full.ensures.room) in
    record { class = class; fits = fits; told = sym (ap not (sym told ∙ c.if-is_full.false)); admitted = c.in_ok-admit_in.ensures.admitted }

use Rattle.std.proofs.Common.{◌≡◌, ℕ, Bool, List, length, None, OnErr, IfOk, subst}
use Rattle.geo_slabs.specs.Storage.{IsClassOf}
use Rattle.geo_lru.proofs.Calls.{if_refused}
use Rattle.geo_values.specs.Stock.{Same, IsStored, IsNotInHot}
use Rattle.geo_values.specs.Held.{stock_in}
use Rattle.geo_values.specs.Links.{Kept, Links, links_of, links_in, stock_of}
use Rattle.geo_values.specs.Steps.{RenewsIf}
use Rattle.geo_values.proofs.Relisted.{linked-same}
use Rattle.geo_values.proofs.Waiting.{same_links}
use Rattle.geo_values.proofs.Renewed.{linked-renewed, stored-renewed}
use Rattle.geo_values.proofs.Standing.{stock-not_hot}
use Rattle.geo_values.proofs.values.Values.store.Goals as goal

pub invariant_of-self : goal.invariant_of-self
invariant_of-self c = (c.in_err-renewed.ensures.classes, linked-same c.in_err-renewed.ensures.unchanged c.self.invariant.1)

pub returns-in_err-renewed-clause-not_hot : goal.returns-in_err-renewed-clause-not_hot
returns-in_err-renewed-clause-not_hot c =
    let fits : IsClassOf (length c.args.blob.now) c.class_of-class.result = subst (λ (x : List ℕ). IsClassOf (length x) c.class_of-class.result) c.bytes.ensures c.class_of-class.ensures in
    if_refused c.from_residual.result _
    (subst (λ (k : Kept). IsNotInHot (stock_of (links_of k)) c.args.key.now (length c.args.blob.now)) c.self.view_is
    (stock-not_hot c.self.invariant.1 c.args.key.now (length c.args.blob.now) c.class_of-class.result fits c.in_err-renewed.ensures.not_hot))

pub invariant_of-self-then-renewed : goal.invariant_of-self-then-renewed
invariant_of-self-then-renewed c =
    let fits : IsClassOf (length c.args.blob.now) c.class_of-class.result = subst (λ (x : List ℕ). IsClassOf (length x) c.class_of-class.result) c.bytes.ensures c.class_of-class.ensures in
    let r = subst (λ (b : Bool). RenewsIf b (links_in c.self.inside.parts) (links_in c.renew.new.self) c.args.key.now c.class_of-class.result c.args.blob.now) c.if-renewed.true c.in_ok-renewed.ensures.renews in
    (c.in_ok-renewed.ensures.classes, linked-renewed c.self.invariant.1 c.args.key.now c.class_of-class.result c.args.blob.now fits r)

pub returns-then-renewed-clause-stored : goal.returns-then-renewed-clause-stored
returns-then-renewed-clause-stored c =
    let fits : IsClassOf (length c.args.blob.now) c.class_of-class.result = subst (λ (x : List ℕ). IsClassOf (length x) c.class_of-class.result) c.bytes.ensures c.class_of-class.ensures in
    let r = subst (λ (b : Bool). RenewsIf b (links_in c.self.inside.parts) (links_in c.renew.new.self) c.args.key.now c.class_of-class.result c.args.blob.now) c.if-renewed.true c.in_ok-renewed.ensures.renews in
    subst (λ (k : Kept). IsStored (stock_of (links_of k)) (stock_of (links_in c.renew.new.self)) c.args.key.now c.args.blob.now None) c.self.view_is
    (stored-renewed c.self.invariant.1 c.args.key.now c.class_of-class.result c.args.blob.now fits r)

pub invariant_of-self-2 : goal.invariant_of-self-2
invariant_of-self-2 c =
    let f = subst (λ (b : Bool). RenewsIf b (links_in c.self.inside.parts) (links_in c.renew.new.self) c.args.key.now c.class_of-class.result c.args.blob.now) c.if-renewed.false c.in_ok-renewed.ensures.renews in
    (c.in_ok-renewed.ensures.classes, linked-same f.1 c.self.invariant.1)

pub returns-clause-stored : goal.returns-clause-stored
returns-clause-stored c =
    let f = subst (λ (b : Bool). RenewsIf b (links_in c.self.inside.parts) (links_in c.renew.new.self) c.args.key.now c.class_of-class.result c.args.blob.now) c.if-renewed.false c.in_ok-renewed.ensures.renews in
    let same : links_in c.renew.new.self ≡ links_in c.self.inside.parts = same_links f.1 in
    subst (λ (k : Kept). IfOk c.store_anew.result (λ evicted. IsStored (stock_of (links_of k)) (stock_in c.store_anew.new.self) c.args.key.now c.args.blob.now evicted)) c.self.view_is
    (subst (λ (l : Links). IfOk c.store_anew.result (λ evicted. IsStored (stock_of l) (stock_in c.store_anew.new.self) c.args.key.now c.args.blob.now evicted)) same c.store_anew.ensures.stored)

pub returns-clause-unchanged : goal.returns-clause-unchanged
returns-clause-unchanged c =
    let f = subst (λ (b : Bool). RenewsIf b (links_in c.self.inside.parts) (links_in c.renew.new.self) c.args.key.now c.class_of-class.result c.args.blob.now) c.if-renewed.false c.in_ok-renewed.ensures.renews in
    let same : links_in c.renew.new.self ≡ links_in c.self.inside.parts = same_links f.1 in
    subst (λ (k : Kept). OnErr c.store_anew.result (Same (stock_of (links_of k)) (stock_in c.store_anew.new.self))) c.self.view_is
    (subst (λ (l : Links). OnErr c.store_anew.result (Same (stock_of l) (stock_in c.store_anew.new.self))) same c.store_anew.ensures.unchanged)

pub returns-clause-not_hot : goal.returns-clause-not_hot
returns-clause-not_hot c =
    let fits : IsClassOf (length c.args.blob.now) c.class_of-class.result = subst (λ (x : List ℕ). IsClassOf (length x) c.class_of-class.result) c.bytes.ensures c.class_of-class.ensures in
    let f = subst (λ (b : Bool). RenewsIf b (links_in c.self.inside.parts) (links_in c.renew.new.self) c.args.key.now c.class_of-class.result c.args.blob.now) c.if-renewed.false c.in_ok-renewed.ensures.renews in
    if_refused c.store_anew.result _
    (subst (λ (k : Kept). IsNotInHot (stock_of (links_of k)) c.args.key.now (length c.args.blob.now)) c.self.view_is
    (stock-not_hot c.self.invariant.1 c.args.key.now (length c.args.blob.now) c.class_of-class.result fits (λ item is same. absurd (f.0 item is same))))

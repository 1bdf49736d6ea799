use Rattle.std.proofs.Common.{◌≡◌, ◌∷◌, ◌++◌, [], Bool, cond, ℕ, List, ◌-◌, length, take, drop, sym, ap, ◌∙◌, subst}
use Rattle.std.specs.Prelude.{IfOk}
use Rattle.geo_records.specs.Operations.{Act as ActOf}
use Rattle.geo_records.specs.Operations.Act.{Touch}
use Rattle.geo_site.specs.Entries.{touched_after, touches_of}
use Rattle.geo_plain.specs.Plain.{acts_of, shown}
use Rattle.geo_plain.proofs.Touching.{first_of, touched, untouched, touches_more}
use Rattle.geo_plain.proofs.knowledge.Knowledge.+add_touches.Goals.{then-is_touched+in_ok-key-in-len1-up+in_ok-push-in-len1-up, else-is_touched}
use Rattle.geo_plain.proofs.knowledge.Knowledge.+add_touches.Goals as goal

pub returns-in_ok-push-in-len1-up-2 : goal.returns-in_ok-push-in-len1-up-2
returns-in_ok-push-in-len1-up-2 n c =
    let now = c.args.now in
    let expiry = c.args.expiry in
    let seen = shown c.args.self.now now in
    let old = acts_of c.args.acts.now.items in
    let mid = acts_of c.if-is_touched.acts.items in
    let before = c.args.before.now.items in
    let key = c.key-item.result in
    let rest = take (length c.args.keys.now - 1) (drop 1 c.args.keys.now) in
    let all = first_of c.args.keys.now key c.in-len1-up.len_at_least c.key-item.is in
    let first : mid ≡ old ++ cond {A = List ActOf} c.is_touched.result (Touch key expiry ∷ []) [] = elim c.if-is_touched.branch [
      | then-is_touched+in_ok-key-in-len1-up+in_ok-push-in-len1-up w ↦ touched c.args.acts.now.items c.if-is_touched.acts.items w.in_ok-key-in-len1-up.key key expiry c.is_touched.result w.if-is_touched.true (ap (λ v. v.items) w.acts-is ∙ w.in_ok-push-in-len1-up.ensures.items) w.in_ok-key-in-len1-up.ensures
      | else-is_touched w ↦ untouched c.args.acts.now.items c.if-is_touched.acts.items key expiry c.is_touched.result w.if-is_touched.false (ap (λ v. v.items) w.acts-is)
    ] in
    subst (λ (keys : List (List ℕ)). IfOk c.add_touches.result (λ _. (numbers : Bool) → acts_of c.add_touches.new.acts.items ≡ old ++ touches_of expiry (touched_after now expiry numbers seen before keys))) (sym all)
    (touches_more now expiry seen old mid (acts_of c.add_touches.new.acts.items) (cond {A = List ActOf} c.is_touched.result (Touch key expiry ∷ []) []) before c.as_slice.result.now c.push-in-len1-up.new.self.items c.in_ok-twin-in-len1-up.field-0 key rest
    c.as_slice.ensures.value c.in_ok-push-in-len1-up-2.ensures.items c.in_ok-twin-in-len1-up.ensures c.is_touched.ensures first c.add_touches.result c.add_touches.ensures)

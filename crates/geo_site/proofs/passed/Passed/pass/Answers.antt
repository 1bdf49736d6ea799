use Rattle.std.proofs.Common.{◌≡◌, ℕ, List, not, IsSome, ◌∙◌, ap, refl, subst, Bool, true, false, cond}
use Rattle.std.specs.Prelude.{MatchOption}
use Rattle.std.specs.List.{list_any}
use Rattle.geo_records.specs.Keys.{same_key}
use Rattle.geo_site.proofs.Passing.{passed_more}
use Rattle.geo_site.proofs.passed.Passed.pass.Goals as goal

not_not : (t : Bool) → not (not t) ≡ t
not_not true = refl
not_not false = refl

pub returns-in-Ok : goal.returns-in-Ok
returns-in-Ok c = λ visible passed there.
    let held = subst (λ keys. MatchOption keys (Unit {0}) (λ keys. (q : List ℕ) → IsSome (visible q) → list_any (λ k. same_key q k.now) keys.keys ≡ list_any (same_key q) c.args.before.now)) c.in-Some.is (c.count_found.ensures visible passed) in (
      ap not c.in-Ok.ensures.added ∙ not_not (list_any (λ k. same_key c.args.key.now k.now) c.in-Some.keys.keys) ∙ held c.args.key.now there,
      λ q seen.
          c.in-Ok.ensures.updates.0 (record { ref_ptr = c.args.key.ref_ptr; now = q })
          ∙ ap (cond (same_key c.args.key.now q) true) (held q seen)
          ∙ passed_more c.args.before.now c.args.key.now q,
    )

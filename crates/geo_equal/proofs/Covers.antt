-- Two vectors of which each covers the other are one, and so are two sets.
use Rattle.std.proofs.Common.{◌≡◌, ◌≢◌, ◌↔◌, MatchBool, IsTrue, ℕ, Bool, true, false, List, refl, sym, ◌∙◌, subst, true≢false}
use Rattle.geo_stamp.specs.Vectors.{vector_joined}
use Rattle.geo_stamp.specs.Retired.{set_joined}
use Rattle.geo_stamp.specs.Unions.{sets_comm, sets_same}
use Rattle.geo_laws.proofs.Joins.{joined_comm, joined_same}

pub covers_both : (a b : List ℕ) (s : Bool) → vector_joined a b ≡ a → (IsTrue s ↔ (vector_joined b a ≡ b)) → MatchBool s (a ≡ b) (a ≢ b)
covers_both a b true first tells = sym first ∙ joined_comm a b ∙ tells.0 refl
covers_both a b false first tells = λ e. true≢false (sym (tells.1 (subst (λ v. vector_joined b v ≡ b) (sym e) (joined_same b))))

pub covers_not : (a b : List ℕ) (r : Bool) → r ≡ false → (IsTrue r ↔ (vector_joined a b ≡ a)) → MatchBool r (a ≡ b) (a ≢ b)
covers_not a b true f tells = absurd (true≢false f)
covers_not a b false f tells = λ e. true≢false (sym (tells.1 (subst (λ v. vector_joined a v ≡ a) e (joined_same a))))

pub sets_both : (a b : List Bool) (s : Bool) → set_joined a b ≡ a → (IsTrue s ↔ (set_joined b a ≡ b)) → MatchBool s (a ≡ b) (a ≢ b)
sets_both a b true first tells = sym first ∙ sets_comm a b ∙ tells.0 refl
sets_both a b false first tells = λ e. true≢false (sym (tells.1 (subst (λ v. set_joined b v ≡ b) (sym e) (sets_same b))))

pub sets_not : (a b : List Bool) (r : Bool) → r ≡ false → (IsTrue r ↔ (set_joined a b ≡ a)) → MatchBool r (a ≡ b) (a ≢ b)
sets_not a b true f tells = absurd (true≢false f)
sets_not a b false f tells = λ e. true≢false (sym (tells.1 (subst (λ v. set_joined a v ≡ a) e (sets_same a))))

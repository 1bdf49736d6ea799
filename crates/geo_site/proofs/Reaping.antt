-- What a reap does, case by case.
use Rattle.std.proofs.Common.{◌≡◌, ℕ, ◌+◌, ◌≤◌, ◌<◌, Bool, true, false, cond, not, ◌&&◌, ◌==◌, nat_lt, List, [], ◌∷◌, Option, None, Some, refl, sym, ap, ◌∙◌, subst, arith, true≢false}
use Rattle.std.specs.Prelude.{Ok, Err, MatchOption}
use Rattle.std.proofs.lemmas.Bool.Decides.{nat_tests}
use Rattle.geo_versions.specs.Maps.{has_ended}
use Rattle.geo_records.specs.declared.version.Version.{Version}
use Rattle.geo_stamp.specs.Stamps.{last_time}
use Rattle.geo_records.specs.Operations.{Act, Record, version_in}
use Rattle.geo_records.specs.Operations.Act.{Delete}
use Rattle.geo_site.specs.declared.site.Site.{Site}
use Rattle.geo_site.specs.declared.refusal.ReapError.TheVariants.{ClockEnded}
use Rattle.geo_site.specs.Entries.{lacks, is_reapable}
use Rattle.geo_site.specs.Sites.{state_in, clock_in, limits_of, HasIssued, to_reap, ReapResult}
use Rattle.geo_site.specs.Changes.{HasRecord}
use Rattle.geo_site.proofs.Acting.{later, ended, unchanged}

module _ (old new : Site) (now : ℕ) (key : List ℕ) where
  pub reaps_nothing : to_reap old now key ≡ false → ReapResult old old now key (Ok false)
  reaps_nothing e = (
    sym e,
    ap (λ t. lacks (clock_in old) (cond {A = List Act} t (Delete key ∷ []) [])) e,
    subst (λ t. HasIssued old old (cond {A = List Act} t (Delete key ∷ []) [])) (sym e) (unchanged (state_in old)),
  )

  pub reaps_not : to_reap old now key ≡ true → last_time < clock_in old + 1 → ReapResult old old now key (Err ClockEnded)
  reaps_not e none = (ap (λ t. lacks (clock_in old) (cond {A = List Act} t (Delete key ∷ []) [])) e ∙ ended (clock_in old) none, unchanged (state_in old))

  pub reaps : to_reap old now key ≡ true → clock_in old + 1 ≤ last_time → HasIssued old new (Delete key ∷ []) → ReapResult old new now key (Ok true)
  reaps e left issued = (
    sym e,
    ap (λ t. lacks (clock_in old) (cond {A = List Act} t (Delete key ∷ []) [])) e ∙ later (clock_in old) left,
    subst (λ t. HasIssued old new (cond {A = List Act} t (Delete key ∷ []) [])) (sym e) issued,
  )

  pub reaped_recorded : to_reap old now key ≡ true → HasRecord old key
  reaped_recorded e none = true≢false (sym e ∙ ap (λ (r : Record). is_reapable old.number (limits_of old).reap_after now (version_in r)) none)

-- ---- what is due
less_moved : (e reap before now : ℕ) → before + reap ≡ now → nat_lt (e + reap) now ≡ nat_lt e before
less_moved e reap before now is = by (nat_lt (e + reap) now) (nat_lt e before) refl refl
  where
    by : (t u : Bool) → nat_lt (e + reap) now ≡ t → nat_lt e before ≡ u → t ≡ u
    by true true p q = refl
    by false false p q = refl
    by true false p q = absurd (grind (arith, nat_tests))
    by false true p q = absurd (grind (arith, nat_tests))

three : (a b c : Bool) → a && (b && c) ≡ a && b && c
three true b c = refl
three false b c = refl

pub ended_reapable : (number reap before now : ℕ) (v : Option Version) → before + reap ≡ now → has_ended number before v ≡ is_reapable number reap now v
ended_reapable number reap before now None is = refl
ended_reapable number reap before now (Some v) is = (λ i. (v.stamp.site == number) && (not (v.expiry == 0) && sym (less_moved v.expiry reap before now is) i))
    ∙ three (v.stamp.site == number) (not (v.expiry == 0)) (nat_lt (v.expiry + reap) now)

pub early_reapable : (number reap now : ℕ) (v : Option Version) → now < reap → is_reapable number reap now v ≡ false
early_reapable number reap now None lt = refl
early_reapable number reap now (Some v) lt = (λ i. (v.stamp.site == number) && not (v.expiry == 0) && later_end v.expiry i) ∙ none_of (v.stamp.site == number) (not (v.expiry == 0))
  where
    later_end : (e : ℕ) → nat_lt (e + reap) now ≡ false
    later_end e = grind (arith, nat_tests)

    none_of : (a b : Bool) → a && b && false ≡ false
    none_of true true = refl
    none_of true false = refl
    none_of false b = refl

pub matched : {A : Type 0} (o : Option A) {M N : Type 0} {S T : A → Type 0} → (M → N) → ((x : A) → S x → T x) → MatchOption o M S → MatchOption o N T
matched None f g h = f h
matched (Some x) f g h = g x h

-- A flush that waits, and whether its moment has come.
use Rattle.std.proofs.Common.{◌≡◌, ℕ, ◌+◌, ◌≤◌, ◌<◌, Bool, true, false, cond, not, ◌&&◌, List, [], ◌∷◌, Option, None, refl, sym, ap, ◌∙◌, subst}
use Rattle.geo_stamp.specs.Stamps.{last_time}
use Rattle.geo_records.specs.Operations.{Act}
use Rattle.geo_records.specs.Operations.Act.{Flush}
use Rattle.geo_site.specs.declared.site.Site.{Site}
use Rattle.geo_site.specs.Entries.{lacks, is_due, flushes_due, is_stuck, waits_on}
use Rattle.geo_site.specs.Sites.{state_in, clock_in, waiting_in, counts_in, HasIssued, Stays, FlushDoes}
use Rattle.geo_site.proofs.Acting.{later, ended, unchanged}

module _ (waiting : Option ℕ) (clock now : ℕ) where
  pub flushes_where : is_due waiting now ≡ true → clock + 1 ≤ last_time → flushes_due waiting clock now ≡ true
  flushes_where due left = λ i. due i && not (later clock left i)

  pub stays_where : is_due waiting now ≡ true → last_time < clock + 1 → flushes_due waiting clock now ≡ false
  stays_where due none = λ i. due i && not (ended clock none i)

  pub stuck_where : is_due waiting now ≡ true → last_time < clock + 1 → is_stuck waiting clock now ≡ true
  stuck_where due none = λ i. due i && ended clock none i

  pub stays_early : is_due waiting now ≡ false → flushes_due waiting clock now ≡ false
  stays_early due = ap (λ t. t && not (lacks clock (Flush ∷ []))) due

  pub free_early : is_due waiting now ≡ false → is_stuck waiting clock now ≡ false
  free_early due = ap (λ t. t && lacks clock (Flush ∷ [])) due

  pub free_where : clock + 1 ≤ last_time → is_stuck waiting clock now ≡ false
  free_where left = by (is_due waiting now)
    where
      by : (t : Bool) → t && lacks clock (Flush ∷ []) ≡ false
      by true = later clock left
      by false = refl

module _ (old new : Site) (now : ℕ) where
  pub flush_carried : flushes_due (waiting_in old) (clock_in old) now ≡ true → HasIssued old new (Flush ∷ []) → waiting_in new ≡ None → counts_in new ≡ counts_in old → Stays old new → FlushDoes old new now
  flush_carried e issued none counts stays = record {
    issued = subst (λ t. HasIssued old new (cond {A = List Act} t (Flush ∷ []) [])) (sym e) issued;
    waiting = none ∙ ap (λ t. cond t None (waiting_in old)) (sym e);
    counts = counts;
    stays = stays;
  }

pub flush_kept : (old : Site) (now : ℕ) → flushes_due (waiting_in old) (clock_in old) now ≡ false → FlushDoes old old now
flush_kept old now e = record {
  issued = subst (λ t. HasIssued old old (cond {A = List Act} t (Flush ∷ []) [])) (sym e) (unchanged (state_in old));
  waiting = ap (λ t. cond t None (waiting_in old)) (sym e);
  counts = refl;
  stays = (refl, refl, refl);
}

-- after a tick a flush is due exactly where no stamp was left for it
pub due_after : (waiting : Option ℕ) (clock now : ℕ) → is_due (waits_on waiting clock now) now ≡ is_stuck waiting clock now
due_after waiting clock now = by (is_due waiting now) (lacks clock (Flush ∷ [])) refl
  where
    by : (d l : Bool) → is_due waiting now ≡ d → is_due (cond (d && not l) None waiting) now ≡ d && l
    by true true e = e
    by true false e = refl
    by false l e = e

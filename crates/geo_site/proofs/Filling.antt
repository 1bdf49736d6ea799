-- Bytes that come to a site whose version of their key names them.
use Rattle.std.proofs.Common.{◌≡◌, ℕ, Bool, true, false, cond, not, List, length, Option, Some, Result, Ok, Err, refl, sym, ap, ◌∙◌, subst}
use Rattle.std.specs.Prelude.{is_some, IfOk, OnErr}
use Rattle.std.specs.declared.alloc.AllocError.{AllocError}
use Rattle.geo_records.specs.Keys.{same_key}
use Rattle.geo_records.specs.Operations.{Record, version_in}
use Rattle.geo_values.specs.Stock.{Stock, is_full, is_used_up, with_chunk, with_page_of, arrived, IsAdmitted, TellsFull}
use Rattle.geo_values.specs.Stock as stocks
use Rattle.geo_values.proofs.Linked.{same_keys, same_self}
use Rattle.geo_site.specs.Entries.{names}
use Rattle.geo_site.specs.Machine.{SiteState, Same, Settled, class_for}
use Rattle.geo_site.specs.declared.fill.Filled.{Filled}
use Rattle.geo_site.specs.declared.fill.Filled.TheVariants.{Full, Done}
use Rattle.geo_site.specs.declared.site.Site.{Site}
use Rattle.geo_site.specs.Sites.{state_in, Rests, Stays}
use Rattle.geo_site.specs.Fills.{came, filled_by, filled_in, FillsAs, FillDoes}
use Rattle.geo_site.proofs.Stocking.{class_is}

chunk_held : (class : ℕ) (s : Stock) (q : List ℕ) → (with_chunk class s).held q ≡ s.held q
chunk_held class s q = by (is_used_up s class)
  where
    by : (t : Bool) → (cond {A = Stock} t (with_page_of class s) s).held q ≡ s.held q
    by true = refl
    by false = refl

-- what is held once they came: they are, and all else is as it was
pub came_held : (key bytes : List ℕ) (s : Stock) (q : List ℕ) → (came key bytes s).held q ≡ cond {A = Option (List ℕ)} (same_key q key) (Some bytes) (s.held q)
came_held key bytes s q = ap (cond {A = Option (List ℕ)} (same_key q key) (Some bytes)) (chunk_held (class_for (length bytes)) s q)

pub came_here : (key bytes : List ℕ) (s : Stock) → (came key bytes s).held key ≡ Some bytes
came_here key bytes s = ap (λ t. cond {A = Option (List ℕ)} t (Some bytes) ((with_chunk (class_for (length bytes)) s).held key)) (same_self key)

-- all is named that is held
pub settled_came : (map : List ℕ → Record) (key bytes : List ℕ) (s : Stock) → Settled map s.held → names (version_in (map key)) bytes ≡ true → Settled map (came key bytes s).held
settled_came map key bytes s settled named q b h = by (same_key q key) refl (sym (came_held key bytes s q) ∙ h)
  where
    by : (t : Bool) → same_key q key ≡ t → cond {A = Option (List ℕ)} t (Some bytes) (s.held q) ≡ Some b → names (version_in (map q)) b ≡ true
    by true e is = let same : bytes ≡ b = cc in subst (λ k. names (version_in (map k)) b ≡ true) (sym (same_keys q key e)) (subst (λ x. names (version_in (map key)) x ≡ true) same named)
    by false e is = settled q b is

-- what was admitted came, and where it was not the class is full
pub admitted_is : (old new : Stock) (key bytes : List ℕ) → IsAdmitted old new key bytes true → stocks.Same (came key bytes old) new
admitted_is old new key bytes h = subst (λ c. stocks.Same (arrived key bytes c (with_chunk c old)) new) (class_is (length bytes) h.class h.fits) h.admitted

pub admitted_told : (old new : Stock) (key bytes : List ℕ) (done : Bool) → IsAdmitted old new key bytes done → is_full old (class_for (length bytes)) ≡ not done
admitted_told old new key bytes done h = sym (twice (is_full old (class_for (length bytes)))) ∙ ap not (ap (λ c. not (is_full old c)) (sym (class_is (length bytes) h.class h.fits)) ∙ sym h.told)
  where
    twice : (t : Bool) → not (not t) ≡ t
    twice true = refl
    twice false = refl

pub full_told : (s : Stock) (bytes : ℕ) (full : Bool) → TellsFull s bytes full → full ≡ is_full s (class_for bytes)
full_told s bytes full h = h.told ∙ ap (is_full s) (class_is bytes h.class h.fits)

-- what comes of them by the site's state is what may come by what it names and holds
pub fills_as : (named held full : Bool) (filled : Filled) → filled ≡ filled_by named held full → FillsAs named held filled
fills_as false held full filled is = subst (λ (f : Filled). FillsAs false held f) (sym is) refl
fills_as true true full filled is = subst (λ (f : Filled). FillsAs true true f) (sym is) (refl, refl)
fills_as true false true filled is = subst (λ (f : Filled). FillsAs true false f) (sym is) (refl, refl)
fills_as true false false filled is = subst (λ (f : Filled). FillsAs true false f) (sym is) (refl, refl)

-- what is told where they are named and nothing is held
is_done : (named held full : Bool) → named ≡ true → held ≡ false → full ≡ false → Done ≡ filled_by named held full
is_done named held full n h f = sym (ap (λ t. filled_by t held full) n ∙ ap (λ t. filled_by true t full) h ∙ ap (λ t. filled_by true false t) f)

is_full_up : (named held full : Bool) → named ≡ true → held ≡ false → full ≡ true → Full ≡ filled_by named held full
is_full_up named held full n h f = sym (ap (λ t. filled_by t held full) n ∙ ap (λ t. filled_by true t full) h ∙ ap (λ t. filled_by true false t) f)

module _ (st : SiteState) (key bytes : List ℕ) (new : Stock) (named : names (version_in (st.map key)) bytes ≡ true) (not_held : is_some (st.stock.held key) ≡ false) where
  pub done_told : IsAdmitted st.stock new key bytes true → (Done ≡ filled_in st key bytes) × stocks.Same (came key bytes st.stock) new
  done_told h = (
    is_done (names (version_in (st.map key)) bytes) (is_some (st.stock.held key)) (is_full st.stock (class_for (length bytes))) named not_held (admitted_told st.stock new key bytes true h),
    admitted_is st.stock new key bytes h,
  )

  pub full_up_told : IsAdmitted st.stock new key bytes false → (Full ≡ filled_in st key bytes) × stocks.Same st.stock new
  full_up_told h = (
    is_full_up (names (version_in (st.map key)) bytes) (is_some (st.stock.held key)) (is_full st.stock (class_for (length bytes))) named not_held (admitted_told st.stock new key bytes false h),
    h.admitted,
  )

  pub refused_told : TellsFull st.stock (length bytes) false → filled_in st key bytes ≡ Done
  refused_told h = sym (is_done (names (version_in (st.map key)) bytes) (is_some (st.stock.held key)) (is_full st.stock (class_for (length bytes))) named not_held (sym (full_told st.stock (length bytes) false h)))

-- whatever came of them, all is named that is held
settled_same : (map : List ℕ → Record) (s t : Stock) → stocks.Same s t → Settled map s.held → Settled map t.held
settled_same map s t same settled q b h = settled q b (sym (same.held q) ∙ h)

pub settled_admitted : (map : List ℕ → Record) (s t : Stock) (key bytes : List ℕ) (result : Result Bool AllocError) → names (version_in (map key)) bytes ≡ true → Settled map s.held → IfOk result (λ done. IsAdmitted s t key bytes done) → OnErr result (stocks.Same s t) → Settled map t.held
settled_admitted map s t key bytes (Ok true) named settled h u = settled_same map (came key bytes s) t (admitted_is s t key bytes h) (settled_came map key bytes s settled named)
settled_admitted map s t key bytes (Ok false) named settled h u = settled_same map s t h.admitted settled
settled_admitted map s t key bytes (Err e) named settled h u = settled_same map s t u settled

pub fill_refused : (old new : Site) (key bytes : List ℕ) (result : Result Filled AllocError) (e : AllocError) → result ≡ Err e → filled_in (state_in old) key bytes ≡ Done → Same (state_in old) (state_in new) → Rests old new → Stays old new → FillDoes old new key bytes result
fill_refused old new key bytes result e is told same rests stays = subst (λ (r : Result Filled AllocError). FillDoes old new key bytes r) (sym is) (record { does = (told, same); rests = rests; stays = stays })

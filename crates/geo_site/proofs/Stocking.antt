-- Stocks and states that are one, and what settles of a stock.
use Rattle.std.proofs.Common.{◌≡◌, ℕ, suc, zero, ◌+◌, ◌≤◌, ◌<◌, Bool, true, false, cond, ◌&&◌, nat_le, nat_eq, List, [], ◌∷◌, length, filter, Option, None, Some, refl, sym, ap, ◌∙◌, subst, subst₂, arith, inl, inr, ◌++◌}
use Rattle.std.specs.Prelude.{IfSome}
use Rattle.std.proofs.lemmas.Bool.{cases_eq}
use Rattle.std.proofs.lemmas.Bool.Decides.{nat_tests}
use Rattle.geo_slabs.specs.Storage.{chunk_bytes, IsClassOf}
use Rattle.geo_records.specs.Keys.{same_key}
use Rattle.geo_records.specs.Operations.{Act, Record, version_in}
use Rattle.geo_records.specs.Operations.Act.{Write, Delete, Touch, Flush}
use Rattle.geo_records.specs.declared.version.Version.{Version}
use Rattle.geo_lru.specs.Rules.{victim_of}
use Rattle.geo_lru.specs.declared.access.Access.{Access}
use Rattle.geo_values.specs.Stock.{Stock, dropped, evicted_from, is_used_up, is_full, with_page_of, with_room, victim_for, arrived, staying, kept_where, hit_at, IsStored, IsHeldIn}
use Rattle.geo_values.specs.Stock as stocks
use Rattle.geo_site.specs.Entries.{Held, names, named_by}
use Rattle.geo_site.specs.Machine.{SiteState, Same, Settled, stays_by, stays_in, settled, issue_all, class_from, class_for, stored, hit_all, act_stock, act_held, is_victim, without, victim_by, VictimFits}

-- ---- two that are one
pub stock_path : (s t : Stock) → stocks.Same s t → t ≡ s
stock_path s t same = λ i. record { held = λ q. same.held q i; lists = λ c. same.lists c i; pages = λ c. same.pages c i; spare = same.spare i }

pub stock_same : (s : Stock) → stocks.Same s s
stock_same s = record { held = λ q. refl; lists = λ c. refl; pages = λ c. refl; spare = refl }

pub stock_by : (s t : Stock) → t ≡ s → stocks.Same s t
stock_by s t e = subst (λ s. stocks.Same s t) e (stock_same t)

pub state_path : (a b : SiteState) → Same a b → b ≡ a
state_path a b same = let stock = stock_path a.stock b.stock same.stock in λ i. record { vector = same.vector i; floor = same.floor i; map = λ q. same.map q i; stock = stock i }

pub unchanged : (st : SiteState) → Same st st
unchanged st = record { vector = refl; floor = refl; map = λ key. refl; stock = stock_same st.stock }

-- ---- what settles
pub stays_named : (v : Option Version) (o : Option (List ℕ)) → cond {A = Option (List ℕ)} (stays_by v o) o None ≡ named_by v o
stays_named v None = refl
stays_named v (Some b) = refl

pub settled_held : (map : List ℕ → Record) (s : Stock) (q : List ℕ) → (settled map s).held q ≡ named_by (version_in (map q)) (s.held q)
settled_held map s q = stays_named (version_in (map q)) (s.held q)

all_stay : (stays : List ℕ → Bool) → ((q : List ℕ) → stays q ≡ true) → (es : List (List ℕ × Access)) → filter (λ (e : List ℕ × Access). stays e.0) es ≡ es
all_stay stays h [] = refl
all_stay stays h (e ∷ es) = ap (λ t. cond {A = List (List ℕ × Access)} t (e ∷ filter (λ (e : List ℕ × Access). stays e.0) es) (filter (λ (e : List ℕ × Access). stays e.0) es)) (h e.0) ∙ ap (λ l. e ∷ l) (all_stay stays h es)

-- where all stay nothing changes
pub all_kept : (stays : List ℕ → Bool) (s : Stock) → ((q : List ℕ) → stays q ≡ true) → stocks.Same s (kept_where stays s)
all_kept stays s h = record {
  held = λ q. ap (λ t. cond {A = Option (List ℕ)} t (s.held q) None) (h q);
  lists = λ c. λ i. record { hot = all_stay stays h (s.lists c).hot i; warm = all_stay stays h (s.lists c).warm i; cold = all_stay stays h (s.lists c).cold i };
  pages = λ c. refl;
  spare = refl;
}

pub settled_stays : (map : List ℕ → Record) (s : Stock) → Settled map s.held → (q : List ℕ) → stays_in map s q ≡ true
settled_stays map s h q = by (s.held q) refl
  where
    by : (o : Option (List ℕ)) → s.held q ≡ o → stays_by (version_in (map q)) o ≡ true
    by None e = refl
    by (Some b) e = h q b e

-- what is named already settles as it is
pub settled_same : (map : List ℕ → Record) (s : Stock) → Settled map s.held → stocks.Same s (settled map s)
settled_same map s h = all_kept (stays_in map s) s (settled_stays map s h)

-- what is kept where a test told of all that is held whether it is named
pub retained_settled : (map : List ℕ → Record) (s t : Stock) (stays : List ℕ → Bool) → ((q b : List ℕ) → s.held q ≡ Some b → stays q ≡ names (version_in (map q)) b) → ((q : List ℕ) → s.held q ≡ None → stays q ≡ true)
    → stocks.Same (kept_where stays s) t → stocks.Same (settled map s) t
retained_settled map s t stays told others same = stock_by (settled map s) t (stock_path (kept_where stays s) t same ∙ (λ i. kept_where (λ q. is q (s.held q) refl i) s))
  where
    is : (q : List ℕ) (o : Option (List ℕ)) → s.held q ≡ o → stays q ≡ stays_in map s q
    is q None e = others q e ∙ sym (ap (stays_by (version_in (map q))) e)
    is q (Some b) e = told q b e ∙ sym (ap (stays_by (version_in (map q))) e)

-- ---- what is held once bytes are stored
evicted_held : (class : ℕ) (s : Stock) (q : List ℕ) → (evicted_from class s).held q ≡ without (victim_of (s.lists class)) s.held q
evicted_held class s q = by (victim_of (s.lists class))
  where
    by : (o : Option (List ℕ)) → (Rattle.std.specs.Option.option_map_or (λ key. dropped key s) o s).held q ≡ without o s.held q
    by None = refl
    by (Some k) = refl

room_held : (class : ℕ) (s : Stock) (q : List ℕ) → (with_room class s).held q ≡ without (victim_for class s) s.held q
room_held class s q = by (is_used_up s class) (nat_eq s.spare 0)
  where
    by : (t u : Bool) → (cond {A = Stock} t (cond {A = Stock} u (evicted_from class s) (with_page_of class s)) s).held q ≡ without (cond {A = Option (List ℕ)} (t && u) (victim_of (s.lists class)) None) s.held q
    by true true = evicted_held class s q
    by true false = refl
    by false u = refl

pub stored_held : (key bytes : List ℕ) (s : Stock) (q : List ℕ) → (stored key bytes s).held q ≡ cond {A = Option (List ℕ)} (same_key q key) (Some bytes) (without (victim_for (class_for (length bytes)) (dropped key s)) s.held q)
stored_held key bytes s q = by (same_key q key) refl
  where
    victim : Option (List ℕ)
    victim = victim_for (class_for (length bytes)) (dropped key s)

    by : (t : Bool) → same_key q key ≡ t → cond {A = Option (List ℕ)} t (Some bytes) ((with_room (class_for (length bytes)) (dropped key s)).held q) ≡ cond {A = Option (List ℕ)} t (Some bytes) (without (victim_for (class_for (length bytes)) (dropped key s)) s.held q)
    by true e = refl
    by false e = room_held (class_for (length bytes)) (dropped key s) q ∙ ap (λ t. cond {A = Option (List ℕ)} (is_victim (victim_for (class_for (length bytes)) (dropped key s)) q) None (cond {A = Option (List ℕ)} t None (s.held q))) e

-- what an act leaves of what is held
pub act_held_is : (act : Act) (s : Stock) (q : List ℕ) → (act_stock act s).held q ≡ act_held act (without (victim_by act s) s.held) q
act_held_is (Write key bytes flags expiry) s q = stored_held key bytes s q
act_held_is (Delete key) s q = refl
act_held_is (Touch key expiry) s q = refl
act_held_is Flush s q = refl

-- ---- what an operation leaves of a stock
-- by a map that says the same
pub settled_by : (map other : List ℕ → Record) (s : Stock) → ((q : List ℕ) → map q ≡ other q) → stocks.Same (settled other s) (settled map s)
settled_by map other s h = stock_by (settled other s) (settled map s) (λ i. settled (λ q. h q i) s)

-- what is left is what is named, and settles as it is
pub stock_done : (map other : List ℕ → Record) (s t : Stock) → ((q : List ℕ) → map q ≡ other q) → stocks.Same s t → Settled map t.held → stocks.Same (settled other s) t
stock_done map other s t h same named =
    stock_by (settled other s) t (stock_path (settled map t) t (stock_swap t (settled map t) (settled_same map t named)) ∙ (λ i. settled (λ q. h q i) (stock_path s t same i)))
  where
    stock_swap : (a b : Stock) → stocks.Same a b → stocks.Same b a
    stock_swap a b e = stock_by b a (sym (stock_path a b e))

-- what settled by the records that there are settled by the machine's
pub stock_kept : (map other : List ℕ → Record) (s t : Stock) → ((q : List ℕ) → map q ≡ other q) → stocks.Same (settled map s) t → stocks.Same (settled other s) t
stock_kept map other s t h same = stock_by (settled other s) t (stock_path (settled map s) t same ∙ (λ i. settled (λ q. h q i) s))

-- without a victim all is named that was
pub without_settled : (map : List ℕ → Record) (held : Held) (victim : Option (List ℕ)) → Settled map held → Settled map (without victim held)
without_settled map held victim h q b e = by (is_victim victim q) e
  where
    by : (t : Bool) → cond {A = Option (List ℕ)} t None (held q) ≡ Some b → names (version_in (map q)) b ≡ true
    by true e = cc
    by false e = h q b e

-- ---- hits
pub hit_all_more : (keys : List (List ℕ)) (key : List ℕ) (s : Stock) → hit_all (keys ++ key ∷ []) s ≡ hit_at key (hit_all keys s)
hit_all_more [] key s = refl
hit_all_more (k ∷ ks) key s = hit_all_more ks key (hit_at k s)

-- a state that is one with another that is one with a third
pub state_then : (a b x : SiteState) → Same a b → Same b x → Same a x
state_then a b x s t = subst (λ st. Same st x) (state_path a b s) t

-- acts from it
pub issue_all_from : (n : ℕ) (acts : List Act) (a b x : SiteState) → Same a b → Same (issue_all n acts b) x → Same (issue_all n acts a) x
issue_all_from n acts a b x s t = subst (λ st. Same (issue_all n acts st) x) (state_path a b s) t

-- ---- the class of a length
too_long : (bytes size : ℕ) → nat_le bytes size ≡ true → size < bytes → ⊥
too_long bytes size h lt = grind (arith, nat_tests)

too_short : (bytes size : ℕ) → nat_le bytes size ≡ false → bytes ≤ size → ⊥
too_short bytes size h le = grind (arith, nat_tests)

class_found : (more at bytes class : ℕ) → at ≤ class → class ≤ at + more → bytes ≤ chunk_bytes class → ((other : ℕ) → other < class → chunk_bytes other < bytes) → class ≡ class_from more at bytes
class_found zero at bytes class low high fits least = omega (arith, low, high)
class_found (suc more) at bytes class low high fits least = by (nat_le bytes (chunk_bytes at)) refl (λ lower. class_found more (at + 1) bytes class lower (omega (arith, high)) fits least)
  where
    by : (t : Bool) → nat_le bytes (chunk_bytes at) ≡ t → (at + 1 ≤ class → class ≡ class_from more (at + 1) bytes) → class ≡ cond t at (class_from more (at + 1) bytes)
    by true h rest = elim (cases_eq class at) [
      | inl e ↦ e
      | inr ne ↦ absurd (too_long bytes (chunk_bytes at) h (least at (omega (arith, low, ne))))
    ]
    by false h rest = elim (cases_eq class at) [
      | inl e ↦ absurd (too_short bytes (chunk_bytes at) h (subst (λ c. bytes ≤ chunk_bytes c) e fits))
      | inr ne ↦ rest (omega (arith, low, ne))
    ]

pub class_is : (bytes class : ℕ) → IsClassOf bytes class → class ≡ class_for bytes
class_is bytes class h = class_found 14 0 bytes class (omega arith) (let lt = h.0 in omega (arith, lt)) h.1 h.2

-- bytes of which it is told in which class they were stored
pub stored_is : (old new : Stock) (key bytes : List ℕ) (victim : Option (List ℕ)) → IsStored old new key bytes victim → stocks.Same (stored key bytes old) new
stored_is old new key bytes victim h = subst (λ c. stocks.Same (arrived key bytes c (with_room c (dropped key old))) new) (class_is (length bytes) h.class h.fits) h.stored

pub victim_is : (old new : Stock) (key bytes : List ℕ) (victim : Option (List ℕ)) → IsStored old new key bytes victim → victim ≡ victim_for (class_for (length bytes)) (dropped key old)
victim_is old new key bytes victim h = h.victim ∙ ap (λ c. victim_for c (dropped key old)) (class_is (length bytes) h.class h.fits)

pub victim_fits : (old new : Stock) (key bytes : List ℕ) (flags expiry : ℕ) (victim : Option (List ℕ)) → IsStored old new key bytes victim → VictimFits (Write key bytes flags expiry) old
victim_fits old new key bytes flags expiry victim h =
    subst₂ (λ o c. IfSome o (λ v. (same_key v key ≡ false) × IsHeldIn old v c)) (victim_is old new key bytes victim h) (class_is (length bytes) h.class h.fits) h.other

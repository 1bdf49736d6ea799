-- What stays as a loop tests item after item, from the last on, and takes out those that do not pass.
use Rattle.std.proofs.Common.{◌≡◌, ◌≢◌, ℕ, suc, ◌-◌, ◌<◌, ◌≤◌, inl, inr, Bool, true, false, not, cond, List, [], ◌∷◌, length, Option, Some, None, IfSome, slice_get, slice_set, get_or, swap_remove, Bor, refl, sym, ap, subst, ◌∙◌, arith}
use Rattle.std.proofs.lemmas.Bool.{cases_eq}
use Rattle.std.proofs.lemmas.List.{get_or-take, get_or-set_same, get_or-set_other, length-set, length-take-le}
use Rattle.std.proofs.lemmas.Option.{slice_get_past, slice_get_within, slice_get-get_or, get_or_from_slice_get}
use Rattle.std.specs.Fn.{Shared, FnReturns}
use Rattle.std.specs.Map.{lookup}
use Rattle.sha2.specs.Sha256.{sha256}
use Rattle.geo_records.specs.Keys.{same_key}
use Rattle.geo_slabs.specs.Storage.{held_in}
use Rattle.geo_values.specs.Stock.{Same, TestAnswers, dropped, staying, kept_where, IsRetained}
use Rattle.geo_values.specs.Links.{Links, Kept, IsLinked, links_of, stock_of, bytes_of}
use Rattle.geo_values.specs.Steps.{SameLinks, MayAnswer, CanGo, taken_out}
use Rattle.geo_values.specs.declared.parts.Item.{Item}
use Rattle.geo_values.proofs.Linked.{same_keys, can_go}
use Rattle.geo_values.proofs.Taken.{linked-out, stock-out}
use Rattle.geo_values.proofs.Staying.{all_but, staying-all, staying-twice}

-- a call at an item's key, digest and length
pub answers-item : {F : Type 0} (calls : Shared F (Bor (List ℕ) × (Bor (List ℕ) × (ℕ × Unit {0}))) Bool) (test : F) (l : Links) → IsLinked l → (key : List ℕ) (item : Item) → l.item key ≡ Some item
    → (held : List ℕ) → held_in l.storage item.chunk ≡ Some held → (k d : Bor (List ℕ)) → k.now ≡ key → d.now ≡ item.digest → (answer : Bool) → calls.post test (k, (d, (length held, tt))) answer
    → MayAnswer (TestAnswers calls test) l key answer
answers-item calls test l h key item is held holds k d keyed digested answer met = λ bytes at.
    let s = h.sound key item is in
    let here : held_in l.storage item.chunk ≡ Some bytes = sym (ap (bytes_of l.storage) is) ∙ at in
    let both : Some held ≡ Some bytes = sym holds ∙ here in
    let one : held ≡ bytes = cc in
    let all : Some s.bytes ≡ Some bytes = sym s.holds ∙ here in
    let own : s.bytes ≡ bytes = cc in
    record { key_at = k; digest_at = d; shows = (keyed, digested ∙ s.digest ∙ ap sha256 own); says = subst (λ (b : List ℕ). FnReturns calls test (k, (d, (length b, tt))) answer) one (record { met = met }) }

-- what stands at a place or behind it, once the last has come there, stood behind it
pub stood_behind : {A : Type 0} (xs : List A) (i : ℕ) (d : A) → i < length xs → (j : ℕ) (e : A) → i ≤ j → slice_get (swap_remove xs i d) j ≡ Some e → (k : ℕ) × (i < k) × (slice_get xs k ≡ Some e)
stood_behind {A = A} xs i d within j e behind at =
    elim (cases_eq j i) [
      | inl same ↦
          let last : get_or (swap_remove xs i d) j d ≡ get_or xs (length xs - 1) d =
          get_or-take (length xs - 1) set_there j d short ∙ ap (λ k. get_or set_there k d) same ∙ get_or-set_same xs i (get_or xs (length xs - 1) d) d within in
          (length xs - 1, omega (arith, short, behind), slice_get-get_or xs (length xs - 1) d (omega (arith, within)) ∙ ap Some (sym last ∙ got))
      | inr apart ↦
          let other : get_or (swap_remove xs i d) j d ≡ get_or xs j d =
          get_or-take (length xs - 1) set_there j d short ∙ get_or-set_other xs i j (get_or xs (length xs - 1) d) d apart in
          (j, above apart, slice_get-get_or xs j d (omega (arith, short)) ∙ ap Some (sym other ∙ got))
    ]
  where
    set_there : List A
    set_there = slice_set xs i (get_or xs (length xs - 1) d)

    got : get_or (swap_remove xs i d) j d ≡ e
    got = get_or_from_slice_get (swap_remove xs i d) j e d at

    short : j < length xs - 1
    short = omega (arith, slice_get_within (swap_remove xs i d) j e at, length-take-le (length xs - 1) set_there (omega (arith, length-set xs i (get_or xs (length xs - 1) d))))

    above : j ≢ i → i < j
    above apart = omega (arith, behind, apart)

-- what a look-up finds stands somewhere
pub stands : (q : List ℕ) (es : List (List ℕ × Item)) (item : Item) → lookup (same_key q) es ≡ Some item → (i : ℕ) × (slice_get es i ≡ Some (q, item))
stands q [] item is = let no : None ≡ Some item = is in absurd cc
stands q (e ∷ es) item is = by (same_key q e.0) refl is (stands q es item)
  where
    by : (b : Bool) → same_key q e.0 ≡ b → cond b (Some e.1) (lookup (same_key q) es) ≡ Some item → (lookup (same_key q) es ≡ Some item → (i : ℕ) × (slice_get es i ≡ Some (q, item)))
        → (i : ℕ) × (slice_get (e ∷ es) i ≡ Some (q, item))
    by true t found more =
        let own : q ≡ e.0 = same_keys q e.0 t in
        let items : e.1 ≡ item = cc in
        (0, λ i. Some (sym own i, items i))
    by false t found more = let at = more found in (suc at.0, at.1)

-- a key was held, of whose bytes the test may answer no
pub record Refused (may : List ℕ → List ℕ → Bool → Type 0) (old : Links) (key : List ℕ) : Type 0 where
  pub bytes : List ℕ
  pub held : (stock_of old).held key ≡ Some bytes
  pub answer : may key bytes false

-- so far: what is gone was refused, and what stands from a place on has passed
pub record Retaining (may : List ℕ → List ℕ → Bool → Type 0) (old : Links) (now : Kept) (from : ℕ) : Type 0 where
  pub linked : IsLinked (links_of now)
  pub stays : List ℕ → Bool
  pub kept : Same (kept_where stays (stock_of old)) (stock_of (links_of now))
  pub gone : (key : List ℕ) → stays key ≡ false → Refused may old key
  pub passed : (i : ℕ) (e : List ℕ × Item) → from ≤ i → slice_get now.items i ≡ Some e → (bytes : List ℕ) → (stock_of old).held e.0 ≡ Some bytes → may e.0 bytes true
  pub within : from ≤ length now.items

module _ (may : List ℕ → List ℕ → Bool → Type 0) where
  pub retaining-first : (now : Kept) → IsLinked (links_of now) → Retaining may (links_of now) now (length now.items)
  retaining-first now h = record {
    linked = h;
    stays = λ q. true;
    kept = record { held = λ q. refl; lists = λ class. sym (staying-all ((stock_of (links_of now)).lists class)); pages = λ class. refl; spare = refl };
    gone = λ key refused. absurd (let never : true ≡ false = refused in cc);
    passed = λ i e behind at bytes is. let past : slice_get now.items i ≡ None = slice_get_past now.items i behind in let both : None ≡ Some e = sym past ∙ at in absurd cc;
    within = omega arith;
  }

  module _ (old : Links) (now : Kept) where
    -- what the test may say of a key that is still held, it may say of its first bytes
    tells_old : (from : ℕ) (r : Retaining may old now from) (key : List ℕ) (item : Item) → (links_of now).item key ≡ Some item → (answer : Bool) → MayAnswer may (links_of now) key answer
        → (bytes : List ℕ) → (stock_of old).held key ≡ Some bytes → may key bytes answer
    tells_old from r key item is answer tells bytes at =
        by (r.stays key) (r.kept.held key)
      where
        by : (b : Bool) → (stock_of (links_of now)).held key ≡ cond b ((stock_of old).held key) None → may key bytes answer
        by true e = tells bytes (e ∙ at)
        by false e =
            let s = r.linked.sound key item is in
            let held : (stock_of (links_of now)).held key ≡ Some s.bytes = ap (bytes_of now.slabs) is ∙ s.holds in
            let no : None ≡ Some s.bytes = sym e ∙ held in
            absurd cc

    -- what is held now was held with the same bytes
    held_old : (from : ℕ) (r : Retaining may old now from) (key : List ℕ) (item : Item) (is : (links_of now).item key ≡ Some item) → (stock_of old).held key ≡ Some (r.linked.sound key item is).bytes
    held_old from r key item is = by (r.stays key) (r.kept.held key)
      where
        held : (stock_of (links_of now)).held key ≡ Some (r.linked.sound key item is).bytes
        held = ap (bytes_of now.slabs) is ∙ (r.linked.sound key item is).holds

        by : (b : Bool) → (stock_of (links_of now)).held key ≡ cond b ((stock_of old).held key) None → (stock_of old).held key ≡ Some (r.linked.sound key item is).bytes
        by true e = sym e ∙ held
        by false e = let no : None ≡ Some (r.linked.sound key item is).bytes = sym e ∙ held in absurd cc

    passed_here : (from : ℕ) → Retaining may old now from → 0 < from → (key : List ℕ) (item : Item) → slice_get now.items (from - 1) ≡ Some (key, item) → (links_of now).item key ≡ Some item
        → MayAnswer may (links_of now) key true → Retaining may old now (from - 1)
    passed_here from r some key item at is tells = record {
      linked = r.linked;
      stays = r.stays;
      kept = r.kept;
      gone = r.gone;
      passed = λ i e behind here. elim (cases_eq i (from - 1)) [
        | inl same ↦
            let both : Some (key, item) ≡ Some e = sym at ∙ ap (slice_get now.items) (sym same) ∙ here in
            let one : (key, item) ≡ e = cc in
            subst (λ (x : List ℕ × Item). (bytes : List ℕ) → (stock_of old).held x.0 ≡ Some bytes → may x.0 bytes true) one (tells_old from r key item is true tells)
        | inr apart ↦ r.passed i e (omega (arith, behind, apart, some)) here
      ];
      within = omega (arith, r.within);
    }

    refused_here : (from : ℕ) → Retaining may old now from → 0 < from → (key : List ℕ) (item : Item) → slice_get now.items (from - 1) ≡ Some (key, item) → (links_of now).item key ≡ Some item
        → MayAnswer may (links_of now) key false → (new : Kept) → SameLinks (taken_out key item (links_of now)) (links_of new) → new.items ≡ swap_remove now.items (from - 1) (key, item) → Retaining may old new (from - 1)
    refused_here from r some key item at is tells new out moved = record {
      linked = linked-out r.linked key item is out;
      stays = all_but key r.stays;
      kept = record { held = held_now; lists = lists_now; pages = λ class. out_of_stock.pages class ∙ r.kept.pages class; spare = out_of_stock.spare ∙ r.kept.spare };
      gone = λ q refused. by_gone q (same_key q key) refl refused;
      passed = λ i e behind here.
          let was = stood_behind now.items (from - 1) (key, item) inside i e behind (ap (λ es. slice_get es i) (sym moved) ∙ here) in
          r.passed was.0 e (omega (arith, was.1, some)) was.2;
      within = omega (arith, r.within, some, ap length moved, length-swapped);
    }
      where
        out_of_stock : Same (dropped key (stock_of (links_of now))) (stock_of (links_of new))
        out_of_stock = stock-out r.linked key item is out

        inside : from - 1 < length now.items
        inside = omega (arith, r.within, some)

        length-swapped : length (swap_remove now.items (from - 1) (key, item)) ≡ length now.items - 1
        length-swapped = length-take-le (length now.items - 1) (slice_set now.items (from - 1) (get_or now.items (length now.items - 1) (key, item))) (omega (arith, length-set now.items (from - 1) (get_or now.items (length now.items - 1) (key, item))))

        held_now : (q : List ℕ) → (stock_of (links_of new)).held q ≡ cond (all_but key r.stays q) ((stock_of old).held q) None
        held_now q = out_of_stock.held q ∙ by (same_key q key)
          where
            by : (b : Bool) → cond b None ((stock_of (links_of now)).held q) ≡ cond (cond b false (r.stays q)) ((stock_of old).held q) None
            by true = refl
            by false = r.kept.held q

        lists_now : (class : ℕ) → (stock_of (links_of new)).lists class ≡ staying (all_but key r.stays) ((stock_of old).lists class)
        lists_now class =
            out_of_stock.lists class
            ∙ ap (staying (λ q. not (same_key q key))) (r.kept.lists class)
            ∙ staying-twice r.stays key ((stock_of old).lists class)

        by_gone : (q : List ℕ) (b : Bool) → same_key q key ≡ b → cond b false (r.stays q) ≡ false → Refused may old q
        by_gone q true t refused =
            let held = held_old from r key item is in
            subst (Refused may old) (sym (same_keys q key t)) (record { bytes = (r.linked.sound key item is).bytes; held = held; answer = tells_old from r key item is false tells (r.linked.sound key item is).bytes held })
        by_gone q false t refused = r.gone q refused

    some_there : (from : ℕ) → Retaining may old now from → 0 < from → slice_get now.items (from - 1) ≢ None
    some_there from r some none =
        by now.items (omega (arith, r.within, some)) none
      where
        by : (es : List (List ℕ × Item)) → from - 1 < length es → slice_get es (from - 1) ≡ None → ⊥
        by [] lt none = omega (arith, lt)
        by (e ∷ es) lt none = let both : None ≡ Some (get_or (e ∷ es) (from - 1) e) = sym none ∙ slice_get-get_or (e ∷ es) (from - 1) e lt in cc

    pub can_go-at : IsLinked (links_of now) → (o : Option (List ℕ × Item)) → IfSome o (λ e. (links_of now).item e.0 ≡ Some e.1) → IfSome o (λ e. CanGo (links_of now) e.1)
    can_go-at h None found = tt
    can_go-at h (Some e) found = can_go h e.0 e.1 found

    pub retaining-passed : (from : ℕ) → Retaining may old now from → 0 < from → IfSome (slice_get now.items (from - 1)) (λ e. (links_of now).item e.0 ≡ Some e.1)
        → IfSome (slice_get now.items (from - 1)) (λ e. MayAnswer may (links_of now) e.0 true) → Retaining may old now (from - 1)
    retaining-passed from r some found tells = by (slice_get now.items (from - 1)) refl found tells
      where
        by : (o : Option (List ℕ × Item)) → slice_get now.items (from - 1) ≡ o → IfSome o (λ e. (links_of now).item e.0 ≡ Some e.1) → IfSome o (λ e. MayAnswer may (links_of now) e.0 true) → Retaining may old now (from - 1)
        by None at found tells = absurd (some_there from r some at)
        by (Some e) at found tells = passed_here from r some e.0 e.1 at found tells

    pub retaining-refused : (from : ℕ) → Retaining may old now from → 0 < from → IfSome (slice_get now.items (from - 1)) (λ e. (links_of now).item e.0 ≡ Some e.1)
        → IfSome (slice_get now.items (from - 1)) (λ e. MayAnswer may (links_of now) e.0 false) → (new : Kept)
        → IfSome (slice_get now.items (from - 1)) (λ e. SameLinks (taken_out e.0 e.1 (links_of now)) (links_of new)) → IfSome (slice_get now.items (from - 1)) (λ e. new.items ≡ swap_remove now.items (from - 1) e)
        → Retaining may old new (from - 1)
    retaining-refused from r some found tells new out moved = by (slice_get now.items (from - 1)) refl found tells out moved
      where
        by : (o : Option (List ℕ × Item)) → slice_get now.items (from - 1) ≡ o → IfSome o (λ e. (links_of now).item e.0 ≡ Some e.1) → IfSome o (λ e. MayAnswer may (links_of now) e.0 false)
            → IfSome o (λ e. SameLinks (taken_out e.0 e.1 (links_of now)) (links_of new)) → IfSome o (λ e. new.items ≡ swap_remove now.items (from - 1) e) → Retaining may old new (from - 1)
        by None at found tells out moved = absurd (some_there from r some at)
        by (Some e) at found tells out moved = refused_here from r some e.0 e.1 at found tells new out moved

    pub retained : Retaining may old now 0 → IsRetained may (stock_of old) (stock_of (links_of now))
    retained r = record {
      stays = r.stays;
      told = λ key bytes held. by key bytes held (r.stays key) refl;
      others = λ key none. other key none (r.stays key) refl;
      kept = r.kept;
    }
      where
        here : (key bytes : List ℕ) → (stock_of old).held key ≡ Some bytes → bytes_of now.slabs ((links_of now).item key) ≡ Some bytes → (o : Option Item) → (links_of now).item key ≡ o → may key bytes true
        here key bytes held still None e = let no : None ≡ Some bytes = sym (ap (bytes_of now.slabs) e) ∙ still in absurd cc
        here key bytes held still (Some item) e =
            let at = stands key now.items item e in
            r.passed at.0 (key, item) (omega arith) at.1 bytes held

        by : (key bytes : List ℕ) → (stock_of old).held key ≡ Some bytes → (b : Bool) → r.stays key ≡ b → may key bytes b
        by key bytes held true t = here key bytes held (r.kept.held key ∙ ap (λ b. cond {A = Option (List ℕ)} b ((stock_of old).held key) None) t ∙ held) ((links_of now).item key) refl
        by key bytes held false t =
            let g = r.gone key t in
            let both : Some g.bytes ≡ Some bytes = sym g.held ∙ held in
            let one : g.bytes ≡ bytes = cc in
            subst (λ (b : List ℕ). may key b false) one g.answer

        other : (key : List ℕ) → (stock_of old).held key ≡ None → (b : Bool) → r.stays key ≡ b → b ≡ true
        other key none true t = refl
        other key none false t = let g = r.gone key t in let both : None ≡ Some g.bytes = sym none ∙ g.held in absurd cc

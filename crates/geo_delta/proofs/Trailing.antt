-- What a trail of changes tells, change by change.
use Rattle.std.proofs.Common.{◌≡◌, ℕ, zero, suc, ◌+◌, ◌-◌, Bool, true, false, cond, ◌||◌, List, [], ◌∷◌, ◌++◌, length, drop, map, Option, None, Some, IfSome, refl, sym, ap, ◌∙◌, subst, arith, slice_get}
use Rattle.std.proofs.Math.Bool.{Bool-set}
use Rattle.std.proofs.lemmas.List.Folds.{list_any-append}
use Rattle.std.specs.Global.{Box}
use Rattle.std.specs.List.{list_any}
use Rattle.geo_maps.proofs.Entries.{some_same, some_none}
use Rattle.geo_stamp.specs.Vectors.{vector_joined}
use Rattle.geo_records.specs.Keys.{same_key}
use Rattle.geo_records.specs.Operations.{Record}
use Rattle.geo_versions.specs.Records.{Rec, since, listed_at}
use Rattle.geo_delta.specs.Changes.{KnowsBut, knows_record, nothing_pending}
use Rattle.geo_delta.specs.Trails.{Passed, Path, passed_key, passes, HoldsBehind, TrailedFrom, Trailed, IsCovered}
use Rattle.geo_delta.proofs.Tracing.{either_false, neither}
use Rattle.geo_delta.proofs.Recent.{covered_is_known}
use Rattle.geo_delta.proofs.Spans.{key_of, has_key}

holds_prop : (pending : List ℕ → Bool) (map : List ℕ → Record) (known : Option (Box (List ℕ))) (later : List Passed) → IsProp (HoldsBehind pending map known later)
holds_prop pending map None later = λ a b i. tt
holds_prop pending map (Some known) later = hlevel (Bool-set)

trailed_from_prop : (pending : List ℕ → Bool) (map : List ℕ → Record) (changes : List Passed) → IsProp (TrailedFrom pending map changes)
trailed_from_prop pending map [] = λ a b i. tt
trailed_from_prop pending map (c ∷ changes) = λ a b i. (holds_prop pending map c.1 changes a.0 b.0 i, trailed_from_prop pending map changes a.1 b.1 i)

-- it is a fact, and so can be kept beside a trail
pub trailed_prop : (pending : List ℕ → Bool) (map : List ℕ → Record) (path : Path) → IsProp (Trailed pending map path)
trailed_prop pending map path = trailed_from_prop pending map path.changes

-- a key's record may change where the key is to be noted later
pub trailed_on : (pending later : List ℕ → Bool) (map new : List ℕ → Record) (path : Path)
    → ((key : List ℕ) → later key ≡ false → (pending key ≡ false) × ((v : List ℕ) → knows_record v (map key) ≡ true → knows_record v (new key) ≡ true))
    → Trailed pending map path → Trailed later new path
trailed_on pending later map new path h = go path.changes
  where
    holds : (known : Option (Box (List ℕ))) (changes : List Passed) → HoldsBehind pending map known changes → HoldsBehind later new known changes
    holds None changes t = tt
    holds (Some known) changes t = λ key out.
        let e = either_false (later key) (passes changes key) out in
        let k = h key e.0 in
        k.1 known.value (t key (neither (pending key) (passes changes key) k.0 e.1))

    go : (changes : List Passed) → TrailedFrom pending map changes → TrailedFrom later new changes
    go [] t = tt
    go (c ∷ changes) t = (holds c.1 changes t.0, go changes t.1)

-- what is left of a trail
trailed_left : (pending : List ℕ → Bool) (map : List ℕ → Record) (n : ℕ) (changes : List Passed) → TrailedFrom pending map changes → TrailedFrom pending map (drop n changes)
trailed_left pending map zero changes t = t
trailed_left pending map (suc n) [] t = tt
trailed_left pending map (suc n) (c ∷ changes) t = trailed_left pending map n changes t.1

-- the key that was to be noted is noted
module _ (pending : List ℕ → Bool) (map : List ℕ → Record) (key after : List ℕ) (known : Option (Box (List ℕ))) (is : IfSome known (λ k. k.value ≡ after))
    (knows : KnowsBut nothing_pending after map) where
  holds_last : (o : Option (Box (List ℕ))) → IfSome o (λ k. k.value ≡ after) → HoldsBehind pending map o []
  holds_last None e = tt
  holds_last (Some k) e = λ q _. subst (λ v. knows_record v (map q) ≡ true) (sym e) (knows q refl)

  holds_more : (o : Option (Box (List ℕ))) (changes : List Passed) → HoldsBehind (λ q. same_key q key || pending q) map o changes → HoldsBehind pending map o (changes ++ (key, known) ∷ [])
  holds_more None changes t = tt
  holds_more (Some k) changes t = λ q out.
      let e = either_false (pending q) (passes (changes ++ (key, known) ∷ []) q) out in
      let f = either_false (passes changes q) (same_key q key || false) (sym (list_any-append (λ (d : Passed). same_key q d.0) changes ((key, known) ∷ [])) ∙ e.1) in
      let g = either_false (same_key q key) false f.1 in
      t q (neither (same_key q key || pending q) (passes changes q) (neither (same_key q key) (pending q) g.0 e.0) f.0)

  pushed_from : (changes : List Passed) → TrailedFrom (λ q. same_key q key || pending q) map changes → TrailedFrom pending map (changes ++ (key, known) ∷ [])
  pushed_from [] t = (holds_last known is, tt)
  pushed_from (c ∷ changes) t = (holds_more c.1 changes t.0, pushed_from changes t.1)

  pub trailed_pushed : (n : ℕ) (changes : List Passed) → TrailedFrom (λ q. same_key q key || pending q) map changes
      → TrailedFrom pending map (drop n (changes ++ (key, known) ∷ []))
  trailed_pushed n changes t = trailed_left pending map n (changes ++ (key, known) ∷ []) (pushed_from changes t)

-- keys that are left
map_drop : (n : ℕ) (changes : List Passed) → map passed_key (drop n changes) ≡ drop n (map passed_key changes)
map_drop zero changes = refl
map_drop (suc n) [] = refl
map_drop (suc n) (c ∷ changes) = map_drop n changes

map_push : (changes : List Passed) (c : Passed) → map passed_key (changes ++ c ∷ []) ≡ map passed_key changes ++ c.0 ∷ []
map_push [] c = refl
map_push (x ∷ changes) c = ap (λ ks. x.0 ∷ ks) (map_push changes c)

map_length : (changes : List Passed) → length (map passed_key changes) ≡ length changes
map_length [] = refl
map_length (c ∷ changes) = ap suc (map_length changes)

pub keys_kept : (most : ℕ) (changes : List Passed) (c : Passed)
    → map passed_key (drop (length (changes ++ c ∷ []) - most) (changes ++ c ∷ [])) ≡ drop (length (map passed_key changes ++ c.0 ∷ []) - most) (map passed_key changes ++ c.0 ∷ [])
keys_kept most changes c =
    map_drop (length (changes ++ c ∷ []) - most) (changes ++ c ∷ [])
    ∙ ap (λ n. drop (n - most) (map passed_key (changes ++ c ∷ []))) (sym (map_length (changes ++ c ∷ [])))
    ∙ ap (λ ks. drop (length ks - most) ks) (map_push changes c)

-- what was known after a change knows each record of which no later change is
holds_here : (i : ℕ) (at : List ℕ → Record) (changes : List Passed) (key : List ℕ) (known : Box (List ℕ)) → slice_get changes i ≡ Some (key, Some known)
    → TrailedFrom nothing_pending at changes → KnowsBut (passes (drop (suc i) changes)) known.value at
holds_here i at [] key known there t = absurd (some_none (sym there))
holds_here zero at (c ∷ changes) key known there t = subst (λ o. HoldsBehind nothing_pending at o changes) (ap (λ (d : Passed). d.1) (some_same there)) t.0
holds_here (suc i) at (c ∷ changes) key known there t = holds_here i at changes key known there t.1

-- so the news of the keys of the changes behind it are all the news of a vector that covers it
pub trail_news : (path : Path) (at : List ℕ → Record) (base : List ℕ) (first : ℕ) (keys : List (List ℕ)) (listed : List (List ℕ × Rec)) → Trailed nothing_pending at path
    → IsCovered base first path.changes
    → ((q : List ℕ) → list_any (same_key q) keys ≡ list_any (same_key q) (map passed_key (drop first path.changes)))
    → ((q : List ℕ) → listed_at listed q ≡ cond {A = Record} (list_any (same_key q) keys) (since base (at q)) (None, None))
    → (q : List ℕ) → listed_at listed q ≡ since base (at q)
trail_news path at base first keys listed trailed covered same is q = by (passes (drop first path.changes) q) refl
  where
    next : first ≡ suc covered.before
    next = omega (arith, covered.last)

    holds : KnowsBut (passes (drop first path.changes)) covered.known.value at
    holds = subst (λ n. KnowsBut (passes (drop n path.changes)) covered.known.value at) (sym next)
        (holds_here covered.before at path.changes covered.key covered.known covered.there trailed)

    by : (t : Bool) → passes (drop first path.changes) q ≡ t → listed_at listed q ≡ since base (at q)
    by true e = is q ∙ ap (λ t. cond {A = Record} t (since base (at q)) (None, None)) (same q ∙ has_key (drop first path.changes) q ∙ e)
    by false e =
        is q ∙ ap (λ t. cond {A = Record} t (since base (at q)) (None, None)) (same q ∙ has_key (drop first path.changes) q ∙ e)
        ∙ sym (ap (λ t. cond {A = Record} t (at q) (None, None)) (covered_is_known base covered.known.value (at q) covered.covers (holds q e)))

-- no change is kept
pub trailed_none : (pending : List ℕ → Bool) (map : List ℕ → Record) (path : Path) → path.changes ≡ [] → Trailed pending map path
trailed_none pending map path none = subst (λ (cs : List Passed). TrailedFrom pending map cs) (sym none) tt

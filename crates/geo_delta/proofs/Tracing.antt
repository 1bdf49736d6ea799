-- What a ring of changes traces, change by change.
use Rattle.std.proofs.Common.{◌≡◌, ℕ, zero, suc, ◌-◌, Bool, true, false, ◌||◌, List, [], ◌∷◌, ◌++◌, length, drop, None, refl, sym, ap, ◌∙◌, true≢false}
use Rattle.std.proofs.lemmas.List.Folds.{list_any-append}
use Rattle.geo_records.specs.Keys.{same_key}
use Rattle.geo_records.specs.Operations.{Record}
use Rattle.geo_delta.specs.Changes.{Noted, Ring, KnowsBut, TracedFrom, Traced, knows_record, first_ring, known_after, noted, emptied, has_change, nothing_pending, most_changes}

pub either_false : (a b : Bool) → (a || b) ≡ false → (a ≡ false) × (b ≡ false)
either_false true b h = absurd (true≢false h)
either_false false b h = (refl, h)

pub neither : (a b : Bool) → a ≡ false → b ≡ false → (a || b) ≡ false
neither a b p q = (λ i. p i || q i)

-- a key's record may change where the key is to be noted later
pub traced_on : (pending later : List ℕ → Bool) (map new : List ℕ → Record) (ring : Ring)
    → ((key : List ℕ) → later key ≡ false → (pending key ≡ false) × ((v : List ℕ) → knows_record v (map key) ≡ true → knows_record v (new key) ≡ true))
    → Traced pending map ring → Traced later new ring
traced_on pending later map new ring h = go ring.reach ring.changes
  where
    go : (reach : List ℕ) (changes : List Noted) → TracedFrom pending map reach changes → TracedFrom later new reach changes
    go reach [] t = λ key out. let k = h key out in k.1 reach (t key k.0)
    go reach (c ∷ changes) t = (
      λ key out.
          let e = either_false (later key) (has_change (c ∷ changes) key) out in
          let k = h key e.0 in
          k.1 reach (t.0 key (neither (pending key) (has_change (c ∷ changes) key) k.0 e.1)),
      go c.1 changes t.1,
    )

-- what is left of a ring is traced from the newest change that is not
pub traced_left : (pending : List ℕ → Bool) (map : List ℕ → Record) (n : ℕ) (reach : List ℕ) (changes : List Noted) → TracedFrom pending map reach changes → TracedFrom pending map (known_after n reach changes) (drop n changes)
traced_left pending map zero reach changes t = t
traced_left pending map (suc n) reach [] t = t
traced_left pending map (suc n) reach (c ∷ changes) t = traced_left pending map n c.1 changes t.1

-- the key that was to be noted is noted
noted_from : (pending : List ℕ → Bool) (map : List ℕ → Record) (key after reach : List ℕ) (changes : List Noted) → KnowsBut nothing_pending after map
    → TracedFrom (λ q. same_key q key || pending q) map reach changes → TracedFrom pending map reach (changes ++ (key, after) ∷ [])
noted_from pending map key after reach [] knows t = (
  λ q out.
      let e = either_false (pending q) (same_key q key || false) out in
      let f = either_false (same_key q key) false e.1 in
      t q (neither (same_key q key) (pending q) f.0 e.0),
  λ q _. knows q refl,
)
noted_from pending map key after reach (c ∷ changes) knows t = (
  λ q out.
      let e = either_false (pending q) (has_change ((c ∷ changes) ++ (key, after) ∷ []) q) out in
      let f = either_false (has_change (c ∷ changes) q) (same_key q key || false) (sym (list_any-append (λ (d : Noted). same_key q d.0) (c ∷ changes) ((key, after) ∷ [])) ∙ e.1) in
      let g = either_false (same_key q key) false f.1 in
      t.0 q (neither (same_key q key || pending q) (has_change (c ∷ changes) q) (neither (same_key q key) (pending q) g.0 e.0) f.0),
  noted_from pending map key after c.1 changes knows t.1,
)

pub traced_noted : (pending : List ℕ → Bool) (map : List ℕ → Record) (key after : List ℕ) (ring : Ring) → KnowsBut nothing_pending after map
    → Traced (λ q. same_key q key || pending q) map ring → Traced pending map (noted key after ring)
traced_noted pending map key after ring knows t =
    let all = ring.changes ++ (key, after) ∷ [] in
    traced_left pending map (length all - most_changes) ring.reach all (noted_from pending map key after ring.reach ring.changes knows t)

-- one key's record changes, and the key is noted
pub traced_one : (map new : List ℕ → Record) (key after : List ℕ) (ring : Ring) → ((q : List ℕ) → same_key q key ≡ false → new q ≡ map q) → KnowsBut nothing_pending after new
    → Traced nothing_pending map ring → Traced nothing_pending new (noted key after ring)
traced_one map new key after ring same knows t = traced_noted nothing_pending new key after ring knows
    (traced_on nothing_pending (λ q. same_key q key || nothing_pending q) map new ring
    (λ q out. (refl, λ v known. ap (knows_record v) (same q (either_false (same_key q key) false out).0) ∙ known)) t)

-- nothing is kept of what is known
pub traced_emptied : (pending : List ℕ → Bool) (map : List ℕ → Record) (after : List ℕ) → KnowsBut nothing_pending after map → Traced pending map (emptied after)
traced_emptied pending map after knows = λ key _. knows key refl

-- there are no records yet
pub traced_first : (pending : List ℕ → Bool) (map : List ℕ → Record) (sites : ℕ) → ((key : List ℕ) → map key ≡ (None, None)) → Traced pending map (first_ring sites)
traced_first pending map sites none = λ key _. ap (knows_record (first_ring sites).reach) (none key)

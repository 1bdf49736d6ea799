-- What is left of records that come where those that bring nothing are left out.
use Rattle.std.proofs.Common.{◌≡◌, ◌↔◌, true≢false, Bool, true, false, cond, List, [], ◌∷◌, ℕ, length, refl, sym, ap, ◌∙◌, subst, arith}
use Rattle.std.specs.List.{All, items_where_true}
use Rattle.std.proofs.lemmas.List.Elements.{All-nil, All-cons}
use Rattle.std.specs.List.Retain.{ReturnsInTurn}
use Rattle.std.specs.Cmp.Lexicographic.{same_text}
use Rattle.geo_records.specs.Keys.{same_key}
use Rattle.geo_records.specs.Operations.{Record, record_joined}
use Rattle.geo_records.proofs.Above.{record_comm, record_assoc}
use Rattle.geo_versions.specs.Records.{Rec, rec_means, listed_at}

-- what is joined first may be joined last
between : (a b c : Record) → record_joined a (record_joined b c) ≡ record_joined b (record_joined a c)
between a b c = record_assoc a b c ∙ ap (λ x. record_joined x c) (record_comm a b) ∙ sym (record_assoc b a c)

module _ (own : List ℕ → Record) where
  -- a record tells something of its key
  abbrev Brings : List ℕ × Rec → Type 0
  Brings e = record_joined (own e.0) (rec_means e.1) ≡ own e.0 → ⊥

  -- one that is left stays
  one_more : (b : Bool) (q : List ℕ) (r : Record) (x y : Record) → record_joined (own q) x ≡ record_joined (own q) y
      → record_joined (own q) (cond {A = Record} b (record_joined r x) x) ≡ record_joined (own q) (cond {A = Record} b (record_joined r y) y)
  one_more true q r x y h = between (own q) r x ∙ ap (record_joined r) h ∙ sym (between (own q) r y)
  one_more false q r x y h = h

  -- one that is known adds nothing
  one_known : (k q : List ℕ) (r : Record) (x y : Record) → record_joined (own k) r ≡ own k → record_joined (own q) x ≡ record_joined (own q) y
      → record_joined (own q) x ≡ record_joined (own q) (cond {A = Record} (same_key q k) (record_joined r y) y)
  one_known k q r x y known h = by (same_key q k) refl
    where
      by : (b : Bool) → same_key q k ≡ b → record_joined (own q) x ≡ record_joined (own q) (cond {A = Record} b (record_joined r y) y)
      by true e =
          let p : q ≡ k = same_text q k (sym e) in
          h ∙ ap (λ a. record_joined a y) (sym (subst (λ j. record_joined (own j) r ≡ own j) (sym p) known)) ∙ sym (record_assoc (own q) r y)
      by false e = h

  module _ {F : Type 0} (T : F → (List ℕ × Rec) → Bool → F → Type 0) (f : F)
      (says : (e : List ℕ × Rec) (b : Bool) (g : F) → T f e b g → ((b ≡ false) ↔ (record_joined (own e.0) (rec_means e.1) ≡ own e.0)) × (g ≡ f)) where
    -- what is left brings something, each of it
    pub each_brings : (bs : List Bool) (es : List (List ℕ × Rec)) (g : F) → length bs ≡ length es → ReturnsInTurn T f bs es g
        → All Brings (items_where_true bs es)
    each_brings [] [] g long told = All-nil Brings
    each_brings [] (e ∷ es) g long told = absurd (omega (arith, long))
    each_brings (b ∷ bs) [] g long told = absurd told
    each_brings (true ∷ bs) (e ∷ es) g long told =
        let s = says e true told.0 told.1 in
        let rest = each_brings bs es g (omega (arith, long)) (subst (λ h. ReturnsInTurn T h bs es g) s.1 told.2) in
        All-cons Brings e (items_where_true bs es) (λ is. true≢false (s.0.1 is)) rest
    each_brings (false ∷ bs) (e ∷ es) g long told =
        let s = says e false told.0 told.1 in
        each_brings bs es g (omega (arith, long)) (subst (λ h. ReturnsInTurn T h bs es g) s.1 told.2)

    pub same_joined : (bs : List Bool) (es : List (List ℕ × Rec)) (g : F) → length bs ≡ length es → ReturnsInTurn T f bs es g → (q : List ℕ)
        → record_joined (own q) (listed_at (items_where_true bs es) q) ≡ record_joined (own q) (listed_at es q)
    same_joined [] [] g long told q = refl
    same_joined [] (e ∷ es) g long told q = absurd (omega (arith, long))
    same_joined (b ∷ bs) [] g long told q = absurd told
    same_joined (true ∷ bs) (e ∷ es) g long told q =
        let s = says e true told.0 told.1 in
        let rest = same_joined bs es g (omega (arith, long)) (subst (λ h. ReturnsInTurn T h bs es g) s.1 told.2) q in
        one_more (same_key q e.0) q (rec_means e.1) (listed_at (items_where_true bs es) q) (listed_at es q) rest
    same_joined (false ∷ bs) (e ∷ es) g long told q =
        let s = says e false told.0 told.1 in
        let rest = same_joined bs es g (omega (arith, long)) (subst (λ h. ReturnsInTurn T h bs es g) s.1 told.2) q in
        one_known e.0 q (rec_means e.1) (listed_at (items_where_true bs es) q) (listed_at es q) (s.0.0 refl) rest

-- Each step on a channel keeps its rule.
use Rattle.std.proofs.Common.{◌≡◌, ◌≢◌, ℕ, zero, suc, true, false, true≢false, List, [], ◌∷◌, ◌++◌, length, set, sym, refl, ap, ◌∙◌, subst, ⊎_elim, append_assoc}
use mathlib.Core.Option.{some, some-ne-none}
use lib.ListN.{get_elem?}
use Rattle.crossbeam_channel.specs.Fifo.{Pushes, Pops, Forks, Merges, Learns}
use Rattle.atomic_table.proofs.Lists.{at_set, at_snoc}
use Rattle.geo_frame.specs.Payloads.{PayloadInRange, payload_of}
use Rattle.geo_frame.specs.declared.message.Message.{Message}
use Rattle.geo_link.specs.declared.rule.Log.{Log}
use Rattle.geo_link.specs.Channels.{log, Puts, Gets, EachInRange, HasRole, KeepsOrder}

each_and : (ps : List Message) (p : Message) → EachInRange ps → PayloadInRange (payload_of p) → EachInRange (ps ++ p ∷ [])
each_and [] p h one = (one, tt)
each_and (q ∷ ps) p h one = (h.0, each_and ps p h.1 one)

last_is : (l : List Log) (a b : Log) (j : ℕ) → get_elem? l j ≢ some b → get_elem? (l ++ a ∷ []) j ≡ some b → j ≡ length l
last_is [] a b zero n e = refl
last_is [] a b (suc j) n e = absurd (some-ne-none b (sym e))
last_is (x ∷ xs) a b zero n e = absurd (n e)
last_is (x ∷ xs) a b (suc j) n e = ap suc (last_is xs a b j n e)

-- each pass by what it knows
abbrev Each : (ℕ → Log → Type 0) → List Log → Type 0
Each F views = (pass : ℕ) (v : Log) → get_elem? views pass ≡ some v → F pass v

each_set : (F : ℕ → Log → Type 0) (views : List Log) (pass : ℕ) (w : Log) → F pass w → ((j : ℕ) (u : Log) → j ≢ pass → get_elem? views j ≡ some u → F j u) → Each F (set views pass w)
each_set F views pass w mine others j u e = ⊎_elim (λ (x : (j ≡ pass) × (w ≡ u)). subst (λ (y : ℕ × Log). F y.0 y.1) (λ i. (sym x.0 i, x.1 i)) mine)
    (λ (x : (j ≢ pass) × (get_elem? views j ≡ some u)). others j u x.0 x.1) (at_set views pass j w u e)

pub begins : KeepsOrder [] (log true true [] [] ∷ [])
begins = record {
  putter = 0;
  getter = 0;
  put = [];
  got = [];
  order = refl;
  ranges = tt;
  roles = each_set (HasRole 0 0 [] []) (log true true [] [] ∷ []) 0 (log true true [] []) ((λ _. (refl, refl)), λ _. (refl, refl))
      (λ j u other e. absurd (other (last_is [] _ u j (λ x. some-ne-none u (sym x)) e)));
}

pub sends : (n pass : ℕ) (v : Log) (p : Message) → v.puts ≡ true → PayloadInRange (payload_of p) → Pushes KeepsOrder n pass v p (Puts v p)
sends n pass v p may fits items views _ h at = let w : Log = log v.puts v.gets (v.put ++ p ∷ []) v.got in let mine = h.roles pass v at in let sent = h.put ++ p ∷ [] in (
  w,
  record {
    putter = h.putter;
    getter = h.getter;
    put = sent;
    got = h.got;
    order = ap (λ l. l ++ p ∷ []) h.order ∙ append_assoc h.got items (p ∷ []);
    ranges = each_and items p h.ranges fits;
    roles = each_set (HasRole h.putter h.getter sent h.got) views pass w ((λ _. ((mine.0 may).0, ap (λ l. l ++ p ∷ []) (mine.0 may).1)), mine.1)
        (λ j u other e. ((λ r. absurd (other (((h.roles j u e).0 r).0 ∙ sym (mine.0 may).0))), (h.roles j u e).1));
  },
  refl,
)

pub receives : (pass : ℕ) (v : Log) → v.gets ≡ true → Pops KeepsOrder pass v (Gets v)
receives pass v may p items views h at = let w : Log = log v.puts v.gets v.put (v.got ++ p ∷ []) in let mine = h.roles pass v at in let got = h.got ++ p ∷ [] in (
  w,
  record {
    putter = h.putter;
    getter = h.getter;
    put = h.put;
    got = got;
    order = h.order ∙ sym (append_assoc h.got (p ∷ []) items);
    ranges = h.ranges.1;
    roles = each_set (HasRole h.putter h.getter h.put got) views pass w (mine.0, λ _. ((mine.1 may).0, ap (λ l. l ++ p ∷ []) (mine.1 may).1))
        (λ j u other e. ((h.roles j u e).0, λ r. absurd (other (((h.roles j u e).1 r).0 ∙ sym (mine.1 may).0))));
  },
  (refl, h.ranges.0),
)

pub forks : (pass : ℕ) (v : Log) → v.puts ≡ true → v.gets ≡ true → Forks KeepsOrder pass v (log true false v.put []) (log false true [] v.got)
forks pass v a b items views h at = let l : Log = log true false v.put [] in let r : Log = log false true [] v.got in let mine = h.roles pass v at in let vs : List Log = set views pass l in
    let Old : ℕ → Log → Type 0 = λ j u. (u.puts ≡ true → (j ≡ h.putter) × (u.put ≡ h.put)) × (u.gets ≢ true) in
    let old : Each Old vs = each_set Old views pass l ((λ _. mine.0 a), λ p. true≢false (sym p)) (λ j u other e. ((h.roles j u e).0, λ p. other (((h.roles j u e).1 p).0 ∙ sym (mine.1 b).0))) in record {
      putter = h.putter;
      getter = length vs;
      put = h.put;
      got = h.got;
      order = h.order;
      ranges = h.ranges;
      roles = λ j u e. ⊎_elim (λ x. ((old j u x).0, λ p. absurd ((old j u x).1 p)))
          (λ (is : r ≡ u). ((λ p. absurd (true≢false (sym (ap (λ (y : Log). y.puts) is ∙ p)))), λ p. (last_is vs r u j (λ x. (old j u x).1 p) e, ap (λ (y : Log). y.got) (sym is) ∙ (mine.1 b).1))) (at_snoc vs r u j e);
    }

pub merges : (pass : ℕ) (v : Log) (other : ℕ) (u : Log) → v.puts ≡ true → u.gets ≡ true → Merges KeepsOrder pass v other u (log true true v.put u.got) (log false false [] [])
merges pass v other u a b items views h at two at' = let both : Log = log true true v.put u.got in let mine = h.roles pass v at in let vs : List Log = set views pass both in
    let was : get_elem? views other ≡ some u = ⊎_elim (λ x. absurd (two x.0)) (λ x. x.1) (at_set views pass other both u at') in let theirs = (h.roles other u was).1 b in
    let Now : ℕ → Log → Type 0 = λ j y. j ≢ other → HasRole h.putter pass h.put h.got j y in
    let now : Each Now vs = each_set Now views pass both (λ _. ((λ _. mine.0 a), λ _. (refl, theirs.1))) (λ j y _ e apart. ((h.roles j y e).0, λ p. absurd (apart (((h.roles j y e).1 p).0 ∙ sym theirs.0)))) in record {
      putter = h.putter;
      getter = pass;
      put = h.put;
      got = h.got;
      order = h.order;
      ranges = h.ranges;
      roles = each_set (HasRole h.putter pass h.put h.got) vs other (log false false [] []) ((λ p. absurd (true≢false (sym p))), λ p. absurd (true≢false (sym p))) (λ j y apart e. now j y e apart);
    }

pub learns : (pass : ℕ) (v : Log) → v.puts ≡ true → v.gets ≡ true → Learns KeepsOrder pass v (λ items. v.put ≡ v.got ++ items)
learns pass v a b items views h at = let mine = h.roles pass v at in (mine.0 a).1 ∙ h.order ∙ ap (λ l. l ++ items) (sym (mine.1 b).1)

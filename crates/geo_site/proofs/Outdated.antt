-- What records outdate of a stock, when they are joined one after the other.
use Rattle.std.proofs.Common.{◌≡◌, ℕ, suc, ◌+◌, ◌<◌, Bool, true, false, cond, not, filter, List, [], ◌∷◌, length, take, Option, None, Some, refl, sym, ap, ◌∙◌, arith, get_or}
use Rattle.std.specs.Cmp.Lexicographic.{same_text}
use Rattle.geo_maps.proofs.Entries.{slice_get_from_get_or}
use Rattle.geo_stamp.specs.Stamps.{Moment}
use Rattle.geo_records.specs.Keys.{same_key}
use Rattle.geo_records.specs.Operations.{Record, record_joined, above_both, version_in}
use Rattle.geo_versions.specs.Maps.{Rec, rec_means, listed_at, Rising}
use Rattle.geo_records.proofs.Above.{joined_none}
use Rattle.geo_records.specs.declared.version.Version.{Version}
use Rattle.geo_versions.proofs.InOrder.{listed_more, not_before}
use Rattle.geo_lru.specs.Rules.{ListsOf}
use Rattle.geo_lru.specs.declared.access.Access.{Access}
use Rattle.geo_values.specs.Stock.{Stock, dropped, staying, kept_where}
use Rattle.geo_values.specs.Stock as stocks
use Rattle.geo_site.specs.Machine.{Settled, stays_by, stays_in, settled}
use Rattle.geo_site.proofs.Stocking.{stock_path, stock_same, stock_by, stock_done, settled_stays, all_kept}

-- the version with a record joined
abbrev pub version_joined : Option Moment → Record → Record → Option Version
version_joined floor own r = version_in (above_both floor (record_joined own r))

-- ---- a key that is dropped of what stays

module _ (stays : List ℕ → Bool) (key : List ℕ) where
  twice : (es : List (List ℕ × Access)) → filter (λ (e : List ℕ × Access). not (same_key e.0 key)) (filter (λ (e : List ℕ × Access). stays e.0) es) ≡ filter (λ (e : List ℕ × Access). cond (same_key e.0 key) false (stays e.0)) es
  twice [] = refl
  twice (e ∷ es) = by (stays e.0) (same_key e.0 key) refl (twice es)
    where
      both : List (List ℕ × Access)
      both = filter (λ (e : List ℕ × Access). not (same_key e.0 key)) (filter (λ (e : List ℕ × Access). stays e.0) es)

      by : (s k : Bool) → same_key e.0 key ≡ k → both ≡ filter (λ (e : List ℕ × Access). cond (same_key e.0 key) false (stays e.0)) es
          → filter (λ (e : List ℕ × Access). not (same_key e.0 key)) (cond {A = List (List ℕ × Access)} s (e ∷ filter (λ (e : List ℕ × Access). stays e.0) es) (filter (λ (e : List ℕ × Access). stays e.0) es))
          ≡ cond {A = List (List ℕ × Access)} (cond k false s) (e ∷ filter (λ (e : List ℕ × Access). cond (same_key e.0 key) false (stays e.0)) es) (filter (λ (e : List ℕ × Access). cond (same_key e.0 key) false (stays e.0)) es)
      by true true t more = ap (λ k. cond {A = List (List ℕ × Access)} (not k) (e ∷ both) both) t ∙ more
      by true false t more = ap (λ k. cond {A = List (List ℕ × Access)} (not k) (e ∷ both) both) t ∙ ap (λ l. e ∷ l) more
      by false true t more = more
      by false false t more = more

  lists_twice : (l : ListsOf (List ℕ)) → staying (λ q. not (same_key q key)) (staying stays l) ≡ staying (λ q. cond (same_key q key) false (stays q)) l
  lists_twice l = λ i. record { hot = twice l.hot i; warm = twice l.warm i; cold = twice l.cold i }

-- what stays without a key
pub dropped_kept : (stays stays' : List ℕ → Bool) (key : List ℕ) (s : Stock) → ((q : List ℕ) → stays' q ≡ cond (same_key q key) false (stays q)) → stocks.Same (kept_where stays' s) (dropped key (kept_where stays s))
dropped_kept stays stays' key s h = record {
  held = λ q. by (same_key q key) (stays q) (s.held q) ∙ ap (λ t. cond {A = Option (List ℕ)} t (s.held q) None) (sym (h q));
  lists = λ c. lists_twice stays key (s.lists c) ∙ (λ i. staying (λ q. sym (h q) i) (s.lists c));
  pages = λ c. refl;
  spare = refl;
}
  where
    by : (k t : Bool) (o : Option (List ℕ)) → cond {A = Option (List ℕ)} k None (cond {A = Option (List ℕ)} t o None) ≡ cond {A = Option (List ℕ)} (cond k false t) o None
    by true t o = refl
    by false t o = refl

-- ---- a key that a record buries
dropped_alone : (key : List ℕ) (s : Stock) → stocks.Same (kept_where (λ q. not (same_key q key)) s) (dropped key s)
dropped_alone key s = record { held = λ q. by (same_key q key) (s.held q); lists = λ c. refl; pages = λ c. refl; spare = refl }
  where
    by : (k : Bool) (o : Option (List ℕ)) → cond {A = Option (List ℕ)} k None o ≡ cond {A = Option (List ℕ)} (not k) o None
    by true o = refl
    by false o = refl

module _ (map map' : List ℕ → Record) (key : List ℕ) (s t : Stock) (named : Settled map s.held)
    (here : (q : List ℕ) → same_key q key ≡ true → version_in (map' q) ≡ None) (elsewhere : (q : List ℕ) → same_key q key ≡ false → map' q ≡ map q)
    (out : stocks.Same (dropped key s) t) (absent : s.held key ≡ None → stocks.Same s t) where
  others_stay : (q : List ℕ) → same_key q key ≡ false → stays_in map' s q ≡ true
  others_stay q h = ap (λ r. stays_by (version_in r) (s.held q)) (elsewhere q h) ∙ settled_stays map s named q

  -- a key whose version is gone is dropped, and nothing else
  pub deleted : stocks.Same (settled map' s) t
  deleted = by (s.held key) refl
    where
      by : (o : Option (List ℕ)) → s.held key ≡ o → stocks.Same (settled map' s) t
      by None none = stock_by (settled map' s) t (stock_path s t (absent none) ∙ sym (stock_path s (settled map' s) (all_kept (stays_in map' s) s (λ q. all q (same_key q key) refl))))
        where
          all : (q : List ℕ) (k : Bool) → same_key q key ≡ k → stays_in map' s q ≡ true
          all q true k = ap (stays_by (version_in (map' q))) (ap s.held (same_text q key (sym k)) ∙ none)
          all q false k = others_stay q k
      by (Some bytes) some = stock_by (settled map' s) t (stock_path (dropped key s) t out ∙ stock_path (kept_where (λ q. not (same_key q key)) s) (dropped key s) (dropped_alone key s) ∙ (λ i. kept_where (λ q. sym (stays q (same_key q key) refl) i) s))
        where
          stays : (q : List ℕ) (k : Bool) → same_key q key ≡ k → stays_in map' s q ≡ not (same_key q key)
          stays q true k = (λ i. stays_by (here q k i) ((ap s.held (same_text q key (sym k)) ∙ some) i)) ∙ sym (ap not k)
          stays q false k = others_stay q k ∙ sym (ap not k)

-- ---- records that come by rising key
-- the records once these are joined
abbrev pub map_joined : Option Moment → (List ℕ → Record) → List (List ℕ × Rec) → List ℕ → Record
map_joined floor map records q = above_both floor (record_joined (map q) (listed_at records q))

module _ (floor : Option Moment) (map : List ℕ → Record) (stock : Stock) (normal : (q : List ℕ) → above_both floor (map q) ≡ map q) (named : Settled map stock.held) where
  map_first : (q : List ℕ) → map q ≡ above_both floor (record_joined (map q) (None, None))
  map_first q = sym (normal q) ∙ ap (above_both floor) (sym (joined_none (map q)))

  -- at first all is there
  pub outdated_first : stocks.Same (settled (map_joined floor map []) stock) stock
  outdated_first = stock_done map (map_joined floor map []) stock stock map_first (stock_same stock) named

  module _ (records : List (List ℕ × Rec)) (rising : Rising records) (i : ℕ) (e : List ℕ × Rec) (lt : i < length records) (at : e ≡ get_or records i e) where
    -- a key of which no record came yet is as it was
    still : stays_in (map_joined floor map (take i records)) stock e.0 ≡ true
    still =
        ap (λ r. stays_by (version_in (above_both floor (record_joined (map e.0) r))) (stock.held e.0)) (not_before records rising i e (slice_get_from_get_or records i e lt (sym at)))
        ∙ ap (λ r. stays_by (version_in r) (stock.held e.0)) (sym (map_first e.0))
        ∙ settled_stays map stock named e.0

    next : (q : List ℕ) → stays_in (map_joined floor map (take (i + 1) records)) stock q ≡ cond (same_key q e.0) (stays_by (version_joined floor (map e.0) (rec_means e.1)) (stock.held e.0)) (stays_in (map_joined floor map (take i records)) stock q)
    next q =
        let place : i + 1 ≡ suc i = omega arith in
        ap (λ n. stays_in (map_joined floor map (take n records)) stock q) place
        ∙ ap (λ r. stays_by (version_in (above_both floor (record_joined (map q) r))) (stock.held q)) (listed_more records rising i e (slice_get_from_get_or records i e lt (sym at)) q)
        ∙ by (same_key q e.0) refl
      where
        by : (t : Bool) → same_key q e.0 ≡ t
            → stays_by (version_in (above_both floor (record_joined (map q) (cond {A = Record} t (rec_means e.1) (listed_at (take i records) q))))) (stock.held q)
            ≡ cond t (stays_by (version_joined floor (map e.0) (rec_means e.1)) (stock.held e.0)) (stays_in (map_joined floor map (take i records)) stock q)
        by true h = ap (λ k. stays_by (version_joined floor (map k) (rec_means e.1)) (stock.held k)) (same_text q e.0 (sym h))
        by false h = refl

    module _ (now : Stock) (before : stocks.Same (settled (map_joined floor map (take i records)) stock) now) where
      -- what is held of the key is what was
      now_held : now.held e.0 ≡ stock.held e.0
      now_held = before.held e.0 ∙ ap (λ t. cond {A = Option (List ℕ)} t (stock.held e.0) None) still

      current : (t : Bool) → t ≡ stays_by (version_joined floor (map e.0) (rec_means e.1)) (now.held e.0) → (q : List ℕ) → stays_in (map_joined floor map (take (i + 1) records)) stock q ≡ cond (same_key q e.0) t (stays_in (map_joined floor map (take i records)) stock q)
      current t is q = next q ∙ ap (λ x. cond (same_key q e.0) x (stays_in (map_joined floor map (take i records)) stock q)) (sym (is ∙ ap (stays_by (version_joined floor (map e.0) (rec_means e.1))) now_held))

      -- a key that is current stays
      pub one_kept : true ≡ stays_by (version_joined floor (map e.0) (rec_means e.1)) (now.held e.0) → stocks.Same (settled (map_joined floor map (take (i + 1) records)) stock) now
      one_kept is = stock_by (settled (map_joined floor map (take (i + 1) records)) stock) now (stock_path (settled (map_joined floor map (take i records)) stock) now before ∙ (λ j. kept_where (λ q. sym (current true is q ∙ by q (same_key q e.0) refl) j) stock))
        where
          by : (q : List ℕ) (t : Bool) → same_key q e.0 ≡ t → cond t true (stays_in (map_joined floor map (take i records)) stock q) ≡ stays_in (map_joined floor map (take i records)) stock q
          by q true h = sym still ∙ ap (stays_in (map_joined floor map (take i records)) stock) (sym (same_text q e.0 (sym h)))
          by q false h = refl

      -- one that is not is dropped
      pub one_dropped : (after : Stock) → false ≡ stays_by (version_joined floor (map e.0) (rec_means e.1)) (now.held e.0) → stocks.Same (dropped e.0 now) after → stocks.Same (settled (map_joined floor map (take (i + 1) records)) stock) after
      one_dropped after is out = stock_by (settled (map_joined floor map (take (i + 1) records)) stock) after
          (stock_path (dropped e.0 now) after out ∙ ap (dropped e.0) (stock_path (settled (map_joined floor map (take i records)) stock) now before)
          ∙ stock_path (settled (map_joined floor map (take (i + 1) records)) stock) (dropped e.0 (settled (map_joined floor map (take i records)) stock))
          (dropped_kept (stays_in (map_joined floor map (take i records)) stock) (stays_in (map_joined floor map (take (i + 1) records)) stock) e.0 stock (current false is)))

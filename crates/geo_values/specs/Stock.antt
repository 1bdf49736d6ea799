-- What is held under keys, as a caller sees it, and what each call makes of it. The lists are memcached's (doc/new_lru.txt), here of
-- keys; pages and chunks are those of its slab classes.
use Rattle.std.specs.Prelude.{◌≡◌, ℕ, ◌+◌, ◌-◌, ◌*◌, ◌≤◌, ◌&&◌, Bool, true, false, not, cond, nat_eq, nat_lt, List, [], length, filter, Option, Some, None, IsSome, IfSome}
use Rattle.std.specs.Borrow.{Bor}
use Rattle.std.specs.Fn.{Shared, FnReturns}
use Rattle.std.specs.Option.{option_map_or, unwrap_or}
use Rattle.std.specs.Str.{bytes_eq}
use Rattle.sha2.specs.Sha256.{sha256}
use Rattle.geo_records.specs.Keys.{same_key}
use Rattle.geo_slabs.specs.Storage.{class_count, chunks_a_page, IsClassOf}
use Rattle.geo_lru.specs.Rules.{ListsOf, present_by, places_by, entered, touched_by, victim_of, count, juggled_by}

pub record Stock : Type 0 where
  -- the bytes that are held of each key
  pub held : List ℕ → Option (List ℕ)
  -- the three lists of each class
  pub lists : ℕ → ListsOf (List ℕ)
  -- how many pages each class has
  pub pages : ℕ → ℕ
  -- how many no class has
  pub spare : ℕ

-- two stocks are one
pub record Same (old new : Stock) : Type 0 where
  pub held : (key : List ℕ) → new.held key ≡ old.held key
  pub lists : (class : ℕ) → new.lists class ≡ old.lists class
  pub pages : (class : ℕ) → new.pages class ≡ old.pages class
  pub spare : new.spare ≡ old.spare

abbrev pub no_items : {I : Type 0} → ListsOf I
no_items = record { hot = []; warm = []; cold = [] }

-- nothing is held: each class has one of the pages, and the others are spare
abbrev pub first_stock : ℕ → Stock
first_stock pages = record {
  held = λ _. None;
  lists = λ _. no_items;
  pages = λ class. cond (nat_lt class class_count) 1 0;
  spare = pages - class_count;
}

-- of three lists, the keys that stay, in their order
abbrev pub staying : (List ℕ → Bool) → ListsOf (List ℕ) → ListsOf (List ℕ)
staying stays l = record {
  hot = filter (λ e. stays e.0) l.hot;
  warm = filter (λ e. stays e.0) l.warm;
  cold = filter (λ e. stays e.0) l.cold;
}

-- a key is no longer held, and stands in no list
abbrev pub dropped : List ℕ → Stock → Stock
dropped key s = record {
  held = λ q. cond (same_key q key) None (s.held q);
  lists = λ class. staying (λ q. not (same_key q key)) (s.lists class);
  pages = s.pages;
  spare = s.spare;
}

-- a hit on a key
abbrev pub hit_at : List ℕ → Stock → Stock
hit_at key s = record { held = s.held; lists = λ class. touched_by same_key key (s.lists class); pages = s.pages; spare = s.spare }

-- the next victim of a class is evicted
abbrev pub evicted_from : ℕ → Stock → Stock
evicted_from class s = option_map_or (λ key. dropped key s) (victim_of (s.lists class)) s

-- the one move in a class that is due, if any
abbrev pub juggled_in : ℕ → Stock → Stock
juggled_in class s = record {
  held = s.held;
  lists = λ c. cond (nat_eq c class) (unwrap_or (juggled_by same_key (s.lists c)) (s.lists c)) (s.lists c);
  pages = s.pages;
  spare = s.spare;
}

-- no chunk of the class is free: it has as many items as its pages have chunks
abbrev pub is_used_up : Stock → ℕ → Bool
is_used_up s class = nat_eq (count (s.lists class)) (s.pages class * chunks_a_page class)

-- a class is full: none of its chunks is free, and no page is spare
abbrev pub is_full : Stock → ℕ → Bool
is_full s class = is_used_up s class && nat_eq s.spare 0

-- a spare page goes to the class
abbrev pub with_page_of : ℕ → Stock → Stock
with_page_of class s = record {
  held = s.held;
  lists = s.lists;
  pages = λ c. cond (nat_eq c class) (s.pages c + 1) (s.pages c);
  spare = s.spare - 1;
}

-- the class with a free chunk: where none is free it takes a spare page, and without one its victim is evicted
abbrev pub with_room : ℕ → Stock → Stock
with_room class s = cond (is_used_up s class) (cond (nat_eq s.spare 0) (evicted_from class s) (with_page_of class s)) s

-- which key is evicted for it
abbrev pub victim_for : ℕ → Stock → Option (List ℕ)
victim_for class s = cond (is_full s class) (victim_of (s.lists class)) None

-- a key's bytes come, as an item of the class
abbrev pub arrived : List ℕ → List ℕ → ℕ → Stock → Stock
arrived key bytes class s = record {
  held = λ q. cond (same_key q key) (Some bytes) (s.held q);
  lists = λ c. cond (nat_eq c class) (entered key (s.lists c)) (s.lists c);
  pages = s.pages;
  spare = s.spare;
}

-- bytes of a class are held of a key
pub record IsHeldIn (s : Stock) (key : List ℕ) (class : ℕ) : Type 0 where
  pub bytes : List ℕ
  pub held : s.held key ≡ Some bytes
  pub fits : IsClassOf (length bytes) class

-- a key is held exactly where the lists of its class have it, and there it stands once
pub record IsListed (s : Stock) : Type 0 where
  pub once : (key : List ℕ) (class : ℕ) → IsHeldIn s key class → places_by same_key key (s.lists class) ≡ 1
  pub only : (key : List ℕ) (class : ℕ) → 1 ≤ places_by same_key key (s.lists class) → IsHeldIn s key class

-- a key is not in HOT of the class of so many bytes
pub record IsNotInHot (s : Stock) (key : List ℕ) (bytes : ℕ) : Type 0 where
  pub none : (class : ℕ) → IsClassOf bytes class → present_by same_key key (s.lists class).hot ≡ 0

-- bytes are stored under a key: its old item is taken out first, then room is made in the class of the bytes
pub record IsStored (old new : Stock) (key bytes : List ℕ) (evicted : Option (List ℕ)) : Type 0 where
  pub class : ℕ
  pub fits : IsClassOf (length bytes) class
  pub stored : Same (arrived key bytes class (with_room class (dropped key old))) new
  pub victim : evicted ≡ victim_for class (dropped key old)
  -- a class that is full has a victim
  pub one : is_full (dropped key old) class ≡ true → IsSome evicted
  -- a victim is another key, of which bytes of the class were held
  pub other : IfSome evicted (λ victim. (same_key victim key ≡ false) × IsHeldIn old victim class)

-- a class that is not full with a free chunk: where none is free it takes a spare page
abbrev pub with_chunk : ℕ → Stock → Stock
with_chunk class s = cond (is_used_up s class) (with_page_of class s) s

-- the bytes of a key that is not held are admitted where their class is not full, for which nothing is evicted
pub record IsAdmitted (old new : Stock) (key bytes : List ℕ) (done : Bool) : Type 0 where
  pub class : ℕ
  pub fits : IsClassOf (length bytes) class
  pub told : done ≡ not (is_full old class)
  pub admitted : Same (cond done (arrived key bytes class (with_chunk class old)) old) new

-- whether the class of so many bytes is full
pub record TellsFull (s : Stock) (bytes : ℕ) (full : Bool) : Type 0 where
  pub class : ℕ
  pub fits : IsClassOf bytes class
  pub told : full ≡ is_full s class

-- of what is held, the bytes that have this SHA-256
abbrev pub with_digest : List ℕ → Option (List ℕ) → Option (List ℕ)
with_digest digest None = None
with_digest digest (Some bytes) = cond (bytes_eq (sha256 bytes) digest) (Some bytes) None

-- a call of a test at a key, the SHA-256 of its bytes and their length may answer so
pub record TestAnswers {F : Type 0} (calls : Shared F (Bor (List ℕ) × (Bor (List ℕ) × (ℕ × Unit {0}))) Bool) (test : F) (key bytes : List ℕ)
    (answer : Bool) : Type 0 where
  pub key_at : Bor (List ℕ)
  pub digest_at : Bor (List ℕ)
  pub shows : (key_at.now ≡ key) × (digest_at.now ≡ sha256 bytes)
  pub says : FnReturns calls test (key_at, (digest_at, (length bytes, tt))) answer

-- the keys that stay are held, and no other
abbrev pub kept_where : (List ℕ → Bool) → Stock → Stock
kept_where stays s = record {
  held = λ q. cond (stays q) (s.held q) None;
  lists = λ class. staying stays (s.lists class);
  pages = s.pages;
  spare = s.spare;
}

-- the keys that a test passes are kept: `may` tells which answers it may give of a key and its bytes
pub record IsRetained (may : List ℕ → List ℕ → Bool → Type 0) (old new : Stock) : Type 0 where
  -- whether each key stays: where it is held, the test's answer, and else it does
  pub stays : List ℕ → Bool
  pub told : (key bytes : List ℕ) → old.held key ≡ Some bytes → may key bytes (stays key)
  pub others : (key : List ℕ) → old.held key ≡ None → stays key ≡ true
  pub kept : Same (kept_where stays old) new

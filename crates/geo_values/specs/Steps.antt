-- What the calls on parts make of the links.
use Rattle.std.specs.Prelude.{◌≡◌, ℕ, ◌<◌, ◌⊎◌, Bool, true, false, cond, nat_eq, List, Option, Some, None, IsSome}
use Rattle.std.specs.Option.{unwrap_or}
use Rattle.sha2.specs.Sha256.{sha256}
use Rattle.geo_records.specs.Keys.{same_key}
use Rattle.geo_slabs.specs.Storage.{class_count, held_in, so_long, with_held, IsFull, PutDoes}
use Rattle.geo_slabs.specs.declared.slabs.Chunk.{Chunk}
use Rattle.geo_lru.specs.Lists.{present, entered, left, touched_at, juggled, victim_of}
use Rattle.geo_values.specs.Links.{Links, bytes_of}
use Rattle.geo_values.specs.declared.parts.Item.{Item}

-- two links are one
pub record SameLinks (old new : Links) : Type 0 where
  pub item : (key : List ℕ) → new.item key ≡ old.item key
  pub key : (number : ℕ) → new.key number ≡ old.key number
  pub storage : new.storage ≡ old.storage
  pub lists : (class : ℕ) → new.lists class ≡ old.lists class

-- an item can be taken out
pub record CanGo (l : Links) (item : Item) : Type 0 where
  pub there : IsSome (l.key item.number)
  pub held : IsSome (held_in l.storage item.chunk)
  pub class : item.class < class_count

abbrev pub CanGoIfAny : Links → Option Item → Type 0
CanGoIfAny l None = Unit {0}
CanGoIfAny l (Some item) = CanGo l item

-- a key's item is taken out: its number leads nowhere and stands in no list, its chunk is free
abbrev pub taken_out : List ℕ → Item → Links → Links
taken_out key item l = record {
  item = λ q. cond (same_key q key) None (l.item q);
  key = λ number. cond (nat_eq number item.number) None (l.key number);
  storage = with_held l.storage item.chunk.class item.chunk.number None;
  lists = λ class. cond (nat_eq class item.class) (left item.number (l.lists class)) (l.lists class);
}

abbrev pub TakesOut : Links → Links → List ℕ → Option Item → Type 0
TakesOut old new key None = SameLinks old new
TakesOut old new key (Some item) = SameLinks (taken_out key item old) new

-- a test, of which `may` tells which answers it may give of a key and its bytes, may answer so of a key
abbrev pub MayAnswer : (List ℕ → List ℕ → Bool → Type 0) → Links → List ℕ → Bool → Type 0
MayAnswer may l key answer = (bytes : List ℕ) → bytes_of l.storage (l.item key) ≡ Some bytes → may key bytes answer

-- an item once its chunk holds these bytes
abbrev pub rewritten : Item → List ℕ → Item
rewritten item bytes = record item { digest = sha256 bytes; chunk = so_long item.chunk bytes }

-- other bytes in a key's chunk, and its number comes anew in the lists
abbrev pub renewed : List ℕ → Item → List ℕ → Links → Links
renewed key item bytes l = record {
  item = λ q. cond (same_key q key) (Some (rewritten item bytes)) (l.item q);
  key = l.key;
  storage = with_held l.storage item.chunk.class item.chunk.number (Some bytes);
  lists = λ class. cond (nat_eq class item.class) (entered item.number (left item.number (l.lists class))) (l.lists class);
}

-- the key has an item of the class, whose bytes become these
pub record Renews (old new : Links) (key : List ℕ) (class : ℕ) (bytes : List ℕ) : Type 0 where
  pub item : Item
  pub is : old.item key ≡ Some item
  pub class_is : item.class ≡ class
  pub done : SameLinks (renewed key item bytes old) new

abbrev pub IsElsewhere : Links → List ℕ → ℕ → Type 0
IsElsewhere l key class = (item : Item) → l.item key ≡ Some item → item.class ≡ class → ⊥

abbrev pub RenewsIf : Bool → Links → Links → List ℕ → ℕ → List ℕ → Type 0
RenewsIf true old new key class bytes = Renews old new key class bytes
RenewsIf false old new key class bytes = IsElsewhere old key class × SameLinks old new

-- the key has no item of the class that is in HOT
abbrev pub IsNotHot : Links → List ℕ → ℕ → Type 0
IsNotHot l key class = (item : Item) → l.item key ≡ Some item → item.class ≡ class → present item.number (l.lists class).hot ≡ 0

-- a hit on an item
abbrev pub hit_on : Item → Links → Links
hit_on item l = record {
  item = l.item;
  key = l.key;
  storage = l.storage;
  lists = λ class. cond (nat_eq class item.class) (touched_at item.number (l.lists class)) (l.lists class);
}

abbrev pub Hits : Links → Links → Option Item → Type 0
Hits old new None = SameLinks old new
Hits old new (Some item) = SameLinks (hit_on item old) new

-- the move that is due in a class
abbrev pub moved_in : ℕ → Links → Links
moved_in class l = record {
  item = l.item;
  key = l.key;
  storage = l.storage;
  lists = λ c. cond (nat_eq c class) (unwrap_or (juggled (l.lists c)) (l.lists c)) (l.lists c);
}

-- the item of a number can be evicted
pub record CanEvict (l : Links) (number : ℕ) : Type 0 where
  pub key : List ℕ
  pub leads : l.key number ≡ Some key
  pub item : Item
  pub is : l.item key ≡ Some item
  pub numbered : item.number ≡ number
  pub goes : CanGo l item

abbrev pub CanEvictIfAny : Links → Option ℕ → Type 0
CanEvictIfAny l None = Unit {0}
CanEvictIfAny l (Some number) = CanEvict l number

-- the class has a victim, whose chunk is of the class
pub record HasVictim (l : Links) (class : ℕ) : Type 0 where
  pub number : ℕ
  pub is : victim_of (l.lists class) ≡ Some number
  pub goes : CanEvict l number
  pub home : goes.item.chunk.class ≡ class

-- the item of a number was evicted, which had this key
pub record IsEvicted (old new : Links) (number : ℕ) (key : List ℕ) : Type 0 where
  pub leads : old.key number ≡ Some key
  pub item : Item
  pub is : old.item key ≡ Some item
  pub out : SameLinks (taken_out key item old) new

-- what an eviction does: the victim goes, and where there is none nothing is done
abbrev pub Evicts : Links → Links → ℕ → Option (List ℕ) → Type 0
Evicts old new class (Some key) = (number : ℕ) × (victim_of (old.lists class) ≡ Some number) × IsEvicted old new number key
Evicts old new class None = (victim_of (old.lists class) ≡ None) × SameLinks old new

-- a number for a key enters the lists of a class
abbrev pub admitted : ℕ → List ℕ → ℕ → Links → Links
admitted number key class l = record {
  item = l.item;
  key = λ n. cond (nat_eq n number) (Some key) (l.key n);
  storage = l.storage;
  lists = λ c. cond (nat_eq c class) (entered number (l.lists c)) (l.lists c);
}

-- bytes are put into a chunk: all else stays
pub record IsPutIn (old new : Links) (class : ℕ) (bytes : List ℕ) (chunk : Chunk) : Type 0 where
  pub item : (key : List ℕ) → new.item key ≡ old.item key
  pub key : (number : ℕ) → new.key number ≡ old.key number
  pub put : PutDoes old.storage new.storage class bytes (Some chunk)
  pub lists : (class : ℕ) → new.lists class ≡ old.lists class

-- a class that is full evicts first
pub record IsPutForOther (old new : Links) (class : ℕ) (bytes : List ℕ) (chunk : Chunk) (evicted : Option (List ℕ)) : Type 0 where
  pub full : IsFull old.storage class
  pub between : Links
  pub evicts : Evicts old between class evicted
  pub put : IsPutIn between new class bytes chunk

abbrev pub PutsWithRoom : Links → Links → ℕ → List ℕ → Chunk → Option (List ℕ) → Type 0
PutsWithRoom old new class bytes chunk evicted = ((evicted ≡ None) × IsPutIn old new class bytes chunk)
    ⊎ IsPutForOther old new class bytes chunk evicted

-- the item of a key comes
abbrev pub with_item : List ℕ → Item → Links → Links
with_item key item l = record {
  item = λ q. cond (same_key q key) (Some item) (l.item q);
  key = l.key;
  storage = l.storage;
  lists = l.lists;
}

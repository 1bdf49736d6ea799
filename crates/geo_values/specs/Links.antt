-- How the parts lead to one another: keys to items, items to chunks, and the numbers in the lists back to keys.
use Rattle.std.specs.Prelude.{◌≡◌, ℕ, ◌*◌, ◌/◌, ◌<◌, cond, nat_eq, List, [], map, length, Option, Some, None, is_some, count_by, slice_index_or}
use Rattle.std.specs.Option.{unwrap_or}
use Rattle.std.specs.Map.{lookup}
use Rattle.sha2.specs.Sha256.{sha256}
use Rattle.geo_records.specs.Keys.{same_key}
use Rattle.geo_slabs.specs.Storage.{Storage, class_count, chunks_a_page, chunks_in, class_in, held_in, IsClassOf}
use Rattle.geo_lru.specs.Rules.{ListsOf, count}
use Rattle.geo_lru.specs.Lists.{Lists, places}
use Rattle.geo_lru.specs.declared.access.Access.{Access}
use Rattle.geo_values.specs.Stock.{Stock, no_items}
use Rattle.geo_values.specs.declared.parts.Item.{Item}
use Rattle.geo_values.specs.declared.parts.Parts.{Parts}

-- the parts as functions: the item of each key, the key of each number, the chunks, and the numbers in each class's lists
pub record Links : Type 0 where
  pub item : List ℕ → Option Item
  pub key : ℕ → Option (List ℕ)
  pub storage : Storage
  pub lists : ℕ → Lists

-- the parts without the room that they have
pub record Kept : Type 0 where
  pub items : List (List ℕ × Item)
  pub keys : List (Option (List ℕ))
  pub slabs : Storage
  pub classes : List Lists

abbrev pub links_of : Kept → Links
links_of k = record {
  item = λ q. lookup (same_key q) k.items;
  key = λ number. slice_index_or k.keys number None;
  storage = k.slabs;
  lists = λ class. slice_index_or k.classes class no_items;
}

abbrev pub kept_in : Parts → Kept
kept_in p = record { items = p.items.entries; keys = p.keys.slots; slabs = p.slabs; classes = p.classes.items }

abbrev pub links_in : Parts → Links
links_in p = links_of (kept_in p)

-- the bytes of an item
abbrev pub bytes_of : Storage → Option Item → Option (List ℕ)
bytes_of storage None = None
bytes_of storage (Some item) = held_in storage item.chunk

-- the key of a number
abbrev pub key_of : Links → ℕ → List ℕ
key_of l number = unwrap_or (l.key number) []

-- a list of numbers as one of keys
abbrev pub named_list : (ℕ → List ℕ) → List (ℕ × Access) → List (List ℕ × Access)
named_list name es = map (λ e. (name e.0, e.1)) es

abbrev pub named : (ℕ → List ℕ) → Lists → ListsOf (List ℕ)
named name l = record { hot = named_list name l.hot; warm = named_list name l.warm; cold = named_list name l.cold }

-- how many pages a class has
abbrev pub pages_in : Storage → ℕ → ℕ
pages_in storage class = length (chunks_in storage class) / chunks_a_page class

-- what a caller sees of them
abbrev pub stock_of : Links → Stock
stock_of l = record {
  held = λ q. bytes_of l.storage (l.item q);
  lists = λ class. named (key_of l) (l.lists class);
  pages = pages_in l.storage;
  spare = l.storage.spare;
}

-- how many of the chunks hold something
abbrev pub held_count : List (Option (List ℕ)) → ℕ
held_count chunks = count_by is_some chunks

-- an item's chunk is of its class, which is that of its bytes' length, and its digest is theirs
pub record IsItem (storage : Storage) (item : Item) : Type 0 where
  pub bytes : List ℕ
  pub holds : held_in storage item.chunk ≡ Some bytes
  pub digest : item.digest ≡ sha256 bytes
  pub class : item.chunk.class ≡ item.class
  pub fits : IsClassOf (length bytes) item.class

-- the item that a number leads back to
pub record IsBack (l : Links) (number : ℕ) (key : List ℕ) : Type 0 where
  pub item : Item
  pub is : l.item key ≡ Some item
  pub numbered : item.number ≡ number

pub record IsLinked (l : Links) : Type 0 where
  pub sound : (key : List ℕ) (item : Item) → l.item key ≡ Some item → IsItem l.storage item
  -- a key's item has a number that leads to the key, and a number leads to a key that leads to it
  pub there : (key : List ℕ) (item : Item) → l.item key ≡ Some item → l.key item.number ≡ Some key
  pub back : (number : ℕ) (key : List ℕ) → l.key number ≡ Some key → IsBack l number key
  -- no two keys share a chunk
  pub apart : (key other : List ℕ) (i j : Item) → l.item key ≡ Some i → l.item other ≡ Some j → i.chunk ≡ j.chunk → key ≡ other
  -- an item stands once, in a list of its class, and a number without an item nowhere
  pub placed : (key : List ℕ) (item : Item) → l.item key ≡ Some item → (class : ℕ)
      → places item.number (l.lists class) ≡ cond (nat_eq class item.class) 1 0
  pub only : (number class : ℕ) → l.key number ≡ None → places number (l.lists class) ≡ 0
  -- a class has as many items as chunks that hold something
  pub counted : (class : ℕ) → class < class_count → held_count (chunks_in l.storage class) ≡ count (l.lists class)
  -- its chunks are those of whole pages, of which it has some
  pub cut : (class : ℕ) → class < class_count → (class_in l.storage class).per_page ≡ chunks_a_page class
  pub whole : (class : ℕ) → class < class_count → pages_in l.storage class * chunks_a_page class ≡ length (chunks_in l.storage class)
  pub opened : (class : ℕ) → class < class_count → 0 < length (chunks_in l.storage class)
  pub classes : length l.storage.classes ≡ class_count

-- What a line of a script says. No line says two things, and a line that says nothing is a bad line.
use Rattle.std.specs.Prelude.{ℕ, ◌==◌, Bool, true, List, [], ◌∷◌, Option, Some, None, if◌then◌else◌, codes}
use Rattle.std.specs.Option.{option_map, option_and_then}
use Rattle.std.specs.Str.{bytes_eq}
use Rattle.geo_requests.specs.Numbers.{number_of}
use Rattle.geo_records.specs.Keys.{is_key}
use Rattle.geo_cluster.specs.Numbers.{ranged_of}
use Rattle.geo_cluster.specs.Escapes.{unescaped}
use Rattle.geo_slabs.specs.Storage.{class_count, most_pages}
use Rattle.geo_cluster.specs.Splits.{split_at}

pub data Said : Type 0 where
  SaysSites : (count pages most reap : ℕ) → Said
  SaysAt : (moment : ℕ) → Said
  SaysClient : (site : ℕ) (text : List ℕ) → Said
  SaysSend : (from to : ℕ) → Said
  SaysTake : (site parcel : ℕ) → Said
  SaysTick : (site : ℕ) → Said
  SaysRemove : (site : ℕ) → Said
  SaysReap : (site : ℕ) (key : List ℕ) → Said
  SaysEvict : (site : ℕ) (key : List ℕ) → Said
  SaysFill : (site : ℕ) (key bytes : List ℕ) → Said
  SaysVersions : (site : ℕ) → Said
  SaysRetire : (site other : ℕ) → Said

-- what stands before the first space, and what stands behind it
abbrev pub split_of : List ℕ → Option (List ℕ × List ℕ)
split_of line = split_at 32 line

-- the numbers of sites are 1 to 16, moments 1 to 2^40, and parcels count from 0
abbrev pub site_of : List ℕ → Option ℕ
site_of word = ranged_of 1 16 word

abbrev pub moment_of : List ℕ → Option ℕ
moment_of word = ranged_of 1 1099511627776 word

abbrev pub parcel_of : List ℕ → Option ℕ
parcel_of word = number_of 18446744073709551615 word

-- a number at the front of a text, with what stands behind it, where anything does
abbrev pub FrontNumber : Type 0
FrontNumber = ℕ × Option (List ℕ)

abbrev pub front_split : ℕ → ℕ → List ℕ → Option (List ℕ × List ℕ) → Option FrontNumber
front_split least most text None = option_map (λ n. (n, None)) (ranged_of least most text)
front_split least most text (Some parts) = option_map (λ n. (n, Some parts.1)) (ranged_of least most parts.0)

abbrev pub front_number : ℕ → ℕ → List ℕ → Option FrontNumber
front_number least most text = front_split least most text (split_of text)

-- an option that may stand at the front of a text: its number, or this one where the option isn't there
abbrev pub option_split : List ℕ → ℕ → ℕ → ℕ → List ℕ → Option (List ℕ × List ℕ) → Option FrontNumber
option_split name least most otherwise text None = Some (otherwise, Some text)
option_split name least most otherwise text (Some parts) = if bytes_eq parts.0 name then front_number least most parts.1
    else Some (otherwise, Some text)

abbrev pub option_number : List ℕ → ℕ → ℕ → ℕ → Option (List ℕ) → Option FrontNumber
option_number name least most otherwise None = Some (otherwise, None)
option_number name least most otherwise (Some text) = option_split name least most otherwise text (split_of text)

-- how many pages a site has for values, 15 to 65,536, how many records it may keep, 1 to 1,000,000, and for how many seconds it
-- keeps a write that has ended, 0 to 2^31 - 1
abbrev pub pages_number : Option (List ℕ) → Option FrontNumber
pages_number text = option_number (codes "pages") class_count most_pages class_count text

abbrev pub max_number : Option (List ℕ) → Option FrontNumber
max_number text = option_number (codes "max") 1 1000000 100000 text

abbrev pub reap_number : Option (List ℕ) → Option FrontNumber
reap_number text = option_number (codes "reap") 0 2147483647 60 text

-- behind the number of sites stand the options that are there, in this order, and nothing else
abbrev pub unless_more : Option (List ℕ) → Said → Option Said
unless_more None line = Some line
unless_more (Some text) line = None

abbrev pub reap_said : ℕ → ℕ → FrontNumber → Option Said
reap_said n pages max = option_and_then (λ (reap : FrontNumber). unless_more reap.1 (SaysSites n pages max.0 reap.0)) (reap_number max.1)

abbrev pub max_said : ℕ → FrontNumber → Option Said
max_said n pages = option_and_then (reap_said n pages.0) (max_number pages.1)

abbrev pub pages_said : FrontNumber → Option Said
pages_said count = option_and_then (max_said count.0) (pages_number count.1)

abbrev pub sites_said : List ℕ → Option Said
sites_said args = option_and_then pages_said (front_number 1 16 args)

abbrev pub client_said : List ℕ × List ℕ → Option Said
client_said args = option_and_then (λ s. option_map (λ t. SaysClient s t) (unescaped args.1)) (site_of args.0)

-- a site sends no parcel to itself
abbrev pub send_said : List ℕ × List ℕ → Option Said
send_said args = option_and_then (λ s. option_and_then (λ t. if s == t then None else Some (SaysSend s t)) (site_of args.1))
    (site_of args.0)

-- nor does it retire itself
abbrev pub retire_said : List ℕ × List ℕ → Option Said
retire_said args = option_and_then (λ s. option_and_then (λ t. if s == t then None else Some (SaysRetire s t)) (site_of args.1))
    (site_of args.0)

abbrev pub take_said : List ℕ × List ℕ → Option Said
take_said args = option_and_then (λ s. option_map (λ k. SaysTake s k) (parcel_of args.1)) (site_of args.0)

-- a key is one by the command grammar, once its escapes are read
abbrev pub as_key : List ℕ → Option (List ℕ)
as_key bytes = if is_key bytes then Some bytes else None

abbrev pub key_of : List ℕ → Option (List ℕ)
key_of text = option_and_then as_key (unescaped text)

-- a site's number, and a key behind it
abbrev pub SiteKey : Type 0
SiteKey = ℕ × List ℕ

abbrev pub site_key_split : List ℕ × List ℕ → Option SiteKey
site_key_split args = option_and_then (λ s. option_map (λ k. (s, k)) (key_of args.1)) (site_of args.0)

abbrev pub site_key_of : List ℕ → Option SiteKey
site_key_of args = option_and_then site_key_split (split_of args)

abbrev pub said_to_reap : List ℕ → Option Said
said_to_reap args = option_map (λ (p : SiteKey). SaysReap p.0 p.1) (site_key_of args)

abbrev pub said_to_evict : List ℕ → Option Said
said_to_evict args = option_map (λ (p : SiteKey). SaysEvict p.0 p.1) (site_key_of args)

-- a key, and a text behind it, which is the rest of the line
abbrev pub KeyText : Type 0
KeyText = List ℕ × List ℕ

abbrev pub key_text_of : List ℕ × List ℕ → Option KeyText
key_text_of args = option_and_then (λ k. option_map (λ t. (k, t)) (unescaped args.1)) (key_of args.0)

abbrev pub fill_said : List ℕ × List ℕ → Option Said
fill_said args = option_and_then (λ s. option_map (λ (p : KeyText). SaysFill s p.0 p.1) (option_and_then key_text_of (split_of args.1)))
    (site_of args.0)

abbrev pub said_to_fill : List ℕ → Option Said
said_to_fill args = option_and_then fill_said (split_of args)

-- the lines with numbers alone that are no event of a site's own, or retire another
abbrev pub said_by_other : List ℕ → List ℕ → Option Said
said_by_other name args =
    if bytes_eq name (codes "versions") then option_map (λ s. SaysVersions s) (site_of args)
    else (if bytes_eq name (codes "at") then option_map (λ n. SaysAt n) (moment_of args)
    else (if bytes_eq name (codes "sites") then sites_said args
    else (if bytes_eq name (codes "retire") then option_and_then retire_said (split_of args)
    else None)))

abbrev pub said_by_name : List ℕ → List ℕ → Option Said
said_by_name name args =
    if bytes_eq name (codes "client") then option_and_then client_said (split_of args)
    else (if bytes_eq name (codes "send") then option_and_then send_said (split_of args)
    else (if bytes_eq name (codes "take") then option_and_then take_said (split_of args)
    else (if bytes_eq name (codes "tick") then option_map (λ s. SaysTick s) (site_of args)
    else (if bytes_eq name (codes "remove") then option_map (λ s. SaysRemove s) (site_of args)
    else (if bytes_eq name (codes "reap") then said_to_reap args
    else (if bytes_eq name (codes "evict") then said_to_evict args
    else (if bytes_eq name (codes "fill") then said_to_fill args
    else said_by_other name args)))))))

-- what a line says, if it says something
abbrev pub said : List ℕ → Option Said
said line = option_and_then (λ p. said_by_name p.0 p.1) (split_of line)

-- a line that is skipped: an empty one, and one that begins with #
abbrev pub skips : List ℕ → Bool
skips [] = true
skips (b ∷ bs) = b == 35

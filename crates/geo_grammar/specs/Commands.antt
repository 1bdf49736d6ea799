-- What a command line says, by its words (memcached's protocol.txt, "Storage commands" to "Other commands"). The number of
-- words, the key and the place of `noreply` come before numbers: where one of them is wrong the line is bad.
use Rattle.std.specs.Prelude.{◌≡◌, ℕ, ℤ, pos, nat_lt, Bool, true, false, List, [], ◌∷◌, codes, Option, Some, None, if◌then◌else◌}
use Rattle.std.specs.List.{list_all}
use Rattle.std.specs.Option.{option_map, option_or}
use Rattle.std.specs.Str.{bytes_eq}
use Rattle.geo_records.specs.Keys.{is_key}
use Rattle.geo_requests.specs.Limits.{longest_value, most_number}
use Rattle.geo_grammar.specs.Limits.{most_bytes, most_flags}
use Rattle.geo_requests.specs.Numbers.{number_of}
use Rattle.geo_grammar.specs.Words.{line_text, words_of, signed_of}
use Rattle.geo_grammar.specs.declared.fault.LineFault.TheVariants.{Unknown, BadLine, BadNumber}
use Rattle.geo_requests.specs.declared.request.Verb.{Verb}
use Rattle.geo_requests.specs.declared.request.Verb.TheVariants.{Set, Add, Replace, Append, Prepend, Cas}
use Rattle.geo_requests.specs.declared.request.Request.{Request}
use Rattle.geo_requests.specs.declared.request.Request.TheVariants as request
use Rattle.geo_grammar.specs.declared.command.Command.{Command}
use Rattle.geo_grammar.specs.declared.command.Command.TheVariants.{Storage, Fetch, FetchTouch, Delete, Touch, Arith, FlushAll, Version, Verbosity, Stats, Quit}
use Rattle.geo_grammar.specs.declared.head.Head.{Head}
use Rattle.geo_grammar.specs.declared.storage.Ending.{Ending}
use Rattle.geo_grammar.specs.declared.line.Line.{Line}
use Rattle.geo_grammar.specs.declared.line.Line.TheVariants as line

-- ---- names

-- what a name stands for in a table of names
abbrev pub found_in : {A : Type 0} → List (List ℕ × A) → List ℕ → Option A
found_in [] name = None
found_in (row ∷ rows) name = if bytes_eq name row.0 then Some row.1 else found_in rows name

abbrev pub verbs : List (List ℕ × Verb)
verbs = (codes "set", Set) ∷ (codes "add", Add) ∷ (codes "replace", Replace) ∷ (codes "append", Append) ∷ (codes "prepend", Prepend) ∷ (codes "cas", Cas) ∷ []

-- they name keys
abbrev pub keyed : List (List ℕ × Command)
keyed =
    (codes "get", Fetch false) ∷ (codes "gets", Fetch true) ∷ (codes "gat", FetchTouch false) ∷ (codes "gats", FetchTouch true) ∷ (codes "delete", Delete) ∷ (codes "touch", Touch) ∷
    (codes "incr", Arith true) ∷ (codes "decr", Arith false) ∷ []

abbrev pub others : List (List ℕ × Command)
others = (codes "flush_all", FlushAll) ∷ (codes "version", Version) ∷ (codes "verbosity", Verbosity) ∷ (codes "stats", Stats) ∷ (codes "quit", Quit) ∷ []

abbrev pub verb_of : List ℕ → Option Verb
verb_of name = found_in verbs name

-- the command of a name, in lower case
abbrev pub command_of : List ℕ → Option Command
command_of name = option_or (found_in keyed name) (option_or (found_in others name) (option_map Storage (verb_of name)))

-- ---- noreply

-- behind the words that a command has to have stands nothing, or `noreply` alone
abbrev pub noreply_of : List (List ℕ) → Option Bool
noreply_of [] = Some false
noreply_of (word ∷ []) = if bytes_eq word (codes "noreply") then Some true else None
noreply_of (word ∷ other ∷ words) = None

-- ---- storage commands

-- the request of a storage line, with its data
abbrev pub stored : Head → List ℕ → Request
stored head bytes = request.Store head.verb head.key head.flags head.exptime head.unique bytes head.noreply

abbrev pub plain_ending : Option Bool → Option Ending
plain_ending None = None
plain_ending (Some noreply) = Some (record { unique = None; noreply = noreply })

abbrev pub cas_ending : Option ℕ → Option Bool → Option Ending
cas_ending None noreply = None
cas_ending (Some unique) None = None
cas_ending (Some unique) (Some noreply) = Some (record { unique = Some unique; noreply = noreply })

abbrev pub cas_words : List (List ℕ) → Option Ending
cas_words [] = None
cas_words (unique ∷ words) = cas_ending (number_of most_number unique) (noreply_of words)

-- what stands behind <bytes>: for cas alone <cas unique>, and then [noreply]
abbrev pub ending_of : Verb → List (List ℕ) → Option Ending
ending_of Set words = plain_ending (noreply_of words)
ending_of Add words = plain_ending (noreply_of words)
ending_of Replace words = plain_ending (noreply_of words)
ending_of Append words = plain_ending (noreply_of words)
ending_of Prepend words = plain_ending (noreply_of words)
ending_of Cas words = cas_words words

-- what a storage line announces, where each of its numbers can be read
abbrev pub head_of : Verb → List ℕ → Option ℕ → Option ℤ → Option ℕ → Option Ending → Option Head
head_of verb key None exptime size ending = None
head_of verb key (Some flags) None size ending = None
head_of verb key (Some flags) (Some exptime) None ending = None
head_of verb key (Some flags) (Some exptime) (Some size) None = None
head_of verb key (Some flags) (Some exptime) (Some size) (Some ending) =
    Some (record { verb = verb; key = key; flags = flags; exptime = exptime; unique = ending.unique; size = size; noreply = ending.noreply })

abbrev pub storage_head : Verb → List ℕ → List ℕ → List ℕ → List ℕ → List (List ℕ) → Option Head
storage_head verb key flags exptime size words =
    if is_key key then head_of verb key (number_of most_flags flags) (signed_of exptime) (number_of most_bytes size) (ending_of verb words)
    else None

-- data that is too large is skipped, and not kept
abbrev pub head_line : Option Head → Line
head_line None = line.Bad BadLine
head_line (Some head) = if nat_lt longest_value head.size then line.Huge head.size else line.Storage head

-- <key> <flags> <exptime> <bytes> [<cas unique>] [noreply]
abbrev pub storage_line : Verb → List (List ℕ) → Line
storage_line verb (key ∷ flags ∷ exptime ∷ size ∷ words) = head_line (storage_head verb key flags exptime size words)
storage_line verb _ = line.Bad BadLine

-- ---- retrieval commands

-- there is no word, or one that is no key
abbrev pub NoKeys : List (List ℕ) → Type 0
NoKeys [] = Unit {0}
NoKeys (key ∷ keys) = list_all is_key (key ∷ keys) ≡ false

-- <key>*, at least one
abbrev pub fetch_line : Bool → List (List ℕ) → Line
fetch_line numbers [] = line.Bad BadLine
fetch_line numbers (key ∷ keys) = if list_all is_key (key ∷ keys) then line.Whole (request.Fetch (key ∷ keys) numbers) else line.Bad BadLine

-- <exptime> <key>*, at least one
abbrev pub touched_keys : Bool → List (List ℕ) → Option ℤ → Line
touched_keys numbers keys None = line.Bad BadNumber
touched_keys numbers keys (Some exptime) = line.Whole (request.FetchTouch exptime keys numbers)

abbrev pub fetch_touch_line : Bool → List (List ℕ) → Line
fetch_touch_line numbers (exptime ∷ key ∷ keys) = if list_all is_key (key ∷ keys) then touched_keys numbers (key ∷ keys) (signed_of exptime)
    else line.Bad BadLine
fetch_touch_line numbers _ = line.Bad BadLine

-- ---- deletion

-- a 0 may stand before noreply
abbrev pub after_zero : List (List ℕ) → List (List ℕ)
after_zero [] = []
after_zero (word ∷ words) = if bytes_eq word (codes "0") then words else word ∷ words

abbrev pub delete_words : List ℕ → Option Bool → Line
delete_words key None = line.Bad BadLine
delete_words key (Some noreply) = if is_key key then line.Whole (request.Delete key noreply) else line.Bad BadLine

-- <key> [0] [noreply]
abbrev pub delete_line : List (List ℕ) → Line
delete_line [] = line.Bad BadLine
delete_line (key ∷ words) = delete_words key (noreply_of (after_zero words))

-- ---- touch

abbrev pub touch_number : List ℕ → Option ℤ → Bool → Line
touch_number key None noreply = line.Bad BadNumber
touch_number key (Some exptime) noreply = line.Whole (request.Touch key exptime noreply)

abbrev pub touch_words : List ℕ → List ℕ → Option Bool → Line
touch_words key exptime None = line.Bad BadLine
touch_words key exptime (Some noreply) = if is_key key then touch_number key (signed_of exptime) noreply else line.Bad BadLine

-- <key> <exptime> [noreply]
abbrev pub touch_line : List (List ℕ) → Line
touch_line (key ∷ exptime ∷ words) = touch_words key exptime (noreply_of words)
touch_line _ = line.Bad BadLine

-- ---- increment and decrement

abbrev pub arith_number : Bool → List ℕ → Option ℕ → Bool → Line
arith_number up key None noreply = line.Bad BadNumber
arith_number up key (Some by) noreply = line.Whole (request.Arith up key by noreply)

abbrev pub arith_words : Bool → List ℕ → List ℕ → Option Bool → Line
arith_words up key by None = line.Bad BadLine
arith_words up key by (Some noreply) = if is_key key then arith_number up key (number_of most_number by) noreply else line.Bad BadLine

-- <key> <value> [noreply]
abbrev pub arith_line : Bool → List (List ℕ) → Line
arith_line up (key ∷ by ∷ words) = arith_words up key by (noreply_of words)
arith_line up _ = line.Bad BadLine

-- ---- the other commands

abbrev pub verbosity_words : Option ℕ → Option Bool → Line
verbosity_words level None = line.Bad BadLine
verbosity_words None (Some noreply) = line.Bad BadNumber
verbosity_words (Some level) (Some noreply) = line.Whole (request.Verbosity noreply)

-- <level> [noreply]
abbrev pub verbosity_line : List (List ℕ) → Line
verbosity_line [] = line.Bad BadLine
verbosity_line (level ∷ words) = verbosity_words (number_of most_flags level) (noreply_of words)

abbrev pub flush_number : Option ℤ → Bool → Line
flush_number None noreply = line.Bad BadNumber
flush_number (Some delay) noreply = line.Whole (request.FlushAll delay noreply)

abbrev pub flush_words : List ℕ → Option Bool → Line
flush_words delay None = line.Bad BadLine
flush_words delay (Some noreply) = flush_number (signed_of delay) noreply

abbrev pub flush_alone : List (List ℕ) → Line
flush_alone [] = line.Whole (request.FlushAll (pos 0) true)
flush_alone (word ∷ words) = line.Bad BadLine

-- [delay] [noreply]
abbrev pub flush_line : List (List ℕ) → Line
flush_line [] = line.Whole (request.FlushAll (pos 0) false)
flush_line (word ∷ words) = if bytes_eq word (codes "noreply") then flush_alone words else flush_words word (noreply_of words)

-- no word behind the name
abbrev pub lone_line : Request → List (List ℕ) → Line
lone_line request [] = line.Whole request
lone_line request (word ∷ words) = line.Bad BadLine

-- ---- lines

-- a command, and the words behind its name
abbrev pub command_line : Option Command → List (List ℕ) → Line
command_line None words = line.Bad Unknown
command_line (Some (Storage verb)) words = storage_line verb words
command_line (Some (Fetch numbers)) words = fetch_line numbers words
command_line (Some (FetchTouch numbers)) words = fetch_touch_line numbers words
command_line (Some Delete) words = delete_line words
command_line (Some Touch) words = touch_line words
command_line (Some FlushAll) words = flush_line words
command_line (Some (Arith up)) words = arith_line up words
command_line (Some Version) words = lone_line request.ShowVersion words
command_line (Some Verbosity) words = verbosity_line words
command_line (Some Stats) words = lone_line request.Stats words
command_line (Some Quit) words = lone_line request.Quit words

abbrev pub words_say : List (List ℕ) → Line
words_say [] = line.Bad Unknown
words_say (name ∷ words) = command_line (command_of name) words

-- what a line says
abbrev pub line_says : List ℕ → Line
line_says line = words_say (words_of (line_text line))

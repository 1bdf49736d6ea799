-- What a script does, line after line, and where it ends before its end.
use Rattle.std.specs.Prelude.{◌≡◌, ◌⊎◌, ℕ, ◌+◌, ◌^◌, ◌≤◌, vec_capacity, Bool, true, false, List, [], ◌∷◌, ◌++◌, length, take, Option, MatchOption, IfSome, IsTrue}
use Rattle.std.specs.Bool.{MatchBool}
use Rattle.std.specs.Io.KnownBytes.{Appends}
use Rattle.geo_cluster.specs.Sayings.{said, skips}
use Rattle.geo_cluster.specs.Progress.{Progress, opening, Runs}
use Rattle.geo_cluster.specs.Effects.{can_carry, SaidDoes}
use Rattle.geo_cluster.specs.Standing.{Stands}
use Rattle.geo_cluster.specs.Wants.{MayWant, WantsAt}
use Rattle.geo_cluster.specs.declared.script.fault.ScriptFault.{ScriptFault}
use Rattle.geo_cluster.specs.declared.script.fault.ScriptFault.TheVariants.{BadLine, Memory, Read, Write}
use Rattle.geo_cluster.specs.declared.script.cluster.Cluster.{Cluster}
use Rattle.geo_cluster.specs.declared.script.run.Run.{Run}

-- what a line prints and leaves: a skipped one prints and changes nothing, another does what it says
abbrev pub PlaysLine : Progress → List ℕ → List ℕ → Progress → Type 0
PlaysLine old line text new =
    MatchBool (skips line) ((text ≡ []) × (new ≡ old)) (MatchOption (said line) ⊥ (λ s. (can_carry old s ≡ true) × SaidDoes old s text new))

-- a line that is neither skipped nor carried out
abbrev pub IsBadLine : Progress → List ℕ → Type 0
IsBadLine p line = (skips line ≡ false) × MatchOption (said line) (Unit {0}) (λ s. can_carry p s ≡ false)

-- what a fault says at a line of this number: it is bad, or memory may be wanted for it
abbrev pub EndsAtLine : ScriptFault → Progress → List ℕ → ℕ → Type 0
EndsAtLine (BadLine n) p line number = IsBadLine p line × (n ≡ number)
EndsAtLine Memory p line number = MayWant p line
EndsAtLine Read p line number = ⊥
EndsAtLine Write p line number = ⊥

-- a line is played, and what it prints stands behind what was printed before
pub record PlaysOn (p : Progress) (line before after : List ℕ) (new : Cluster) : Type 0 where
  pub progress : Progress
  pub text : List ℕ
  pub plays : PlaysLine p line text progress
  pub stands : Stands progress new
  pub printed : after ≡ before ++ text

-- a write that failed is the writer's, and within a piece nothing is read
abbrev pub IsOfWriter : ScriptFault → Bool → Type 0
IsOfWriter (BadLine n) failed = Unit {0}
IsOfWriter Memory failed = Unit {0}
IsOfWriter Read failed = ⊥
IsOfWriter Write failed = IsTrue failed

-- so many reads are not enough for an input that is at least as long
abbrev pub IsLong : Option (List ℕ) → Type 0
IsLong input = IfSome input (λ bytes. 2 ^ 48 ≤ length bytes)

-- a read that failed is the reader's, unless the input is long; a write that failed is the writer's
abbrev pub IsOfDevices : ScriptFault → Option (List ℕ) → Bool → Bool → Type 0
IsOfDevices (BadLine n) input reader writer = Unit {0}
IsOfDevices Memory input reader writer = Unit {0}
IsOfDevices Read input reader writer = IsTrue reader ⊎ IsLong input
IsOfDevices Write input reader writer = IsTrue writer

-- memory was wanted for the buffers, and reader and writer are as they were
abbrev pub NothingBegan : {R W : Type 0} → ScriptFault → R → R → W → W → Type 0
NothingBegan fault reader reader' writer writer' = (fault ≡ Memory) × (reader' ≡ reader) × (writer' ≡ writer)

-- there is room for the bytes of two reads behind the last line end
abbrev pub HasRoom : Run → Type 0
HasRoom run = 32768 ≤ vec_capacity run.unfinished

-- a run before its first byte
pub record IsFresh (run : Run) : Type 0 where
  pub stands : Stands opening run.cluster
  pub unfinished : run.unfinished.items ≡ []
  pub lines : run.lines ≡ 0
  pub out : run.out.items ≡ []
  pub room : HasRoom run

-- lines, one after the other, print their texts one after the other
abbrev pub Plays : Progress → List (List ℕ) → List ℕ → Progress → Type 0
Plays old [] text new = (text ≡ []) × (new ≡ old)
Plays old (line ∷ lines) text new = (mid : Progress) × (first : List ℕ) × (more : List ℕ) × PlaysLine old line first mid
    × Plays mid lines more new × (text ≡ first ++ more)

-- of what was printed and waits, some is written, in order, and the rest waits
abbrev pub Prints : Option (List ℕ) → Option (List ℕ) → List ℕ → List ℕ → List ℕ → Type 0
Prints old new waited waits text = (written : List ℕ) × Appends old new written × (waited ++ text ≡ written ++ waits)

-- the first of the lines that weren't played is bad, and has this number
pub record IsBadAt (n : ℕ) (p : Progress) (lines : List (List ℕ)) (number : ℕ) : Type 0 where
  pub line : List ℕ
  pub more : List (List ℕ)
  pub first : lines ≡ line ∷ more
  pub bad : IsBadLine p line
  pub counted : n ≡ number

-- what a fault says where so many lines were played: which line is bad or wants memory, and that all that they printed is written or waits;
-- after a failed write a beginning of it is written
abbrev pub StopsFor : ScriptFault → Progress → List (List ℕ) → ℕ → Option (List ℕ) → Option (List ℕ) → List ℕ → List ℕ → List ℕ → Type 0
StopsFor (BadLine n) p lines number old new waited waits text = IsBadAt n p lines number × Prints old new waited waits text
StopsFor Memory p lines number old new waited waits text = WantsAt p lines × Prints old new waited waits text
StopsFor Read p lines number old new waited waits text = Prints old new waited waits text
StopsFor Write p lines number old new waited waits text = (n : ℕ) × Appends old new (take n (waited ++ text)) × (waits ≡ [])

-- a run has played these lines, from whatever it stood at
pub record AdvancesFrom (p : Progress) (old new : Run) (lines : List (List ℕ)) (before after : Option (List ℕ)) : Type 0 where
  pub text : List ℕ
  pub progress : Progress
  pub plays : Plays p lines text progress
  pub stands : Stands progress new.cluster
  pub count : new.lines ≡ old.lines + length lines
  pub prints : Prints before after old.out.items new.out.items text

abbrev pub Advances : Run → Run → List (List ℕ) → Option (List ℕ) → Option (List ℕ) → Type 0
Advances old new lines before after = (p : Progress) → Stands p old.cluster → AdvancesFrom p old new lines before after

-- a run has played some of these lines, and a fault ended it
pub record StopsFrom (fault : ScriptFault) (p : Progress) (old : Run) (lines : List (List ℕ)) (before after : Option (List ℕ))
    (waits : List ℕ) : Type 0 where
  pub done : List (List ℕ)
  pub more : List (List ℕ)
  pub text : List ℕ
  pub progress : Progress
  pub split : lines ≡ done ++ more
  pub plays : Plays p done text progress
  pub runs : Runs progress.setups progress.events progress.traces
  pub why : StopsFor fault progress more (old.lines + length done + 1) before after old.out.items waits text

abbrev pub Stops : ScriptFault → Run → List (List ℕ) → Option (List ℕ) → Option (List ℕ) → List ℕ → Type 0
Stops fault old lines before after waits = (p : Progress) → Stands p old.cluster → StopsFrom fault p old lines before after waits

-- a whole script: its lines were played, their events and traces are those of a run, and what they printed is written
pub record Performs (lines : List (List ℕ)) (before after : Option (List ℕ)) : Type 0 where
  pub text : List ℕ
  pub progress : Progress
  pub plays : Plays opening lines text progress
  pub runs : Runs progress.setups progress.events progress.traces
  pub written : Appends before after text

-- a script that a fault ended: the lines before were played, and what they printed is written, or a beginning of it where a
-- write failed
abbrev pub EndsFor : ScriptFault → Progress → List (List ℕ) → ℕ → Option (List ℕ) → Option (List ℕ) → List ℕ → Type 0
EndsFor (BadLine n) p lines number old new text = IsBadAt n p lines number × Appends old new text
EndsFor Memory p lines number old new text = WantsAt p lines × Appends old new text
EndsFor Read p lines number old new text = Appends old new text
EndsFor Write p lines number old new text = (n : ℕ) × Appends old new (take n text)

pub record Ends (fault : ScriptFault) (lines : List (List ℕ)) (before after : Option (List ℕ)) : Type 0 where
  pub done : List (List ℕ)
  pub more : List (List ℕ)
  pub text : List ℕ
  pub progress : Progress
  pub split : lines ≡ done ++ more
  pub plays : Plays opening done text progress
  pub runs : Runs progress.setups progress.events progress.traces
  pub why : EndsFor fault progress more (length done + 1) before after text

-- A number for each counter.
use Rattle.std.specs.Prelude.{ℕ, ◌+◌, List, [], ◌∷◌}
use Rattle.geo_tally.specs.declared.counter.Counter.{Counter}
use Rattle.geo_tally.specs.declared.counter.Counter.TheVariants.{Sessions, Requests, Faults, Rounds, FramesRefused}
use Rattle.geo_tally.specs.declared.counter.Counts.{Counts}

-- a counter's place in a list
abbrev pub place_of : Counter → ℕ
place_of Sessions = 0
place_of Requests = 1
place_of Faults = 2
place_of Rounds = 3
place_of FramesRefused = 4

abbrev pub count_of : Counter → Counts → ℕ
count_of Sessions n = n.sessions
count_of Requests n = n.requests
count_of Faults n = n.faults
count_of Rounds n = n.rounds
count_of FramesRefused n = n.frames_refused

abbrev pub no_counts : Counts
no_counts = record { sessions = 0; requests = 0; faults = 0; rounds = 0; frames_refused = 0 }

-- one more of that counter, and as many as before of every other
abbrev pub one_more : Counter → Counts → Counts
one_more Sessions n = record n { sessions = n.sessions + 1 }
one_more Requests n = record n { requests = n.requests + 1 }
one_more Faults n = record n { faults = n.faults + 1 }
one_more Rounds n = record n { rounds = n.rounds + 1 }
one_more FramesRefused n = record n { frames_refused = n.frames_refused + 1 }

-- the sums of two, counter by counter
abbrev pub together : Counts → Counts → Counts
together m n = record {
  sessions = m.sessions + n.sessions;
  requests = m.requests + n.requests;
  faults = m.faults + n.faults;
  rounds = m.rounds + n.rounds;
  frames_refused = m.frames_refused + n.frames_refused;
}

-- the sums of what each of a list counts
abbrev pub all_together : {A : Type 0} → (A → Counts) → List A → Counts
all_together f [] = no_counts
all_together f (x ∷ xs) = together (f x) (all_together f xs)

-- all counters added up
abbrev pub whole : Counts → ℕ
whole n = n.sessions + n.requests + n.faults + n.rounds + n.frames_refused

-- the numbers in the counters' order
abbrev pub in_order : Counts → List ℕ
in_order n = n.sessions ∷ n.requests ∷ n.faults ∷ n.rounds ∷ n.frames_refused ∷ []

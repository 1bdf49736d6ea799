-- What a connection is told stands in the one history of its site.
use Rattle.std.specs.Prelude.{◌≡◌, ◌⊎◌, ℕ, true, List, [], ◌∷◌, ◌++◌}
use Rattle.geo_requests.specs.declared.reply.Reply.{Reply}
use Rattle.geo_requests.specs.declared.reply.Reply.TheVariants.{OutOfMemory}
use Rattle.geo_requests.specs.declared.request.Request.{Request}
use Rattle.geo_history.specs.declared.step.Step.{Step}
use Rattle.geo_journal.specs.Marks.{Marked}
use Rattle.geo_site.specs.declared.event.Event.TheVariants.{Command, Tick}
use Rattle.geo_site.specs.declared.event.Answer.TheVariants.{Replied, Ticked}
use Rattle.geo_dialogue.specs.Exchanges.{Exchange, Asked, Told}

-- a due flush
pub record IsFlush (step : Step) : Type 0 where
  pub now : ℕ
  pub asked : step.event ≡ Tick now
  pub said : step.answer ≡ Ticked true

-- one, or none
abbrev pub Flushes : List Step → Type 0
Flushes steps = (steps ≡ []) ⊎ ((step : Step) × (steps ≡ step ∷ []) × IsFlush step)

-- a request with the very reply, behind a due flush
pub record IsTold (request : Request) (reply : Reply) (steps : List Step) : Type 0 where
  pub before : List Step
  pub flushes : Flushes before
  pub step : Step
  pub now : ℕ
  pub is : steps ≡ before ++ step ∷ []
  pub asked : step.event ≡ Command now request
  pub said : step.answer ≡ Replied reply

-- want of memory is told of a request that was not carried out, too
abbrev pub Tells : Request → Reply → List Step → Type 0
Tells request reply steps = IsTold request reply steps ⊎ ((reply ≡ OutOfMemory) × Flushes steps)

-- each request with its reply, in order, and nothing else
abbrev pub TellAll : List Exchange → List Step → Type 0
TellAll [] steps = steps ≡ []
TellAll (Asked request reply ∷ more) steps =
    (one : List Step) × (rest : List Step) × (steps ≡ one ++ rest) × Tells request reply one × TellAll more rest
TellAll (Told fault ∷ more) steps = TellAll more steps

-- a seat's own steps go on with them
pub record GoesOnWith (exchanges : List Exchange) (old new : Marked) : Type 0 where
  pub steps : List Step
  pub own : new.own ≡ old.own ++ steps
  pub tell : TellAll exchanges steps

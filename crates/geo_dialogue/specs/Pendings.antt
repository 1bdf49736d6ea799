-- What is still to be done for a client, and how it is done bit by bit.
use Rattle.std.specs.Prelude.{◌≡◌, ◌≤◌, ℕ, false, List, [], ◌∷◌, ◌++◌, length, cond}
use Rattle.std.specs.Option.{unwrap_or}
use Rattle.geo_grammar.specs.Quitting.{is_quit, until_quit}
use Rattle.geo_grammar.specs.declared.item.Item.{Item}
use Rattle.geo_requests.specs.declared.reply.Reply.{Reply}
use Rattle.geo_requests.specs.declared.request.Request.{Request}
use Rattle.geo_dialogue.specs.Connections.{Connection, GoesOn, Fails}
use Rattle.geo_dialogue.specs.declared.fault.SessionFault.{SessionFault}
use Rattle.geo_dialogue.specs.declared.pending.Pending.{Pending}

-- the text that is left to be rendered of a reply that is begun
abbrev pub untold_in : Pending → List ℕ
untold_in p = unwrap_or p.telling []

-- as a connection that takes no more has it to do
abbrev pub debt_of : Pending → Connection
debt_of p = record {
  read = [];
  waiting = until_quit p.waiting.items;
  owed = p.answers.text.items;
  untold = untold_in p;
  answered = p.answers.calls;
  goes_on = false;
}

-- the same with an item in front, which was taken out to be answered
abbrev pub with_item : Item → Pending → Connection
with_item item p = record (debt_of p) { waiting = item ∷ cond (is_quit item) [] (until_quit p.waiting.items) }

-- text goes from what is left to be rendered to what is rendered, and nothing else is done
pub record Tells (old new : Pending) : Type 0 where
  pub text : new.answers.text.items ++ untold_in new ≡ old.answers.text.items ++ untold_in old
  pub grows : length old.answers.text.items ≤ length new.answers.text.items
  pub calls : new.answers.calls ≡ old.answers.calls
  pub waiting : new.waiting ≡ old.waiting

-- it went on, and then a step ended by a fault
pub record Breaks {S : Type 0} (answers : S → Request → Reply → S → Type 0) (refuses : S → Request → S → Type 0) (fault : SessionFault)
    (old new : Connection) (before after : S) : Type 0 where
  pub at : Connection
  pub between : S
  pub went : GoesOn answers old at before between
  pub fails : Fails answers refuses fault at new between after

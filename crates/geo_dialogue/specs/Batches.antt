-- What is done with the items that one read brings, before their answers are written.
use Rattle.std.specs.Prelude.{◌≡◌, ◌≢◌, ℕ, true, false, List, [], ◌∷◌, ◌++◌, Option}
use Rattle.std.specs.Io.KnownBytes.{Appends}
use Rattle.geo_grammar.specs.Protocol.{items_of}
use Rattle.geo_grammar.specs.declared.item.Item.{Item}
use Rattle.geo_grammar.specs.declared.item.Item.TheVariants as kind
use Rattle.geo_requests.specs.declared.reply.Reply.{Reply}
use Rattle.geo_requests.specs.declared.request.Request.{Request}
use Rattle.geo_grammar.specs.Quitting.{has_quit, until_quit}
use Rattle.geo_dialogue.specs.Connections.{IsRefused, BreaksFor}
use Rattle.geo_dialogue.specs.Exchanges.{Exchange, item_in, items_in, text_of, count_after, Runs}
use Rattle.geo_dialogue.specs.Sessions.{StopsFor}
use Rattle.geo_dialogue.specs.declared.answers.Answers.{Answers}
use Rattle.geo_dialogue.specs.declared.answers.Begun.{Begun}
use Rattle.geo_dialogue.specs.declared.answers.Begun.TheVariants.{Whole, Part, Refused}
use Rattle.geo_dialogue.specs.declared.answers.Course.{Course}
use Rattle.geo_dialogue.specs.declared.answers.Course.TheVariants.{Open, Quits, Spent}
use Rattle.geo_dialogue.specs.declared.fault.SessionFault.{SessionFault}

-- exchanges that were done: their text stands behind what waits to be written, and they are counted
pub record Adds (before after : Answers) (exchanges : List Exchange) : Type 0 where
  pub text : after.text.items ≡ before.text.items ++ text_of exchanges
  pub count : after.calls ≡ count_after before.calls exchanges

-- an item was answered
pub record AnswersItem {S : Type 0} (answers : S → Request → Reply → S → Type 0) (item : Item) (old new : S) (before after : Answers) :
    Type 0 where
  pub exchange : Exchange
  pub came : item_in exchange ≡ item
  pub run : Runs answers old (exchange ∷ []) new
  pub adds : Adds before after (exchange ∷ [])

-- an item was answered, and memory was refused for the text
pub record LosesAnswer {S : Type 0} (answers : S → Request → Reply → S → Type 0) (item : Item) (old new : S) (before after : Answers) :
    Type 0 where
  pub exchange : Exchange
  pub came : item_in exchange ≡ item
  pub run : Runs answers old (exchange ∷ []) new
  pub text : after.text.items ≡ before.text.items
  pub count : after.calls ≡ count_after before.calls (exchange ∷ [])

-- a request was not answered
pub record RefusesItem {S : Type 0} (refuses : S → Request → S → Type 0) (item : Item) (old new : S) (before after : Answers) : Type 0 where
  pub request : Request
  pub is : item ≡ kind.Request request
  pub refused : refuses old request new
  pub adds : Adds before after []

-- an item was answered, and the text is still to be told
pub record AnswersPart {S : Type 0} (answers : S → Request → Reply → S → Type 0) (item : Item) (left : List ℕ) (old new : S) (before
    after : Answers) : Type 0 where
  pub exchange : Exchange
  pub came : item_in exchange ≡ item
  pub run : Runs answers old (exchange ∷ []) new
  pub untold : left ≡ text_of (exchange ∷ [])
  pub some : left ≢ []
  pub text : after.text.items ≡ before.text.items
  pub count : after.calls ≡ count_after before.calls (exchange ∷ [])

-- how far an item was answered
abbrev pub Begins : {S : Type 0} → (S → Request → Reply → S → Type 0) → (S → Request → S → Type 0) → Begun → Item → S → S → Answers → Answers
    → Type 0
Begins answers refuses Whole item old new before after = AnswersItem answers item old new before after
Begins answers refuses (Part telling) item old new before after = AnswersPart answers item telling old new before after
Begins answers refuses Refused item old new before after = RefusesItem refuses item old new before after

-- how far items were answered
abbrev pub IsCourse : {S : Type 0} → (S → Request → S → Type 0) → Course → List Item → List Item → S → S → Type 0
IsCourse refuses Open items left mid new = (has_quit items ≡ false) × (left ≡ []) × (new ≡ mid)
IsCourse refuses Quits items left mid new = (has_quit items ≡ true) × (left ≡ []) × (new ≡ mid)
IsCourse refuses Spent items left mid new = IsRefused refuses left mid new

-- items up to a quit were answered, or a beginning of them where the backend refused the next one
pub record AnswersItems {S : Type 0} (answers : S → Request → Reply → S → Type 0) (refuses : S → Request → S → Type 0) (course : Course)
    (items : List Item) (old new : S) (before after : Answers) : Type 0 where
  pub done : List Exchange
  pub left : List Item
  pub mid : S
  pub came : until_quit items ≡ items_in done ++ left
  pub run : Runs answers old done mid
  pub adds : Adds before after done
  pub course_is : IsCourse refuses course items left mid new

-- a beginning of them was answered, and memory was refused for the text of the last
pub record LosesAnswers {S : Type 0} (answers : S → Request → Reply → S → Type 0) (items : List Item) (old new : S) (before after :
    Answers) : Type 0 where
  pub done : List Exchange
  pub lost : Exchange
  pub left : List Item
  pub came : until_quit items ≡ items_in (done ++ lost ∷ []) ++ left
  pub run : Runs answers old (done ++ lost ∷ []) new
  pub text : after.text.items ≡ before.text.items ++ text_of done
  pub count : after.calls ≡ count_after before.calls (done ++ lost ∷ [])

-- a piece behind a text was answered
pub record AnsweredBy {S : Type 0} (answers : S → Request → Reply → S → Type 0) (piece text next : List ℕ) (old new : Answers) (before
    after : S) : Type 0 where
  pub exchanges : List Exchange
  pub read : next ≡ text ++ piece
  pub came : until_quit (items_of (text ++ piece)) ≡ items_of text ++ items_in exchanges
  pub run : Runs answers before exchanges after
  pub adds : Adds old new exchanges

-- a fault came within it
pub record BrokenBy {S : Type 0} (answers : S → Request → Reply → S → Type 0) (refuses : S → Request → S → Type 0) (fault :
    SessionFault) (piece text : List ℕ) (old new : Answers) (before after : S) : Type 0 where
  pub done : List Exchange
  pub lost : List Exchange
  pub left : List Item
  pub mid : S
  pub came : until_quit (items_of (text ++ piece)) ≡ items_of text ++ (items_in (done ++ lost) ++ left)
  pub run : Runs answers before (done ++ lost) mid
  pub appended : new.text.items ≡ old.text.items ++ text_of done
  pub count : new.calls ≡ count_after old.calls (done ++ lost)
  pub why : BreaksFor refuses fault lost left mid after

-- a piece behind a text was answered, and its answers are written
pub record Served {S : Type 0} (answers : S → Request → Reply → S → Type 0) (piece text : List ℕ) (old new : S) (before after : Option
    (List ℕ)) : Type 0 where
  pub exchanges : List Exchange
  pub came : until_quit (items_of (text ++ piece)) ≡ items_of text ++ items_in exchanges
  pub run : Runs answers old exchanges new
  pub written : Appends before after (text_of exchanges)

-- a fault ended the session within it
pub record ServedPart {S : Type 0} (answers : S → Request → Reply → S → Type 0) (refuses : S → Request → S → Type 0) (fault :
    SessionFault) (piece text : List ℕ) (old new : S) (before after : Option (List ℕ)) : Type 0 where
  pub done : List Exchange
  pub lost : List Exchange
  pub left : List Item
  pub mid : S
  pub part : List ℕ
  pub rest : List ℕ
  pub came : until_quit (items_of (text ++ piece)) ≡ items_of text ++ (items_in (done ++ lost) ++ left)
  pub run : Runs answers old (done ++ lost) mid
  pub split : text_of done ≡ part ++ rest
  pub written : Appends before after part
  pub why : StopsFor refuses fault (text ++ piece) (items_of (text ++ piece)) lost left rest mid new

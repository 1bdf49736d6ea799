-- Sessions, piece by piece.
use Rattle.std.proofs.Common.{◌≡◌, ℕ, ◌≤◌, Bool, true, false, cond, List, [], ◌∷◌, ◌++◌, length, take, drop, Option, None, Some, is_none, Result, Ok, Err, IfOk, IfErr, refl, sym, ap, subst, ◌∙◌, arith, append_assoc, append-nil, ◌⊎◌, inl, inr}
use Rattle.std.specs.Result.{IsErrAnd}
use Rattle.std.specs.Io.KnownBytes.{Appends, Consumes}
use Rattle.std.proofs.KnownBytes.{Appends-nil, Appends-trans, Consumes-trans}
use Rattle.std.proofs.lemmas.Bool.{cond-true, cond-false}
use Rattle.std.proofs.lemmas.List.{take-append-drop}
use Rattle.geo_grammar.specs.Protocol.{items_in as items_up_to, items_of}
use Rattle.geo_grammar.specs.declared.item.Item.{Item}
use Rattle.geo_requests.specs.declared.reply.Reply.{Reply}
use Rattle.geo_requests.specs.declared.request.Request.{Request}
use Rattle.geo_grammar.specs.Faults.{has_long_line}
use Rattle.geo_grammar.specs.Quitting.{is_quit, has_quit, until_quit}
use Rattle.geo_dialogue.specs.Closings.{StaysOpen}
use Rattle.geo_dialogue.specs.Connections.{Connection, Answered, Broken, BreaksFor, IsRefused, IsEnd, IsSettled}
use Rattle.geo_dialogue.specs.Exchanges.{Exchange, items_in, text_of, count_after, Runs}
use Rattle.geo_dialogue.specs.Sessions.{IsDue, Ended, Sends, AllWritten, StopsFor, Stopped, blames_reader, blames_writer}
use Rattle.geo_dialogue.specs.Batches.{AnswersItems, LosesAnswers, AnsweredBy, BrokenBy, Served, ServedPart}
use Rattle.geo_dialogue.specs.declared.answers.Answers.{Answers}
use Rattle.geo_dialogue.specs.declared.answers.Course.{Course}
use Rattle.geo_dialogue.specs.declared.answers.Course.TheVariants as course_of
use Rattle.geo_dialogue.specs.declared.end.SessionEnd.{SessionEnd}
use Rattle.geo_dialogue.specs.declared.end.SessionEnd.TheVariants.{Quit, EndOfInput, LineTooLong}
use Rattle.geo_dialogue.specs.declared.fault.SessionFault.{SessionFault}
use Rattle.geo_dialogue.specs.declared.fault.SessionFault.TheVariants.{Read, Write, Memory, TooManyReads, Spent}
use Rattle.geo_dialogue.proofs.Lists.{list_any-behind}
use Rattle.geo_dialogue.proofs.Talks.{Runs-append, items_in-append, text_of-append, until_quit-behind, until_quit-none}

-- ---- a piece is answered

-- the items that are acted on behind a text that ended nothing
pub acted_behind : (text piece : List ℕ) (items : List Item) → StaysOpen (items_of text) → items_of (text ++ piece) ≡ items_of text ++ items → until_quit (items_of (text ++ piece)) ≡ items_of text ++ until_quit items
acted_behind text piece items stays brings = ap until_quit brings ∙ until_quit-behind (items_of text) items stays.quits

pub quits_behind : (text piece : List ℕ) (items : List Item) (t : Bool) → StaysOpen (items_of text) → items_of (text ++ piece) ≡ items_of text ++ items → has_quit items ≡ t → has_quit (items_of (text ++ piece)) ≡ t
quits_behind text piece items t stays brings h = ap has_quit brings ∙ list_any-behind is_quit (items_of text) items stays.quits ∙ h

pub ends_by_quit : (items : List Item) → has_quit items ≡ true → IsEnd items (Some Quit)
ends_by_quit items h = cond-true (has_quit items) _ _ h

pub ends_by_line : (items : List Item) → has_quit items ≡ false → has_long_line items ≡ true → IsEnd items (Some LineTooLong)
ends_by_line items h k = cond-false (has_quit items) _ _ h ∙ cond-true (has_long_line items) _ _ k

-- where a fault comes before anything was answered
pub broken_before : {S : Type 0} (answers : S → Request → Reply → S → Type 0) (refuses : S → Request → S → Type 0) (piece text : List ℕ) (old new : Answers) (before after : S) (items : List Item)
    → StaysOpen (items_of text) → items_of (text ++ piece) ≡ items_of text ++ items → new ≡ old → after ≡ before → BrokenBy answers refuses Memory piece text old new before after
broken_before answers refuses piece text old new before after items stays brings same stood = record {
  done = [];
  lost = [];
  left = until_quit items;
  mid = before;
  came = acted_behind text piece items stays brings;
  run = refl;
  appended = ap (λ (a : Answers). a.text.items) same ∙ sym (append-nil old.text.items);
  count = ap (λ (a : Answers). a.calls) same;
  why = (omega arith, stood);
}

module _ {S : Type 0} (answers : S → Request → Reply → S → Type 0) (refuses : S → Request → S → Type 0) (piece text next : List ℕ) (items : List Item) (old new : Answers) (before after : S) (stays : StaysOpen (items_of text)) (read : next ≡ text ++ piece) (brings : items_of (text ++ piece) ≡ items_of text ++ items) where
  -- all items up to an end
  pub answered_all : (course : Course) (h : AnswersItems answers refuses course items before after old new) → h.left ≡ [] → after ≡ h.mid → AnsweredBy answers piece text next old new before after
  answered_all course h none same = record {
    exchanges = h.done;
    read = read;
    came = acted_behind text piece items stays brings ∙ ap (λ (t : List Item). items_of text ++ t) (h.came ∙ ap (λ (t : List Item). items_in h.done ++ t) none ∙ append-nil (items_in h.done));
    run = subst (λ (s : S). Runs answers before h.done s) (sym same) h.run;
    adds = h.adds;
  }

  pub broken_spent : AnswersItems answers refuses course_of.Spent items before after old new → BrokenBy answers refuses Spent piece text old new before after
  broken_spent h =
      let whole : h.done ++ [] ≡ h.done = append-nil h.done in
      record {
        done = h.done;
        lost = [];
        left = h.left;
        mid = h.mid;
        came = acted_behind text piece items stays brings ∙ ap (λ (t : List Item). items_of text ++ t) (h.came ∙ ap (λ (t : List Exchange). items_in t ++ h.left) (sym whole));
        run = subst (λ (t : List Exchange). Runs answers before t h.mid) (sym whole) h.run;
        appended = h.adds.text;
        count = h.adds.count ∙ ap (count_after old.calls) (sym whole);
        why = (refl, h.course_is);
      }

  pub broken_lost : LosesAnswers answers items before after old new → BrokenBy answers refuses Memory piece text old new before after
  broken_lost h = record {
    done = h.done;
    lost = h.lost ∷ [];
    left = h.left;
    mid = after;
    came = acted_behind text piece items stays brings ∙ ap (λ (t : List Item). items_of text ++ t) h.came;
    run = h.run;
    appended = h.text;
    count = h.count;
    why = (omega arith, refl);
  }

-- ---- its answers are written

-- one write more
pub Sends-then : (a b c : Connection) (u v w : Option (List ℕ)) (count : ℕ) (bytes : List ℕ) → Sends a b u v → c ≡ record b { owed = drop count b.owed } → bytes ≡ b.owed → Appends v w (take count bytes) → Sends a c u w
Sends-then a b c u v w count bytes h e same more =
    let rest : drop count b.owed ≡ c.owed = sym (ap (λ (x : Connection). x.owed) e) in
    record {
      part = h.part ++ take count b.owed;
      front = h.front ∙ ap (λ (t : List ℕ). h.part ++ t) (sym (take-append-drop count b.owed) ∙ ap (λ (t : List ℕ). take count b.owed ++ t) rest) ∙ sym (append_assoc h.part (take count b.owed) c.owed);
      written = Appends-trans u v w h.part (take count b.owed) h.written (subst (λ (t : List ℕ). Appends v w (take count t)) same more);
      stays = e ∙ ap (λ (x : Connection). record x { owed = drop count b.owed }) h.stays ∙ ap (λ (t : List ℕ). record a { owed = t }) rest;
    }

nothing_behind : (a b : List ℕ) → b ≡ [] → a ++ b ≡ a
nothing_behind a b h = ap (λ (t : List ℕ). a ++ t) h ∙ append-nil a

-- what was sent is all that was owed
sent_all : (mid new : Connection) (u v : Option (List ℕ)) (h : Sends mid new u v) → new.owed ≡ [] → h.part ≡ mid.owed
sent_all mid new u v h paid = sym (h.front ∙ nothing_behind h.part new.owed paid)

module _ {S : Type 0} (answers : S → Request → Reply → S → Type 0) (refuses : S → Request → S → Type 0) (piece : List ℕ) (old mid new : Connection) (before after : S) (u v : Option (List ℕ)) (none : old.owed ≡ []) (sends : Sends mid new u v) where
  owed_is : (exchanges : List Exchange) → mid.owed ≡ old.owed ++ text_of exchanges → mid.owed ≡ text_of exchanges
  owed_is exchanges h = h ∙ ap (λ (t : List ℕ). t ++ text_of exchanges) none

  pub served : {T : Type 0} {F : Type 0} (r : Result T F) → IfOk r (λ _. Answered answers piece old mid before after) → new.owed ≡ [] → IfOk r (λ _. Served answers piece old.read before after u v)
  served (Err e) h paid = h
  served (Ok x) h paid = record {
    exchanges = h.exchanges;
    came = h.came;
    run = h.run;
    written = subst (λ (t : List ℕ). Appends u v t) (sent_all mid new u v sends paid ∙ owed_is h.exchanges h.owed) sends.written;
  }

  pub served_read : {T : Type 0} {F : Type 0} (r : Result T F) → IfOk r (λ _. Answered answers piece old mid before after) → IfOk r (λ _. new.read ≡ old.read ++ piece)
  served_read (Err e) h = h
  served_read (Ok x) h = ap (λ (c : Connection). c.read) sends.stays ∙ h.read

  -- what goes on, and what comes, is not changed by a write
  pub served_end : (r : Result (Option SessionEnd) SessionFault) → IfOk r (λ end. IsEnd (items_of mid.read) end) → IfOk r (λ end. IsEnd (items_of new.read) end)
  served_end (Err fault) h = h
  served_end (Ok end) h = subst (λ (t : List ℕ). IsEnd (items_of t) end) (sym (ap (λ (c : Connection). c.read) sends.stays)) h

  pub served_on : (r : Result (Option SessionEnd) SessionFault) → IfOk r (λ end. mid.goes_on ≡ is_none end) → IfOk r (λ end. new.goes_on ≡ is_none end)
  served_on (Err fault) h = h
  served_on (Ok end) h = ap (λ (c : Connection). c.goes_on) sends.stays ∙ h

  pub served_settled : {T : Type 0} {F : Type 0} (r : Result T F) → IfOk r (λ _. Answered answers piece old mid before after) → IfOk r (λ _. IsSettled new)
  served_settled (Err e) h = h
  served_settled (Ok x) h = record {
    none_waits = ap (λ (c : Connection). c.waiting) sends.stays ∙ h.settled.none_waits;
    none_untold = ap (λ (c : Connection). c.untold) sends.stays ∙ h.settled.none_untold;
  }

  part_of : (fault : SessionFault) → Broken answers refuses fault piece old mid before after → new.owed ≡ [] → ServedPart answers refuses fault piece old.read before after u v
  part_of Read h paid = absurd h.why
  part_of Write h paid = absurd h.why
  part_of TooManyReads h paid = absurd h.why
  part_of Memory h paid = record {
    done = h.done;
    lost = h.lost;
    left = h.left;
    mid = h.mid;
    part = text_of h.done;
    rest = [];
    came = h.came;
    run = h.run;
    split = sym (append-nil (text_of h.done));
    written = subst (λ (t : List ℕ). Appends u v t) (sent_all mid new u v sends paid ∙ owed_is h.done h.owed) sends.written;
    why = (refl, h.why);
  }
  part_of Spent h paid = record {
    done = h.done;
    lost = h.lost;
    left = h.left;
    mid = h.mid;
    part = text_of h.done;
    rest = [];
    came = h.came;
    run = h.run;
    split = sym (append-nil (text_of h.done));
    written = subst (λ (t : List ℕ). Appends u v t) (sent_all mid new u v sends paid ∙ owed_is h.done h.owed) sends.written;
    why = (refl, h.why);
  }

  pub served_part : {T : Type 0} (r : Result T SessionFault) → IfErr r (λ fault. Broken answers refuses fault piece old mid before after) → new.owed ≡ [] → IfErr r (λ fault. ServedPart answers refuses fault piece old.read before after u v)
  served_part (Ok x) h paid = h
  served_part (Err fault) h paid = part_of fault h paid

  broken_stands : (fault : SessionFault) (lost : List Exchange) (left : List Item) (done : S) → BreaksFor refuses fault lost left done after → (length lost ≤ 1) × ((after ≡ done) ⊎ IsRefused refuses left done after)
  broken_stands Read lost left done h = absurd h
  broken_stands Write lost left done h = absurd h
  broken_stands TooManyReads lost left done h = absurd h
  broken_stands Memory lost left done h = (h.0, inl h.1)
  broken_stands Spent lost left done h = (let none_lost = ap (λ (t : List Exchange). length t) h.0 in omega arith, inr h.1)

  -- a write failed
  pub unwritten : {T : Type 0} (r : Result T SessionFault) → IfOk r (λ _. Answered answers piece old mid before after) → IfErr r (λ fault. Broken answers refuses fault piece old mid before after) → ServedPart answers refuses Write piece old.read before after u v
  unwritten (Ok x) h k =
      let whole : h.exchanges ++ [] ≡ h.exchanges = append-nil h.exchanges in
      record {
        done = h.exchanges;
        lost = [];
        left = [];
        mid = after;
        part = sends.part;
        rest = new.owed;
        came = h.came ∙ ap (λ (t : List Item). items_of old.read ++ t) (sym (append-nil (items_in (h.exchanges ++ [])) ∙ ap items_in whole));
        run = subst (λ (t : List Exchange). Runs answers before t after) (sym whole) h.run;
        split = sym (owed_is h.exchanges h.owed) ∙ sends.front;
        written = sends.written;
        why = (omega arith, inl refl);
      }
  unwritten (Err fault) h k = record {
    done = k.done;
    lost = k.lost;
    left = k.left;
    mid = k.mid;
    part = sends.part;
    rest = new.owed;
    came = k.came;
    run = k.run;
    split = sym (owed_is k.done k.owed) ∙ sends.front;
    written = sends.written;
    why = broken_stands fault k.lost k.left k.mid k.why;
  }

-- the two kinds of fault of a piece blame no device
pub broken_blames : {S T : Type 0} (answers : S → Request → Reply → S → Type 0) (refuses : S → Request → S → Type 0) (piece : List ℕ) (old new : Connection) (before after : S) (r : Result T SessionFault) → IfErr r (λ fault. Broken answers refuses fault piece old new before after) → (blames_reader r ≡ false) × (blames_writer r ≡ false)
broken_blames answers refuses piece old new before after (Ok x) h = (refl, refl)
broken_blames answers refuses piece old new before after (Err Read) h = absurd h.why
broken_blames answers refuses piece old new before after (Err Write) h = absurd h.why
broken_blames answers refuses piece old new before after (Err TooManyReads) h = absurd h.why
broken_blames answers refuses piece old new before after (Err Memory) h = (refl, refl)
broken_blames answers refuses piece old new before after (Err Spent) h = (refl, refl)

-- a fault that is passed on is blamed on the same
pub read_blamed : {T : Type 0} (r : Result T SessionFault) (f : SessionFault) → IsErrAnd r (λ e. e ≡ f) → blames_reader r ≡ blames_reader {T = T} (Err f)
read_blamed (Ok x) f h = absurd h
read_blamed {T} (Err e) f h = ap (λ (x : SessionFault). blames_reader {T = T} (Err x)) h

pub write_blamed : {T : Type 0} (r : Result T SessionFault) (f : SessionFault) → IsErrAnd r (λ e. e ≡ f) → blames_writer r ≡ blames_writer {T = T} (Err f)
write_blamed (Ok x) f h = absurd h
write_blamed {T} (Err e) f h = ap (λ (x : SessionFault). blames_writer {T = T} (Err x)) h

-- ---- whole sessions

-- all that came so far ended nothing, and is answered and written
pub record Progress {S : Type 0} (answers : S → Request → Reply → S → Type 0) (text : List ℕ) (old new : S) (before after : Option (List ℕ)) : Type 0 where
  pub exchanges : List Exchange
  pub came : items_in exchanges ≡ items_of text
  pub run : Runs answers old exchanges new
  pub written : Appends before after (text_of exchanges)

-- texts that are written one after the other
both_written : (xs ys : List Exchange) (u v w : Option (List ℕ)) → Appends u v (text_of xs) → Appends v w (text_of ys) → Appends u w (text_of (xs ++ ys))
both_written xs ys u v w h k = subst (λ (x : List ℕ). Appends u w x) (sym (text_of-append xs ys)) (Appends-trans u v w (text_of xs) (text_of ys) h k)

pub no_items : items_of [] ≡ []
unfolding items_up_to
no_items = refl

pub none_stays : StaysOpen (items_of [])
none_stays = subst StaysOpen (sym no_items) (record { quits = refl; lines = refl })

-- the end that a piece brings is due
due_at : (end : SessionEnd) (items : List Item) (left : Option (List ℕ)) (q l : Bool) → has_quit items ≡ q → has_long_line items ≡ l → cond q (Some Quit) (cond l (Some LineTooLong) None) ≡ Some end → IsDue end items left
due_at Quit items left true l h k e = h
due_at Quit items left false true h k e = absurd cc
due_at Quit items left false false h k e = absurd cc
due_at EndOfInput items left true l h k e = absurd cc
due_at EndOfInput items left false true h k e = absurd cc
due_at EndOfInput items left false false h k e = absurd cc
due_at LineTooLong items left true l h k e = absurd cc
due_at LineTooLong items left false true h k e = (h, k)
due_at LineTooLong items left false false h k e = absurd cc

pub due_by : (end : SessionEnd) (items : List Item) (left : Option (List ℕ)) → IsEnd items (Some end) → IsDue end items left
due_by end items left h = due_at end items left (has_quit items) (has_long_line items) refl refl h

-- nothing more comes
none_more : (text : List ℕ) → StaysOpen (items_of text) → until_quit (items_of (text ++ [])) ≡ items_of text ++ []
none_more text stays = until_quit-none (items_of (text ++ [])) (ap (λ (t : List ℕ). has_quit (items_of t)) (append-nil text) ∙ stays.quits) ∙ ap items_of (append-nil text) ∙ sym (append-nil (items_of text))

module _ {S : Type 0} (answers : S → Request → Reply → S → Type 0) where
  pub Progress-none : (s : S) (w : Option (List ℕ)) → Progress answers [] s s w w
  Progress-none s w = record { exchanges = []; came = sym no_items; run = refl; written = Appends-nil w }

  -- one piece more
  pub Progress-then : (text piece : List ℕ) (a b c : S) (u v w : Option (List ℕ)) → Progress answers text a b u v → Served answers piece text b c v w → StaysOpen (items_of (text ++ piece)) → Progress answers (text ++ piece) a c u w
  Progress-then text piece a b c u v w h k stays = record {
    exchanges = h.exchanges ++ k.exchanges;
    came = items_in-append h.exchanges k.exchanges ∙ ap (λ (t : List Item). t ++ items_in k.exchanges) h.came ∙ sym k.came ∙ until_quit-none (items_of (text ++ piece)) stays.quits;
    run = Runs-append answers h.exchanges k.exchanges a b c h.run k.run;
    written = both_written h.exchanges k.exchanges u v w h.written k.written;
  }

  -- a session whose last read brings its end
  pub session_ends : (end : SessionEnd) (text piece : List ℕ) (a b c : S) (r s t u v w : Option (List ℕ)) → Consumes r s text → Consumes s t piece → length piece ≤ 262144 → StaysOpen (items_of text)
      → Progress answers text a b u v → Served answers piece text b c v w → IsDue end (items_of (text ++ piece)) t → Ended answers end a c r t u w
  session_ends end text piece a b c r s t u v w before read short stays h k due = record {
    earlier = text;
    piece = piece;
    exchanges = h.exchanges ++ k.exchanges;
    read = Consumes-trans r s t text piece before read;
    short = short;
    stays_open = stays;
    came = items_in-append h.exchanges k.exchanges ∙ ap (λ (t : List Item). t ++ items_in k.exchanges) h.came ∙ sym k.came;
    run = Runs-append answers h.exchanges k.exchanges a b c h.run k.run;
    written = both_written h.exchanges k.exchanges u v w h.written k.written;
    due = due;
  }

  -- a read that brings nothing
  pub served_none : (text : List ℕ) (s : S) (w : Option (List ℕ)) → StaysOpen (items_of text) → Served answers [] text s s w w
  served_none text s w stays = record {
    exchanges = [];
    came = none_more text stays;
    run = refl;
    written = Appends-nil w;
  }

  -- a session that a fault ends at its last read
  pub session_stops : (refuses : S → Request → S → Type 0) (fault : SessionFault) (text piece : List ℕ) (a b c : S) (r s t u v w : Option (List ℕ)) → Consumes r s text → Consumes s t piece → length piece ≤ 262144 → StaysOpen (items_of text)
      → Progress answers text a b u v → ServedPart answers refuses fault piece text b c v w → Stopped answers refuses fault a c r t u w
  session_stops refuses fault text piece a b c r s t u v w before read short stays h k = record {
    earlier = text;
    piece = piece;
    said = h.exchanges;
    unsaid = k.done;
    lost = k.lost;
    left = k.left;
    mid = k.mid;
    part = k.part;
    rest = k.rest;
    read = Consumes-trans r s t text piece before read;
    short = short;
    stays_open = stays;
    first = h.came;
    came = k.came ∙ ap (λ (t : List Item). t ++ (items_in (k.done ++ k.lost) ++ k.left)) (sym h.came);
    run = Runs-append answers h.exchanges (k.done ++ k.lost) a b k.mid h.run k.run;
    split = k.split;
    written = Appends-trans u v w (text_of h.exchanges) k.part h.written k.written;
    why = k.why;
  }

  -- a fault between two pieces
  pub part_none : (refuses : S → Request → S → Type 0) (fault : SessionFault) (text : List ℕ) (s : S) (w : Option (List ℕ)) → StaysOpen (items_of text) → StopsFor refuses fault (text ++ []) (items_of (text ++ [])) [] [] [] s s → ServedPart answers refuses fault [] text s s w w
  part_none refuses fault text s w stays why = record {
    done = [];
    lost = [];
    left = [];
    mid = s;
    part = [];
    rest = [];
    came = none_more text stays;
    run = refl;
    split = refl;
    written = Appends-nil w;
    why = why;
  }

pub all_written : {S : Type 0} (text : List ℕ) (s : S) → StaysOpen (items_of text) → AllWritten (items_of (text ++ [])) [] [] [] s s
all_written text s stays = record {
  stays_open = subst (λ (t : List ℕ). StaysOpen (items_of t)) (sym (append-nil text)) stays;
  none_lost = refl;
  none_left = refl;
  none_owed = refl;
  stays = refl;
}

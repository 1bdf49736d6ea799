-- What is still to be done for a client, bit by bit.
use Rattle.std.proofs.Common.{◌≡◌, ℕ, ◌+◌, ◌<◌, ◌≢◌, ◌≤◌, Bool, true, false, not, is_none, is_some, List, [], ◌∷◌, ◌++◌, length, take, drop, cond, Option, None, Some, inl, inr, refl, sym, ap, subst, ◌∙◌, arith, append_assoc, append-nil}
use Rattle.std.specs.Option.{unwrap_or, ForSome}
use Rattle.std.proofs.lemmas.List.{drop-append-le, take-append-le, take-append-drop, take_all, length-append}
use Rattle.geo_grammar.specs.Quitting.{is_quit, has_quit, until_quit}
use Rattle.geo_grammar.specs.declared.item.Item.{Item}
use Rattle.geo_requests.specs.declared.reply.Reply.{Reply}
use Rattle.geo_requests.specs.declared.request.Request.{Request}
use Rattle.geo_dialogue.specs.Connections.{Connection, GoesOn, Fails, BreaksOff, CutsFor, IsEnd, IsSettled}
use Rattle.geo_dialogue.specs.Exchanges.{Exchange, item_in, items_in, text_of, count_after, Runs}
use Rattle.geo_dialogue.specs.Batches.{AnswersItem, AnswersPart, LosesAnswer, RefusesItem}
use Rattle.geo_dialogue.specs.Pendings.{Breaks, Tells, debt_of, untold_in, with_item}
use Rattle.geo_dialogue.specs.declared.answers.Answers.{Answers}
use Rattle.geo_dialogue.specs.declared.fault.SessionFault.{SessionFault}
use Rattle.geo_dialogue.specs.declared.fault.SessionFault.TheVariants.{Memory, Spent}
use Rattle.geo_dialogue.specs.declared.pending.Pending.{Pending}
use Rattle.geo_grammar.specs.Faults.{has_long_line}
use Rattle.geo_grammar.specs.Protocol.{items_of}
use Rattle.geo_dialogue.specs.Closings.{StaysOpen}
use Rattle.geo_dialogue.specs.declared.end.SessionEnd.{SessionEnd}
use Rattle.geo_dialogue.specs.declared.end.SessionEnd.TheVariants.{Quit, LineTooLong}
use Rattle.geo_dialogue.proofs.Pieces.{ends_by_quit, ends_by_line, quits_behind}
use Rattle.geo_dialogue.proofs.Talks.{Runs-append, items_in-append, text_of-append, count_after-append}

-- of no items none waits, and none is answered
none_among : (old new : List Item) (exchanges : List Exchange) → old ≡ items_in exchanges ++ new → old ≡ [] → (new ≡ []) × (exchanges ≡ [])
none_among old new [] came none = (sym came ∙ none, refl)
none_among old new (e ∷ es) came none = let bad = sym came ∙ none in cc

no_bytes : (text : List ℕ) → length text ≤ 0 → text ≡ []
no_bytes [] few = refl
no_bytes (x ∷ xs) few = absurd (omega (arith, few))

-- a text that stands in front of a longer beginning is the front of it
kept_front : (new cut old left text : List ℕ) → new ++ cut ≡ (old ++ left) ++ text → length old ≤ length new → new ≡ old ++ drop (length old) new
kept_front new cut old left text h within =
    let front : take (length old) new ≡ old = sym (take-append-le (length old) new cut within) ∙ ap (take (length old)) (h ∙ append_assoc old left text) ∙ take-append-le (length old) old (left ++ text) (omega arith) ∙ take_all (length old) old (omega arith) in
    sym (take-append-drop (length old) new) ∙ ap (λ (x : List ℕ). x ++ drop (length old) new) front

module _ {S : Type 0} (answers : S → Request → Reply → S → Type 0) where
  -- nothing is done
  pub going_none : (c : Connection) (s : S) → GoesOn answers c c s s
  going_none c s = record { exchanges = []; came = refl; run = refl; owed = sym (append-nil (c.owed ++ c.untold)); answered = refl; read = refl; going = refl }

  -- text is rendered, and nothing else is done
  pub going_told : (c d : Connection) (s : S) → d.owed ++ d.untold ≡ c.owed ++ c.untold → c.waiting ≡ d.waiting → d.answered ≡ c.answered → d.read ≡ c.read → d.goes_on ≡ c.goes_on → GoesOn answers c d s s
  going_told c d s text waits count read going = record { exchanges = []; came = waits; run = refl; owed = text ∙ sym (append-nil (c.owed ++ c.untold)); answered = count; read = read; going = going }

  -- one item is answered
  pub going_one : (c d : Connection) (s t : S) (e : Exchange) (item : Item) → item_in e ≡ item → c.waiting ≡ item ∷ d.waiting → Runs answers s (e ∷ []) t → d.owed ++ d.untold ≡ (c.owed ++ c.untold) ++ text_of (e ∷ [])
      → d.answered ≡ count_after c.answered (e ∷ []) → d.read ≡ c.read → d.goes_on ≡ c.goes_on → GoesOn answers c d s t
  going_one c d s t e item is waits run text count read going =
      record { exchanges = e ∷ []; came = waits ∙ ap (λ (x : Item). x ∷ d.waiting) (sym is); run = run; owed = text; answered = count; read = read; going = going }

  -- one after the other
  pub going_then : (c d e : Connection) (s t u : S) → GoesOn answers c d s t → GoesOn answers d e t u → GoesOn answers c e s u
  going_then c d e s t u h k = record {
    exchanges = h.exchanges ++ k.exchanges;
    came = h.came ∙ ap (λ (x : List Item). items_in h.exchanges ++ x) k.came ∙ sym (append_assoc (items_in h.exchanges) (items_in k.exchanges) e.waiting)
        ∙ ap (λ (x : List Item). x ++ e.waiting) (sym (items_in-append h.exchanges k.exchanges));
    run = Runs-append answers h.exchanges k.exchanges s t u h.run k.run;
    owed = k.owed ∙ ap (λ (x : List ℕ). x ++ text_of k.exchanges) h.owed ∙ append_assoc (c.owed ++ c.untold) (text_of h.exchanges) (text_of k.exchanges)
        ∙ ap (λ (x : List ℕ). (c.owed ++ c.untold) ++ x) (sym (text_of-append h.exchanges k.exchanges));
    answered = k.answered ∙ ap (λ (n : ℕ). count_after n k.exchanges) h.answered ∙ sym (count_after-append c.answered h.exchanges k.exchanges);
    read = k.read ∙ h.read;
    going = k.going ∙ h.going;
  }

  -- where nothing was to be done, nothing is
  settled_stays : (c d : Connection) (s t : S) → GoesOn answers c d s t → length c.owed ≤ length d.owed → IsSettled c → IsSettled d
  settled_stays c d s t h grows k =
      let both = none_among c.waiting d.waiting h.exchanges h.came k.none_waits in
      let told = ap (λ (x : List Exchange). length (text_of x)) both.1 in
      let owed = ap (λ (x : List ℕ). length x) h.owed in
      let none = ap (λ (x : List ℕ). length x) k.none_untold in
      let new = length-append d.owed d.untold in
      let old = length-append c.owed c.untold in
      let sum = length-append (c.owed ++ c.untold) (text_of h.exchanges) in
      record { none_waits = both.0; none_untold = no_bytes d.untold (omega (arith, told, owed, none, new, old, sum, grows)) }

  module _ (refuses : S → Request → S → Type 0) (fault : SessionFault) where
    -- what breaks behind what went on
    pub breaks_then : (c d e : Connection) (s t u : S) → GoesOn answers c d s t → Fails answers refuses fault d e t u → Breaks answers refuses fault c e s u
    breaks_then c d e s t u h k = record { at = d; between = t; went = h; fails = k }

    -- what waited is dropped, and what was left to be rendered is cut off
    pub breaks_off : (c e f : Connection) (s u : S) → Breaks answers refuses fault c e s u → length c.owed ≤ length e.owed → f.owed ≡ e.owed → f.answered ≡ e.answered → f.read ≡ e.read → f.waiting ≡ [] → f.untold ≡ [] → f.goes_on ≡ false
        → BreaksOff answers refuses fault c f s u
    breaks_off c e f s u b grows owed count read waits told closed =
        let h = b.went in
        let k = b.fails in
        let d : Connection = b.at in
        let text : f.owed ++ d.untold ≡ (c.owed ++ c.untold) ++ text_of h.exchanges = ap (λ (x : List ℕ). x ++ d.untold) (owed ∙ k.owed) ∙ h.owed in
        let before : length c.owed ≤ length d.owed = let same = ap (λ (x : List ℕ). length x) k.owed in omega (arith, grows, same) in
        let after : length c.owed ≤ length f.owed = let same = ap (λ (x : List ℕ). length x) owed in omega (arith, grows, same) in
        record {
          done = h.exchanges;
          lost = k.lost;
          left = k.left;
          mid = k.mid;
          cut = d.untold;
          came = h.came ∙ ap (λ (x : List Item). items_in h.exchanges ++ x) k.came ∙ sym (append_assoc (items_in h.exchanges) (items_in k.lost) k.left)
              ∙ ap (λ (x : List Item). x ++ k.left) (sym (items_in-append h.exchanges k.lost));
          run = Runs-append answers h.exchanges k.lost s b.between k.mid h.run k.run;
          owed = text;
          answered = count ∙ k.answered ∙ ap (λ (n : ℕ). count_after n k.lost) h.answered ∙ sym (count_after-append c.answered h.exchanges k.lost);
          read = read ∙ k.read ∙ h.read;
          settled = record { none_waits = waits; none_untold = told };
          closed = closed;
          asks = λ done. k.asks (settled_stays c d s b.between h before done);
          more = drop (length c.owed) f.owed;
          keeps = kept_front f.owed d.untold c.owed c.untold (text_of h.exchanges) text after;
          why = k.why;
          cuts = k.cuts;
        }

-- ---- one item

-- text that stands behind a text makes it no shorter
pub no_shorter : (old new more : List ℕ) → new ≡ old ++ more → length old ≤ length new
no_shorter old new more h = let sum = ap (λ (x : List ℕ). length x) h ∙ length-append old more in omega (arith, sum)

-- a text that stands as it was is as long
pub as_long : (old new : List ℕ) → new ≡ old → length old ≤ length new
as_long old new h = let same = ap (λ (x : List ℕ). length x) h in omega (arith, same)

none_untold : (p : Pending) → p.telling ≡ None → untold_in p ≡ []
none_untold p none = ap (λ (t : Option (List ℕ)). unwrap_or t []) none

module _ {S : Type 0} (answers : S → Request → Reply → S → Type 0) (refuses : S → Request → S → Type 0) (item : Item) (p q : Pending) (a : Answers) (s t : S) (none : p.telling ≡ None) (same : q.answers ≡ a) where
  abbrev pub left_behind : List Item
  left_behind = cond (is_quit item) [] (until_quit p.waiting.items)

  abbrev pub rendered : List ℕ
  rendered = p.answers.text.items

  text_is : q.answers.text.items ≡ a.text.items
  text_is = ap (λ (x : Answers). x.text.items) same

  calls_are : q.answers.calls ≡ a.calls
  calls_are = ap (λ (x : Answers). x.calls) same

  -- the text before it, of which nothing is left to be rendered
  before_it : (more : List ℕ) → rendered ++ more ≡ (rendered ++ untold_in p) ++ more
  before_it more = ap (λ (x : List ℕ). x ++ more) (sym (ap (λ (x : List ℕ). rendered ++ x) (none_untold p none) ∙ append-nil rendered))

  item_waits : IsSettled (with_item item p) → ⊥
  item_waits h = let bad = h.none_waits in cc

  -- it was answered, and memory was refused for its text
  pub lost_one : LosesAnswer answers item s t p.answers a → Fails answers refuses Memory (with_item item p) (debt_of q) s t
  lost_one h = record {
    lost = h.exchange ∷ [];
    left = left_behind;
    mid = t;
    came = ap (λ (x : Item). x ∷ left_behind) (sym h.came);
    run = h.run;
    owed = text_is ∙ h.text;
    answered = calls_are ∙ h.count;
    read = refl;
    asks = item_waits;
    why = (omega arith, refl);
    cuts = inl (none_untold p none);
  }

  -- it was not answered
  pub refused_one : RefusesItem refuses item s t p.answers a → Fails answers refuses Spent (with_item item p) (debt_of q) s t
  refused_one h = record {
    lost = [];
    left = item ∷ left_behind;
    mid = s;
    came = refl;
    run = refl;
    owed = text_is ∙ h.adds.text ∙ append-nil rendered;
    answered = calls_are ∙ h.adds.count;
    read = refl;
    asks = item_waits;
    why = (refl, record { request = h.request; more = left_behind; next = ap (λ (x : Item). x ∷ left_behind) h.is; refused = h.refused });
    cuts = inl (none_untold p none);
  }

  -- its answer is rendered
  pub whole_one : AnswersItem answers item s t p.answers a → q.telling ≡ None → until_quit q.waiting.items ≡ left_behind → GoesOn answers (with_item item p) (debt_of q) s t
  whole_one h told waits = going_one answers (with_item item p) (debt_of q) s t h.exchange item h.came (ap (λ (x : List Item). item ∷ x) (sym waits)) h.run
      (ap (λ (x : List ℕ). q.answers.text.items ++ x) (none_untold q told) ∙ append-nil q.answers.text.items ∙ text_is ∙ h.adds.text ∙ before_it (text_of (h.exchange ∷ [])))
      (calls_are ∙ h.adds.count) refl refl

  -- it is still to be told
  pub part_one : (left : List ℕ) → AnswersPart answers item left s t p.answers a → untold_in q ≡ left → until_quit q.waiting.items ≡ left_behind → GoesOn answers (with_item item p) (debt_of q) s t
  part_one left h told waits = going_one answers (with_item item p) (debt_of q) s t h.exchange item h.came (ap (λ (x : List Item). item ∷ x) (sym waits)) h.run
      (ap (λ (x : List ℕ). q.answers.text.items ++ x) told ∙ ap (λ (x : List ℕ). x ++ left) (text_is ∙ h.text) ∙ ap (λ (x : List ℕ). rendered ++ x) h.untold ∙ before_it (text_of (h.exchange ∷ [])))
      (calls_are ∙ h.count) refl refl

-- ---- until nothing is left

still_telling : (t : Option (List ℕ)) → ForSome t (λ left. left ≢ []) → is_some t ≡ true → unwrap_or t [] ≡ [] → ⊥
still_telling None some is none = cc
still_telling (Some left) some is none = some left refl none

-- something is left to be rendered
pub telling_left : (p : Pending) → ForSome p.telling (λ left. left ≢ []) → is_some p.telling ≡ true → IsSettled (debt_of p) → ⊥
telling_left p some is h = still_telling p.telling some is h.none_untold

-- no item waits
pub none_waits_there : (p : Pending) (items : List Item) → p.waiting.items ≡ items → p.telling ≡ None → length items ≤ 0 → IsSettled (debt_of p)
none_waits_there p [] same none few = record { none_waits = ap until_quit same; none_untold = none_untold p none }
none_waits_there p (x ∷ xs) same none few = absurd (omega (arith, few))

-- an item waits
pub some_waits_there : (p : Pending) (items : List Item) → p.waiting.items ≡ items → 0 < length items → IsSettled (debt_of p) → ⊥
some_waits_there p [] same some h = absurd (omega (arith, some))
some_waits_there p (x ∷ xs) same some h = let bad = sym (ap until_quit same) ∙ h.none_waits in cc

pub telling_none : (t : Option (List ℕ)) → is_some t ≡ false → t ≡ None
telling_none None h = refl
telling_none (Some left) h = cc

pub tells_none : (p : Pending) → Tells p p
tells_none p = record { text = refl; grows = omega arith; calls = refl; waiting = refl }

pub tells_more : (p q r : Pending) → Tells p q → r.answers.text.items ++ untold_in r ≡ q.answers.text.items ++ untold_in q → length q.answers.text.items ≤ length r.answers.text.items → r.answers.calls ≡ q.answers.calls → r.waiting ≡ q.waiting
    → Tells p r
tells_more p q r h text grows calls waiting = record { text = text ∙ h.text; grows = omega (arith, grows, h.grows); calls = calls ∙ h.calls; waiting = waiting ∙ h.waiting }

-- what is told only is what goes on
pub going_by_telling : {S : Type 0} (answers : S → Request → Reply → S → Type 0) (p q : Pending) (s : S) → Tells p q → GoesOn answers (debt_of p) (debt_of q) s s
going_by_telling answers p q s h = going_told answers (debt_of p) (debt_of q) s h.text (ap (λ x. until_quit x.items) (sym h.waiting)) h.calls refl refl

-- want of memory while a reply is told
pub telling_fails : {S : Type 0} (answers : S → Request → Reply → S → Type 0) (refuses : S → Request → S → Type 0) (c : Connection) (s : S) → (IsSettled c → ⊥) → Fails answers refuses Memory c c s s
telling_fails answers refuses c s asks = record { lost = []; left = c.waiting; mid = s; came = refl; run = refl; owed = refl; answered = refl; read = refl; asks = asks; why = (omega arith, refl); cuts = inr (refl, refl) }

-- what goes on from an item that was taken out goes on from where it stood
pub in_front : {S : Type 0} (answers : S → Request → Reply → S → Type 0) (item : Item) (p q : Pending) (d : Connection) (s t : S) → p.waiting.items ≡ item ∷ q.waiting.items → q.answers ≡ p.answers → q.telling ≡ p.telling
    → GoesOn answers (with_item item q) d s t → GoesOn answers (debt_of p) d s t
in_front answers item p q d s t items same telling h = record {
  exchanges = h.exchanges;
  came = ap until_quit items ∙ h.came;
  run = h.run;
  owed = h.owed ∙ ap (λ (x : Answers). (x.text.items ++ untold_in q) ++ text_of h.exchanges) same ∙ ap (λ (x : Option (List ℕ)). (p.answers.text.items ++ unwrap_or x []) ++ text_of h.exchanges) telling;
  answered = h.answered ∙ ap (λ (x : Answers). count_after x.calls h.exchanges) same;
  read = h.read;
  going = h.going;
}

pub fails_in_front : {S : Type 0} (answers : S → Request → Reply → S → Type 0) (refuses : S → Request → S → Type 0) (fault : SessionFault) (item : Item) (p q : Pending) (d : Connection) (s t : S) → p.waiting.items ≡ item ∷ q.waiting.items
    → q.answers ≡ p.answers → q.telling ≡ p.telling → Fails answers refuses fault (with_item item q) d s t → Fails answers refuses fault (debt_of p) d s t
fails_in_front answers refuses fault item p q d s t items same telling h = record {
  lost = h.lost;
  left = h.left;
  mid = h.mid;
  came = ap until_quit items ∙ h.came;
  run = h.run;
  owed = h.owed ∙ ap (λ (x : Answers). x.text.items) same;
  answered = h.answered ∙ ap (λ (x : Answers). count_after x.calls h.lost) same;
  read = h.read;
  asks = some_waits_there p (item ∷ q.waiting.items) items (omega arith);
  why = h.why;
  cuts = subst (λ (x : Option (List ℕ)). CutsFor fault h.lost (unwrap_or x [])) telling h.cuts;
}

-- ---- behind what was sent

-- a text that is owed behind the first bytes, which were sent
pub behind_sent : (sent : ℕ) (new untold old left text : List ℕ) → new ++ untold ≡ (old ++ left) ++ text → sent ≤ length old → length old ≤ length new → drop sent new ++ untold ≡ (drop sent old ++ left) ++ text
behind_sent sent new untold old left text h within grows =
    let below : sent ≤ length new = omega (arith, within, grows) in
    let joined : sent ≤ length (old ++ left) = let sum = length-append old left in omega (arith, within, sum) in
    sym (drop-append-le sent new untold below) ∙ ap (drop sent) h ∙ drop-append-le sent (old ++ left) text joined
    ∙ ap (λ (x : List ℕ). x ++ text) (drop-append-le sent old left within)

-- a session's connection, by what it has to do
abbrev pub connection_of : List ℕ → Pending → ℕ → Bool → Connection
connection_of read p sent on = record {
  read = read;
  waiting = until_quit p.waiting.items;
  owed = drop sent p.answers.text.items;
  untold = untold_in p;
  answered = p.answers.calls;
  goes_on = on;
}

module _ {S : Type 0} (answers : S → Request → Reply → S → Type 0) (read : List ℕ) (p q : Pending) (sent : ℕ) (s u : S) (grows : length p.answers.text.items ≤ length q.answers.text.items) (within : sent ≤ length p.answers.text.items) where
  pub session_goes : (on : Bool) → GoesOn answers (debt_of p) (debt_of q) s u → GoesOn answers (connection_of read p sent on) (connection_of read q sent on) s u
  session_goes on h = record {
    exchanges = h.exchanges;
    came = h.came;
    run = h.run;
    owed = behind_sent sent q.answers.text.items (untold_in q) p.answers.text.items (untold_in p) (text_of h.exchanges) h.owed within grows;
    answered = h.answered;
    read = refl;
    going = refl;
  }

  pub session_breaks : (refuses : S → Request → S → Type 0) (fault : SessionFault) (r : Pending) (on : Bool) → Breaks answers refuses fault (debt_of p) (debt_of q) s u → r.answers ≡ q.answers → r.waiting.items ≡ [] → r.telling ≡ None
      → BreaksOff answers refuses fault (connection_of read p sent on) (connection_of read r sent false) s u
  session_breaks refuses fault r on b same waits told =
      let h = breaks_off answers refuses fault (debt_of p) (debt_of q) (debt_of r) s u b grows (ap (λ (x : Answers). x.text.items) same) (ap (λ (x : Answers). x.calls) same) refl (ap until_quit waits) (none_untold r told) refl in
      let longer : length p.answers.text.items ≤ length r.answers.text.items = let lengths = ap (λ (x : Answers). length x.text.items) same in omega (arith, lengths, grows) in
      record {
        done = h.done;
        lost = h.lost;
        left = h.left;
        mid = h.mid;
        cut = h.cut;
        came = h.came;
        run = h.run;
        owed = behind_sent sent r.answers.text.items h.cut p.answers.text.items (untold_in p) (text_of h.done) h.owed within longer;
        answered = h.answered;
        read = refl;
        settled = record { none_waits = ap until_quit waits; none_untold = none_untold r told };
        closed = refl;
        asks = λ done. h.asks (record { none_waits = done.none_waits; none_untold = done.none_untold });
        more = h.more;
        keeps = ap (drop sent) h.keeps ∙ drop-append-le sent p.answers.text.items h.more within;
        why = h.why;
        cuts = h.cuts;
      }

-- ---- what comes

-- a session that goes on had no end
pub stays_by : (end : Option SessionEnd) (items : List Item) → is_none end ≡ true → IsEnd items end → StaysOpen items
stays_by None items on ends = ends
stays_by (Some end) items on ends = cc

pub none_by : (end : Option SessionEnd) (b : Bool) → is_some end ≡ not b → b ≡ true → is_none end ≡ true
none_by None b h on = refl
none_by (Some end) true h on = cc
none_by (Some end) false h on = cc

end_of_both : (items : List Item) (quits ended : Bool) → has_quit items ≡ quits → has_long_line items ≡ ended → IsEnd items (cond quits (Some Quit) (cond ended (Some LineTooLong) None))
end_of_both items true ended q l = ends_by_quit items q
end_of_both items false true q l = ends_by_line items q l
end_of_both items false false q l = record { quits = q; lines = l }

-- the end that a piece brings
pub come_end : (text piece next : List ℕ) (items : List Item) (quits ended : Bool) → StaysOpen (items_of text) → next ≡ text ++ piece → items_of (text ++ piece) ≡ items_of text ++ items → quits ≡ has_quit items → ended ≡ has_long_line (items_of next)
    → IsEnd (items_of next) (cond quits (Some Quit) (cond ended (Some LineTooLong) None))
come_end text piece next items quits ended stays read brings q l =
    end_of_both (items_of next) quits ended (ap (λ (t : List ℕ). has_quit (items_of t)) read ∙ quits_behind text piece items quits stays brings (sym q)) (sym l)

-- What a carried connection keeps while it is written and read, and while what waits is answered.
use Rattle.std.proofs.Common.{◌≡◌, ℕ, ◌≤◌, true, false, List, [], ◌++◌, length, Option, None, Some, is_none, Result, Ok, Err, OnOk, IfErr, ◌⊎◌, inl, inr, refl, sym, ap, subst, ◌∙◌, append_assoc, append-nil, arith}
use Rattle.std.proofs.KnownBytes.{Appends-nil, Appends-trans}
use Rattle.geo_grammar.specs.Protocol.{items_of}
use Rattle.geo_grammar.specs.declared.item.Item.{Item}
use Rattle.geo_requests.specs.declared.reply.Reply.{Reply}
use Rattle.geo_requests.specs.declared.request.Request.{Request}
use Rattle.geo_grammar.specs.Quitting.{until_quit}
use Rattle.geo_dialogue.specs.Closings.{StaysOpen}
use Rattle.geo_dialogue.specs.Connections.{Connection, Comes, GoesOn, GoesFar, BreaksFor, BreaksOff, IsEnd, IsSettled, new_connection}
use Rattle.geo_dialogue.specs.Exchanges.{Exchange, items_in, text_of}
use Rattle.geo_dialogue.specs.Sessions.{Sends}
use Rattle.geo_dialogue.specs.declared.end.SessionEnd.{SessionEnd}
use Rattle.geo_dialogue.specs.declared.fault.SessionFault.{SessionFault}
use Rattle.geo_dialogue.specs.declared.fault.SessionFault.TheVariants.{Read, Write, Memory, TooManyReads, Spent}
use Rattle.geo_dialogue.proofs.Pieces.{no_items, none_stays}
use Rattle.geo_dialogue.proofs.Talks.{items_in-append, text_of-append, until_quit-none}
use Rattle.geo_crowd.specs.Carrying.{Carriage, Outcome, IsWhole, IsBroken, IsCarried, Brings, Reads, IsGoneOn, IsBrokenOff, outcome_by, outcome_after, outcome_gone}
use Rattle.geo_crowd.specs.declared.carried.Came.{Came}
use Rattle.geo_crowd.specs.declared.carried.Came.TheVariants as came
use Rattle.geo_crowd.specs.declared.carried.Sent.{Sent}
use Rattle.geo_crowd.specs.declared.carried.Sent.TheVariants as sent
use Rattle.geo_socket.specs.declared.stream.Given.{Given}

-- ---- a new connection

pub carries_none : (written : Option (List ℕ)) (c : Connection) → c ≡ new_connection → IsCarried written c None
carries_none written c new =
    let at_new : IsCarried written new_connection None = record {
      serves = record { took = []; done = []; lost = []; rest = []; cut = []; few_lost = omega arith; acted = ap until_quit no_items; said = refl; start = written; wrote = Appends-nil written };
      stays = λ _. none_stays;
      open_on = λ _. refl;
      whole = inl (record { none_lost = refl; none_cut = refl; waits = refl });
    } in
    subst (λ (x : Connection). IsCarried written x None) (sym new) at_new

-- ---- writing

-- a write that leaves no outcome found none
none_before : (result : Sent) (old new : Option Outcome) → new ≡ outcome_after result old → new ≡ None → old ≡ None
none_before sent.All old new is none = sym is ∙ none
none_before sent.Part old new is none = sym is ∙ none
none_before sent.Failed old new is none = let both : ◌≡◌ {A = Option Outcome} (Some (Err Write)) None = sym is ∙ none in cc

-- and one that finds a fault leaves one
fault_behind : (result : Sent) (old new : Option Outcome) (fault : SessionFault) → new ≡ outcome_after result old → old ≡ Some (Err fault) → (left : SessionFault) × (new ≡ Some (Err left))
fault_behind sent.All old new fault is was = (fault, is ∙ was)
fault_behind sent.Part old new fault is was = (fault, is ∙ was)
fault_behind sent.Failed old new fault is was = (Write, is)

module _ (c d : Connection) (stays : d ≡ record c { owed = d.owed }) where
  settled_sent : IsSettled c → IsSettled d
  settled_sent s = record {
    none_waits = ap (λ (x : Connection). x.waiting) stays ∙ s.none_waits;
    none_untold = ap (λ (x : Connection). x.untold) stays ∙ s.none_untold;
  }

  whole_sent : (result : Sent) (old new : Option Outcome) (lost : List Exchange) (rest : List Item) (cut : List ℕ) → new ≡ outcome_after result old
      → IsWhole c lost rest cut ⊎ IsBroken c old → IsWhole d lost rest cut ⊎ IsBroken d new
  whole_sent result old new lost rest cut is (inl w) = inl (record { none_lost = w.none_lost; none_cut = w.none_cut; waits = w.waits ∙ sym (ap (λ (x : Connection). x.waiting) stays) })
  whole_sent result old new lost rest cut is (inr b) =
      let f = fault_behind result old new b.fault is b.ended in
      inr (record { fault = f.0; ended = f.1; closed = ap (λ (x : Connection). x.goes_on) stays ∙ b.closed; settled = settled_sent b.settled })

pub carries_sent : (v w : Option (List ℕ)) (c d : Connection) (result : Sent) (old new : Option Outcome) → IsCarried v c old → Sends c d v w → new ≡ outcome_after result old → IsCarried w d new
carries_sent v w c d result old new k h is =
    let took : List ℕ = k.serves.took in
    let owed : h.part ++ (d.owed ++ d.untold) ≡ c.owed ++ c.untold =
    sym (append_assoc h.part d.owed d.untold) ∙ ap (λ (t : List ℕ). t ++ d.untold) (sym h.front) ∙ ap (λ (t : List ℕ). c.owed ++ t) (ap (λ (x : Connection). x.untold) h.stays) in
    record {
      serves = record {
        took = took ++ h.part;
        done = k.serves.done;
        lost = k.serves.lost;
        rest = k.serves.rest;
        cut = k.serves.cut;
        few_lost = k.serves.few_lost;
        acted = ap (λ (x : Connection). until_quit (items_of x.read)) h.stays ∙ k.serves.acted;
        said = ap (λ (t : List ℕ). t ++ k.serves.cut) (append_assoc took h.part (d.owed ++ d.untold) ∙ ap (λ (t : List ℕ). took ++ t) owed) ∙ k.serves.said;
        start = k.serves.start;
        wrote = Appends-trans k.serves.start v w took h.part k.serves.wrote h.written;
      };
      stays = λ goes. subst (λ (t : List ℕ). StaysOpen (items_of t)) (sym (ap (λ (x : Connection). x.read) h.stays)) (k.stays (sym (ap (λ (x : Connection). x.goes_on) h.stays) ∙ goes));
      open_on = λ none. ap (λ (x : Connection). x.goes_on) h.stays ∙ k.open_on (none_before result old new is none);
      whole = whole_sent c d h.stays result old new k.serves.lost k.serves.rest k.serves.cut is k.whole;
    }

-- ---- reading

-- a session that goes on, or for which something waits, is not broken
whole_going : (c : Connection) (o : Option Outcome) (lost : List Exchange) (rest : List Item) (cut : List ℕ) → c.goes_on ≡ true → IsWhole c lost rest cut ⊎ IsBroken c o → IsWhole c lost rest cut
whole_going c o lost rest cut goes (inl w) = w
whole_going c o lost rest cut goes (inr b) = let both : false ≡ true = sym b.closed ∙ goes in absurd cc

whole_waiting : (c : Connection) (o : Option Outcome) (lost : List Exchange) (rest : List Item) (cut : List ℕ) → (IsSettled c → ⊥) → IsWhole c lost rest cut ⊎ IsBroken c o → IsWhole c lost rest cut
whole_waiting c o lost rest cut waits (inl w) = w
whole_waiting c o lost rest cut waits (inr b) = absurd (waits b.settled)

-- a session that goes on had no end
stays_by : (end : Option SessionEnd) (items : List Item) → is_none end ≡ true → IsEnd items end → StaysOpen items
stays_by None items on ends = ends
stays_by (Some end) items on ends = cc

module _ (v : Option (List ℕ)) (c d : Connection) (o : Option Outcome) (k : IsCarried v c o) (goes : c.goes_on ≡ true) (settled : IsSettled c) where
  kept : IsWhole c k.serves.lost k.serves.rest k.serves.cut
  kept = whole_going c o k.serves.lost k.serves.rest k.serves.cut goes k.whole

  -- the items that came are those that are answered
  items_going : items_of c.read ≡ items_in (k.serves.done ++ k.serves.lost)
  items_going =
      let none : k.serves.rest ≡ [] = kept.waits ∙ settled.none_waits in
      let stays = k.stays goes in
      sym (until_quit-none (items_of c.read) stays.quits) ∙ k.serves.acted
      ∙ ap (λ (t : List Item). items_in (k.serves.done ++ k.serves.lost) ++ t) none ∙ append-nil (items_in (k.serves.done ++ k.serves.lost))

  -- nothing comes
  carries_still : (outcome : Option Outcome) → d ≡ c → IsCarried v d outcome
  carries_still outcome same =
      let still : IsCarried v c outcome = record { serves = k.serves; stays = k.stays; open_on = λ _. goes; whole = inl kept } in
      subst (λ (x : Connection). IsCarried v x outcome) (sym same) still

  -- a piece comes
  carries_bytes : (end : Option SessionEnd) (piece : List ℕ) (outcome : Option Outcome) → Comes piece c d → IsEnd (items_of d.read) end → d.goes_on ≡ is_none end → (outcome ≡ None → end ≡ None)
      → IsCarried v d outcome
  carries_bytes end piece outcome h ends on none =
      record {
        serves = record {
          took = k.serves.took;
          done = k.serves.done;
          lost = k.serves.lost;
          rest = d.waiting;
          cut = k.serves.cut;
          few_lost = k.serves.few_lost;
          acted = ap (λ (x : Connection). until_quit (items_of x.read)) h.stays ∙ h.came ∙ ap (λ (t : List Item). t ++ d.waiting) items_going;
          said = ap (λ (x : Connection). (k.serves.took ++ (x.owed ++ x.untold)) ++ k.serves.cut) h.stays ∙ k.serves.said;
          start = k.serves.start;
          wrote = k.serves.wrote;
        };
        stays = λ onward. stays_by end (items_of d.read) (sym on ∙ onward) ends;
        open_on = λ without. on ∙ ap is_none (none without);
        whole = inl (record { none_lost = kept.none_lost; none_cut = kept.none_cut; waits = refl });
      }

  -- a piece could not be taken
  carries_refused : (fault : SessionFault) (outcome : Option Outcome) → d ≡ record c { goes_on = false } → outcome ≡ Some (Err fault) → IsCarried v d outcome
  carries_refused fault outcome shut is =
      let off : IsCarried v (record c { goes_on = false }) outcome = record {
        serves = k.serves;
        stays = λ on. let both : false ≡ true = on in absurd cc;
        open_on = λ none. let both : ◌≡◌ {A = Option Outcome} (Some (Err fault)) None = sym is ∙ none in absurd cc;
        whole = inl (record { none_lost = kept.none_lost; none_cut = kept.none_cut; waits = kept.waits });
      } in
      subst (λ (x : Connection). IsCarried v x outcome) (sym shut) off

  carries_piece : (result : Came) (piece : List ℕ) (outcome : Option Outcome) → Brings result piece c d → outcome ≡ outcome_by result → IsCarried v d outcome
  carries_piece (came.Bytes None full) piece outcome h is = carries_bytes None piece outcome h.0 h.1 h.2 (λ _. refl)
  carries_piece (came.Bytes (Some end) full) piece outcome h is =
      carries_bytes (Some end) piece outcome h.0 h.1 h.2 (λ none. let both : ◌≡◌ {A = Option Outcome} (Some (Ok end)) None = sym is ∙ none in absurd cc)
  carries_piece (came.Broken fault) piece outcome h is = carries_refused fault outcome h.1 is
  carries_piece came.Later piece outcome h is = carries_still outcome h.1
  carries_piece came.End piece outcome h is = carries_still outcome h.1
  carries_piece came.Failed piece outcome h is = carries_still outcome h.1

  pub carries_read : (result : Came) (had has : Option (List ℕ)) (told : Option Given) (outcome : Option Outcome) → Reads result had has told c d → outcome ≡ outcome_by result → IsCarried v d outcome
  carries_read result had has told outcome h is = carries_piece result h.piece outcome h.brings is

-- ---- going on

-- what is acted on with these answers more
acted_on : (all : List ℕ) (done lost more gone : List Exchange) (rest waiting left : List Item) → until_quit (items_of all) ≡ items_in (done ++ lost) ++ rest → lost ≡ [] → rest ≡ waiting → waiting ≡ items_in (more ++ gone) ++ left
    → until_quit (items_of all) ≡ items_in ((done ++ more) ++ gone) ++ left
acted_on all done lost more gone rest waiting left acted none waits came =
    let front : items_in (done ++ lost) ≡ items_in done = ap (λ (t : List Exchange). items_in (done ++ t)) none ∙ ap items_in (append-nil done) in
    let joined : items_in done ++ items_in (more ++ gone) ≡ items_in ((done ++ more) ++ gone) = sym (items_in-append done (more ++ gone)) ∙ ap items_in (sym (append_assoc done more gone)) in
    acted ∙ ap (λ (t : List Item). t ++ rest) front ∙ ap (λ (t : List Item). items_in done ++ t) (waits ∙ came)
    ∙ sym (append_assoc (items_in done) (items_in (more ++ gone)) left) ∙ ap (λ (t : List Item). t ++ left) joined

-- what is said with them
said_on : (took owed next cut gone : List ℕ) (done more : List Exchange) → (took ++ owed) ++ cut ≡ text_of done → cut ≡ [] → next ++ gone ≡ owed ++ text_of more → (took ++ next) ++ gone ≡ text_of (done ++ more)
said_on took owed next cut gone done more said none h =
    let before : took ++ owed ≡ text_of done = sym (append-nil (took ++ owed)) ∙ ap (λ (t : List ℕ). (took ++ owed) ++ t) (sym none) ∙ said in
    append_assoc took next gone ∙ ap (λ (t : List ℕ). took ++ t) h ∙ sym (append_assoc took owed (text_of more)) ∙ ap (λ (t : List ℕ). t ++ text_of more) before
    ∙ sym (text_of-append done more)

module _ {S : Type 0} (answers : S → Request → Reply → S → Type 0) (refuses : S → Request → S → Type 0) (v : Option (List ℕ)) (c d : Connection) (o : Option Outcome) (before after : S) (k : IsCarried v c o) (waits : IsSettled c → ⊥) where
  few : (fault : SessionFault) (lost : List Exchange) (left : List Item) (mid new : S) → BreaksFor refuses fault lost left mid new → length lost ≤ 1
  few Read lost left mid new h = absurd h
  few Write lost left mid new h = absurd h
  few Memory lost left mid new h = h.0
  few TooManyReads lost left mid new h = absurd h
  few Spent lost left mid new h = let none_lost = ap (λ (t : List Exchange). length t) h.0 in omega arith

  carries_on : (outcome : Option Outcome) → GoesOn answers c d before after → outcome ≡ o → IsCarried v d outcome
  carries_on outcome h same =
      let w = whole_waiting c o k.serves.lost k.serves.rest k.serves.cut waits k.whole in
      let waited : c.waiting ≡ items_in (h.exchanges ++ []) ++ d.waiting = h.came ∙ ap (λ (t : List Exchange). items_in t ++ d.waiting) (sym (append-nil h.exchanges)) in
      record {
        serves = record {
          took = k.serves.took;
          done = k.serves.done ++ h.exchanges;
          lost = [];
          rest = d.waiting;
          cut = [];
          few_lost = omega arith;
          acted = ap (λ (t : List ℕ). until_quit (items_of t)) h.read ∙ acted_on c.read k.serves.done k.serves.lost h.exchanges [] k.serves.rest c.waiting d.waiting k.serves.acted w.none_lost w.waits waited;
          said = said_on k.serves.took (c.owed ++ c.untold) (d.owed ++ d.untold) k.serves.cut [] k.serves.done h.exchanges k.serves.said w.none_cut (append-nil (d.owed ++ d.untold) ∙ h.owed);
          start = k.serves.start;
          wrote = k.serves.wrote;
        };
        stays = λ goes. subst (λ (t : List ℕ). StaysOpen (items_of t)) (sym h.read) (k.stays (sym h.going ∙ goes));
        open_on = λ none. h.going ∙ k.open_on (sym same ∙ none);
        whole = inl (record { none_lost = refl; none_cut = refl; waits = refl });
      }

  carries_off : (fault : SessionFault) (outcome : Option Outcome) → BreaksOff answers refuses fault c d before after → outcome ≡ Some (Err fault) → IsCarried v d outcome
  carries_off fault outcome h is =
      let w = whole_waiting c o k.serves.lost k.serves.rest k.serves.cut waits k.whole in
      let owed : (d.owed ++ d.untold) ++ h.cut ≡ (c.owed ++ c.untold) ++ text_of h.done =
      ap (λ (t : List ℕ). (d.owed ++ t) ++ h.cut) h.settled.none_untold ∙ ap (λ (t : List ℕ). t ++ h.cut) (append-nil d.owed) ∙ h.owed in
      record {
        serves = record {
          took = k.serves.took;
          done = k.serves.done ++ h.done;
          lost = h.lost;
          rest = h.left;
          cut = h.cut;
          few_lost = few fault h.lost h.left h.mid after h.why;
          acted = ap (λ (t : List ℕ). until_quit (items_of t)) h.read ∙ acted_on c.read k.serves.done k.serves.lost h.done h.lost k.serves.rest c.waiting h.left k.serves.acted w.none_lost w.waits h.came;
          said = said_on k.serves.took (c.owed ++ c.untold) (d.owed ++ d.untold) k.serves.cut h.cut k.serves.done h.done k.serves.said w.none_cut owed;
          start = k.serves.start;
          wrote = k.serves.wrote;
        };
        stays = λ on. let both : false ≡ true = sym h.closed ∙ on in absurd cc;
        open_on = λ none. let both : ◌≡◌ {A = Option Outcome} (Some (Err fault)) None = sym is ∙ none in absurd cc;
        whole = inr (record { fault = fault; ended = is; closed = h.closed; settled = h.settled });
      }

  pub carries_gone : {T : Type 0} (r : Result T SessionFault) (outcome : Option Outcome) → OnOk r (GoesOn answers c d before after) → IfErr r (λ fault. BreaksOff answers refuses fault c d before after) → outcome ≡ outcome_gone r o
      → IsCarried v d outcome
  carries_gone (Ok x) outcome goes breaks is = carries_on outcome goes is
  carries_gone (Err fault) outcome goes breaks is = carries_off fault outcome breaks is

-- how it went
pub gone_by : {S T : Type 0} (answers : S → Request → Reply → S → Type 0) (refuses : S → Request → S → Type 0) (r : Result T SessionFault) (old new : Carriage) (before after : S) → OnOk r (GoesOn answers old.session new.session before after)
    → OnOk r (GoesFar new.session) → IfErr r (λ fault. BreaksOff answers refuses fault old.session new.session before after) → new.outcome ≡ outcome_gone r old.outcome
    → IsGoneOn answers old new before after ⊎ IsBrokenOff answers refuses old new before after
gone_by answers refuses (Ok x) old new before after goes far breaks is = inl (record { goes = goes; far = far; outcome = is })
gone_by answers refuses (Err fault) old new before after goes far breaks is = inr (record { fault = fault; breaks = breaks; outcome = is })

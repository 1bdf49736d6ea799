-- Lines that are played one after the other.
use Rattle.std.proofs.Common.{◌≡◌, ℕ, ◌<◌, ◌+◌, Bool, false, true≢false, List, [], ◌∷◌, ◌++◌, length, take, Option, Some, None, refl, sym, ap, subst, ◌∙◌, arith, append_assoc, append-nil, length-append, ◌⊎◌, inl, inr, Result, Ok, Err, IfErr, IfSome, OnOk, IsTrue, zero, suc}
use Rattle.std.specs.Result.{IsErrAnd}
use Rattle.std.specs.Io.KnownBytes.{Appends}
use Rattle.std.proofs.KnownBytes.{Appends-nil, Appends-trans}
use Rattle.std.proofs.Math.Seq.{take-append-add}
use Rattle.geo_cluster.specs.Lines.{lines_of}
use Rattle.geo_cluster.specs.Progress.{Progress, opening}
use Rattle.geo_cluster.specs.Standing.{Stands}
use Rattle.geo_cluster.specs.Runs.{PlaysLine, Plays, PlaysOn, Prints, IsBadAt, StopsFor, Advances, Stops, StopsFrom, Performs, EndsFor, Ends, EndsAtLine, IsFresh, IsOfWriter, IsOfDevices}
use Rattle.geo_cluster.specs.declared.script.fault.ScriptFault.{ScriptFault}
use Rattle.geo_cluster.specs.declared.script.fault.ScriptFault.TheVariants.{BadLine, Memory, Read, Write}
use Rattle.geo_cluster.specs.declared.script.run.Run.{Run}
use Rattle.geo_cluster.proofs.Happening.{runs_of}

pub Plays-append : (xs ys : List (List ℕ)) (a b c : Progress) (t u : List ℕ) → Plays a xs t b → Plays b ys u c → Plays a (xs ++ ys) (t ++ u) c
Plays-append [] ys a b c t u h k = subst (λ (s : Progress). Plays s ys (t ++ u) c) h.1 (subst (λ (v : List ℕ). Plays b ys (v ++ u) c) (sym h.0) k)
Plays-append (x ∷ xs) ys a b c t u h k =
    (h.0, h.1, h.2 ++ u, h.3, Plays-append xs ys h.0 b c h.2 u h.4 k, ap (λ (v : List ℕ). v ++ u) h.5 ∙ append_assoc h.1 h.2 u)

pub Plays-one : (a b : Progress) (line text : List ℕ) → PlaysLine a line text b → Plays a (line ∷ []) text b
Plays-one a b line text h = (b, text, [], h, (refl, refl), sym (append-nil text))

pub Prints-nothing : (w : Option (List ℕ)) (out : List ℕ) → Prints w w out out []
Prints-nothing w out = ([], Appends-nil w, append-nil out)

pub Prints-append : (u v w : Option (List ℕ)) (a b c s t : List ℕ) → Prints u v a b s → Prints v w b c t → Prints u w a c (s ++ t)
Prints-append u v w a b c s t h k =
    (h.0 ++ k.0, Appends-trans u v w h.0 k.0 h.1 k.1, sym (append_assoc a s t) ∙ ap (λ (x : List ℕ). x ++ t) h.2 ∙ append_assoc h.0 b t ∙ ap (λ (x : List ℕ). h.0 ++ x) k.2 ∙ sym (append_assoc h.0 k.0 c))

-- runs that follow each other
pub advance_then : (a b c : Run) (es fs : List (List ℕ)) (u v w : Option (List ℕ)) → Advances a b es u v → Advances b c fs v w → Advances a c (es ++ fs) u w
advance_then a b c es fs u v w first then p st = let h = first p st in let k = then h.progress h.stands in record {
  text = h.text ++ k.text;
  progress = k.progress;
  plays = Plays-append es fs p h.progress k.progress h.text k.text h.plays k.plays;
  stands = k.stands;
  count = k.count ∙ ap (λ (n : ℕ). n + length fs) h.count ∙ omega (arith, length-append es fs);
  prints = Prints-append u v w a.out.items b.out.items c.out.items h.text k.text h.prints k.prints;
}

cut_behind : (x a b s t : List ℕ) (k : ℕ) → a ++ s ≡ x ++ b → x ++ take k (b ++ t) ≡ take (length x + k) (a ++ (s ++ t))
cut_behind x a b s t k e = sym (take-append-add x (b ++ t) k) ∙ ap (λ (y : List ℕ). take (length x + k) y) (sym (append_assoc x b t) ∙ ap (λ (y : List ℕ). y ++ t) (sym e) ∙ append_assoc a s t)

-- a fault behind lines that were played
stop_behind : (fault : ScriptFault) (progress : Progress) (lines : List (List ℕ)) (n m : ℕ) (u v w : Option (List ℕ)) (a b c s t : List ℕ) → n ≡ m
    → Prints u v a b s → StopsFor fault progress lines n v w b c t → StopsFor fault progress lines m u w a c (s ++ t)
stop_behind (BadLine k) progress lines n m u v w a b c s t e h why = (subst (λ i. IsBadAt k progress lines i) e why.0, Prints-append u v w a b c s t h why.1)
stop_behind Memory progress lines n m u v w a b c s t e h why = (why.0, Prints-append u v w a b c s t h why.1)
stop_behind Read progress lines n m u v w a b c s t e h why = Prints-append u v w a b c s t h why
stop_behind Write progress lines n m u v w a b c s t e h why = (
  length h.0 + why.0,
  subst (λ (x : List ℕ). Appends u w x) (cut_behind h.0 a b s t why.0 h.2) (Appends-trans u v w h.0 (take why.0 (b ++ t)) h.1 why.1),
  why.2,
)

pub stop_after : (fault : ScriptFault) (a b : Run) (es fs : List (List ℕ)) (u v w : Option (List ℕ)) (waits : List ℕ) → Advances a b es u v → Stops fault b fs v w waits → Stops fault a (es ++ fs) u w waits
stop_after fault a b es fs u v w waits first then p st = let h = first p st in let k = then h.progress h.stands in record {
  done = es ++ k.done;
  more = k.more;
  text = h.text ++ k.text;
  progress = k.progress;
  split = ap (λ (x : List (List ℕ)). es ++ x) k.split ∙ sym (append_assoc es k.done k.more);
  plays = Plays-append es k.done p h.progress k.progress h.text k.text h.plays k.plays;
  runs = k.runs;
  why = stop_behind fault k.progress k.more _ _ u v w a.out.items b.out.items waits h.text k.text (let e = h.count in omega (arith, length-append es k.done)) h.prints k.why;
}

-- more lines behind a fault
stop_before : (fault : ScriptFault) (progress : Progress) (lines more : List (List ℕ)) (n : ℕ) (u v : Option (List ℕ)) (a b t : List ℕ) → StopsFor fault progress lines n u v a b t → StopsFor fault progress (lines ++ more) n u v a b t
stop_before (BadLine k) progress lines more n u v a b t why =
    let at = why.0 in (record { line = at.line; more = at.more ++ more; first = ap (λ (x : List (List ℕ)). x ++ more) at.first; bad = at.bad; counted = at.counted }, why.1)
stop_before Memory progress lines more n u v a b t why =
    let at = why.0 in (record { line = at.line; more = at.more ++ more; first = ap (λ (x : List (List ℕ)). x ++ more) at.first; wants = at.wants }, why.1)
stop_before Read progress lines more n u v a b t why = why
stop_before Write progress lines more n u v a b t why = why

pub stop_more : (fault : ScriptFault) (a : Run) (es fs : List (List ℕ)) (u v : Option (List ℕ)) (waits : List ℕ) → Stops fault a es u v waits → Stops fault a (es ++ fs) u v waits
stop_more fault a es fs u v waits stops p st = let h = stops p st in record {
  done = h.done;
  more = h.more ++ fs;
  text = h.text;
  progress = h.progress;
  split = ap (λ (x : List (List ℕ)). x ++ fs) h.split ∙ append_assoc h.done h.more fs;
  plays = h.plays;
  runs = h.runs;
  why = stop_before fault h.progress h.more fs _ u v a.out.items waits h.text h.why;
}

-- nothing was played yet
pub advance_none : (a : Run) (w : Option (List ℕ)) → Advances a a [] w w
advance_none a w p st = record { text = []; progress = p; plays = (refl, refl); stands = st; count = omega arith; prints = Prints-nothing w a.out.items }

-- a line that was played, in a run that counts it
pub advance_one : (a b : Run) (line : List ℕ) (w : Option (List ℕ)) → ((p : Progress) → Stands p a.cluster → PlaysOn p line a.out.items b.out.items b.cluster) → b.lines ≡ a.lines + 1 → Advances a b (line ∷ []) w w
advance_one a b line w plays counted p st = let h = plays p st in record {
  text = h.text;
  progress = h.progress;
  plays = Plays-one p h.progress line h.text h.plays;
  stands = h.stands;
  count = counted;
  prints = ([], Appends-nil w, sym h.printed);
}

-- what waited is written
pub advance_flush : (a b : Run) (u v : Option (List ℕ)) → Appends u v a.out.items → b.out.items ≡ [] → b ≡ record a { out = b.out } → Advances a b [] u v
advance_flush a b u v written empty rest p st = record {
  text = [];
  progress = p;
  plays = (refl, refl);
  stands = subst (λ (c : Run). Stands p c.cluster) (sym rest) st;
  count = ap (λ (r : Run). r.lines) rest ∙ omega arith;
  prints = (a.out.items, written, ap (λ (x : List ℕ). a.out.items ++ x) (sym empty));
}

-- no further line was played
stops_at : (fault : ScriptFault) (p : Progress) (a : Run) (lines : List (List ℕ)) (u v : Option (List ℕ)) (waits : List ℕ) → Stands p a.cluster → StopsFor fault p lines (a.lines + length {A = List ℕ} [] + 1) u v a.out.items waits [] → StopsFrom fault p a lines u v waits
stops_at fault p a lines u v waits st why = record {
  done = [];
  more = lines;
  text = [];
  progress = p;
  split = refl;
  plays = (refl, refl);
  runs = runs_of p a.cluster st;
  why = why;
}

-- a write that failed
pub stop_flush : (a : Run) (u v : Option (List ℕ)) (waits : List ℕ) (n : ℕ) → Appends u v (take n a.out.items) → waits ≡ [] → Stops Write a [] u v waits
stop_flush a u v waits n written empty p st = stops_at Write p a [] u v waits st (n, subst (λ (x : List ℕ). Appends u v (take n x)) (sym (append-nil a.out.items)) written, empty)

-- a fault at a line
pub stop_line : (fault : ScriptFault) (a : Run) (line : List ℕ) (w : Option (List ℕ)) (waits : List ℕ) → ((p : Progress) → Stands p a.cluster → EndsAtLine fault p line (a.lines + 1)) → waits ≡ a.out.items → Stops fault a (line ∷ []) w w waits
stop_line fault a line w waits ends same p st = stops_at fault p a (line ∷ []) w w waits st (stop_why fault (ends p st)) where
  printed : Prints w w a.out.items waits []
  printed = ([], Appends-nil w, append-nil a.out.items ∙ sym same)

  stop_why : (f : ScriptFault) → EndsAtLine f p line (a.lines + 1) → StopsFor f p (line ∷ []) (a.lines + length {A = List ℕ} [] + 1) w w a.out.items waits []
  stop_why (BadLine n) h = (record { line = line; more = []; first = refl; bad = h.0; counted = h.1 ∙ omega arith }, printed)
  stop_why Memory h = (record { line = line; more = []; first = refl; wants = inr h }, printed)
  stop_why Read h = absurd h
  stop_why Write h = absurd h

-- a failed read before a further line
pub stop_here : (a : Run) (w : Option (List ℕ)) (waits : List ℕ) → waits ≡ a.out.items → Stops Read a [] w w waits
stop_here a w waits same p st = stops_at Read p a [] w w waits st ([], Appends-nil w, append-nil a.out.items ∙ sym same)

-- want of memory for a long line
stop_long : (a : Run) (line : List ℕ) (lines : List (List ℕ)) (w : Option (List ℕ)) → 16384 < length line → Stops Memory a (line ∷ lines) w w a.out.items
stop_long a line lines w long p st = stops_at Memory p a (line ∷ lines) w w a.out.items st (record { line = line; more = lines; first = refl; wants = inl long }, Prints-nothing w a.out.items)

-- a fault that is passed on
pub at_err : (r : Result (Unit {0}) ScriptFault) (f : ScriptFault) (P : ScriptFault → Type 0) → IsErrAnd r (λ e. e ≡ f) → P f → IfErr r P
at_err (Ok x) f P h p = absurd h
at_err (Err e) f P h p = subst P (sym h) p

-- lines that no fault ended, before a read that failed
pub stop_now : (a b : Run) (es : List (List ℕ)) (u v : Option (List ℕ)) → Advances a b es u v → Stops Read a es u v b.out.items
stop_now a b es u v h =
    subst (λ (x : List (List ℕ)). Stops Read a x u v b.out.items) (append-nil es) (stop_after Read a b es [] u v v b.out.items h (stop_here b v b.out.items refl))

-- and before a long line
pub stop_wanting : (a b : Run) (es : List (List ℕ)) (line : List ℕ) (lines : List (List ℕ)) (u v : Option (List ℕ)) → 16384 < length line → Advances a b es u v → Stops Memory a (es ++ line ∷ lines) u v b.out.items
stop_wanting a b es line lines u v long h = stop_after Memory a b es (line ∷ lines) u v v b.out.items h (stop_long b line lines v long)

-- room was made
pub advance_room : (a b : Run) (w : Option (List ℕ)) → b ≡ record a { unfinished = b.unfinished } → Advances a b [] w w
advance_room a b w rest p st = record {
  text = [];
  progress = p;
  plays = (refl, refl);
  stands = subst (λ (c : Run). Stands p c.cluster) (sym rest) st;
  count = ap (λ (r : Run). r.lines) rest ∙ omega arith;
  prints = ([], Appends-nil w, append-nil a.out.items ∙ ap (λ (r : Run). r.out.items) (sym rest));
}

pub advance_roomy : (a b c : Run) (es : List (List ℕ)) (u v : Option (List ℕ)) → Advances a b es u v → c ≡ record b { unfinished = c.unfinished } → Advances a c es u v
advance_roomy a b c es u v h rest = subst (λ (x : List (List ℕ)). Advances a c x u v) (append-nil es) (advance_then a b c es [] u v v h (advance_room b c v rest))

-- a write that failed behind lines that were played
pub stop_written : (fault : ScriptFault) (a b : Run) (es : List (List ℕ)) (u v w : Option (List ℕ)) (waits : List ℕ) (n : ℕ) → fault ≡ Write → Advances a b es u v → Appends v w (take n b.out.items) → waits ≡ [] → Stops fault a es u w waits
stop_written fault a b es u v w waits n is h written empty =
    subst (λ (f : ScriptFault). Stops f a es u w waits) (sym is)
    (subst (λ (x : List (List ℕ)). Stops Write a x u w waits) (append-nil es) (stop_after Write a b es [] u v w waits h (stop_flush b v w waits n written empty)))

-- lines that were played, and what waited is written
pub advance_written : (a b c : Run) (es : List (List ℕ)) (u v w : Option (List ℕ)) → Advances a b es u v → Appends v w b.out.items → c.out.items ≡ [] → c ≡ record b { out = c.out } → Advances a c es u w
advance_written a b c es u v w h written empty rest =
    subst (λ (x : List (List ℕ)). Advances a c x u w) (append-nil es) (advance_then a b c es [] u v w h (advance_flush b c v w written empty rest))

-- a whole script
pub performs : (a b : Run) (lines : List (List ℕ)) (u v w : Option (List ℕ)) → IsFresh a → Advances a b lines u v → Appends v w b.out.items → Performs lines u w
performs a b lines u v w fresh advances written = let h = advances opening fresh.stands in record {
  text = h.text;
  progress = h.progress;
  plays = h.plays;
  runs = runs_of h.progress b.cluster h.stands;
  written = subst (λ (x : List ℕ). Appends u w x) (sym (ap (λ (x : List ℕ). x ++ h.text) (sym fresh.out) ∙ h.prints.2)) (Appends-trans u v w h.prints.0 b.out.items h.prints.1 written);
}

-- a script that a fault ended
end_why : (fault : ScriptFault) (a : Run) (progress : Progress) (lines : List (List ℕ)) (done : List (List ℕ)) (u v w : Option (List ℕ)) (waits text : List ℕ) → IsFresh a
    → StopsFor fault progress lines (a.lines + length done + 1) u v a.out.items waits text → Appends v w waits → EndsFor fault progress lines (length done + 1) u w text
end_why fault a progress lines done u v w waits text fresh why written = end_by fault why where
  counted : a.lines + length done + 1 ≡ length done + 1
  counted = let none : a.lines ≡ 0 = fresh.lines in omega arith

  whole : Prints u v a.out.items waits text → Appends u w text
  whole h = subst (λ (x : List ℕ). Appends u w x) (sym (ap (λ (x : List ℕ). x ++ text) (sym fresh.out) ∙ h.2)) (Appends-trans u v w h.0 waits h.1 written)

  end_by : (f : ScriptFault) → StopsFor f progress lines (a.lines + length done + 1) u v a.out.items waits text → EndsFor f progress lines (length done + 1) u w text
  end_by (BadLine n) h = (subst (λ (i : ℕ). IsBadAt n progress lines i) counted h.0, whole h.1)
  end_by Memory h = (h.0, whole h.1)
  end_by Read h = whole h
  end_by Write h = (
    h.0,
    subst (λ (x : List ℕ). Appends u w (take h.0 (x ++ text))) fresh.out
        (subst (λ (x : List ℕ). Appends u w x) (append-nil (take h.0 (a.out.items ++ text)))
        (Appends-trans u v w (take h.0 (a.out.items ++ text)) [] h.1 (subst (λ (x : List ℕ). Appends v w x) h.2 written))),
  )

pub ends : (fault : ScriptFault) (a : Run) (lines : List (List ℕ)) (u v w : Option (List ℕ)) (waits : List ℕ) → IsFresh a → Stops fault a lines u v waits → Appends v w waits → Ends fault lines u w
ends fault a lines u v w waits fresh stops written = let h = stops opening fresh.stands in record {
  done = h.done;
  more = h.more;
  text = h.text;
  progress = h.progress;
  split = h.split;
  plays = h.plays;
  runs = h.runs;
  why = end_why fault a h.progress h.more h.done u v w waits h.text fresh h.why written;
}

take-nil : (n : ℕ) → take {A = ℕ} n [] ≡ []
take-nil zero = refl
take-nil (suc n) = refl

-- what waited can't be written whole
end_cut : (fault : ScriptFault) (a : Run) (progress : Progress) (lines : List (List ℕ)) (number m n : ℕ) (u v w : Option (List ℕ)) (waits text : List ℕ) → IsFresh a
    → StopsFor fault progress lines number u v a.out.items waits text → Appends v w (take n waits) → EndsFor Write progress lines m u w text
end_cut fault a progress lines number m n u v w waits text fresh why written = cut_by fault why where
  first : (k : ℕ) → Appends u w (take k (a.out.items ++ text)) → EndsFor Write progress lines m u w text
  first k h = (k, subst (λ (x : List ℕ). Appends u w (take k (x ++ text))) fresh.out h)

  some : Prints u v a.out.items waits text → EndsFor Write progress lines m u w text
  some h = first (length h.0 + n) (subst (λ (x : List ℕ). Appends u w x) (sym (take-append-add h.0 waits n) ∙ ap (λ (x : List ℕ). take (length h.0 + n) x) (sym h.2)) (Appends-trans u v w h.0 (take n waits) h.1 written))

  cut_by : (f : ScriptFault) → StopsFor f progress lines number u v a.out.items waits text → EndsFor Write progress lines m u w text
  cut_by (BadLine k) h = some h.1
  cut_by Memory h = some h.1
  cut_by Read h = some h
  cut_by Write h = first h.0 (subst (λ (x : List ℕ). Appends u w x) (append-nil (take h.0 (a.out.items ++ text)))
      (Appends-trans u v w (take h.0 (a.out.items ++ text)) [] h.1 (subst (λ (x : List ℕ). Appends v w x) (ap (λ (x : List ℕ). take n x) h.2 ∙ take-nil n) written)))

pub ends_cut : (fault : ScriptFault) (a : Run) (lines : List (List ℕ)) (u v w : Option (List ℕ)) (waits : List ℕ) (n : ℕ) → IsFresh a → Stops fault a lines u v waits → Appends v w (take n waits) → Ends Write lines u w
ends_cut fault a lines u v w waits n fresh stops written = let h = stops opening fresh.stands in record {
  done = h.done;
  more = h.more;
  text = h.text;
  progress = h.progress;
  split = h.split;
  plays = h.plays;
  runs = h.runs;
  why = end_cut fault a h.progress h.more (a.lines + length h.done + 1) (length h.done + 1) n u v w waits h.text fresh h.why written;
}

-- what was played, where what it printed can't be written whole
pub plays_cut : (a b : Run) (lines : List (List ℕ)) (u v w : Option (List ℕ)) (n : ℕ) → IsFresh a → Advances a b lines u v → Appends v w (take n b.out.items) → Ends Write lines u w
plays_cut a b lines u v w n fresh h written = ends Write a lines u w w [] fresh (stop_written Write a b lines u v w [] n refl h written refl) (Appends-nil w)

-- the end of a run, by its outcome
pub run_cut : (outcome : Result (Unit {0}) ScriptFault) (a b : Run) (r : Option (List ℕ)) (u v w : Option (List ℕ)) (n : ℕ) → IsFresh a
    → OnOk outcome (IfSome r (λ input. Advances a b (lines_of input) u v)) → IfErr outcome (λ e. IfSome r (λ input. Stops e a (lines_of input) u v b.out.items))
    → Appends v w (take n b.out.items) → IfSome r (λ input. Ends Write (lines_of input) u w)
run_cut outcome a b None u v w n fresh ok err written = tt
run_cut (Ok x) a b (Some input) u v w n fresh ok err written = plays_cut a b (lines_of input) u v w n fresh ok written
run_cut (Err e) a b (Some input) u v w n fresh ok err written = ends_cut e a (lines_of input) u v w b.out.items n fresh err written

pub run_ends : (outcome : Result (Unit {0}) ScriptFault) (a b : Run) (r : Option (List ℕ)) (u v w : Option (List ℕ)) → IsFresh a
    → IfErr outcome (λ e. IfSome r (λ input. Stops e a (lines_of input) u v b.out.items)) → Appends v w b.out.items → IfErr outcome (λ e. IfSome r (λ input. Ends e (lines_of input) u w))
run_ends (Ok x) a b r u v w fresh err written = tt
run_ends (Err e) a b None u v w fresh err written = tt
run_ends (Err e) a b (Some input) u v w fresh err written = ends e a (lines_of input) u v w b.out.items fresh err written

pub run_performs : (outcome : Result (Unit {0}) ScriptFault) (a b : Run) (r : Option (List ℕ)) (u v w : Option (List ℕ)) → IsFresh a
    → OnOk outcome (IfSome r (λ input. Advances a b (lines_of input) u v)) → Appends v w b.out.items → OnOk outcome (IfSome r (λ input. Performs (lines_of input) u w))
run_performs (Err e) a b r u v w fresh ok written = tt
run_performs (Ok x) a b None u v w fresh ok written = tt
run_performs (Ok x) a b (Some input) u v w fresh ok written = performs a b (lines_of input) u v w fresh ok written

-- a fault that no device caused
pub of_no_writer : (e : ScriptFault) (failed : Bool) → IsOfWriter e false → IsOfWriter e failed
of_no_writer (BadLine n) failed h = tt
of_no_writer Memory failed h = tt
of_no_writer Read failed h = absurd h
of_no_writer Write failed h = absurd (true≢false (sym h))

-- a device that failed stays so
of_devices_kept : (e : ScriptFault) (input : Option (List ℕ)) (reader old new : Bool) → (IsTrue old → IsTrue new) → IsOfDevices e input reader old → IsOfDevices e input reader new
of_devices_kept (BadLine n) input reader old new stays h = tt
of_devices_kept Memory input reader old new stays h = tt
of_devices_kept Read input reader old new stays h = h
of_devices_kept Write input reader old new stays h = stays h

pub run_blames : (outcome : Result (Unit {0}) ScriptFault) (input : Option (List ℕ)) (reader old new : Bool) → (IsTrue old → IsTrue new) → IfErr outcome (λ e. IsOfDevices e input reader old) → IfErr outcome (λ e. IsOfDevices e input reader new)
run_blames (Ok x) input reader old new stays h = tt
run_blames (Err e) input reader old new stays h = of_devices_kept e input reader old new stays h

-- a fault behind a beginning
pub once_begun : (outcome : Result (Unit {0}) ScriptFault) (P Q : ScriptFault → Type 0) → IfErr outcome Q → IfErr outcome (λ e. P e ⊎ Q e)
once_begun (Ok x) P Q h = tt
once_begun (Err e) P Q h = inr h

use Rattle.std.proofs.Common.{◌≡◌, ◌<◌, ◌≤◌, ◌++◌, [], List, ℕ, length, take, refl, sym, ap, subst, ◌∙◌, arith, length-append}
use Rattle.std.specs.Io.KnownBytes.{Consumes, IsAtEnd}
use Rattle.std.proofs.KnownBytes.{Consumes-nil, Consumes-trans}
use Rattle.geo_grammar.specs.Protocol.{items_of}
use Rattle.geo_dialogue.specs.Closings.{StaysOpen}
use Rattle.geo_dialogue.specs.Sessions.{IsDue}
use Rattle.geo_dialogue.specs.declared.end.SessionEnd.TheVariants.{EndOfInput}
use Rattle.geo_dialogue.specs.declared.fault.SessionFault.TheVariants.{Read, Memory, TooManyReads}
use Rattle.geo_dialogue.proofs.Lists.{at_err, front_of, gave_none, not_failed}
use Rattle.geo_dialogue.proofs.Pieces.{Progress, Progress-none, Progress-then, served_none, part_none, all_written, none_stays, due_by, session_ends, session_stops}
use Rattle.geo_dialogue.proofs.serving.serve.Goals as goal

pub returns-in_err-buffer-clause-stopped : goal.returns-in_err-buffer-clause-stopped
returns-in_err-buffer-clause-stopped g c =
    let s = c.args.backend.now in
    let r = g.I.Read.remaining c.args.reader.now.inner in
    let u = g.O.Write.contents c.args.writer.now.inner in
    at_err _ Memory _ c.from_residual.ensures.1
    (session_stops g.B.Backend.answers g.B.Backend.refuses Memory [] [] s s s r r r u u u (Consumes-nil r) (Consumes-nil r) (omega arith) none_stays (Progress-none g.B.Backend.answers s u)
    (part_none g.B.Backend.answers g.B.Backend.refuses Memory [] s u none_stays (refl, (omega arith, refl))))

pub loop-read-init : goal.loop-read-init
loop-read-init g c =
    let r = g.I.Read.remaining c.args.reader.now.inner in
    let u = g.O.Write.contents c.args.writer.now.inner in
    rw c.new-session.ensures (record {
      read = Consumes-nil r;
      so_far = Progress-none g.B.Backend.answers c.args.backend.now u;
      stays = none_stays;
      goes_on = refl;
      paid = refl;
      settled = record { none_waits = refl; none_untold = refl };
      long = omega arith;
      some = omega (arith, c.in_ok-buffer.ensures);
      most = omega (arith, c.in_ok-buffer.ensures);
      reads = λ fresh. fresh;
      writes = λ fresh. fresh;
    })

pub returns-in_default-clause-stopped : goal.returns-in_default-clause-stopped
returns-in_default-clause-stopped g c =
    let inv = c.loop-read.invariant in
    let text = c.loop-read.session.read in
    let a = c.args.backend.now in
    let b = c.loop-read.backend in
    let r = g.I.Read.remaining c.args.reader.now.inner in
    let s = g.I.Read.remaining c.loop-read.reader.inner in
    let t = g.I.Read.remaining c.read.new.self.inner in
    let u = g.O.Write.contents c.args.writer.now.inner in
    let v = g.O.Write.contents c.loop-read.writer.inner in
    session_stops g.B.Backend.answers g.B.Backend.refuses Read text [] a b b r s t u v v inv.read (gave_none s t c.in_default.ensures.bytes) (omega arith) inv.stays inv.so_far
    (part_none g.B.Backend.answers g.B.Backend.refuses Read text b v inv.stays (all_written text b inv.stays))

pub returns-then-count-eq0-clause-ended : goal.returns-then-count-eq0-clause-ended
returns-then-count-eq0-clause-ended g c =
    let inv = c.loop-read.invariant in
    let text = c.loop-read.session.read in
    let a = c.args.backend.now in
    let b = c.loop-read.backend in
    let r = g.I.Read.remaining c.args.reader.now.inner in
    let s = g.I.Read.remaining c.loop-read.reader.inner in
    let t = g.I.Read.remaining c.read.new.self.inner in
    let u = g.O.Write.contents c.args.writer.now.inner in
    let v = g.O.Write.contents c.loop-read.writer.inner in
    let bytes = c.in-Ok.ensures.bytes in
    let none : take c.in-Ok.count c.read.new.buf ≡ [] = ap (λ (n : ℕ). take n c.read.new.buf) c.if-count-eq0.true in
    let room : 0 < length c.read.new.buf = omega (arith, c.as_mut_slice.ensures.len, c.read.auto.buf, inv.some) in
    let end : IsAtEnd t = bytes.1 c.if-count-eq0.true room in
    session_ends g.B.Backend.answers EndOfInput text [] a b b r s t u v v inv.read (subst (λ (x : List ℕ). Consumes s t x) none bytes.0) (omega arith) inv.stays inv.so_far (served_none g.B.Backend.answers text b v inv.stays)
    ((all_written text b inv.stays).stays_open, end)

pub returns-in_err-taken-clause-stopped : goal.returns-in_err-taken-clause-stopped
returns-in_err-taken-clause-stopped g c =
    let inv = c.loop-read.invariant in
    let text = c.loop-read.session.read in
    let a = c.args.backend.now in
    let b = c.loop-read.backend in
    let r = g.I.Read.remaining c.args.reader.now.inner in
    let s = g.I.Read.remaining c.loop-read.reader.inner in
    let t = g.I.Read.remaining c.read.new.self.inner in
    let u = g.O.Write.contents c.args.writer.now.inner in
    let v = g.O.Write.contents c.loop-read.writer.inner in
    let w = g.O.Write.contents c.serve_piece.new.writer.inner in
    let piece = c.split_at.result.0.now in
    let given : Consumes s t piece = subst (λ (x : List ℕ). Consumes s t x) (sym (c.split_at.ensures.front ∙ ap (λ (x : List ℕ). take c.in-Ok.count x) c.deref.ensures.value ∙ front_of c.in-Ok.count c.loop-read.buffer.len c.read.new.buf _ c.in-Ok.ensures.bound.0 (omega (arith, c.as_mut_slice.ensures.len, c.read.auto.buf)))) c.in-Ok.ensures.bytes.0 in
    let short : length piece ≤ 262144 = omega (arith, c.split_at.ensures.front_len, c.in-Ok.ensures.bound.0, c.as_mut_slice.ensures.len, c.read.auto.buf, inv.most) in
    let fault = c.in_err-taken.field-0.0 in
    at_err _ fault _ c.from_residual-in_err-taken.ensures.1
    (session_stops g.B.Backend.answers g.B.Backend.refuses fault text piece a b c.serve_piece.new.backend r s t u v w inv.read given short inv.stays inv.so_far c.in_err-taken.ensures.err)

pub returns-in-Some-clause-ended : goal.returns-in-Some-clause-ended
returns-in-Some-clause-ended g c =
    let inv = c.loop-read.invariant in
    let text = c.loop-read.session.read in
    let a = c.args.backend.now in
    let b = c.loop-read.backend in
    let r = g.I.Read.remaining c.args.reader.now.inner in
    let s = g.I.Read.remaining c.loop-read.reader.inner in
    let t = g.I.Read.remaining c.read.new.self.inner in
    let u = g.O.Write.contents c.args.writer.now.inner in
    let v = g.O.Write.contents c.loop-read.writer.inner in
    let w = g.O.Write.contents c.serve_piece.new.writer.inner in
    let piece = c.split_at.result.0.now in
    let given : Consumes s t piece = subst (λ (x : List ℕ). Consumes s t x) (sym (c.split_at.ensures.front ∙ ap (λ (x : List ℕ). take c.in-Ok.count x) c.deref.ensures.value ∙ front_of c.in-Ok.count c.loop-read.buffer.len c.read.new.buf _ c.in-Ok.ensures.bound.0 (omega (arith, c.as_mut_slice.ensures.len, c.read.auto.buf)))) c.in-Ok.ensures.bytes.0 in
    let short : length piece ≤ 262144 = omega (arith, c.split_at.ensures.front_len, c.in-Ok.ensures.bound.0, c.as_mut_slice.ensures.len, c.read.auto.buf, inv.most) in
    let read = c.in_ok-taken.ensures.read in
    let end = c.in-Some.end in
    let ends = rw c.in-Some.is at c.in_ok-taken.ensures.end in
    session_ends g.B.Backend.answers end text piece a b c.serve_piece.new.backend r s t u v w inv.read given short inv.stays inv.so_far c.in_ok-taken.ensures.ok
    (subst (λ (x : List ℕ). IsDue end (items_of x) t) read (due_by end (items_of c.serve_piece.new.session.read) t ends))

pub loop-read-preserved : goal.loop-read-preserved
loop-read-preserved g c =
    let inv = c.loop-read.invariant in
    let text = c.loop-read.session.read in
    let a = c.args.backend.now in
    let b = c.loop-read.backend in
    let r = g.I.Read.remaining c.args.reader.now.inner in
    let s = g.I.Read.remaining c.loop-read.reader.inner in
    let t = g.I.Read.remaining c.read.new.self.inner in
    let u = g.O.Write.contents c.args.writer.now.inner in
    let v = g.O.Write.contents c.loop-read.writer.inner in
    let w = g.O.Write.contents c.serve_piece.new.writer.inner in
    let piece = c.split_at.result.0.now in
    let given : Consumes s t piece = subst (λ (x : List ℕ). Consumes s t x) (sym (c.split_at.ensures.front ∙ ap (λ (x : List ℕ). take c.in-Ok.count x) c.deref.ensures.value ∙ front_of c.in-Ok.count c.loop-read.buffer.len c.read.new.buf _ c.in-Ok.ensures.bound.0 (omega (arith, c.as_mut_slice.ensures.len, c.read.auto.buf)))) c.in-Ok.ensures.bytes.0 in
    let short : length piece ≤ 262144 = omega (arith, c.split_at.ensures.front_len, c.in-Ok.ensures.bound.0, c.as_mut_slice.ensures.len, c.read.auto.buf, inv.most) in
    let read = c.in_ok-taken.ensures.read in
    let stays = rw c.in-None.is at c.in_ok-taken.ensures.end in
    let stays_there : StaysOpen (items_of (text ++ piece)) = subst (λ (x : List ℕ). StaysOpen (items_of x)) read stays in
    record {
      read = subst (λ (x : List ℕ). Consumes r t x) (sym read) (Consumes-trans r s t text piece inv.read given);
      so_far = subst (λ (x : List ℕ). Progress g.B.Backend.answers x a c.serve_piece.new.backend u w) (sym read) (Progress-then g.B.Backend.answers text piece a b c.serve_piece.new.backend u v w inv.so_far c.in_ok-taken.ensures.ok stays_there);
      stays = stays;
      goes_on = rw c.in-None.is at c.in_ok-taken.ensures.goes_on;
      paid = c.in_ok-taken.ensures.paid;
      settled = c.in_ok-taken.ensures.settled;
      long = omega (arith, inv.long, c.if-count-eq0.false, c.split_at.ensures.front_len, length-append text piece, ap (λ (x : List ℕ). length x) read);
      some = c.next_buffer-buffer.ensures.some;
      most = c.next_buffer-buffer.ensures.most;
      reads = λ _. not_failed c.read.new.self.failed c.in-Ok.ensures.failed.1;
      writes = λ fresh. c.in_ok-taken.ensures.blames (inv.writes fresh);
    }

pub returns-clause-stopped : goal.returns-clause-stopped
returns-clause-stopped g c =
    let inv = c.loop-read.invariant in
    let text = c.loop-read.session.read in
    let a = c.args.backend.now in
    let b = c.loop-read.backend in
    let r = g.I.Read.remaining c.args.reader.now.inner in
    let s = g.I.Read.remaining c.loop-read.reader.inner in
    let u = g.O.Write.contents c.args.writer.now.inner in
    let v = g.O.Write.contents c.loop-read.writer.inner in
    let long = inv.long in
    session_stops g.B.Backend.answers g.B.Backend.refuses TooManyReads text [] a b b r s s u v v inv.read (Consumes-nil s) (omega arith) inv.stays inv.so_far
    (part_none g.B.Backend.answers g.B.Backend.refuses TooManyReads text b v inv.stays (omega (arith, length-append text []), all_written text b inv.stays))

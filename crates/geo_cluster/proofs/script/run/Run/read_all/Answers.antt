use Rattle.std.proofs.Common.{rules, arith, refl, ◌^◌, ◌≡◌, ◌<◌, ◌++◌, [], List, ℕ, length, take, inr, sym, ap, subst, ◌∙◌, length-append, IfSome}
use Rattle.std.specs.Io.KnownBytes.{Consumes, IsAtEnd}
use Rattle.geo_cluster.specs.Lines.{ended_in, left_in, lines_of}
use Rattle.geo_cluster.specs.Runs.{Advances, Stops}
use Rattle.geo_cluster.specs.declared.script.fault.ScriptFault.TheVariants.{Memory, Read}
use Rattle.geo_cluster.specs.declared.script.run.Run.{Run}
use Rattle.geo_cluster.proofs.Playing.{at_err, stop_now, stop_written, advance_written, advance_roomy}
use Rattle.geo_cluster.proofs.Reading.{stops_in_all, read_on, read_none, piece_advances, piece_stops, piece_left, last_advances, last_stops, none_advances, reads_long, front_of, stops_long}
use Rattle.geo_cluster.proofs.script.run.Run.read_all.Goals as goal

pub returns-in_default-clause-err : goal.returns-in_default-clause-err
returns-in_default-clause-err g c =
    let a = c.args.self.now in
    let inv = c.loop-read.invariant in
    let u = g.W.Write.contents c.args.writer.now.inner in
    let v = g.W.Write.contents c.loop-read.writer.inner in
    let r = g.R.Read.remaining c.args.reader.now.inner in
    let s = g.R.Read.remaining c.loop-read.reader.inner in
    stops_in_all Read a inv.input u v r s c.loop-read.self.out.items inv.read (stop_now a c.loop-read.self (ended_in [] inv.input) u v inv.advances)

pub returns-in_err-end_line-clause-err : goal.returns-in_err-end_line-clause-err
returns-in_err-end_line-clause-err g c =
    let a = c.args.self.now in
    let b = c.loop-read.self in
    let inv = c.loop-read.invariant in
    let u = g.W.Write.contents c.args.writer.now.inner in
    let v = g.W.Write.contents c.loop-read.writer.inner in
    let r = g.R.Read.remaining c.args.reader.now.inner in
    let s = g.R.Read.remaining c.loop-read.reader.inner in
    let t = g.R.Read.remaining c.read.new.self.inner in
    let bytes = c.in-Ok.ensures.bytes in
    let none : take c.in-Ok.count c.read.new.buf ≡ [] = ap (λ (n : ℕ). take n c.read.new.buf) c.if-count-eq0.true in
    let room : 0 < length c.read.new.buf = omega (arith, c.as_mut_slice.ensures.len, c.read.auto.buf, inv.room) in
    let read : Consumes r t inv.input = read_none r s t inv.input (take c.in-Ok.count c.read.new.buf) none inv.read bytes.0 in
    let end : IsAtEnd t = bytes.1 c.if-count-eq0.true room in
    let fault = c.in_err-end_line.field-0.0 in
    let w = g.W.Write.contents c.end_line.new.writer.inner in
    let some : 0 < length b.unfinished.items = search rules in
    at_err _ fault _ c.from_residual.ensures.1
    (last_stops fault a b inv.input u v w r t c.end_line.new.self.out.items inv.left some read end inv.advances c.in_err-end_line.ensures.err)

pub returns-in_ok-end_line-clause-ok : goal.returns-in_ok-end_line-clause-ok
returns-in_ok-end_line-clause-ok g c =
    let a = c.args.self.now in
    let b = c.loop-read.self in
    let inv = c.loop-read.invariant in
    let u = g.W.Write.contents c.args.writer.now.inner in
    let v = g.W.Write.contents c.loop-read.writer.inner in
    let r = g.R.Read.remaining c.args.reader.now.inner in
    let s = g.R.Read.remaining c.loop-read.reader.inner in
    let t = g.R.Read.remaining c.read.new.self.inner in
    let bytes = c.in-Ok.ensures.bytes in
    let none : take c.in-Ok.count c.read.new.buf ≡ [] = ap (λ (n : ℕ). take n c.read.new.buf) c.if-count-eq0.true in
    let room : 0 < length c.read.new.buf = omega (arith, c.as_mut_slice.ensures.len, c.read.auto.buf, inv.room) in
    let read : Consumes r t inv.input = read_none r s t inv.input (take c.in-Ok.count c.read.new.buf) none inv.read bytes.0 in
    let end : IsAtEnd t = bytes.1 c.if-count-eq0.true room in
    let some : 0 < length b.unfinished.items = search rules in
    last_advances a b c.end_line.new.self inv.input u v (g.W.Write.contents c.end_line.new.writer.inner) r t inv.left some read end inv.advances c.in_ok-end_line.ensures.ok

pub returns-else-not-is_empty-clause-ok : goal.returns-else-not-is_empty-clause-ok
returns-else-not-is_empty-clause-ok g c =
    let a = c.args.self.now in
    let b = c.loop-read.self in
    let inv = c.loop-read.invariant in
    let u = g.W.Write.contents c.args.writer.now.inner in
    let v = g.W.Write.contents c.loop-read.writer.inner in
    let r = g.R.Read.remaining c.args.reader.now.inner in
    let s = g.R.Read.remaining c.loop-read.reader.inner in
    let t = g.R.Read.remaining c.read.new.self.inner in
    let bytes = c.in-Ok.ensures.bytes in
    let none : take c.in-Ok.count c.read.new.buf ≡ [] = ap (λ (n : ℕ). take n c.read.new.buf) c.if-count-eq0.true in
    let room : 0 < length c.read.new.buf = omega (arith, c.as_mut_slice.ensures.len, c.read.auto.buf, inv.room) in
    let read : Consumes r t inv.input = read_none r s t inv.input (take c.in-Ok.count c.read.new.buf) none inv.read bytes.0 in
    let end : IsAtEnd t = bytes.1 c.if-count-eq0.true room in
    let lacks : length b.unfinished.items ≡ 0 = search rules in
    none_advances a b inv.input u v r t inv.left lacks read end inv.advances

pub returns-in_err-take_piece-clause-err : goal.returns-in_err-take_piece-clause-err
returns-in_err-take_piece-clause-err g c =
    let a = c.args.self.now in
    let b = c.loop-read.self in
    let inv = c.loop-read.invariant in
    let u = g.W.Write.contents c.args.writer.now.inner in
    let v = g.W.Write.contents c.loop-read.writer.inner in
    let r = g.R.Read.remaining c.args.reader.now.inner in
    let s = g.R.Read.remaining c.loop-read.reader.inner in
    let t = g.R.Read.remaining c.read.new.self.inner in
    let piece = c.split_at.result.0.now in
    let d = c.take_piece.new.self in
    let v' = g.W.Write.contents c.take_piece.new.writer.inner in
    let given : Consumes s t piece = subst (λ (x : List ℕ). Consumes s t x) (sym (c.split_at.ensures.front ∙ ap (λ (x : List ℕ). take c.in-Ok.count x) c.deref.ensures.value ∙ front_of c.in-Ok.count c.loop-read.buffer.len c.read.new.buf _ c.in-Ok.ensures.bound.0 (omega (arith, c.as_mut_slice.ensures.len, c.read.auto.buf)))) c.in-Ok.ensures.bytes.0 in
    let read : Consumes r t (inv.input ++ piece) = read_on r s t inv.input piece inv.read given in
    let fault = c.in_err-take_piece.field-0.0 in
    at_err _ fault _ c.from_residual-in_err-take_piece.ensures.1
    (stops_in_all fault a (inv.input ++ piece) u v' r t d.out.items read
    (piece_stops fault a b inv.input piece u v v' d.out.items inv.left inv.advances c.in_err-take_piece.ensures.err))

pub returns-in_err-flush-clause-err : goal.returns-in_err-flush-clause-err
returns-in_err-flush-clause-err g c =
    let a = c.args.self.now in
    let b = c.loop-read.self in
    let inv = c.loop-read.invariant in
    let u = g.W.Write.contents c.args.writer.now.inner in
    let v = g.W.Write.contents c.loop-read.writer.inner in
    let r = g.R.Read.remaining c.args.reader.now.inner in
    let s = g.R.Read.remaining c.loop-read.reader.inner in
    let t = g.R.Read.remaining c.read.new.self.inner in
    let piece = c.split_at.result.0.now in
    let d = c.take_piece.new.self in
    let v' = g.W.Write.contents c.take_piece.new.writer.inner in
    let given : Consumes s t piece = subst (λ (x : List ℕ). Consumes s t x) (sym (c.split_at.ensures.front ∙ ap (λ (x : List ℕ). take c.in-Ok.count x) c.deref.ensures.value ∙ front_of c.in-Ok.count c.loop-read.buffer.len c.read.new.buf _ c.in-Ok.ensures.bound.0 (omega (arith, c.as_mut_slice.ensures.len, c.read.auto.buf)))) c.in-Ok.ensures.bytes.0 in
    let read : Consumes r t (inv.input ++ piece) = read_on r s t inv.input piece inv.read given in
    let fault = c.in_err-flush.field-0.0 in
    let err = c.in_err-flush.ensures.err in
    let w = g.W.Write.contents c.flush.new.writer.inner in
    let waits = c.flush.new.self.out.items in
    let advances : Advances a d (ended_in [] (inv.input ++ piece)) u v' = piece_advances a b d inv.input piece u v v' inv.left inv.advances c.in_ok-take_piece.ensures.ok in
    at_err _ fault _ c.from_residual-in_err-flush.ensures.1
    (stops_in_all fault a (inv.input ++ piece) u w r t waits read
    (stop_written fault a d (ended_in [] (inv.input ++ piece)) u v' w waits err.1.0 err.0 advances err.1.1 c.in_err-flush.ensures.empty))

pub loop-read-preserved : goal.loop-read-preserved
loop-read-preserved g c =
    let a = c.args.self.now in
    let b = c.loop-read.self in
    let inv = c.loop-read.invariant in
    let u = g.W.Write.contents c.args.writer.now.inner in
    let v = g.W.Write.contents c.loop-read.writer.inner in
    let r = g.R.Read.remaining c.args.reader.now.inner in
    let s = g.R.Read.remaining c.loop-read.reader.inner in
    let t = g.R.Read.remaining c.read.new.self.inner in
    let piece = c.split_at.result.0.now in
    let d = c.take_piece.new.self in
    let v' = g.W.Write.contents c.take_piece.new.writer.inner in
    let given : Consumes s t piece = subst (λ (x : List ℕ). Consumes s t x) (sym (c.split_at.ensures.front ∙ ap (λ (x : List ℕ). take c.in-Ok.count x) c.deref.ensures.value ∙ front_of c.in-Ok.count c.loop-read.buffer.len c.read.new.buf _ c.in-Ok.ensures.bound.0 (omega (arith, c.as_mut_slice.ensures.len, c.read.auto.buf)))) c.in-Ok.ensures.bytes.0 in
    let read : Consumes r t (inv.input ++ piece) = read_on r s t inv.input piece inv.read given in
    let e = c.flush.new.self in
    let w = g.W.Write.contents c.flush.new.writer.inner in
    let rest = c.in_ok-flush.ensures.rest in
    let f = c.make_room.new.self in
    let roomy = c.in_ok-make_room.ensures.rest in
    let lines : f.lines ≡ d.lines = ap (λ (x : Run). x.lines) roomy ∙ ap (λ (x : Run). x.lines) rest in
    let advances : Advances a d (ended_in [] (inv.input ++ piece)) u v' = piece_advances a b d inv.input piece u v v' inv.left inv.advances c.in_ok-take_piece.ensures.ok in
    record {
      input = inv.input ++ piece;
      read = read;
      left = c.in_ok-make_room.ensures.same ∙ ap (λ (x : Run). x.unfinished.items) rest ∙ piece_left b inv.input piece d.unfinished.items inv.left c.in_ok-take_piece.ensures.left;
      advances = advance_roomy a e f (ended_in [] (inv.input ++ piece)) u w (advance_written a d e (ended_in [] (inv.input ++ piece)) u v' w advances c.in_ok-flush.ensures.ok c.in_ok-flush.ensures.empty rest) roomy;
      few = omega (arith, lines, inv.few, c.in_ok-take_piece.ensures.few, c.split_at.ensures.front_len, c.in-Ok.ensures.bound.0, c.as_mut_slice.ensures.len, c.read.auto.buf, inv.room);
      long = omega (arith, inv.long, c.if-count-eq0.false, c.split_at.ensures.front_len, length-append inv.input piece);
      room = inv.room;
      spare = c.in_ok-make_room.ensures.ok;
      wide = c.in_ok-make_room.ensures.room;
      written = ap (λ (x : Run). x.out.items) roomy ∙ c.in_ok-flush.ensures.empty;
      reads = λ was. search rules;
    }

pub returns-clause-err : goal.returns-clause-err
returns-clause-err g c =
    let a = c.args.self.now in
    let inv = c.loop-read.invariant in
    let u = g.W.Write.contents c.args.writer.now.inner in
    let v = g.W.Write.contents c.loop-read.writer.inner in
    let r = g.R.Read.remaining c.args.reader.now.inner in
    let s = g.R.Read.remaining c.loop-read.reader.inner in
    stops_in_all Read a inv.input u v r s c.loop-read.self.out.items inv.read (stop_now a c.loop-read.self (ended_in [] inv.input) u v inv.advances)

pub returns-clause-failed : goal.returns-clause-failed
returns-clause-failed g c =
    let inv = c.loop-read.invariant in
    inr (reads_long (g.R.Read.remaining c.args.reader.now.inner) (g.R.Read.remaining c.loop-read.reader.inner) inv.input (2 ^ 48) inv.read (omega (arith, inv.long)))

pub returns-in_err-make_room-clause-err : goal.returns-in_err-make_room-clause-err
returns-in_err-make_room-clause-err g c =
    let a = c.args.self.now in
    let b = c.loop-read.self in
    let inv = c.loop-read.invariant in
    let u = g.W.Write.contents c.args.writer.now.inner in
    let v = g.W.Write.contents c.loop-read.writer.inner in
    let r = g.R.Read.remaining c.args.reader.now.inner in
    let s = g.R.Read.remaining c.loop-read.reader.inner in
    let t = g.R.Read.remaining c.read.new.self.inner in
    let piece = c.split_at.result.0.now in
    let d = c.take_piece.new.self in
    let v' = g.W.Write.contents c.take_piece.new.writer.inner in
    let given : Consumes s t piece = subst (λ (x : List ℕ). Consumes s t x) (sym (c.split_at.ensures.front ∙ ap (λ (x : List ℕ). take c.in-Ok.count x) c.deref.ensures.value ∙ front_of c.in-Ok.count c.loop-read.buffer.len c.read.new.buf _ c.in-Ok.ensures.bound.0 (omega (arith, c.as_mut_slice.ensures.len, c.read.auto.buf)))) c.in-Ok.ensures.bytes.0 in
    let read : Consumes r t (inv.input ++ piece) = read_on r s t inv.input piece inv.read given in
    let e = c.flush.new.self in
    let f = c.make_room.new.self in
    let w = g.W.Write.contents c.flush.new.writer.inner in
    let rest = c.in_ok-flush.ensures.rest in
    let advances : Advances a d (ended_in [] (inv.input ++ piece)) u v' = piece_advances a b d inv.input piece u v v' inv.left inv.advances c.in_ok-take_piece.ensures.ok in
    let flushed : Advances a e (ended_in [] (inv.input ++ piece)) u w = advance_written a d e (ended_in [] (inv.input ++ piece)) u v' w advances c.in_ok-flush.ensures.ok c.in_ok-flush.ensures.empty rest in
    let err = c.in_err-make_room.ensures.err in
    let left : e.unfinished.items ≡ left_in [] (inv.input ++ piece) = ap (λ (x : Run). x.unfinished.items) rest ∙ piece_left b inv.input piece d.unfinished.items inv.left c.in_ok-take_piece.ensures.left in
    at_err _ c.in_err-make_room.field-0.0 _ c.from_residual-in_err-make_room.ensures.1
    (subst (λ fault. IfSome r (λ input. Stops fault a (lines_of input) u w f.out.items)) (sym err.0)
    (stops_long a f (inv.input ++ piece) e.unfinished.items u w r t read (advance_roomy a e f (ended_in [] (inv.input ++ piece)) u w flushed c.in_err-make_room.ensures.rest) left err.1))

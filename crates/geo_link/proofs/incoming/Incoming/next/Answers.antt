use Rattle.std.proofs.Common.{◌≤◌, List, ℕ, take, drop, length, sym, ap, subst, ◌∙◌}
use Rattle.geo_frame.specs.Reading.{Fails, frame_in}
use Rattle.geo_frame.specs.Payloads.{payload_of}
use Rattle.geo_frame.specs.Spelling.{IsFrameOf, longest_frame}
use Rattle.geo_link.specs.Streams.{Incoming, StopsNext}
use Rattle.geo_link.specs.declared.fault.LinkError.{LinkError}
use Rattle.geo_link.proofs.Coming.{whole_taken, whole_answers}
use Rattle.geo_link.proofs.incoming.Incoming.next.Goals as goal

pub returns-in-Ok-clause-ok : goal.returns-in-Ok-clause-ok
returns-in-Ok-clause-ok g c =
    let size = c.in_ok-size.size in
    let waits = ap (λ (v : Incoming). v.waiting) c.self.view_is in
    let front = c.split_at.ensures.front ∙ ap (λ (x : List ℕ). take size x) (c.as_slice.ensures ∙ waits) in
    whole_taken c.args.self.now c.collect.new.self _ _ size (payload_of c.in-Ok.message) c.collect.ensures.reads (c.advance.ensures.items ∙ ap (λ (x : List ℕ). drop size x) waits) (ap (λ (v : Incoming). v.unread) c.self.view_is) c.in-Ok.ensures.found.0
    (subst (λ (x : List ℕ). IsFrameOf x (payload_of c.in-Ok.message)) front c.in-Ok.ensures.found.1) (subst (λ (x : List ℕ). length x ≤ longest_frame) front c.in-Ok.ensures.found.2)

pub returns-in-Err-clause-err : goal.returns-in-Err-clause-err
returns-in-Err-clause-err g c =
    let size = c.in_ok-size.size in
    let v = c.collect.new.self in
    let front = c.split_at.ensures.front ∙ ap (λ (x : List ℕ). take size x) (c.as_slice.ensures ∙ ap (λ (v : Incoming). v.waiting) c.self.view_is) in
    subst (λ (e : LinkError). StopsNext c.args.self.now e v) (sym c.of.ensures)
    (whole_answers c.args.self.now v size c.in-Err.fault c.in_ok-size.ensures.size c.in_ok-size.ensures.whole (subst (λ (x : List ℕ). Fails c.in-Err.fault (frame_in x)) front c.in-Err.ensures.exact) c.in_ok-size.ensures.works)

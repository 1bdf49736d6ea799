use Rattle.std.proofs.Common.{◌≡◌, ◌+◌, ◌<◌, ◌≤◌, List, ℕ, [], ap, length, arith, length-append}
use Rattle.std.specs.Option.{unwrap_or}
use Rattle.geo_dialogue.proofs.pending.Pending.tell_on.Goals as goal

pub loop-self-smaller : goal.loop-self-smaller
loop-self-smaller c =
    let told = rw c.if-not-branch.false at c.in_ok-tell.ensures.told in
    let lengths = ap (λ (x : List ℕ). length x) told in
    let after = length-append c.tell.new.out.items c.tell.new.self in
    let before = length-append c.loop-self.self.answers.text.items c.in-Some.telling in
    let left = ap (λ t. length (unwrap_or t [])) c.in-Some.is in
    omega (arith, lengths, after, before, c.in_ok-tell.ensures.grows, left)

use Rattle.std.proofs.Common.{ℕ, List, ◌≡◌, ◌++◌, ◌+◌, arith, ap, sym, ◌∙◌, append_assoc, take}
use Rattle.std.specs.List.{flat_map}
use Rattle.std.proofs.lemmas.List.{take_all}
use Rattle.geo_stamp.specs.Vectors.{entry_of}
use Rattle.geo_frame.specs.Spelling.{eight, vector_bytes}
use Rattle.geo_frame.proofs.Loops.{entry_more}
use Rattle.geo_frame.proofs.push.push_vector.Goals as goal

pub loop-before-preserved : goal.loop-before-preserved
loop-before-preserved c =
    let v = c.args.vector.now in
    let i = c.loop-before.before in
    let out = c.args.out.now.items in
    let last : List ℕ = eight (entry_of v (i + 1)) in
    let a : c.push_u64.new.out.items ≡ c.loop-before.out.items ++ last = c.in_ok-push_u64.ensures ∙ ap (λ (x : ℕ). c.loop-before.out.items ++ eight x) c.entry.ensures.entry in
    a ∙ ap (λ (x : List ℕ). x ++ last) c.loop-before.invariant ∙ append_assoc out (flat_map eight (take i v)) last
    ∙ ap (λ (x : List ℕ). out ++ x) (sym (entry_more v i (omega (arith, c.loop-before-test.true, c.sites-before-end.ensures.sites))))

pub returns : goal.returns
unfolding vector_bytes
returns c = c.loop-before.invariant ∙ ap (λ (v : List ℕ). c.args.out.now.items ++ flat_map eight v) (take_all c.loop-before.before c.args.vector.now (omega (arith, c.loop-before-test.false, c.sites-before-end.ensures.sites)))

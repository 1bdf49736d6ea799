use Rattle.std.proofs.Common.{◌∙◌, List, ℕ, ◌++◌, ap}
use Rattle.geo_frame.specs.Payloads.{payload_of}
use Rattle.geo_frame.specs.Spelling.{head_bytes}
use Rattle.geo_frame.proofs.Lengths.{written_is}
use Rattle.geo_frame.proofs.writing.written.Goals as goal

pub returns : goal.returns
returns c =
    written_is (payload_of c.args.message.now) c.args.size c.push_head.new.out.items c.push_fields.new.out.items c.push_digest.new.out.items c.requires.size
    (c.in_ok-push_head.ensures ∙ ap (λ (x : List ℕ). x ++ head_bytes 2 c.args.size) c.in_ok-out.ensures.items)
    c.in_ok-push_fields.ensures c.in_ok-push_digest.ensures

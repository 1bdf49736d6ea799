use Rattle.std.proofs.Common.{◌≡◌, ◌∙◌, ◌+◌, ◌*◌, length, ◌++◌, ap, arith, length-append}
use Rattle.geo_chunks.specs.Chunking.{Chunked, joined}
use Rattle.geo_chunks.proofs.Places.{joined_length}
use Rattle.geo_chunks.proofs.chunks.Chunks.len.Goals as goal

pub returns : goal.returns
returns g c =
    let full = joined_length c.self.inside.full.items c.self.invariant.even in
    let all = length-append (joined c.self.inside.full.items) c.self.inside.last.items in
    let sum : c.len.result * 256 + c.len-2.result ≡ length (joined c.self.inside.full.items ++ c.self.inside.last.items) = omega (arith, full, all, c.len.ensures, c.len-2.ensures) in
    sum ∙ ap (λ (m : Chunked g.row.T.Denot). length m.items) c.self.view_is

use Rattle.std.proofs.Common.{◌∙◌, sym, IsSome}
use Rattle.geo_slabs.specs.Storage.{held_in}
use Rattle.geo_slabs.proofs.Kept.{free_keeps, held_apart}
use Rattle.geo_base_checks.proofs.held.slabs.reuses.Goals as goal

pub bytes-requires-2 : goal.bytes-requires-2
bytes-requires-2 c =
    let empty = c.in_ok-empty.ensures.holds in
    let freed = c.put-3.ensures.keeps c.in_ok-freed.freed _ c.in_ok-freed.ensures.holds in
    let apart = held_apart c.put.new.slabs c.in_ok-empty.empty c.in_ok-freed.freed _ empty c.in_ok-freed.ensures.fresh in
    let before = c.put-3.ensures.keeps c.in_ok-empty.empty _ (c.put-2.ensures.keeps c.in_ok-empty.empty _ empty) in
    let held : IsSome (held_in c.put-3.new.slabs c.in_ok-freed.freed) = rw freed in
    let after = free_keeps c.put-3.new.slabs c.free.new.self c.in_ok-freed.freed c.free.ensures.freed held c.in_ok-empty.empty apart ∙ before in
    rw (c.put-4.ensures.keeps c.in_ok-empty.empty _ after)

pub bytes-requires-3 : goal.bytes-requires-3
bytes-requires-3 c =
    let short = c.in_ok-short.ensures.holds in
    let freed = c.put-3.ensures.keeps c.in_ok-freed.freed _ c.in_ok-freed.ensures.holds in
    let apart = held_apart c.put-2.new.slabs c.in_ok-freed.freed c.in_ok-short.short _ c.in_ok-freed.ensures.holds c.in_ok-short.ensures.fresh in
    let held : IsSome (held_in c.put-3.new.slabs c.in_ok-freed.freed) = rw freed in
    let after = free_keeps c.put-3.new.slabs c.free.new.self c.in_ok-freed.freed c.free.ensures.freed held c.in_ok-short.short (λ e. apart (sym e)) ∙ short in
    rw (c.put-4.ensures.keeps c.in_ok-short.short _ after)

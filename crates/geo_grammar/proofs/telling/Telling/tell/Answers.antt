use Rattle.std.proofs.Common.{◌+◌, ◌++◌, length, ltb, get_or, drop, Some, ap, ◌∙◌}
use Rattle.geo_grammar.proofs.Told.{first_left, part_told, part_begun, some_left}
use Rattle.geo_grammar.proofs.telling.Telling.tell.Goals as goal

pub returns-in-Ok-Some-clause-told : goal.returns-in-Ok-Some-clause-told
returns-in-Ok-Some-clause-told c =
    let values = c.self.inside.values in
    let told = c.self.inside.told in
    let found = c.in-Some.found.now in
    let first = first_left values told found (c.in-Some.ensures.lookup.0 ∙ ap (λ l. ltb told (length l)) c.as_slice.ensures) (c.in-Some.ensures.lookup.1 ∙ ap (λ l. get_or l told found) c.as_slice.ensures) in
    part_told (drop told values) (drop (told + 1) values) found c.self.inside.part c.args.out.now.items c.tell_value.new.out.items first c.in-Ok-Some.told (rw c.in-Ok-Some.field-0-is at c.in-Ok-Some.ensures.text) ∙ ap (λ x. c.args.out.now.items ++ x) c.self.view_is

pub returns-in-Ok-Some-clause-more : goal.returns-in-Ok-Some-clause-more
returns-in-Ok-Some-clause-more c = λ _.
    let values = c.self.inside.values in
    let told = c.self.inside.told in
    let found = c.in-Some.found.now in
    let first = first_left values told found (c.in-Some.ensures.lookup.0 ∙ ap (λ l. ltb told (length l)) c.as_slice.ensures) (c.in-Some.ensures.lookup.1 ∙ ap (λ l. get_or l told found) c.as_slice.ensures) in
    some_left (drop told values) (Some c.in-Ok-Some.told) (part_begun (drop told values) (drop (told + 1) values) found c.self.inside.part c.args.out.now.items c.tell_value.new.out.items first c.in-Ok-Some.told (rw c.in-Ok-Some.field-0-is at c.in-Ok-Some.ensures.within))

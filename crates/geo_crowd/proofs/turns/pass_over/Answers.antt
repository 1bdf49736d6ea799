use Rattle.std.proofs.Common.{◌≡◌, length, vec_capacity, List, ℕ, ap, drop, subst, sym, ◌∙◌}
use Rattle.geo_crowd.specs.Crowds.{BeginAll, GoOnAll, carried_in}
use Rattle.geo_crowd.proofs.Listed.{flags_then, listed_kept, room_kept}
use Rattle.geo_crowd.proofs.turns.pass_over.Goals as goal

pub end_all-requires-clause-lists : goal.end_all-requires-clause-lists
end_all-requires-clause-lists g c = listed_kept c.args.roster.now.members c.go_on_all.new.roster.members c.args.listed.now.items (flags_then c.args.roster.now.members c.begin_all.new.roster.members c.go_on_all.new.roster.members c.begin_all.ensures.flags c.go_on_all.ensures.flags) c.requires.lists

pub end_all-requires-clause-room : goal.end_all-requires-clause-room
end_all-requires-clause-room g c = room_kept c.args.roster.now.members c.go_on_all.new.roster.members (length c.args.listed.now.items) (vec_capacity c.args.listed.now) (flags_then c.args.roster.now.members c.begin_all.new.roster.members c.go_on_all.new.roster.members c.begin_all.ensures.flags c.go_on_all.ensures.flags) c.requires.room

pub returns-clause-passes : goal.returns-clause-passes
returns-clause-passes g c =
    let old = carried_in c.args.roster.now.members in
    let mid = carried_in c.begin_all.new.roster.members in
    let far = carried_in c.go_on_all.new.roster.members in
    let behind : c.split_at.result.1.now ≡ drop c.args.from c.args.listed.now.items = c.split_at.ensures.back ∙ ap (λ (l : List ℕ). drop c.args.from l) c.as_slice.ensures.value in
    record {
      mid = mid;
      far = far;
      begin = subst (λ (l : List ℕ). BeginAll l old mid) behind c.begin_all.ensures.begins;
      goes = subst (λ b. GoOnAll g.B.Backend.answers g.B.Backend.refuses (drop c.args.from c.args.listed.now.items) mid far c.args.backend.now b) (sym c.rest.ensures)
          (subst (λ (l : List ℕ). GoOnAll g.B.Backend.answers g.B.Backend.refuses l mid far c.args.backend.now c.go_on_all.new.backend) behind c.go_on_all.ensures.goes);
      ends = c.end_all.ensures.ends;
    }

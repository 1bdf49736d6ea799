use Rattle.std.proofs.Common.{◌≡◌, ◌⊎◌, Ok, ℕ, max, ap, subst, ◌∙◌, rules}
use Rattle.geo_requests.specs.declared.reply.Reply.TheVariants.{OutOfMemory}
use Rattle.geo_station.specs.Calls.{ActsBy}
use Rattle.geo_station.specs.Receipts.{IsAnswer}
use Rattle.geo_journal.specs.Marks.{Marked}
use Rattle.geo_station.specs.Seats.{Seated, trimmed}
use Rattle.geo_station.specs.Wholes.{AddsReply}
use Rattle.geo_station.proofs.Closing.{mark_stays}
use Rattle.geo_session.proofs.counted.Counted.act_by.Goals as goal

pub returns-in-Ok-clause-some : goal.returns-in-Ok-clause-some
returns-in-Ok-clause-some g c =
    let seat_is : c.trim.new.self ≡ trimmed c.args.self.now.seat = c.trim.ensures ∙ ap trimmed c.count.ensures.seat in
    record {
      acts = record {
        clock = record {
          seen = c.now.result;
          shown = (search rules);
          later = c.max-now.ensures ∙ ap (λ (n : ℕ). max c.now.result n) c.count.ensures.last;
        };
        least = (search rules);
        most = (search rules);
        acts = subst (λ (s : Seated). ActsBy s c.act.new.seat c.max-now.result c.args.request (Ok c.in-Ok.reply)) seat_is c.in-Ok.ensures.acts;
        adds = subst (λ (m : Marked). AddsReply m c.act.new.seat.mark c.max-now.result c.args.request (Ok c.in-Ok.reply)) (mark_stays c.args.self.now.seat) (subst (λ (s : Seated). AddsReply s.mark c.act.new.seat.mark c.max-now.result c.args.request (Ok c.in-Ok.reply)) seat_is c.in-Ok.ensures.adds);
        answered = subst (λ (s : Seated). (c.in-Ok.reply ≡ OutOfMemory) ⊎ IsAnswer s.mark.number c.max-now.result c.args.request c.in-Ok.reply) seat_is c.in-Ok.ensures.answered;
      };
      counted = c.count.ensures.counts;
    }

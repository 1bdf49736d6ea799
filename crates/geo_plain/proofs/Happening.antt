-- What a command and a reap add, after a due flush.
use Rattle.std.proofs.Common.{◌≡◌, ℕ, Bool, true, cond, Option, List, Ok, Err, sym, ◌∙◌, subst, true≢false}
use Rattle.std.specs.Prelude.{Result, IfOk, IfErr}
use Rattle.geo_records.specs.Operations.{latest}
use Rattle.geo_requests.specs.declared.request.Request.{Request}
use Rattle.geo_requests.specs.declared.reply.Reply.{Reply}
use Rattle.geo_world.specs.declared.event.Event.TheVariants.{Command, Reap}
use Rattle.geo_world.specs.declared.event.Trace.TheVariants.{Replied, Reaped}
use Rattle.geo_site.specs.Entries.{is_stuck, lacks, is_done}
use Rattle.geo_world.specs.Schedule as schedule
use Rattle.geo_world.specs.Schedule.{carries_out, flushed, happens, issues_on, reaps_on, Lawful}
use Rattle.geo_plain.specs.declared.known.Known.{Known}
use Rattle.geo_plain.specs.declared.known.PlainError.{PlainError}
use Rattle.geo_plain.specs.declared.known.PlainError.TheVariants.{NotThere, ClockEnded, Memory}
use Rattle.geo_plain.specs.Plain.{Meets, ChangeAdds}
use Rattle.geo_plain.proofs.Meeting.{done_has_stamp_by}

module _ (old mid : Known) (site now : ℕ) (flush : (w : schedule.Known) → Meets old.sites.items old.sent.items w → Meets mid.sites.items mid.sent.items (flushed w site now)) where
  -- a command that was done
  module _ (request : Request) (reply : Reply) (victim : Option (List ℕ)) (done : is_done reply ≡ true) where
    pub carried_kept : (new : Known) (result : Result (Unit {0}) PlainError) → IfOk result (λ _. (v : schedule.Known) → Meets mid.sites.items mid.sent.items v → Meets new.sites.items new.sent.items (carries_out v site now request victim))
        → IfOk result (λ _. (w : schedule.Known) → Meets old.sites.items old.sent.items w → Meets new.sites.items new.sent.items (happens w (Command site now request) (Replied reply victim)))
    carried_kept new (Err why) h = tt
    carried_kept new (Ok u) h = λ w meets.
        let v = flushed w site now in
        subst (λ (b : Bool). Meets new.sites.items new.sent.items (cond b (carries_out v site now request victim) v)) (sym done) (h v (flush w meets))

    pub carried_ended : (result : Result (Unit {0}) PlainError) → IfErr result (λ e. e ≡ ClockEnded → (v : schedule.Known) → Meets mid.sites.items mid.sent.items v → lacks (latest (v.at site)) (issues_on v site now request) ≡ true)
        → IfErr result (λ e. e ≡ ClockEnded → (w : schedule.Known) → Meets old.sites.items old.sent.items w → Lawful w (Command site now request) (Replied reply victim) → ⊥)
    carried_ended (Ok u) h = tt
    carried_ended (Err why) h = λ is w meets lawful.
        let v = flushed w site now in
        done_has_stamp_by (is_stuck (w.waiting site) (latest (w.at site)) now) v site now request reply done (h is v (flush w meets)) lawful.0

  -- a key that was reaped
  module _ (new : Known) (key : List ℕ) (done : Bool) where
    pub reaped_kept : (result : Result (Unit {0}) PlainError) → ChangeAdds mid new site (λ w. reaps_on w site now key) result
        → IfOk result (λ _. (w : schedule.Known) → Meets old.sites.items old.sent.items w → Meets new.sites.items new.sent.items (happens w (Reap site now key) (Reaped done)))
    reaped_kept (Err why) h = tt
    reaped_kept (Ok u) h = λ w meets. h (flushed w site now) (flush w meets)

    pub reaped_ended : (result : Result (Unit {0}) PlainError) → ChangeAdds mid new site (λ w. reaps_on w site now key) result
        → IfErr result (λ e. e ≡ ClockEnded → (w : schedule.Known) → Meets old.sites.items old.sent.items w → Lawful w (Reap site now key) (Reaped done) → ⊥)
    reaped_ended (Ok u) h = tt
    reaped_ended (Err NotThere) h = absurd h
    reaped_ended (Err ClockEnded) h = λ is w meets lawful. true≢false (sym (h (flushed w site now) (flush w meets)) ∙ lawful.1)
    reaped_ended (Err Memory) h = λ is. absurd (apart is)
      where
        apart : Memory ≡ ClockEnded → ⊥
        apart p = cc

use Rattle.std.proofs.Common.{◌∙◌, ap, inr, refl, subst, sym}
use Rattle.geo_memcache.specs.Decisions.{decided}
use Rattle.geo_memcache.specs.declared.decision.Decision.{Decision}
use Rattle.geo_site.specs.declared.refusal.WriteError.TheVariants.{Memory}
use Rattle.geo_site.specs.Machine.{visible_in}
use Rattle.geo_site.specs.Sites.{state_in, twice}
use Rattle.geo_site.specs.Changes.{bytes_in, IsShort, IsThere, recorded_in}
use Rattle.geo_site.proofs.Acting.{made_acts, made_grows, decided_short, decided_there, decided_done, unchanged}
use Rattle.geo_site.proofs.Telling.{reply_told}
use Rattle.geo_site.specs.Entries.{is_done}
use Rattle.geo_site.proofs.site.Site.change.Goals as goal

pub carry_out-requires : goal.carry_out-requires
carry_out-requires c = record { short = subst (λ (d : Decision). IsShort d.effect (bytes_in c.args.ask.now)) (sym c.in-Ok.ensures.decided) (decided_short (visible_in (state_in c.args.self.now) c.args.now c.args.key.now) c.args.now c.args.ask.now c.requires.change); there = subst (λ (d : Decision). IsThere c.args.self.now c.args.key.now d.effect) (sym c.in-Ok.ensures.decided) (decided_there c.args.self.now c.args.now c.args.key.now c.args.ask.now) }

pub returns-in-Ok-next_stamp-clause-does : goal.returns-in-Ok-next_stamp-clause-does
returns-in-Ok-next_stamp-clause-does c =
    let d = decided (visible_in (state_in c.args.self.now) c.args.now c.args.key.now) c.args.now c.args.ask.now in
    inr (Memory, refl, (made_acts c.args.key.now (bytes_in c.args.ask.now) d.effect c.in_default.ensures.memory, (λ _. made_grows (recorded_in c.args.self.now) c.args.key.now (bytes_in c.args.ask.now) d.effect c.in_default.ensures.memory), c.in-Ok-next_stamp.ensures.stamp.0, unchanged (state_in c.args.self.now), refl))

pub returns-in-Err-clause-does : goal.returns-in-Err-clause-does
returns-in-Err-clause-does c =
    let d = decided (visible_in (state_in c.args.self.now) c.args.now c.args.key.now) c.args.now c.args.ask.now in
    inr (c.in-Err.why, c.refused.ensures.reply, (made_acts c.args.key.now (bytes_in c.args.ask.now) d.effect c.in_default.ensures.memory, (λ _. made_grows (recorded_in c.args.self.now) c.args.key.now (bytes_in c.args.ask.now) d.effect c.in_default.ensures.memory), c.in-Err.ensures.refused.0, unchanged (state_in c.args.self.now), refl))

pub returns-in-Reply-clause-told : goal.returns-in-Reply-clause-told
returns-in-Reply-clause-told c =
    let seen = visible_in (state_in c.args.self.now) c.args.now c.args.key.now in
    let wanted = c.args.with_copies in
    let said = c.short.ensures.reply in
    let is = c.in-Ok.ensures.decided in
    let told = c.in-Ok-carry_out.ensures.told in
    let done = decided_done seen c.args.now c.args.ask.now c.in-Reply.reply c.requires.change (ap (λ (d : Decision). d.answer) (sym is) ∙ c.in-Reply.is) in
    reply_told c.args.self.now wanted c.args.key.now (bytes_in c.args.ask.now) (decided seen c.args.now c.args.ask.now) c.in-Ok.field-0.effect c.in-Ok-carry_out.beside c.short.result
    (ap is_done said ∙ done) (c.short.ensures.copies ∙ ap (twice wanted) (sym said)) c.short.ensures.victim c.short.ensures.made told (ap (λ (d : Decision). d.effect) is)

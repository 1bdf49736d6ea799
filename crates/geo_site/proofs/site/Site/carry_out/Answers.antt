use Rattle.std.proofs.Common.{ℕ, List, Some, [], ◌∷◌, ap, ◌∙◌, sym}
use Rattle.geo_records.specs.Operations.Act.{Write}
use Rattle.sha2.specs.Sha256.{sha256}
use Rattle.geo_site.specs.Entries.{acts_of, made_of}
use Rattle.geo_site.specs.Sites.{victim_in}
use Rattle.geo_site.specs.Changes.{bytes_in, accesses_of}
use Rattle.geo_site.proofs.Acting.{write_does}
use Rattle.geo_site.proofs.site.Site.carry_out.Goals as goal

pub returns-in_ok-victim-in-Keep-clause-does : goal.returns-in_ok-victim-in-Keep-clause-does
returns-in_ok-victim-in-Keep-clause-does c =
    let key = c.args.key.now in
    let bytes = bytes_in c.args.ask.now in
    let wrote = c.in_ok-victim-in-Keep.ensures in
    write_does c.args.self.now c.write.new.self c.count_victim.new.self key bytes c.asked-value.result c.in-Keep.flags c.in-Keep.expiry c.args.effect c.in_ok-victim-in-Keep.victim
    (ap (acts_of key bytes) c.in-Keep.is ∙ ap (λ (b : List ℕ). Write key b c.in-Keep.flags c.in-Keep.expiry ∷ []) (sym (c.asked-value.ensures)))
    (ap (accesses_of key) c.in-Keep.is)
    c.in_ok-stamp-in-Keep.ensures.stamp.0 wrote.written wrote.victim wrote.fits wrote.rests.0 c.count_victim.ensures.state c.count_victim.ensures.counts

pub returns-in_ok-victim-in-Made-clause-does : goal.returns-in_ok-victim-in-Made-clause-does
returns-in_ok-victim-in-Made-clause-does c =
    let key = c.args.key.now in
    let bytes = bytes_in c.args.ask.now in
    let wrote = c.in_ok-victim-in-Made.ensures in
    write_does c.args.self.now c.write-in-Made.new.self c.count_victim-in-Made.new.self key bytes c.new-value.result c.in-Made.flags c.in-Made.expiry c.args.effect c.in_ok-victim-in-Made.victim
    (ap (acts_of key bytes) c.in-Made.is ∙ ap (λ (b : List ℕ). Write key b c.in-Made.flags c.in-Made.expiry ∷ []) (sym (c.new-value.ensures ∙ c.as_slice.ensures)))
    (ap (accesses_of key) c.in-Made.is)
    c.in_ok-stamp-in-Made.ensures.stamp.0 wrote.written wrote.victim wrote.fits wrote.rests.0 c.count_victim-in-Made.ensures.state c.count_victim-in-Made.ensures.counts

pub returns-in_ok-victim-in-Keep-clause-told : goal.returns-in_ok-victim-in-Keep-clause-told
returns-in_ok-victim-in-Keep-clause-told c =
    let key = c.args.key.now in
    let bytes = bytes_in c.args.ask.now in (
      c.in_ok-victim-in-Keep.ensures.victim ∙ ap (victim_in c.args.self.now) (sym (ap (acts_of key bytes) c.in-Keep.is ∙ ap (λ (b : List ℕ). Write key b c.in-Keep.flags c.in-Keep.expiry ∷ []) (sym (c.asked-value.ensures)))),
      ap made_of (sym c.in-Keep.is),
    )

pub returns-in_ok-victim-in-Made-clause-told : goal.returns-in_ok-victim-in-Made-clause-told
returns-in_ok-victim-in-Made-clause-told c =
    let key = c.args.key.now in
    let bytes = bytes_in c.args.ask.now in
    let value = c.new-value.ensures ∙ c.as_slice.ensures in (
      c.in_ok-victim-in-Made.ensures.victim ∙ ap (victim_in c.args.self.now) (sym (ap (acts_of key bytes) c.in-Made.is ∙ ap (λ (b : List ℕ). Write key b c.in-Made.flags c.in-Made.expiry ∷ []) (sym value))),
      (λ i. Some ((c.digest.ensures ∙ ap sha256 value) i, c.len-length.ensures i)) ∙ ap made_of (sym c.in-Made.is),
    )

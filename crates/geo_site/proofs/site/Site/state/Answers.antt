use Rattle.std.proofs.Common.{ap, refl, subst, sym, ◌∙◌}
use Rattle.geo_values.specs.Held.{by_key, digest_at}
use Rattle.geo_versions.specs.Maps.{listed_at, Rising}
use Rattle.geo_site.proofs.site.Site.state.Goals as goal

pub returns : goal.returns
returns c = record {
  vector = c.copied.ensures;
  rows = c.copied-2.ensures;
  floor = c.floor.ensures;
  map = λ key. ap (λ records. listed_at records key) c.of.ensures ∙ c.in_ok-records.ensures.records key;
  held = λ key. ap (λ held. digest_at held key) c.of-2.ensures ∙ c.in_ok-held.ensures.held key;
  waiting = refl;
  counts = refl;
  records_rise = subst Rising (sym c.of.ensures) c.in_ok-records.ensures.rising;
  held_rises = subst (λ held. Rising (by_key held)) (sym c.of-2.ensures) c.in_ok-held.ensures.rising;
}

use Rattle.std.proofs.Common.{◌≡◌, ℕ, Some, sym, ap, ◌∙◌}
use Rattle.std.specs.Option.{option_map}
use Rattle.geo_memcache.specs.Entries.{entry_of}
use Rattle.geo_memcache.specs.declared.entry.Entry.{Entry}
use Rattle.geo_records.specs.Operations.{version_in}
use Rattle.geo_site.specs.Entries.{names, entry_in}
use Rattle.geo_site.specs.Sites.{state_in}
use Rattle.geo_site.proofs.Looking.{unseen}
use Rattle.geo_site.proofs.site.Site.placed.Goals as goal

-- what is held is named by its version
pub returns-in_err-place : goal.returns-in_err-place
returns-in_err-place c =
    let site = c.args.self.now in
    let key = c.args.key.now in
    let held = (state_in site).stock.held key in
    let version : Some c.in_ok-version.version ≡ version_in ((state_in site).map key) = c.in_ok-version.ensures in
    ap (option_map (λ (p : ℕ × Entry). entry_of p.1)) c.from_residual-in_err-place.ensures
    ∙ sym (ap (λ o. entry_in c.args.now o held) (sym version) ∙ unseen c.args.now c.in_ok-version.version held (λ b h. ap (λ o. names o b) version ∙ site.named key b h) (sym c.in_err-place.ensures.found))

use Rattle.std.proofs.Common.{rules, ◌≡◌, ℕ, List, length, Some, refl, ap, ◌∙◌}
use Rattle.sha2.specs.Sha256.{sha256}
use Rattle.geo_records.specs.Operations.{version_in}
use Rattle.geo_versions.specs.Maps.{record_in}
use Rattle.geo_values.specs.Held.{stock_in}
use Rattle.geo_site.specs.Entries.{names}
use Rattle.geo_site.proofs.Stocking.{retained_settled}
use Rattle.geo_site.proofs.exchange.keep_named.Goals as goal

pub returns-clause-kept : goal.returns-clause-kept
returns-clause-kept c =
    let r = c.retain.ensures.retained in
    let map = record_in c.args.versions.now in
    let told : (q b : List ℕ) → (stock_in c.args.values.now).held q ≡ Some b → r.stays q ≡ names (version_in (map q)) b
    = λ q b e.
    let answer = r.told q b e in
    let says = answer.says in
    let such : (bytes : List ℕ) → answer.digest_at.now ≡ sha256 bytes → length b ≡ length bytes → r.stays q ≡ names (version_in (map answer.key_at.now)) bytes = search rules in
    such b answer.shows.1 refl ∙ ap (λ k. names (version_in (map k)) b) answer.shows.0 in
    retained_settled map (stock_in c.args.values.now) (stock_in c.retain.new.self) r.stays told r.others r.kept

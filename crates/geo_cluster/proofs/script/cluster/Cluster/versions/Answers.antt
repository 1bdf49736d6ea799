use Rattle.std.proofs.Common.{arith, refl, ap, ◌∙◌, ◌≡◌, ◌+◌, ◌-◌, ◌<◌, List, ℕ, Some, length, slice_get}
use Rattle.std.proofs.lemmas.Option.{slice_get_read}
use Rattle.geo_records.specs.Operations.{floor_of}
use Rattle.geo_records.specs.declared.version.Version.{Version}
use Rattle.geo_world.proofs.Running.{shows}
use Rattle.geo_cluster.specs.Prints.{versions_text}
use Rattle.geo_cluster.specs.Progress.{known_in}
use Rattle.geo_cluster.proofs.Setting.{is_there}
use Rattle.geo_cluster.proofs.script.cluster.Cluster.versions.Goals as goal

pub returns-clause-does : goal.returns-clause-does
returns-clause-does c = λ p st.
    let sites = c.args.self.now.world.sites.items in
    let s = c.args.site in
    let site = c.index-site.result.now in
    let within : s - 1 < length sites = omega (arith, c.if-at-len.false, c.len.ensures) in
    let at : slice_get sites (s - 1) ≡ Some site = slice_get_read sites (length sites) (s - 1) site refl within c.index-site.ensures in
    let number : s ≡ s - 1 + 1 = omega (arith, c.requires) in
    let ops = (known_in p).at s in
    let shown = shows _ s site _ (st.run.agrees.each (s - 1) s site number at) in
    record {
      progress = p;
      can = is_there (length p.setups) s c.requires (omega (arith, within, st.sites, number));
      carries = (
        record {
          all = c.in_ok-all.all.items;
          rising = c.in_ok-all.ensures.rising;
          those = λ key. c.in_ok-all.ensures.versions key ∙ shown.versions key;
          prints = c.in_ok-versions_lines.ensures ∙ ap (λ f. versions_text f c.as_slice.result.now) (c.floor.ensures ∙ shown.floor) ∙ ap (λ (all : List (List ℕ × Version)). versions_text (floor_of ops) all) c.as_slice.ensures.value;
        },
        refl,
      );
      stands = st;
    }

use Rattle.std.proofs.Common.{rules, refl, sym, ap, ◌∙◌, ◌≡◌, ◌==◌, [], ℕ, length}
use Rattle.geo_world.proofs.Alone.{alone_first}
use Rattle.geo_cluster.proofs.Happening.{fresh_run}
use Rattle.geo_cluster.proofs.Setting.{told_good}
use Rattle.geo_cluster.proofs.script.cluster.Cluster.set_up.Goals as goal

pub opened-requires : goal.opened-requires
opened-requires c =
    let r = c.requires in
    told_good c.args.count c.args.pages c.args.max c.args.reap c.in_ok-setups.setups.items r.0 r.1 r.2 r.3 r.4 r.5 c.in_ok-setups.ensures.many c.in_ok-setups.ensures.told

pub returns-clause-does : goal.returns-clause-does
returns-clause-does c = λ p st.
    let none : length c.args.self.now.world.sites.items ≡ 0 = search rules in
    let told = c.in_ok-setups.ensures in
    let connected = c.in_ok-self-2.ensures in
    record {
      progress = record { moment = p.moment; setups = c.in_ok-setups.setups.items; events = []; traces = []; connections = c.in_ok-self-2.field-0.items };
      can = ap (λ (n : ℕ). n == 0) (sym st.sites ∙ none);
      carries = record { prints = c.new.ensures.items; many = told.many; told = told.told; clients = connected.many; silent = connected.new; rest = refl };
      stands = record {
        moment = st.moment;
        connections = refl;
        clients = connected.many ∙ sym told.many;
        sites = c.in_ok-self.ensures.many;
        run = fresh_run _ _ c.in_ok-self.field-0.sites.items c.in_ok-self.field-0.parcels.items c.in_ok-self.ensures.agrees c.in_ok-self.ensures.keep;
        alone = alone_first _ c.in_ok-self.field-0.sites.items c.in_ok-self.ensures.many c.in_ok-self.ensures.each;
      };
    }

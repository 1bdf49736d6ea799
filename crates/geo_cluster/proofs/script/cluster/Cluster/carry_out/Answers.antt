use Rattle.std.proofs.Common.{ℕ, List, IfOk, refl, sym, ap, subst}
use Rattle.geo_world.specs.declared.event.Event.TheVariants.{Send, Take, Remove, Tick, Reap, Evict, Fill, Retire}
use Rattle.geo_cluster.specs.Reads.{said_by}
use Rattle.geo_cluster.specs.Standing.{EventDoes}
use Rattle.geo_cluster.specs.Sayings.{SaysSend, SaysTake, SaysTick, SaysRemove, SaysReap, SaysEvict, SaysFill, SaysRetire}
use Rattle.geo_cluster.proofs.Happening.{IsEventLine, line_is}
use Rattle.geo_cluster.proofs.script.cluster.Cluster.carry_out.Goals as goal

pub returns-in-Send-clause-does : goal.returns-in-Send-clause-does
returns-in-Send-clause-does c = line_is c.args.self.now c.happen.new.self c.args.line (SaysSend c.in-Send.from c.in-Send.to) (Send c.in-Send.from c.in-Send.to) c.happen.result (ap said_by c.in-Send.is) (λ p st. record { can = refl; carries = λ text q h. h }) c.happen.ensures.does

pub returns-in-Take-clause-does : goal.returns-in-Take-clause-does
returns-in-Take-clause-does c = line_is c.args.self.now c.happen-in-Take.new.self c.args.line (SaysTake c.in-Take.site c.in-Take.parcel) (Take c.in-Take.site c.in-Take.parcel) c.happen-in-Take.result (ap said_by c.in-Take.is) (λ p st. record { can = refl; carries = λ text q h. h }) c.happen-in-Take.ensures.does

pub returns-in-Tick-clause-does : goal.returns-in-Tick-clause-does
returns-in-Tick-clause-does c = line_is c.args.self.now c.happen-in-Tick.new.self c.args.line (SaysTick c.in-Tick.site) (Tick c.in-Tick.site c.args.self.now.moment) c.happen-in-Tick.result (ap said_by c.in-Tick.is) (λ p st. subst (λ m. IsEventLine p (SaysTick c.in-Tick.site) (Tick c.in-Tick.site m)) (sym st.moment) (record { can = refl; carries = λ text q h. h })) c.happen-in-Tick.ensures.does

pub returns-in-Remove-clause-does : goal.returns-in-Remove-clause-does
returns-in-Remove-clause-does c = line_is c.args.self.now c.happen-in-Remove.new.self c.args.line (SaysRemove c.in-Remove.site) (Remove c.in-Remove.site) c.happen-in-Remove.result (ap said_by c.in-Remove.is) (λ p st. record { can = refl; carries = λ text q h. h }) c.happen-in-Remove.ensures.does

pub returns-in-Reap-clause-does : goal.returns-in-Reap-clause-does
returns-in-Reap-clause-does c = line_is c.args.self.now c.happen-in-Reap.new.self c.args.line (SaysReap c.in-Reap.site c.in-Reap.key) (Reap c.in-Reap.site c.args.self.now.moment c.in-Reap.key) c.happen-in-Reap.result (ap said_by c.in-Reap.is) (λ p st. subst (λ m. IsEventLine p (SaysReap c.in-Reap.site c.in-Reap.key) (Reap c.in-Reap.site m c.in-Reap.key)) (sym st.moment) (record { can = refl; carries = λ text q h. h })) c.happen-in-Reap.ensures.does

pub returns-in-Evict-clause-does : goal.returns-in-Evict-clause-does
returns-in-Evict-clause-does c = line_is c.args.self.now c.happen-in-Evict.new.self c.args.line (SaysEvict c.in-Evict.site c.in-Evict.key) (Evict c.in-Evict.site c.in-Evict.key) c.happen-in-Evict.result (ap said_by c.in-Evict.is) (λ p st. record { can = refl; carries = λ text q h. h }) c.happen-in-Evict.ensures.does

pub returns-in-Fill-clause-does : goal.returns-in-Fill-clause-does
returns-in-Fill-clause-does c =
    let k = c.in-Fill in
    line_is c.args.self.now c.happen-in-Fill.new.self c.args.line (SaysFill k.site k.key k.text.items) (Fill k.site k.key k.text.items) c.happen-in-Fill.result (ap said_by k.is) (λ p st. record { can = refl; carries = λ text q h. h })
    (subst (λ (bytes : List ℕ). IfOk c.happen-in-Fill.result (λ o. EventDoes c.args.self.now (Fill k.site k.key bytes) o c.happen-in-Fill.new.self)) c.of-bytes.ensures c.happen-in-Fill.ensures.does)

pub returns-in-Retire-clause-does : goal.returns-in-Retire-clause-does
returns-in-Retire-clause-does c = line_is c.args.self.now c.happen-in-Retire.new.self c.args.line (SaysRetire c.in-Retire.site c.in-Retire.other) (Retire c.in-Retire.site c.in-Retire.other) c.happen-in-Retire.result (ap said_by c.in-Retire.is) (λ p st. record { can = refl; carries = λ text q h. h }) c.happen-in-Retire.ensures.does

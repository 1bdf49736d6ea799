use Rattle.std.proofs.Common.{sym, subst}
use Rattle.geo_world.specs.declared.event.Event.{Event}
use Rattle.geo_world.specs.Tables.{Tabled}
use Rattle.geo_world.proofs.world.World.step.Goals as goal

pub returns-in-Ok-clause-tables : goal.returns-in-Ok-clause-tables
returns-in-Ok-clause-tables c = subst (λ (e : Event). Tabled c.args.self.now.sites.items c.args.self.now.parcels.items c.send.new.self.sites.items c.send.new.self.parcels.items e c.in-Ok.trace) (sym c.in-Send.is) c.in-Ok.ensures.tables

pub returns-in-Ok-take-clause-tables : goal.returns-in-Ok-take-clause-tables
returns-in-Ok-take-clause-tables c = subst (λ (e : Event). Tabled c.args.self.now.sites.items c.args.self.now.parcels.items c.take.new.self.sites.items c.take.new.self.parcels.items e c.in-Ok-take.trace) (sym c.in-Take.is) c.in-Ok-take.ensures.tables

pub returns-in-Remove-clause-tables : goal.returns-in-Remove-clause-tables
returns-in-Remove-clause-tables c = subst (λ (e : Event). Tabled c.args.self.now.sites.items c.args.self.now.parcels.items c.remove.new.self.sites.items c.remove.new.self.parcels.items e c.remove.result) (sym c.in-Remove.is) c.remove.ensures.tables

pub returns-in-Command-clause-tables : goal.returns-in-Command-clause-tables
returns-in-Command-clause-tables c = subst (λ (e : Event). Tabled c.args.self.now.sites.items c.args.self.now.parcels.items c.command.new.self.sites.items c.command.new.self.parcels.items e c.command.result) (sym c.in-Command.is) c.command.ensures.tables

pub returns-in-Retire-clause-tables : goal.returns-in-Retire-clause-tables
returns-in-Retire-clause-tables c = subst (λ (e : Event). Tabled c.args.self.now.sites.items c.args.self.now.parcels.items c.retire.new.self.sites.items c.retire.new.self.parcels.items e c.retire.result) (sym c.in-Retire.is) c.retire.ensures.tables

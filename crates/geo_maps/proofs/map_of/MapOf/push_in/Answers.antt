use Rattle.std.proofs.Common.{◌∙◌, sym, ap, subst, is_some}
use Rattle.indexmap.proofs.CallerLemmas.{insert_entry-new}
use Rattle.geo_maps.specs.Maps.{get, IsColumn}
use Rattle.geo_maps.proofs.Columns.{column_pushed, is_none}
use Rattle.geo_maps.proofs.map_of.MapOf.push_in.Goals as goal

pub returns-clause-column : goal.returns-clause-column
returns-clause-column g c =
    let measured = g.M.Measure.measured c.args.column.now.measure in
    let eq = g.K.PartialEq.eq in
    let old = c.self.inside.entries in
    let column = subst (λ m. IsColumn measured m.entries c.args.column.now.measures.items) (sym c.self.view_is) c.requires.column in
    let none = is_none _ (ap (λ m. is_some (get eq m c.args.key)) c.self.view_is ∙ c.requires.absent) in
    column_pushed measured old.entries c.insert.new.self.entries c.args.key c.args.value c.args.column.now.measures.items c.set.new.measures.items c.len-place.result c.measure-measured.result
    (c.in-Ok.ensures.entries ∙ insert_entry-new eq old c.args.key c.args.value none) c.len-place.ensures.len c.measure-measured.ensures column c.set.ensures.others c.set.ensures.set

pub returns-clause-other : goal.returns-clause-other
returns-clause-other g c =
    let measured = g.N.Measure.measured c.args.column.now.other in
    let eq = g.K.PartialEq.eq in
    let old = c.self.inside.entries in
    let column = subst (λ m. IsColumn measured m.entries c.args.column.now.others.items) (sym c.self.view_is) c.requires.other in
    let none = is_none _ (ap (λ m. is_some (get eq m c.args.key)) c.self.view_is ∙ c.requires.absent) in
    column_pushed measured old.entries c.insert.new.self.entries c.args.key c.args.value c.args.column.now.others.items c.set-2.new.measures.items c.len-place.result c.measure-beside.result
    (c.in-Ok.ensures.entries ∙ insert_entry-new eq old c.args.key c.args.value none) c.len-place.ensures.len c.measure-beside.ensures column c.set-2.ensures.others c.set-2.ensures.set

use Rattle.std.proofs.Common.{arith, sym, subst, slice_get}
use Rattle.std.proofs.lemmas.List.{length-map}
use Rattle.geo_slabs.specs.Chunks.{ClassState, HoldsSoMany}
use Rattle.geo_slabs.proofs.Held.{class-held, held-many, holds-some}
use Rattle.geo_slabs.proofs.class.Class.bytes.Goals as goal

pub read_in-requires-clause-at : goal.read_in-requires-clause-at
read_in-requires-clause-at c =
    let holds = subst (λ (l : ClassState). HoldsSoMany c.args.length (slice_get l.chunks c.args.number)) (sym c.self.view_is) c.requires in
    let h = class-held c.self.inside.pages.items c.self.invariant c.args.number (holds-some c.args.length _ holds) in
    rw length-map at h.page

pub read_in-requires-clause-from : goal.read_in-requires-clause-from
read_in-requires-clause-from c =
    let holds = subst (λ (l : ClassState). HoldsSoMany c.args.length (slice_get l.chunks c.args.number)) (sym c.self.view_is) c.requires in
    let h = class-held c.self.inside.pages.items c.self.invariant c.args.number (holds-some c.args.length _ holds) in
    omega (arith, h.within, held-many h c.args.length holds)

pub read_in-requires-clause-size : goal.read_in-requires-clause-size
read_in-requires-clause-size c =
    let holds = subst (λ (l : ClassState). HoldsSoMany c.args.length (slice_get l.chunks c.args.number)) (sym c.self.view_is) c.requires in
    let h = class-held c.self.inside.pages.items c.self.invariant c.args.number (holds-some c.args.length _ holds) in
    omega (arith, h.fits, held-many h c.args.length holds)

pub returns : goal.returns
returns c =
    let holds = subst (λ (l : ClassState). HoldsSoMany c.args.length (slice_get l.chunks c.args.number)) (sym c.self.view_is) c.requires in
    let h = class-held c.self.inside.pages.items c.self.invariant c.args.number (holds-some c.args.length _ holds) in
    rw (← c.self.view_is, c.read_in.ensures, ← held-many h c.args.length holds) h.shows

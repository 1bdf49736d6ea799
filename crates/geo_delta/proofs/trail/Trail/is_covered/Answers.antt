use Rattle.std.proofs.Common.{ℕ, List, Option, Some, refl, sym, ap, ◌∙◌, slice_get}
use Rattle.std.specs.Global.{Box}
use Rattle.geo_stamp.specs.Vectors.{vector_joined}
use Rattle.geo_delta.specs.Trails.{Passed, Path}
use Rattle.geo_delta.proofs.trail.Trail.is_covered.Goals as goal

pub returns-in-Some-1₀ : goal.returns-in-Some-1₀
returns-in-Some-1₀ c = λ is.
    let change : Passed = c.in-Some.change.now in
    record {
      before = c.args.place;
      last = refl;
      key = change.0;
      known = c.in-Some-1₀.known;
      there = ap (λ (p : Path). slice_get p.changes c.args.place) (sym c.self.view_is) ∙ sym c.in-Some.ensures
          ∙ ap (λ (o : Option (Box (List ℕ))). Some (change.0, o)) c.in-Some-1₀.is;
      covers = ap (vector_joined c.args.base.now) (sym c.deref.ensures) ∙ c.covers.ensures.0 is;
    }

-- What a run touches, beside its events: the control points that it reaches, and the scalar locals that it loads and stores directly.
use Rattle.std.specs.Prelude.{ℕ}
use Rattle.cs_ast.specs.declared.place.Place.{Place}
use Rattle.cs_events.specs.declared.point.PointKind.{PointKind}

-- a control point, or an access to a local of a frame at a source position: a load, a store, or a declaration that makes it unset
pub data Touch : Type 0 where
  Meets : (kind : PointKind) (at : Place) → Touch
  Loads : (frame declaration : ℕ) (at : Place) → Touch
  Stores : (frame declaration : ℕ) (at : Place) → Touch
  Clears : (frame declaration : ℕ) (at : Place) → Touch

use Rattle.std.proofs.Common.{◌≡◌, ℕ, ◌<◌, Some, map, slice_get}
use Rattle.cs_types.specs.Shape.{shape_of}
use Rattle.cs_state.proofs.tables.place_of.Given as goal

abbrev pub invariant-loop-place : goal.invariant-loop-place
invariant-loop-place l = (k : ℕ) → k < l.place → slice_get (map shape_of l.types) k ≡ Some (shape_of l.ty) → ⊥

-- Blocks that are added by the builder.
use Rattle.std.specs.Prelude.{◌≡◌, ℕ, suc, ◌+◌, [], ◌∷◌, length}
use Rattle.cs_ast.specs.declared.place.Place.{Place}
use Rattle.cs_events.specs.declared.point.PointKind.{PointKind}
use Rattle.cs_cfg.specs.Fitting.{AddsPoints}
use Rattle.cs_cfg.specs.Graph.{Point, Flow, Reach, block_of}
use Rattle.cs_cfg.specs.Placing.{does}
use Rattle.cs_lower.specs.Building.{Built, blocks, Has, Grows}
use Rattle.cs_lower.specs.Integers.{AddsIntegers}

-- a block with this number is added: this point
pub record Seals (old new : Built) (block : ℕ) (p : Point) : Type 0 where
  pub grows : Grows 0 old new
  pub is : (flow : Flow) → Has flow new → block_of flow block ≡ p
  pub adds : (flow : Flow) → AddsPoints flow [] (p ∷ blocks old) (blocks new)
  pub integers : (count : ℕ) → AddsIntegers count (p ∷ blocks old) (blocks new)

-- the block of the last counted point without one is added: the counted point is reached, and this point follows
pub record SealsCountedPoint (old new : Built) (kind : PointKind) (at : Place) (p : Point) : Type 0 where
  pub grows : Grows 1 old new
  pub is : (flow : Flow) → Has flow new → (counted_point : ℕ) → counted_point + suc (length old.heads) ≡ old.counted_points
      → block_of flow counted_point ≡ does at 0 (Reach kind counted_point) p
  pub adds : (flow : Flow) (counted_point : ℕ) → counted_point + suc (length old.heads) ≡ old.counted_points
      → AddsPoints flow [] (does at 0 (Reach kind counted_point) p ∷ blocks old) (blocks new)
  pub integers : (count : ℕ) → AddsIntegers count (p ∷ blocks old) (blocks new)

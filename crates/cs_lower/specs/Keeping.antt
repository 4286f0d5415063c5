-- Unreachable code, as after a `return`, is in the graph too.
use Rattle.std.specs.Prelude.{◌≡◌, ℕ, [], ◌∷◌}
use Rattle.cs_ast.specs.TypedProgram.{TypedProgram}
use Rattle.cs_cfg.specs.Fitting.{AddsPoints}
use Rattle.cs_cfg.specs.Graph.{Point, Flow}
use Rattle.cs_cfg.specs.Executing.{IsKept}
use Rattle.cs_lower.specs.Building.{jump_to, Built, blocks, Has, Grows}
use Rattle.cs_lower.specs.Integers.{AddsIntegers}

-- a point is kept: it is a block, or jumps lead to one
pub record Keeps (old new : Built) (p : Point) : Type 0 where
  pub grows : Grows 0 old new
  pub kept : (program : TypedProgram) (flow : Flow) → Has flow new → IsKept program flow p
  pub adds : (flow : Flow) → AddsPoints flow [] (p ∷ blocks old) (blocks new)
  pub integers : (count : ℕ) → AddsIntegers count (p ∷ blocks old) (blocks new)

-- a point jumps to a block; the other one, which follows it, is unreachable
pub record LeadsOff (old new : Built) (block : ℕ) (p q : Point) : Type 0 where
  pub keeps : Keeps old new q
  pub is : p ≡ jump_to block

-- What the lowering of a function ensures.
use Rattle.std.specs.Prelude.{◌≡◌, ℕ, length, Option, Some, All}
use Rattle.cs_ast.specs.TypedTree.{Statement}
use Rattle.cs_ast.specs.TypedProgram.{TypedProgram, Routine}
use Rattle.cs_meaning.specs.CountedPoints.{counted_points}
use Rattle.cs_cfg.specs.ControlPoints.{control_points}
use Rattle.cs_cfg.specs.Fitting.{AllFit}
use Rattle.cs_cfg.specs.Graph.{Flow}
use Rattle.cs_cfg.specs.IntegerCode.{IsIntegerPoint}
use Rattle.cs_cfg.specs.Lowered.{is_there}
use Rattle.cs_cfg.specs.Placed.{LowersBody}
use Rattle.cs_lower.specs.Allocations.{StatementHasArguments}
use Rattle.cs_lower.specs.Building.{Built, blocks, Has, Grows}
use Rattle.cs_lower.specs.Integers.{StatementIsOfIntegers, AddsIntegers}

-- a graph with this entry that contains the built blocks executes a function's body, once all counted points have blocks; the built blocks have no
-- control points but those of the function, if the old blocks have no others; and they are integer code if the body is of integers
pub record BeginsBody (program : TypedProgram) (routine : Routine) (body : Statement) (old new : Built) (entry : ℕ) : Type 0 where
  pub grows : Grows (counted_points body) old new
  pub does : (flow : Flow) → Has flow new → StatementHasArguments body → length new.heads ≡ new.counted_points → flow.entry ≡ entry
      → flow.counted_points ≡ counted_points body → LowersBody program routine body flow
  pub fits : (flow : Flow) → Has flow new → StatementHasArguments body → length new.heads ≡ new.counted_points → flow.entry ≡ entry
      → flow.counted_points ≡ counted_points body → routine.body ≡ Some body →
      AllFit flow (control_points routine) (blocks old) → AllFit flow (control_points routine) (blocks new)
  pub integers : (count : ℕ) → StatementIsOfIntegers count body → AddsIntegers count (blocks old) (blocks new)

-- the graph of a function's body: it executes the body, and has no control points but those of the function
pub record IsGraphOf (program : TypedProgram) (routine : Routine) (body : Statement) (flow : Flow) : Type 0 where
  pub lowers : LowersBody program routine body flow
  pub fits : AllFit flow (control_points routine) flow.blocks

-- all blocks of a graph are integer code if the body works with integers only, in a function with `count` locals
abbrev pub WorksAs : Statement → Flow → Type 0
WorksAs body flow = (count : ℕ) → StatementIsOfIntegers count body → All (IsIntegerPoint count) flow.blocks

-- exactly a function with a body has a graph; it is that of the body if its allocations have their arguments
pub record HasGraph (program : TypedProgram) (routine : Routine) (graph : Option Flow) : Type 0 where
  pub there : is_there graph ≡ is_there routine.body
  pub lowers : (body : Statement) (flow : Flow) → routine.body ≡ Some body → graph ≡ Some flow → StatementHasArguments body
      → IsGraphOf program routine body flow
  pub integers : (body : Statement) (flow : Flow) → routine.body ≡ Some body → graph ≡ Some flow → WorksAs body flow

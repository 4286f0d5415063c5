-- The blocks of a graph have no control points but those of a list, each with no ways but its own: only the builder of a graph can know
-- this, since unreachable blocks may exist.
use Rattle.std.specs.Prelude.{◌≡◌, ℕ, ⊤, List, Contains, Option, Some, None}
use Rattle.std.specs.List.{All}
use Rattle.cs_ast.specs.TypedProgram.{TypedProgram, Routine}
use Rattle.cs_meaning.specs.Machine.{routine_of}
use Rattle.cs_cfg.specs.Graph.{Point, Flow, Code, flow_of}
use Rattle.cs_cfg.specs.ControlPoints.{Met, the_point, Exit, Next, way, ControlPoint, control_points}
use Rattle.cs_cfg.specs.GraphPoints.{IsMet, Leads, MeetsNext, IsRest}

-- a point of a graph is this control point, and each way out of it is one of its ways and reaches next what that way names
pub record Fits (flow : Flow) (one : ControlPoint) (p : Point) : Type 0 where
  pub meets : IsMet p (the_point one.kind one.at)
  pub leads : (exit : Exit) (q : Point) → Leads flow p (the_point one.kind one.at) exit q
      → (next : Next) × Contains one.ways (way exit next) × MeetsNext flow q next

-- the control point at a point of a graph fits one of a list
abbrev pub FitsSome : Flow → List ControlPoint → Point → Met → Type 0
FitsSome flow points p m = (one : ControlPoint) × Contains points one × (the_point one.kind one.at ≡ m) × Fits flow one p

-- each control point in a block fits one of a list
pub record BlockFits (flow : Flow) (points : List ControlPoint) (block : Point) : Type 0 where
  pub each : (p : Point) (m : Met) → IsRest block p → IsMet p m → FitsSome flow points p m

-- the same for each of the blocks
pub record AllFit (flow : Flow) (points : List ControlPoint) (blocks : List Point) : Type 0 where
  pub all : All (BlockFits flow points) blocks

-- each control point in the graph of a function, if it has one, fits one of the function's statements
abbrev pub GraphFits : Routine → Option Flow → Type 0
GraphFits routine None = ⊤
GraphFits routine (Some flow) = AllFit flow (control_points routine) flow.blocks

-- the same for each function
abbrev pub CodeFits : Code → TypedProgram → Type 0
CodeFits code program = (function : ℕ) → GraphFits (routine_of program function) (flow_of code function)

-- a list contains these control points
pub record Includes (points some : List ControlPoint) : Type 0 where
  pub all : All (Contains points) some

-- new blocks, made from old ones as by prepending code, have only these additional control points
pub record AddsPoints (flow : Flow) (some : List ControlPoint) (old new : List Point) : Type 0 where
  pub keeps : (points : List ControlPoint) → Includes points some → AllFit flow points old → AllFit flow points new

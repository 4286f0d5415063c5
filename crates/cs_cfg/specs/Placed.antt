-- When the graphs of the code execute the bodies of a program's functions.
use Rattle.std.specs.Prelude.{◌≡◌, ℕ, Bool, Some}
use Rattle.cs_ast.specs.TypedTree.{Statement}
use Rattle.cs_ast.specs.TypedProgram.{TypedProgram, Routine}
use Rattle.cs_events.specs.declared.point.PointKind.TheVariants as point
use Rattle.cs_meaning.specs.Machine.{routine_of}
use Rattle.cs_meaning.specs.CountedPoints.{counted_points}
use Rattle.cs_meaning.specs.Calls.{falls_off}
use Rattle.cs_cfg.specs.Graph as graph
use Rattle.cs_cfg.specs.Graph.{Point, Flow, Code, block_of, flow_of}
use Rattle.cs_cfg.specs.Working.{closed_with}
use Rattle.cs_cfg.specs.Placing.{does, Joins}
use Rattle.cs_cfg.specs.Executing.{leaving, finishing, executes_at}
use Rattle.cs_cfg.specs.Lowered.{HasGraphs}

-- a graph executes the body of a function, between its beginning and its end; `break` and `continue` outside of loops end the frame
pub record LowersBody (program : TypedProgram) (routine : Routine) (body : Statement) (flow : Flow) : Type 0 where
  -- the point to which each label's `goto`s lead
  pub labels : ℕ → Point
  -- where the body begins, and what comes after it
  pub inside : Point
  pub following : Point
  pub nothing : Bool
  pub begins : block_of flow flow.entry ≡ does routine.at 0 (graph.Meet point.Enter) inside
  pub executes : executes_at program flow routine labels body 0 finishing finishing inside following
  pub ends : Joins program flow following (does routine.closes 0 (graph.Close nothing) leaving)
  pub gives : closed_with nothing ≡ falls_off routine.returns
  pub counts : flow.counted_points ≡ counted_points body

-- each function with a body has a graph that executes it, and no other function has one
pub record IsPlaced (code : Code) (program : TypedProgram) : Type 0 where
  pub graphs : HasGraphs code program
  pub bodies : (function : ℕ) (body : Statement) (flow : Flow) →
      (routine_of program function).body ≡ Some body → flow_of code function ≡ Some flow → LowersBody program (routine_of program function) body flow

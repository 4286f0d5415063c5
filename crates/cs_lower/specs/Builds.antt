-- What the functions that lower ensure of the builder and of the strips that they take and return.
use Rattle.std.specs.Prelude.{ℕ}
use Rattle.cs_ast.specs.TypedTree.{Statement}
use Rattle.cs_ast.specs.TypedProgram.{TypedProgram, Routine, typed_program, routine}
use Rattle.cs_cfg.specs.Graph.{Point}
use Rattle.cs_lower.specs.declared.building.GraphBuilder.{GraphBuilder}
use Rattle.cs_lower.specs.declared.context.Lowering.{Lowering}
use Rattle.cs_lower.specs.declared.strips.Strip.{Strip}
use Rattle.cs_lower.specs.Building.{point_of, built_of}
use Rattle.cs_lower.specs.Expressions.{Task, Lowers}
use Rattle.cs_lower.specs.Statements.{Executes}

-- the program, and the function that is lowered
abbrev pub program_of : Lowering → TypedProgram
program_of lowering = typed_program lowering.program.now

abbrev pub function_of : Lowering → Routine
function_of lowering = routine lowering.function.now

module _ (lowering : Lowering) (old new : GraphBuilder) where
  -- a strip was made for a task, to be followed by a point
  abbrev pub BuildsBefore : Task → Strip → Point → Type 0
  BuildsBefore task made following = Lowers (program_of lowering) task (built_of old) (built_of new) (point_of made) following

  -- the same, followed by another strip
  abbrev pub Builds : Task → Strip → Strip → Type 0
  Builds task made following = BuildsBefore task made (point_of following)

  -- the same for a statement; `break` and `continue` lead to two blocks
  abbrev pub BuildsStatement : Statement → ℕ → ℕ → Strip → Strip → Type 0
  BuildsStatement s out again made following =
      Executes (program_of lowering) (function_of lowering) s out again (built_of old) (built_of new) (point_of made) (point_of following)

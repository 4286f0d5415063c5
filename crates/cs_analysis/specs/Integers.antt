-- Integer functions and their code.
use Rattle.std.specs.Prelude.{ℕ}
use Rattle.cs_ast.specs.TypedProgram.{TypedProgram}
use Rattle.cs_cfg.specs.Graph.{Code}
use Rattle.cs_cfg.specs.IntegerCode.{HasIntegerCode}
use Rattle.cs_integer_functions.specs.IntegerFunctions.{IsIntegerFunction}

-- each integer function has integer code
abbrev pub KeepsToIntegers : Code → TypedProgram → Type 0
KeepsToIntegers code program = (function : ℕ) → IsIntegerFunction program function → HasIntegerCode code program function

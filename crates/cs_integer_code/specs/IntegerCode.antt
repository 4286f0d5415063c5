-- What is known of the code of integer functions.
use Rattle.std.specs.Prelude.{ℕ}
use Rattle.cs_ast.specs.TypedProgram.{TypedProgram}
use Rattle.cs_cfg.specs.Graph.{Code}
use Rattle.cs_cfg.specs.IntegerCode.{HasIntegerCode}
use Rattle.cs_integer_functions.specs.IntegerFunctions.{IsIntegerFunction}
use Rattle.cs_lower.specs.Integers.{KeepsIntegers}
use Rattle.cs_well_formed.specs.Programs.{IsWellFormed}

-- in a well-formed program each integer function has integer code, if lowering keeps integers
abbrev pub IntegerFunctionsHaveIntegerCode : Type 0
IntegerFunctionsHaveIntegerCode = (p : TypedProgram) (code : Code) → IsWellFormed p → KeepsIntegers code p
    → (function : ℕ) → IsIntegerFunction p function → HasIntegerCode code p function

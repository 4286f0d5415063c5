-- Integer entries.
use Rattle.std.specs.Prelude.{◌≡◌, ℕ, Some, slice_get}
use Rattle.cs_types.specs.declared.int_type.IntType.{IntType}
use Rattle.cs_types.specs.Shape.{integer}
use Rattle.cs_ast.specs.TypedProgram.{TypedProgram, Variable}
use Rattle.cs_meaning.specs.Machine.{routine_of}
use Rattle.cs_meaning.specs.Steps.{parameters_of}
use Rattle.cs_cfg.specs.Graph.{Code}
use Rattle.cs_cfg.specs.IntegerCode.{HasIntegerCode}

-- each parameter of a function is an integer
abbrev pub HasIntegerParameters : TypedProgram → ℕ → Type 0
HasIntegerParameters program function = (number : ℕ) (v : Variable)
    → slice_get (parameters_of (routine_of program function)) number ≡ Some v → (ty : IntType) × (v.ty ≡ integer ty)

-- an entry has integer code, and its parameters are integers
pub record IsIntegerEntry (code : Code) (program : TypedProgram) (entry : ℕ) : Type 0 where
  pub integers : HasIntegerCode code program entry
  pub parameters : HasIntegerParameters program entry

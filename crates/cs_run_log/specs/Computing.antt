-- The result of an update.
use Rattle.std.specs.Prelude.{ℤ}
use Rattle.cs_types.specs.declared.int_type.IntType.{IntType}
use Rattle.cs_types.specs.Shape.{integer}
use Rattle.cs_ast.specs.declared.place.Place.{Place}
use Rattle.cs_ast.specs.declared.typed.operator.BinOp.{BinOp}
use Rattle.cs_ast.specs.TypedProgram.{TypedProgram}
use Rattle.cs_events.specs.Acts.{Act}
use Rattle.cs_meaning.specs.Types.{integer_of}
use Rattle.cs_meaning.specs.Access.{Access}
use Rattle.cs_meaning.specs.Operators.{operate, convert_number}
use Rattle.cs_meaning.specs.Machine.{State}

-- the result of an update, in the type of the object
abbrev pub computes : TypedProgram → Place → BinOp → Access → IntType → ℤ → ℤ → (ℤ → Act State) → Act State
computes program at op access works_in left right onward =
    operate program.model at op works_in left right (λ number.
    convert_number program.model at (integer works_in) (integer_of access.ty) number onward)

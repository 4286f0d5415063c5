-- Updates of integer variables in place.
use Rattle.std.specs.Prelude.{◌≡◌, ℕ, ℤ}
use Rattle.cs_types.specs.declared.data_model.DataModel.{DataModel}
use Rattle.cs_types.specs.declared.int_type.IntType.{IntType}
use Rattle.cs_types.specs.Shape.{integer}
use Rattle.cs_ast.specs.declared.place.Place.{Place}
use Rattle.cs_ast.specs.declared.typed.operator.BinOp.{BinOp}
use Rattle.cs_ast.specs.declared.typed.operator.Gives.{Gives}
use Rattle.cs_ast.specs.TypedProgram.{TypedProgram}
use Rattle.cs_terms.specs.Term.{Valuation}
use Rattle.cs_events.specs.Acts.{Act}
use Rattle.cs_meaning.specs.Expressions.{given, number_at}
use Rattle.cs_meaning.specs.Machine.{operand_at}
use Rattle.cs_meaning.specs.Operators.{operate, convert_number}
use Rattle.cs_cfg.specs.Graph.{Code}
use Rattle.cs_cfg.specs.Working.{CodeState}
use Rattle.cs_state.specs.declared.state.State.{State}
use Rattle.cs_state.specs.declared.temporary.Temporary.{Temporary}
use Rattle.cs_state.specs.Cells.{operand_of}
use Rattle.cs_state.specs.Meaning.{meaning}
use Rattle.cs_state.specs.Naming.{Naming}

-- a part of an act: the number that an update stores in an object of an integer type
abbrev pub update_part : DataModel → Place → BinOp → IntType → IntType → (Valuation → CodeState) → Valuation → (ℤ → Act CodeState)
    → Act CodeState
update_part model at operator works_in object state valuation onward =
    operate model at operator works_in (number_at (state valuation) 1) (number_at (state valuation) 0) (λ number.
    convert_number model at (integer works_in) object number onward)

-- a temporary is the result of an update: the operand of this age, or the stored one
abbrev pub IsGiven : State → Gives → ℕ → Temporary → Temporary → Type 0
IsGiven state gives age stored left = (code : Code) (names : Naming) (program : TypedProgram) (valuation : Valuation)
    → operand_of names.bases state.blocks valuation left
    ≡ given gives (operand_at (meaning code names program state valuation) age) (operand_of names.bases state.blocks valuation stored)

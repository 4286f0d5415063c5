-- The value that an update loads, and its number in the type of the operator.
use Rattle.std.specs.Prelude.{◌≡◌, ◌++◌, [], ◌∷◌, Result, OnOk, IfErr}
use Rattle.cs_types.specs.declared.data_model.DataModel.{DataModel}
use Rattle.cs_types.specs.declared.int_type.IntType.{IntType}
use Rattle.cs_types.specs.Shape.{Shape}
use Rattle.cs_inputs.specs.declared.path.Path.{Path}
use Rattle.cs_ast.specs.declared.place.Place.{Place}
use Rattle.cs_ast.specs.TypedProgram.{TypedProgram}
use Rattle.cs_terms.specs.Term.{Valuation}
use Rattle.cs_constraints.specs.Constraints.{Fits}
use Rattle.cs_events.specs.declared.input.InputKind.{InputKind}
use Rattle.cs_events.specs.Objects.{Cell, NumberCell}
use Rattle.cs_events.specs.Acts.{Act, Goes}
use Rattle.cs_meaning.specs.Initials.{number_in}
use Rattle.cs_meaning.specs.Machine.{Operand, cell_of, push, push_cell, to_do}
use Rattle.cs_meaning.specs.Operators.{convert_number}
use Rattle.cs_cfg.specs.Graph.{Point, Code}
use Rattle.cs_cfg.specs.Working.{CodeState}
use Rattle.cs_state.specs.declared.state.State.{State}
use Rattle.cs_state.specs.declared.temporary.Temporary.{Temporary}
use Rattle.cs_state.specs.Cells.{operand_of}
use Rattle.cs_state.specs.Meaning.{meaning}
use Rattle.cs_state.specs.Naming.{Naming}
use Rattle.cs_state.specs.Writes.{with_temporaries}
use Rattle.cs_progress.specs.declared.pause.Pause.{Pause}
use Rattle.cs_progress.specs.declared.pause.Pause.TheVariants as pause
use Rattle.cs_progress.specs.declared.progress.Progress.{Progress}
use Rattle.cs_progress.specs.Acting.{Leads, WaitsFor}
use Rattle.cs_progress.specs.Answering.{answers_left}

-- two temporaries are pushed, and nothing else changes
abbrev pub ArePushed : Temporary → Temporary → State → State → Type 0
ArePushed first second before after = after ≡ with_temporaries (before.frame.temporaries ++ first ∷ [] ++ second ∷ []) before

-- under each valuation, the represented state of the code's run has two more operands
abbrev pub MeanPushed : Temporary → Temporary → State → State → Type 0
MeanPushed first second before after = (code : Code) (names : Naming) (program : TypedProgram) (valuation : Valuation) →
    meaning code names program after valuation
    ≡ push (operand_of names.bases before.blocks valuation second)
    (push (operand_of names.bases before.blocks valuation first) (meaning code names program before valuation))

-- the number of an operand is converted, and is pushed after the operand
abbrev pub converts_beside : DataModel → Place → Shape → IntType → Operand → CodeState → Act CodeState
converts_beside model at from to operand m =
    convert_number model at from to (number_in (cell_of operand)) (λ number. Goes (push_cell (NumberCell number) (push operand m)))

-- under each valuation that fits, this part of an operation is done, and it continues with the resulting state; or it waits
pub record Fetches {T : Type 0} (code : Code) (names : Naming) (program : TypedProgram) (before after : State) (earlier later : Progress)
    (answer : Result T Pause) (rest : Valuation → CodeState → Act CodeState) : Type 0 where
  pub done : OnOk answer ((todo : Point) (cells : Path → InputKind → Cell) (valuation : Valuation) → Fits valuation before.constraints
      → Leads cells (answers_left before earlier.used valuation) (answers_left before later.used valuation)
      (rest valuation (to_do todo (meaning code names program before valuation))) (Goes (to_do todo (meaning code names program after valuation))))
  pub waits : IfErr answer (λ why. why ≡ pause.Waits → (todo : Point) → WaitsFor names.bases before earlier.used later.first
      (λ valuation. rest valuation (to_do todo (meaning code names program before valuation))))

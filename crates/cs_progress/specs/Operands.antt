-- What an operand of a state is in the runs that the state represents, and what replacing operands does there.
use Rattle.std.specs.Prelude.{◌≡◌, ℕ, ◌-◌, pos, List, [], ◌∷◌, ◌++◌, take, length, Some, slice_get}
use Rattle.cs_ast.specs.TypedProgram.{TypedProgram}
use Rattle.cs_cfg.specs.Graph.{Code}
use Rattle.cs_constraints.specs.Constraints.{Fits}
use Rattle.cs_meaning.specs.Initials as cells
use Rattle.cs_meaning.specs.Machine as machine
use Rattle.cs_checker.specs.Answers.{constant}
use Rattle.cs_regions.specs.declared.base.Base.{Base}
use Rattle.cs_state.specs.declared.state.State.{State}
use Rattle.cs_state.specs.declared.temporary.Temporary.{Temporary}
use Rattle.cs_state.specs.declared.temporary.Temporary.TheVariants.{Scalar}
use Rattle.cs_state.specs.Cells.{Blocks, cell_of, operand_of}
use Rattle.cs_state.specs.Meaning.{meaning}
use Rattle.cs_state.specs.MeaningOfWrites.{MeansPushed}
use Rattle.cs_state.specs.Naming.{Naming}
use Rattle.cs_state.specs.Writes.{with_temporaries}
use Rattle.cs_store.specs.declared.value.Value.{Value}
use Rattle.cs_store.specs.declared.value.Value.TheVariants.{At}
use Rattle.cs_terms.specs.declared.term.Lin.{Lin}
use Rattle.cs_terms.specs.Term.{Valuation, value_of}

-- under each valuation, the operand of this age is the temporary
abbrev pub IsOperandAt : State → ℕ → Temporary → Type 0
IsOperandAt state age temporary = (code : Code) (names : Naming) (program : TypedProgram) (valuation : Valuation) →
    machine.operand_at (meaning code names program state valuation) age ≡ operand_of names.bases state.blocks valuation temporary

-- the value is that of the temporary as a scalar
abbrev pub IsScalarOf : Temporary → Value → Type 0
IsScalarOf temporary value = (bases : List Base) (blocks : Blocks) (valuation : Valuation) →
    machine.cell_of (operand_of bases blocks valuation temporary) ≡ cell_of bases blocks valuation value

-- under each valuation, the scalar of the operand of this age is the value
abbrev pub IsCellAt : State → ℕ → Value → Type 0
IsCellAt state age value = (code : Code) (names : Naming) (program : TypedProgram) (valuation : Valuation) →
    machine.cell_at (meaning code names program state valuation) age ≡ cell_of names.bases state.blocks valuation value

-- under each valuation that fits, the term is the number of the value
abbrev pub IsNumberOf : State → Value → Lin → Type 0
IsNumberOf state value term = (bases : List Base) (valuation : Valuation) → Fits valuation state.constraints
    → cells.number_in (cell_of bases state.blocks valuation value) ≡ value_of valuation term

-- under each valuation that fits, the term is the number of the operand of this age
abbrev pub IsNumberAt : State → ℕ → Lin → Type 0
IsNumberAt state age term = (code : Code) (names : Naming) (program : TypedProgram) (valuation : Valuation) → Fits valuation state.constraints
    → cells.number_in (machine.cell_at (meaning code names program state valuation) age) ≡ value_of valuation term

-- the temporaries without the newest `count` ones
abbrev pub without_newest : ℕ → List Temporary → List Temporary
without_newest count temporaries = take (length temporaries - count) temporaries

-- the newest `count` operands are dropped, and nothing else changes
abbrev pub IsDropped : ℕ → State → State → Type 0
IsDropped count before after = after ≡ with_temporaries (without_newest count before.frame.temporaries) before

-- the temporary replaces the newest `count` operands, and nothing else changes
abbrev pub IsReplaced : ℕ → Temporary → State → State → Type 0
IsReplaced count temporary before after =
    after ≡ with_temporaries (without_newest count before.frame.temporaries ++ temporary ∷ []) before

-- the temporary is pushed, and nothing else changes
abbrev pub IsPushed : Temporary → State → State → Type 0
IsPushed temporary before after = after ≡ with_temporaries (before.frame.temporaries ++ temporary ∷ []) before

-- the place of an object is pushed
pub record IsPlacePushed (bases : List Base) (base : Base) (before after : State) : Type 0 where
  pub number : ℕ
  pub named : slice_get bases number ≡ Some base
  pub pushed : IsPushed (Scalar (At number (constant (pos 0)))) before after
  pub means : MeansPushed (Scalar (At number (constant (pos 0)))) before after

-- under each valuation, the newest `count` operands are dropped
abbrev pub MeansDropped : ℕ → State → State → Type 0
MeansDropped count before after = (code : Code) (names : Naming) (program : TypedProgram) (valuation : Valuation) →
    meaning code names program after valuation ≡ machine.pop_many count (meaning code names program before valuation)

-- under each valuation, the temporary replaces the newest `count` operands
abbrev pub MeansReplaced : ℕ → Temporary → State → State → Type 0
MeansReplaced count temporary before after = (code : Code) (names : Naming) (program : TypedProgram) (valuation : Valuation) →
    meaning code names program after valuation
    ≡ machine.push (operand_of names.bases before.blocks valuation temporary)
    (machine.pop_many count (meaning code names program before valuation))

-- the value is a pointer moved forward by this many bytes
abbrev pub IsFurther : State → Value → ℕ → Value → Type 0
IsFurther state value bytes moved = (bases : List Base) (valuation : Valuation) → Fits valuation state.constraints
    → cell_of bases state.blocks valuation moved ≡ cells.further (cell_of bases state.blocks valuation value) bytes

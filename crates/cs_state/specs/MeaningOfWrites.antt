-- How writes to a state change what it represents.
use Rattle.std.specs.Prelude.{◌≡◌, ℕ}
use Rattle.cs_terms.specs.Term.{Valuation}
use Rattle.cs_ast.specs.TypedProgram.{TypedProgram}
use Rattle.cs_meaning.specs.Machine.{push}
use Rattle.cs_meaning.specs.CountedPoints.{with_visits}
use Rattle.cs_cfg.specs.Graph.{Code}
use Rattle.cs_state.specs.declared.state.State.{State}
use Rattle.cs_state.specs.declared.temporary.Temporary.{Temporary}
use Rattle.cs_state.specs.Naming.{Naming}
use Rattle.cs_state.specs.Cells.{operand_of}
use Rattle.cs_state.specs.Meaning.{meaning}

-- under each valuation, the state of the code's run has one more operand
abbrev pub MeansPushed : Temporary → State → State → Type 0
MeansPushed temporary before after = (code : Code) (names : Naming) (program : TypedProgram) (valuation : Valuation) →
    meaning code names program after valuation
    ≡ push (operand_of names.bases before.blocks valuation temporary) (meaning code names program before valuation)

-- under each valuation, a counted point has this count in the state of the code's run
abbrev pub MeansVisited : ℕ → ℕ → State → State → Type 0
MeansVisited counted_point count before after = (code : Code) (names : Naming) (program : TypedProgram) (valuation : Valuation) →
    meaning code names program after valuation ≡ with_visits counted_point count (meaning code names program before valuation)

-- under each valuation, both are the same state of the code's run
abbrev pub MeansTheSame : State → State → Type 0
MeansTheSame before after = (code : Code) (names : Naming) (program : TypedProgram) (valuation : Valuation) →
    meaning code names program after valuation ≡ meaning code names program before valuation

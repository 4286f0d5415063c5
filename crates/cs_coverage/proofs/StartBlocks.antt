-- Integer parameters have no start blocks: for the state in which an exploration begins.
use Rattle.std.proofs.Common.{◌≡◌, ℕ, length, Option, None, Some, refl, sym, ◌∙◌}
use Rattle.cs_types.specs.declared.int_type.IntType.{IntType}
use Rattle.cs_types.specs.Shape.{Shape, integer, pointer}
use Rattle.cs_ast.specs.TypedProgram.{TypedProgram, Variable}
use Rattle.cs_meaning.specs.Machine.{routine_of}
use Rattle.cs_meaning.specs.Steps.{parameters_of}
use Rattle.cs_cfg.specs.Graph.{Code}
use Rattle.cs_state.specs.declared.block.Block.{Block}
use Rattle.cs_state.specs.declared.state.State.{State}
use Rattle.cs_state.specs.Cells.{block_of}
use Rattle.cs_state.specs.Naming.{Naming}
use Rattle.cs_state.specs.Starting.{IsStart, IsParameter, IsPointer}
use Rattle.cs_coverage.specs.IntegerEntries.{HasIntegerParameters}

no_pointer : (ty : IntType) (target : Shape) → integer ty ≡ pointer target → ⊥
no_pointer ty target e = cc

module _ (code : Code) (program : TypedProgram) (entry : ℕ) (names : Naming) (state : State) where
  abbrev IsOfPointer : Block → Type 0
  IsOfPointer block = (number : ℕ) × (v : Variable)
      × IsParameter (parameters_of (routine_of program entry)) (length (parameters_of (routine_of program entry))) v number × IsPointer v.ty

  none_there : HasIntegerParameters program entry → (found : Option Block) → ((block : Block) → found ≡ Some block → IsOfPointer block)
      → found ≡ None
  none_there integers None comes = refl
  none_there integers (Some block) comes =
      let from = comes block refl in
      let ty = integers from.0 from.1 from.2.there in
      absurd (no_pointer ty.0 from.3.0 (sym ty.1 ∙ from.3.1))

  pub no_blocks : IsStart code program entry names state → HasIntegerParameters program entry → (base : ℕ) → block_of state.blocks base ≡ None
  no_blocks start integers base =
      none_there integers (block_of state.blocks base) (λ block there.
      let from = start.received.blocks base block there in (from.0, from.1, from.2, from.4))

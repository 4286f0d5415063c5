-- Valuations that have a run's numbers for the symbols that a state mentions.
use Rattle.std.specs.Prelude.{◌≡◌, ℕ, Bool, true, List, All}
use Rattle.std.specs.FinMap as finite
use Rattle.std.specs.Ordering.{int_eq}
use Rattle.cs_ast.specs.TypedProgram.{TypedProgram}
use Rattle.cs_terms.specs.Term.{Valuation}
use Rattle.cs_regions.specs.declared.base.Base.{Base}
use Rattle.cs_state.specs.declared.block.Block.{Block}
use Rattle.cs_state.specs.declared.state.State.{State}
use Rattle.cs_state.specs.Cells.{Blocks}
use Rattle.cs_progress.specs.Locals.{IsOver, HasLocalsAlone}

-- whether two valuations have the same number for a symbol
abbrev pub agreeing : Valuation → Valuation → ℕ → Bool
agreeing own valuation symbol = int_eq (valuation symbol) (own symbol)

-- the extent and the symbol of a block are over known symbols
abbrev pub IsBlockOver : (ℕ → Bool) → Block → Type 0
IsBlockOver known block = IsOver known block.extent × (known block.sym.0 ≡ true)

-- this holds for all blocks
abbrev pub AreBlocksOver : (ℕ → Bool) → Blocks → Type 0
AreBlocksOver known blocks = All (λ (entry : (ℕ × ℕ) × Block). IsBlockOver known entry.1) (finite.entries blocks)

-- two valuations have the same number for each symbol that a state mentions: in operands, answers, memory, in the cells that were read and in the result,
-- and in blocks
pub record AgreesOnMentioned (program : TypedProgram) (bases : List Base) (state : State) (own valuation : Valuation) : Type 0 where
  pub known : ℕ → Bool
  pub mentions : HasLocalsAlone program bases known state
  pub agrees : (symbol : ℕ) → known symbol ≡ true → valuation symbol ≡ own symbol
  pub blocks : AreBlocksOver (agreeing own valuation) state.blocks

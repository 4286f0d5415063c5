-- Where an inspected pointer points: for the contract of `resolved`.
use Rattle.std.proofs.Common.{◌≡◌, ℕ, ℤ, pos, Bool, true, false, not, List, Option, Some, slice_get, ap, ◌∙◌, arith}
use Rattle.std.proofs.lemmas.Int.{ints}
use Rattle.std.specs.Prelude.{if◌then◌else◌}
use Rattle.std.specs.Ordering.{int_eq}
use Rattle.cs_terms.specs.Term.{Valuation, value_of}
use Rattle.cs_constraints.specs.Constraints.{Sets, Fits}
use Rattle.cs_events.specs.Objects.{Cell, NullCell}
use Rattle.cs_regions.specs.declared.base.Base.{Base}
use Rattle.cs_eval.specs.Guesses.{symbol_term}
use Rattle.cs_state.specs.declared.block.Block.{Block}
use Rattle.cs_state.specs.Cells.{Blocks, block_of, is_there, pointer_to}
use Rattle.cs_progress.specs.Known.{IsTruthOfValue}

-- a block exists exactly if its symbol's number isn't 0
block_there : (sets : Sets) (blocks : Blocks) (base : ℕ) (block : Block) (zero : Bool) → block_of blocks base ≡ Some block
    → IsTruthOfValue sets (symbol_term block.sym) (pos 0) (Some zero) → (v : Valuation) → Fits v sets
    → is_there v (block_of blocks base) ≡ not zero
block_there sets blocks base block zero there truth v fits =
    ap (λ (o : Option Block). is_there v o) there ∙ ap not (ap (λ (n : ℤ). int_eq n (pos 0)) itself ∙ truth v fits)
  where
    itself : v block.sym.0 ≡ value_of v (symbol_term block.sym)
    itself = omega (arith, ints)

module _ (sets : Sets) (bases : List Base) (blocks : Blocks) (base offset : ℕ) (block : Block) (there : block_of blocks base ≡ Some block) where
  abbrev start : Valuation → Bool → Cell
  start v b = if b then pointer_to (slice_get bases base) (pos offset) else NullCell

  pub start_null : IsTruthOfValue sets (symbol_term block.sym) (pos 0) (Some true) → (v : Valuation) → Fits v sets
      → start v (is_there v (block_of blocks base)) ≡ NullCell
  start_null truth v fits = ap (start v) (block_there sets blocks base block true there truth v fits)

  pub start_at : IsTruthOfValue sets (symbol_term block.sym) (pos 0) (Some false) → (v : Valuation) → Fits v sets
      → start v (is_there v (block_of blocks base)) ≡ pointer_to (slice_get bases base) (pos offset)
  start_at truth v fits = ap (start v) (block_there sets blocks base block false there truth v fits)

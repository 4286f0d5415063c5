-- An input has the same cell with a run's own number as with the number that the run was given: for `input_number`.
use Rattle.std.proofs.Common.{◌≡◌, ℤ, pos, Bool, true, false, if◌then◌else◌, refl, ap}
use Rattle.cs_types.specs.declared.data_model.DataModel.{DataModel}
use Rattle.cs_inputs.specs.declared.path.Path.{Path}
use Rattle.cs_events.specs.declared.input.InputKind.{InputKind}
use Rattle.cs_events.specs.declared.input.InputKind.TheVariants.{Integer, Pointer, Allocation, Nothing}
use Rattle.cs_events.specs.InputCells.{input_cell, lies_in}
use Rattle.cs_events.specs.Objects.{NumberCell, NullCell, PointerCell, StartBlock}
use Rattle.cs_events.specs.Operations.{numbers_of, is_true, truth_number}
use Rattle.cs_coverage.specs.OwnNumbers.{input_number}

number_held : (range : ℤ × ℤ) (number : ℤ) (b : Bool) → lies_in range number ≡ b
    → (if lies_in range (if b then number else pos 0) then (if b then number else pos 0) else pos 0) ≡ (if b then number else pos 0)
number_held range number true e = ap (λ b. if b then number else pos 0) e
number_held range number false e = either (lies_in range (pos 0))
  where
    either : (b : Bool) → (if b then pos 0 else pos 0) ≡ pos 0
    either true = refl
    either false = refl

truth_held : (b : Bool) → is_true (truth_number b) ≡ b
truth_held true = refl
truth_held false = refl

pub gives_same_cell : (model : DataModel) (path : Path) (kind : InputKind) (number : ℤ)
    → input_cell model path kind (input_number model kind number) ≡ input_cell model path kind number
gives_same_cell model path (Integer ty) number =
    ap NumberCell (number_held (numbers_of model ty) number (lies_in (numbers_of model ty) number) refl)
gives_same_cell model path Pointer number =
    ap (λ b. if b then PointerCell (StartBlock path) (pos 0) else NullCell) (truth_held (is_true number))
gives_same_cell model path Allocation number = refl
gives_same_cell model path Nothing number = refl

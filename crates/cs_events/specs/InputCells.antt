-- The cell that the number of an input determines.
use Rattle.std.specs.Prelude.{ℤ, pos, int_le, Bool, ◌&&◌, if◌then◌else◌}
use Rattle.cs_types.specs.declared.data_model.DataModel.{DataModel}
use Rattle.cs_types.specs.Shape.{Shape, integer, pointer}
use Rattle.cs_inputs.specs.declared.path.Path.{Path}
use Rattle.cs_events.specs.declared.input.InputKind.{InputKind}
use Rattle.cs_events.specs.declared.input.InputKind.TheVariants as input
use Rattle.cs_events.specs.Operations.{numbers_of, is_true}
use Rattle.cs_events.specs.Objects.{StartBlock, Cell, NumberCell, NullCell, PointerCell, UnsetCell}

-- the kind of an input of a scalar type
abbrev pub input_kind : Shape → InputKind
input_kind (integer ty) = input.Integer ty
input_kind (pointer target) = input.Pointer
input_kind other = input.Nothing

-- whether the number is in the range, both ends included
abbrev pub lies_in : ℤ × ℤ → ℤ → Bool
lies_in range number = int_le range.0 number && int_le number range.1

-- the cell for a number: the number, or 0 if it isn't in the type; for a pointer null if it is 0, else a pointer to a block of its own
abbrev pub input_cell : DataModel → Path → InputKind → ℤ → Cell
input_cell model path (input.Integer ty) number = NumberCell (if lies_in (numbers_of model ty) number then number else pos 0)
input_cell model path input.Pointer number = if is_true number then PointerCell (StartBlock path) (pos 0) else NullCell
input_cell model path input.Allocation number = UnsetCell
input_cell model path input.Nothing number = UnsetCell

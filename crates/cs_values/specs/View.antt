-- The interpreter's values, seen as those of the reference machine.
use Rattle.std.specs.Prelude.{map}
use Rattle.cs_events.specs.Objects as objects
use Rattle.cs_meaning.specs.Machine as machine
use Rattle.cs_values.specs.declared.objects.Object.{Object}
use Rattle.cs_values.specs.declared.objects.Object.TheVariants as object
use Rattle.cs_values.specs.declared.objects.Cell.{Cell}
use Rattle.cs_values.specs.declared.objects.Cell.TheVariants as cell
use Rattle.cs_values.specs.declared.objects.Operand.{Operand}
use Rattle.cs_values.specs.declared.objects.Operand.TheVariants as operand

-- an object
abbrev pub object_of : Object → objects.Object
object_of (object.Start path) = objects.StartBlock path
object_of (object.Global global) = objects.GlobalObject global
object_of (object.Literal literal) = objects.LiteralObject literal
object_of (object.Local frame declaration) = objects.LocalObject frame declaration
object_of (object.Heap allocation) = objects.HeapBlock allocation

-- the contents of a scalar
abbrev pub cell_of : Cell → objects.Cell
cell_of (cell.Number n) = objects.NumberCell n
cell_of cell.Null = objects.NullCell
cell_of (cell.Pointer object offset) = objects.PointerCell (object_of object) offset
cell_of cell.Unset = objects.UnsetCell

-- the value of an expression
abbrev pub operand_of : Operand → machine.Operand
operand_of (operand.Scalar cell) = machine.Scalar (cell_of cell)
operand_of (operand.Whole cells) = machine.Whole (map cell_of cells.items)
operand_of operand.Nothing = machine.Nothing

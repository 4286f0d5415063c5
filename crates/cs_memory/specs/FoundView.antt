-- The interpreter's contents of scalars, seen as those of the reference machine.
use Rattle.cs_meaning.specs.Memory as meaning
use Rattle.cs_memory.specs.declared.found.ScalarContents.{ScalarContents}
use Rattle.cs_memory.specs.declared.found.ScalarContents.TheVariants as found
use Rattle.cs_values.specs.View.{cell_of}
use Rattle.cs_objects.specs.BlockView.{type_of}

abbrev pub found_of : ScalarContents → meaning.Found
found_of (found.Holds cell) = meaning.Holds (cell_of cell)
found_of (found.Unknown path scalar) = meaning.Unknown path (type_of scalar)

-- The scalars before the index were copied.
use Rattle.std.proofs.Common.{◌≡◌, map, take}
use Rattle.cs_values.specs.View.{cell_of}
use Rattle.cs_values.proofs.objects.copied.Given as goal

abbrev pub invariant-loop-cell : goal.invariant-loop-cell
invariant-loop-cell l = map cell_of l.made.items ≡ map cell_of (take l.cell-index l.cells.items)

use Rattle.std.proofs.Common.{◌≡◌, ◌++◌, take}
use Rattle.cs_inputs.specs.PathText.{cells_text}
use Rattle.cs_inputs.proofs.text.print_cells.Given as goal

abbrev pub invariant-loop-cell : goal.invariant-loop-cell
invariant-loop-cell l = l.text.items ≡ l.fn.text.items ++ cells_text (take l.cell-index l.cells)

use Rattle.std.proofs.Common.{◌≡◌, take}
use Rattle.cs_state.specs.ReadCells.{keyed}
use Rattle.cs_state.proofs.read_cells.keyed.Given as goal

abbrev pub invariant-loop-offset : goal.invariant-loop-offset
invariant-loop-offset l = l.entries.items ≡ keyed (take l.offset-index l.read)

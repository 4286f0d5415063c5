use Rattle.std.proofs.Common.{◌≡◌, ◌++◌, map, vec_items}
use Rattle.cs_state.specs.ReadLists.{cell_at, cells_at}
use Rattle.cs_state.proofs.read_cells.Cells.append_to.Given as goal

abbrev pub invariant-loop-offset : goal.invariant-loop-offset
invariant-loop-offset l =
    vec_items l.list ++ map (cell_at l.base) l.offset-iterator ≡ vec_items l.initial.list ++ cells_at l.base l.self

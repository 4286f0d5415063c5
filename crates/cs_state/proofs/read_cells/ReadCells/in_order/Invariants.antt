use Rattle.std.proofs.Common.{◌≡◌, ◌++◌, vec_items}
use Rattle.std.specs.List.{flat_map}
use Rattle.cs_state.specs.ReadLists.{cells_of_entry, cells_in_order}
use Rattle.cs_state.proofs.read_cells.ReadCells.in_order.Given as goal

abbrev pub invariant-loop-base : goal.invariant-loop-base
invariant-loop-base l = vec_items l.list ++ flat_map cells_of_entry l.base-iterator ≡ cells_in_order l.self

-- The cells of the offsets before this one were copied, and the others are in the map.
use Rattle.std.proofs.Common.{◌≡◌, ◌+◌, map, take, Some}
use Rattle.std.specs.List.{All}
use Rattle.std.specs.BTreeMap.{get}
use Rattle.std.specs.Ordering.{nat_cmp}
use Rattle.cs_values.specs.View.{cell_of}
use Rattle.cs_objects.specs.BlockView.{written_at}
use Rattle.cs_objects.proofs.blocks.Block.written_cells.Given as goal

abbrev pub invariant-loop-offset : goal.invariant-loop-offset
invariant-loop-offset l = record {
  cells : map (λ offset. written_at l.self (l.from + offset)) (take l.offset-index l.offsets) ≡ map (λ cell. Some (cell_of cell)) l.cells.items;
  entries : All (λ e. get nat_cmp l.self.written e.0 ≡ Some e.1) l.entries;
}

-- The scalars before the index were written, and the counts are the same.
use Rattle.std.proofs.Common.{◌≡◌, map, drop, length, ◌-◌}
use Rattle.cs_meaning.specs.Memory.{changed}
use Rattle.cs_meaning.specs.Access.{write_cells}
use Rattle.cs_values.specs.View.{cell_of, object_of}
use Rattle.cs_memory.specs.MemoryView.{memory_of, KeepsCounts}
use Rattle.cs_memory.proofs.memory.Memory.write_cells.Given as goal

abbrev pub invariant-loop-index : goal.invariant-loop-index
invariant-loop-index l = record {
  writes : changed (write_cells l.from (drop l.index l.offsets) (map cell_of (drop l.index l.cells))) (object_of l.object) (memory_of l.self)
      ≡ changed (write_cells l.from l.offsets (map cell_of l.cells)) (object_of l.object) (memory_of l.fn.self);
  counts : KeepsCounts l.fn.self l.self;
}

abbrev pub decreases-loop-index : goal.decreases-loop-index
decreases-loop-index l = length l.offsets - l.index

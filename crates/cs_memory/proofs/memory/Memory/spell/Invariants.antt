-- The bytes before the index were written, and the counts are the same.
use Rattle.std.proofs.Common.{◌≡◌, ◌+◌, drop, length, ◌-◌}
use Rattle.cs_ast.specs.TypedProgram.{typed_program}
use Rattle.cs_meaning.specs.Memory.{changed}
use Rattle.cs_memory.specs.Reaching.{spells}
use Rattle.cs_values.specs.View.{object_of}
use Rattle.cs_memory.specs.MemoryView.{memory_of, KeepsCounts}
use Rattle.cs_objects.specs.BlockView.{type_of}
use Rattle.cs_memory.proofs.memory.Memory.spell.Given as goal

abbrev pub invariant-loop-index : goal.invariant-loop-index
invariant-loop-index l = record {
  writes : changed (spells (typed_program l.program) (type_of l.ty) (l.from + l.index) (drop l.index l.bytes)) (object_of l.object) (memory_of l.self)
      ≡ changed (spells (typed_program l.program) (type_of l.ty) l.from l.bytes) (object_of l.object) (memory_of l.fn.self);
  counts : KeepsCounts l.fn.self l.self;
}

abbrev pub decreases-loop-index : goal.decreases-loop-index
decreases-loop-index l = length l.bytes - l.index

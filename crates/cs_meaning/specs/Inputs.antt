-- The block to which a pointer that is an input points.
use Rattle.std.specs.Prelude.{ℕ, Option}
use Rattle.cs_types.specs.Shape.{Shape, pointer}
use Rattle.cs_inputs.specs.declared.path.Path.{Path}
use Rattle.cs_ast.specs.TypedProgram.{TypedProgram}
use Rattle.cs_events.specs.Objects.{StartBlock, Cell, PointerCell}
use Rattle.cs_meaning.specs.Memory.{Memory, start_block, with_new_block}

-- memory once a scalar has this cell: a pointer's start block exists, with `count` elements if that is known
abbrev pub opened : TypedProgram → Path → Shape → Option ℕ → Cell → Memory → Memory
opened program path (pointer target) count (PointerCell object offset) memory =
    with_new_block (StartBlock path) (start_block program path target count) memory
opened program path scalar count cell memory = memory

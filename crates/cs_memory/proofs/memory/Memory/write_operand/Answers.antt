use Rattle.std.proofs.Common.{◌≡◌, OnOk, subst}
use Rattle.cs_events.specs.Objects as objects
use Rattle.cs_meaning.specs.Memory.{changed, write_cell}
use Rattle.cs_values.specs.View.{object_of}
use Rattle.cs_memory.specs.MemoryView.{memory_of}
use Rattle.cs_memory.proofs.memory.Memory.write_operand.Goals as goal

pub returns-in_ok-cell-in-Scalar-clause-memory : goal.returns-in_ok-cell-in-Scalar-clause-memory
returns-in_ok-cell-in-Scalar-clause-memory c =
    rw c.in-Scalar.is
    (subst (λ (cell : objects.Cell).
    OnOk c.change.result (memory_of c.change.new.self
    ≡ changed (write_cell c.args.offset cell) (object_of c.args.object.now) (memory_of c.args.self.now))) c.in_ok-cell-in-Scalar.ensures
    c.change.ensures.memory)

pub returns-in_ok-offsets-in-Whole-clause-memory : goal.returns-in_ok-offsets-in-Whole-clause-memory
returns-in_ok-offsets-in-Whole-clause-memory c =
    rw c.in-Whole.is (rw (c.deref.ensures.value, c.as_slice.ensures, c.in_ok-offsets-in-Whole.ensures) at c.write_cells.ensures.memory)

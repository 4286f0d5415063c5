use Rattle.std.proofs.Common.{pos, ◌+◌, length, ap, ◌∙◌}
use Rattle.cs_events.specs.Objects.{HeapBlock, PointerCell}
use Rattle.cs_meaning.specs.Machine.{State, push_cell}
use Rattle.cs_meaning.specs.Memory.{with_block}
use Rattle.cs_memory.specs.MemoryView.{memory_of}
use Rattle.cs_objects.specs.BlockView.{block_of}
use Rattle.cs_run_state.specs.MachineView.{state_of}
use Rattle.cs_run_state.proofs.MachineStates.{state_allocated}
use Rattle.cs_run_state.proofs.machine.Machine.add_block.Goals as goal

pub returns : goal.returns
unfolding state_of
returns c =
    let next = length c.args.self.now.memory.heap.items + 1 in
    rw c.requires ((rw c.requires at c.in_ok-push_cell.ensures)
    ∙ ap (λ (m : State). push_cell (PointerCell (HeapBlock next) (pos 0)) m)
    (state_allocated c.args.self.now c.allocate.new.self (with_block (HeapBlock next) (block_of c.args.block) (memory_of c.args.self.now.memory))
    c.in_ok-allocate.ensures.memory c.in_ok-allocate.ensures.frames c.in_ok-allocate.ensures.allocations))

use Rattle.std.proofs.Common.{ap, ◌∙◌}
use Rattle.cs_events.specs.Objects.{NullCell}
use Rattle.cs_meaning.specs.Machine.{State, push_cell}
use Rattle.cs_memory.specs.MemoryView.{memory_of}
use Rattle.cs_run_state.specs.MachineView.{state_of}
use Rattle.cs_run_state.proofs.MachineStates.{state_allocated}
use Rattle.cs_run_state.proofs.machine.Machine.add_none.Goals as goal

pub returns : goal.returns
unfolding state_of
returns c =
    c.in_ok-push_cell.ensures ∙ ap (λ (m : State). push_cell NullCell m)
    (state_allocated c.args.self.now c.allocate_none.new.self (memory_of c.args.self.now.memory) c.in_ok-allocate_none.ensures.memory
    c.in_ok-allocate_none.ensures.frames c.in_ok-allocate_none.ensures.allocations)

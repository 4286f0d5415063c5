use Rattle.cs_events.specs.Objects.{LocalObject}
use Rattle.cs_meaning.specs.Memory.{changed, refill}
use Rattle.cs_memory.specs.MemoryView.{memory_of}
use Rattle.cs_objects.specs.BlockView.{fill_of}
use Rattle.cs_run_state.specs.MachineView.{state_of}
use Rattle.cs_run_state.proofs.MachineStates.{state_with}
use Rattle.cs_run_state.proofs.machine.Machine.refill_local.Goals as goal

pub returns : goal.returns
unfolding state_of
returns c =
    state_with c.args.self.now c.change.new.self
    (changed (refill (fill_of c.args.fill)) (LocalObject c.args.self.now.frame.number c.args.declaration) (memory_of c.args.self.now.memory))
    c.in_ok-change.ensures.memory c.in_ok-change.ensures.counts

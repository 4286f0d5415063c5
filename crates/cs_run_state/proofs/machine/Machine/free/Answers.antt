use Rattle.cs_model.specs.declared.standing.Standing.TheVariants.{Freed}
use Rattle.cs_meaning.specs.Memory.{changed, stand}
use Rattle.cs_values.specs.View.{object_of}
use Rattle.cs_memory.specs.MemoryView.{memory_of}
use Rattle.cs_run_state.specs.MachineView.{state_of}
use Rattle.cs_run_state.proofs.MachineStates.{state_with}
use Rattle.cs_run_state.proofs.machine.Machine.free.Goals as goal

pub returns : goal.returns
unfolding state_of
returns c =
    state_with c.args.self.now c.change.new.self (changed (stand Freed) (object_of c.args.object.now) (memory_of c.args.self.now.memory))
    c.in_ok-change.ensures.memory c.in_ok-change.ensures.counts

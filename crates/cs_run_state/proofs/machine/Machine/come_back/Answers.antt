use Rattle.std.proofs.Common.{◌∙◌}
use Rattle.cs_meaning.specs.Calls.{without_locals}
use Rattle.cs_values.specs.View.{operand_of}
use Rattle.cs_memory.specs.MemoryView.{memory_of}
use Rattle.cs_run_state.specs.MachineView.{state_of}
use Rattle.cs_run_state.proofs.MachineStates.{state_in_frame}
use Rattle.cs_run_state.proofs.machine.Machine.come_back.Goals as goal

pub returns : goal.returns
unfolding state_of
returns c =
    c.in_ok-push.ensures ∙ state_in_frame c.args.self.now c.args.caller c.end_frame.new.self (operand_of c.args.value)
    (without_locals c.args.self.now.frame.number (memory_of c.args.self.now.memory)) c.end_frame.ensures.memory c.end_frame.ensures.counts

use Rattle.std.proofs.Common.{ap}
use Rattle.cs_ast.specs.TypedProgram.{typed_program}
use Rattle.cs_events.specs.Acts.{Goes}
use Rattle.cs_events.specs.Objects.{LocalObject}
use Rattle.cs_meaning.specs.Access.{write_bytes}
use Rattle.cs_meaning.specs.Machine.{State}
use Rattle.cs_meaning.specs.Memory.{changed}
use Rattle.cs_memory.specs.MemoryView.{memory_of}
use Rattle.cs_run_state.specs.MachineView.{state_of}
use Rattle.cs_run_state.proofs.MachineStates.{state_with}
use Rattle.cs_run_state.proofs.machine.Machine.spell_local.Goals as goal

pub returns : goal.returns
unfolding state_of
returns c =
    ap (λ (m : State). Goes m) (state_with c.args.self.now c.write_bytes.new.self
    (changed (write_bytes (typed_program c.args.program.now) c.args.offset c.args.bytes.now) (LocalObject c.args.self.now.frame.number c.args.declaration)
    (memory_of c.args.self.now.memory)) c.in_ok-write_bytes.ensures.memory c.in_ok-write_bytes.ensures.counts)

use Rattle.std.proofs.Common.{ap, ◌∙◌}
use Rattle.cs_types.specs.Shape.{shape_of}
use Rattle.cs_ast.specs.TypedProgram.{typed_program}
use Rattle.cs_events.specs.Objects.{LocalObject}
use Rattle.cs_meaning.specs.Access.{write_operand}
use Rattle.cs_meaning.specs.Machine.{Operand, State, with_memory, operand_at}
use Rattle.cs_meaning.specs.Memory.{changed}
use Rattle.cs_memory.specs.MemoryView.{memory_of}
use Rattle.cs_run_state.specs.MachineView.{state_of}
use Rattle.cs_run_state.proofs.MachineStates.{state_with}
use Rattle.cs_run_state.proofs.machine.Machine.store_newest.Goals as goal

pub returns : goal.returns
unfolding state_of
returns c =
    let popped = c.pop-operand.new.self in
    let program = typed_program c.args.setting.now.program.now in
    let ty = shape_of c.args.ty.now in
    let stored = c.in_ok-write_operand.ensures.memory
    ∙ ap (λ (o : Operand).
    changed (write_operand program ty c.args.offset o) (LocalObject popped.frame.number c.args.declaration) (memory_of popped.memory))
    c.pop-operand.ensures.operand in
    let newest = operand_at (state_of c.args.self.now) 0 in
    state_with popped c.write_operand.new.self
    (changed (write_operand program ty c.args.offset newest) (LocalObject popped.frame.number c.args.declaration) (memory_of popped.memory)) stored
    c.in_ok-write_operand.ensures.counts
    ∙ ap (λ (m : State). with_memory (changed (write_operand program ty c.args.offset newest) (LocalObject m.frame.number c.args.declaration) m.memory) m)
    c.pop-operand.ensures.state

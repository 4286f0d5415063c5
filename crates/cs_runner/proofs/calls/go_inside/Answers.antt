use Rattle.std.proofs.Common.{◌≡◌, [], ◌∷◌, ◌++◌, length, ap, ◌∙◌}
use Rattle.cs_run_state.specs.declared.machine.Frame.{Frame}
use Rattle.cs_memory.specs.MemoryView.{memory_of, with_frame}
use Rattle.cs_objects.specs.BlockView.{block_at}
use Rattle.cs_run_state.specs.MachineView.{state_of}
use Rattle.cs_run_state.proofs.MachineStates.{state_inside}
use Rattle.cs_runner.proofs.calls.go_inside.Goals as goal

pub returns : goal.returns
unfolding state_of
returns c =
    let m = c.args.state.now in
    let called : c.push.new.self.items ≡ m.callers.items ++ m.frame ∷ [] = c.in_ok-push.ensures.items
    ∙ ap (λ (f : Frame). m.callers.items ++ f ∷ []) c.replace-caller.ensures.value in
    rw c.replace-caller.ensures.after (state_inside m c.args.frame c.push.new.self c.add_frame.new.self
    (with_frame (length m.memory.frames.items) (block_at c.args.locals.items) (memory_of m.memory)) called c.in_ok-add_frame.ensures.memory
    c.in_ok-add_frame.ensures.frames c.in_ok-add_frame.ensures.allocations)

use Rattle.std.proofs.Common.{◌≡◌, List, [], ◌∷◌, ◌++◌, map, reverse, ap, ◌∙◌}
use Rattle.cs_run_state.specs.declared.machine.Frame.{Frame}
use Rattle.cs_objects.specs.BlockView.{block_at}
use Rattle.cs_run_state.specs.MachineView.{state_of}
use Rattle.cs_run_state.proofs.States.{reverse-map-push}
use Rattle.cs_positions.specs.declared.positions.Position.{Position}
use Rattle.cs_replay.specs.declared.replayer.Caller.{Caller}
use Rattle.cs_replay.specs.ReplayerView.{caller_of, callers_of}
use Rattle.cs_replay.proofs.FrameStates.{inside_state}
use Rattle.cs_replay.proofs.replayer.Replayer.go_inside.Goals as goal

pub returns-clause-state : goal.returns-clause-state
unfolding state_of
returns-clause-state c =
    let run = c.args.self.now in
    let code = run.code.now in
    let machine = run.runner.machine in
    let waiting : Frame → Caller = λ frame. record { frame = frame; position = run.position } in
    let start : Position = record { block = c.args.block; done = 0 } in
    let called : c.push.new.self.items ≡ run.callers.items ++ waiting machine.frame ∷ [] = c.in_ok-push.ensures.items
    ∙ ap (λ (frame : Frame). run.callers.items ++ waiting frame ∷ []) c.replace.ensures.value in
    let callers : callers_of code c.push.new.self.items ≡ caller_of code (waiting machine.frame) ∷ callers_of code run.callers.items =
    ap (λ (l : List Caller). reverse (map (caller_of code) l)) called ∙ reverse-map-push (caller_of code) run.callers.items (waiting machine.frame) in
    rw c.replace.ensures.after (inside_state code run.position start machine c.args.frame c.push.new.self.items run.callers.items c.add_frame.new.self
    (block_at c.args.locals.items) callers c.in_ok-add_frame.ensures.memory c.in_ok-add_frame.ensures.frames c.in_ok-add_frame.ensures.allocations)

-- How a run begins: for the contract of `begin`.
use Rattle.std.proofs.Common.{◌≡◌, ℕ, ℤ, [], unwrap_or, ap, ◌∙◌}
use Rattle.cs_inputs.specs.declared.path.Path.{Path}
use Rattle.cs_ast.specs.TypedProgram.{TypedProgram, Routine}
use Rattle.cs_meaning.specs.Machine.{Frame, State}
use Rattle.cs_meaning.specs.Steps.{started}
use Rattle.cs_run_state.specs.declared.machine.Frame as f
use Rattle.cs_run_state.specs.declared.machine.Machine.{Machine}
use Rattle.cs_run_state.specs.MachineView.{frame_of, state_of}
use Rattle.cs_cfg.specs.declared.code.Code.{Code}
use Rattle.cs_cfg.specs.CodeSteps.{code_started}
use Rattle.cs_cfg.specs.Graph.{Point, Flow, no_flow, flow_of, block_of}
use Rattle.cs_cfg.specs.GraphView as view
use Rattle.cs_cfg.specs.Working.{CodeState}
use Rattle.cs_positions.specs.declared.positions.Position.{Position}
use Rattle.cs_replay.specs.CodeStates.{at_point, code_state, begun}
use Rattle.cs_positions.specs.Points.{point_of}

-- the beginning of a block
abbrev pub at_block : ℕ → Position
at_block block = record { block = block; done = 0 }

-- the first state of the reference machine, with the frame of an entry's graph
pub started_is : (code : Code) (program : TypedProgram) (inputs : Path
    → ℤ) (entry : ℕ) (routine : Routine) (block : ℕ) (machine : Machine) (frame : f.Frame)
    → block ≡ (unwrap_or (flow_of (view.code code) entry) no_flow).entry
    → frame_of frame ≡ begun entry 0 (unwrap_or (flow_of (view.code code) entry) no_flow).counted_points
    → state_of machine ≡ started program inputs entry routine
    → code_state (point_of code (at_block block)) [] (state_of (record machine { frame = frame }))
    ≡ code_started (view.code code) program inputs entry routine
unfolding state_of
started_is code program inputs entry routine block machine frame at is begins =
    let flow : Flow = unwrap_or (flow_of (view.code code) entry) no_flow in
    let reported : Point → Frame → State → CodeState =
    λ p one m. record { frame = at_point p one; callers = []; memory = m.memory; frames = m.frames; allocations = m.allocations; calls = m.calls } in
    ap (λ (one : Frame). reported (point_of code (at_block block) one.function) one (state_of machine)) is
    ∙ (ap (λ (b : ℕ). reported (block_of flow b) (begun entry 0 flow.counted_points) (state_of machine)) at
    ∙ ap (λ (m : State). reported (block_of flow flow.entry) (begun entry 0 flow.counted_points) m) begins)

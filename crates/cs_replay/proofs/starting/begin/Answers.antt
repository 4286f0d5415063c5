use Rattle.std.proofs.Common.{◌≡◌, ℕ, List, sym, ap, ◌∙◌}
use Rattle.std.specs.Prelude.{Option, unwrap_or}
use Rattle.cs_inputs.specs.Inputs.{number_at}
use Rattle.cs_ast.specs.TypedProgram.{typed_program}
use Rattle.cs_meaning.specs.Machine.{routine_of}
use Rattle.cs_run_state.specs.declared.machine.Machine.{Machine}
use Rattle.cs_run_state.specs.MachineView.{frame_of, state_of}
use Rattle.cs_cfg.specs.Graph.{Flow, no_flow, flow_of}
use Rattle.cs_cfg.specs.GraphView as view
use Rattle.cs_replay.specs.declared.replayer.Caller.{Caller}
use Rattle.cs_replay.specs.CodeStates.{code_state, begun}
use Rattle.cs_positions.specs.Points.{point_of}
use Rattle.cs_replay.specs.ReplayerView.{callers_of}
use Rattle.cs_replay.proofs.Beginning.{at_block, started_is}
use Rattle.cs_replay.proofs.starting.begin.Goals as goal

pub returns-clause-state : goal.returns-clause-state
returns-clause-state c =
    let code = c.args.code.now in
    let program = typed_program c.args.setting.now.program.now in
    let block = c.beginning-block.result.0 in
    let points = point_of code (at_block block) in
    let frame = c.in_ok-frame.frame in
    let machine = record c.in_ok-machine.machine { frame = frame } in
    let flow = unwrap_or (flow_of (view.code code) c.args.entry) no_flow in
    let found = sym c.flow_at.ensures in
    let at : block ≡ flow.entry = c.beginning-block.ensures.entry ∙ ap (λ (f : Option Flow). (unwrap_or f no_flow).entry) found in
    let counted_points : c.beginning-block.result.1 ≡ flow.counted_points = c.beginning-block.ensures.counted_points
    ∙ ap (λ (f : Option Flow). (unwrap_or f no_flow).counted_points) found in
    let is : frame_of frame ≡ begun c.args.entry 0 flow.counted_points = c.in_ok-frame.ensures ∙ ap (λ (n : ℕ). begun c.args.entry 0 n) counted_points in
    ap (λ (m : Machine). code_state points (callers_of code c.new-callers.result.items) (state_of m)) c.put_in.ensures
    ∙ (ap (λ (waiting : List Caller). code_state points (callers_of code waiting) (state_of machine)) c.new-callers.ensures.items
    ∙ started_is code program (number_at c.args.setting.now.inputs.now) c.args.entry (routine_of program c.args.entry) block c.in_ok-machine.machine frame at
    is c.in_ok-machine.ensures)

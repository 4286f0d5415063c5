use Rattle.std.proofs.Common.{◌≡◌, ◌+◌, refl, ap, ◌∙◌}
use Rattle.cs_meaning.specs.Calls.{leave}
use Rattle.cs_meaning.specs.Machine.{Operand, State, operand_at, pop}
use Rattle.cs_values.specs.View.{operand_of}
use Rattle.cs_run_state.specs.MachineView.{state_of}
use Rattle.cs_cfg.specs.Working as working
use Rattle.cs_replay.specs.CodeStates.{code_state}
use Rattle.cs_positions.specs.Points.{point_of}
use Rattle.cs_replay.specs.ReplayerView.{callers_of, state_in}
use Rattle.cs_replay.specs.Works.{cut_to}
use Rattle.cs_replay.proofs.Leading.{leaves_alike}
use Rattle.cs_replay.proofs.Passing.{performs_as}
use Rattle.cs_replay.proofs.replayer.Replayer.give_back.Goals as goal

pub returns : goal.returns
returns c =
    let run = c.args.self.now in
    let machine = state_of run.runner.machine in
    let points = point_of run.code.now run.position in
    let callers = callers_of run.code.now run.callers.items in
    let cut = rw c.from.ensures at c.cut.ensures in
    let given : operand_of c.pop-value.result ≡ operand_at (working.cut (c.args.temporary + 1) (state_in run)) 0 = c.pop-value.ensures.operand
    ∙ ap (λ (m : State). operand_at m 0) cut in
    let popped : state_of c.pop-value.new.self ≡ pop (cut_to (c.args.temporary + 1) machine) = c.pop-value.ensures.state ∙ ap (λ (m : State). pop m) cut in
    let same : leave (operand_of c.pop-value.result) (code_state points callers (state_of c.pop-value.new.self))
    ≡ leave (operand_at (working.cut (c.args.temporary + 1) (state_in run)) 0) (state_in run) =
    ap (λ (m : State). leave (operand_of c.pop-value.result) (code_state points callers m)) popped
    ∙ (leaves_alike (operand_of c.pop-value.result) (pop (cut_to (c.args.temporary + 1) machine)).frame.stack points callers machine
    ∙ ap (λ (value : Operand). leave value (state_in run)) given) in
    performs_as refl refl refl same c.leave.ensures

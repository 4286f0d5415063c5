use Rattle.std.proofs.Common.{ap}
use Rattle.cs_meaning.specs.Machine.{State}
use Rattle.cs_run_state.specs.MachineView.{state_of}
use Rattle.cs_replay.specs.CodeStates.{code_state}
use Rattle.cs_positions.specs.Points.{point_of}
use Rattle.cs_replay.specs.ReplayerView.{callers_of}
use Rattle.cs_replay.proofs.replayer.Replayer.come_back.Goals as goal

pub returns-clause-state : goal.returns-clause-state
unfolding state_of
returns-clause-state c =
    let run = c.args.self.now in
    ap (λ (m : State). code_state (point_of run.code.now c.args.caller.position) (callers_of run.code.now run.callers.items) m)
    c.in_ok-come_back.ensures

use Rattle.std.proofs.Common.{◌≡◌, ◌+◌, refl, ap}
use Rattle.cs_meaning.specs.Machine.{State}
use Rattle.cs_run_state.specs.MachineView.{state_of}
use Rattle.cs_cfg.specs.GraphView as view
use Rattle.cs_cfg.specs.Working.{takes, do_work}
use Rattle.cs_replay.specs.CodeStates.{code_state}
use Rattle.cs_positions.specs.Points.{point_of}
use Rattle.cs_replay.specs.ReplayerView.{program_of, budgets_of, code_of, callers_of}
use Rattle.cs_replay.specs.Works.{cut_to}
use Rattle.cs_replay.proofs.Passing.{performs_as}
use Rattle.cs_replay.proofs.replayer.Replayer.operate.Goals as goal

pub returns : goal.returns
returns c =
    let run = c.args.self.now in
    let operation = c.args.operation.now in
    let cut : state_of c.cut.new.state ≡ cut_to (operation.temporary + takes (view.work operation.work)) (state_of run.runner.machine) =
    rw (c.from.ensures, c.from-2.ensures, c.takes.ensures) at c.cut.ensures in
    let same =
    ap (λ (m : State).
    do_work (code_of run) (program_of run) (budgets_of run) operation.place (view.work operation.work)
    (code_state (point_of run.code.now run.position) (callers_of run.code.now run.callers.items) m)) cut in
    performs_as refl refl refl same c.work.ensures

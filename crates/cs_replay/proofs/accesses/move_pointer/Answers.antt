use Rattle.std.proofs.Common.{refl, subst}
use Rattle.cs_meaning.specs.Access.{Access}
use Rattle.cs_run_state.specs.MachineView.{state_of}
use Rattle.cs_run_log.specs.Pieces.{LeadsOrEnds}
use Rattle.cs_run_state.specs.Updates.{move_act}
use Rattle.cs_runner.specs.RunnerView.{program_of, state_in}
use Rattle.cs_replay.proofs.Stepping.{on_ok}
use Rattle.cs_replay.proofs.accesses.move_pointer.Goals as goal

pub returns : goal.returns
returns c =
    let run = c.args.run.now in
    let done =
    subst (λ (object : Access).
    LeadsOrEnds run.setting.now run.log c.move_pointer.new.log c.move_pointer.result
    (move_act (program_of run) c.args.place object c.args.bytes c.args.direction c.args.gives (state_in run)) (state_of c.move_pointer.new.self))
    c.access_to-access.ensures c.move_pointer.ensures in
    record { ok = done.ok; err = done.err; kept = on_ok c.move_pointer.result (λ _. refl) done.ok }

use Rattle.std.proofs.Common.{refl, subst}
use Rattle.cs_meaning.specs.Access.{Access}
use Rattle.cs_run_state.specs.MachineView.{state_of}
use Rattle.cs_run_log.specs.Pieces.{LeadsOrEnds}
use Rattle.cs_run_state.specs.Updates.{fetch_number_act}
use Rattle.cs_runner.specs.RunnerView.{program_of, state_in}
use Rattle.cs_replay.proofs.Stepping.{on_ok}
use Rattle.cs_replay.proofs.accesses.fetch_number.Goals as goal

pub returns : goal.returns
returns c =
    let run = c.args.run.now in
    let done =
    subst (λ (object : Access).
    LeadsOrEnds run.setting.now run.log c.fetch_number.new.log c.fetch_number.result
    (fetch_number_act (program_of run) c.args.place object c.args.works_in (state_in run)) (state_of c.fetch_number.new.self)) c.access_to-access.ensures
    c.fetch_number.ensures in
    record { ok = done.ok; err = done.err; kept = on_ok c.fetch_number.result (λ _. refl) done.ok }

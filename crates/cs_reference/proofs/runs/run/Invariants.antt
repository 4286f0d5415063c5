-- The run has led from its beginning to the state that it is in.
use Rattle.std.proofs.Common.{◌≡◌}
use Rattle.cs_ast.specs.TypedProgram.{typed_program}
use Rattle.cs_events.specs.Runs.{Leads, empty}
use Rattle.cs_meaning.specs.Steps.{step}
use Rattle.cs_meaning.specs.ProgramRuns as meaning
use Rattle.cs_run_log.specs.LogView.{setting_of, log_of}
use Rattle.cs_run_state.specs.MachineView.{state_of}
use Rattle.cs_runner.specs.RunView.{run_of}
use Rattle.cs_reference.proofs.Remaining.{steps_left}
use Rattle.cs_reference.proofs.runs.run.Given as goal

abbrev pub invariant-loop-outcome : goal.invariant-loop-outcome
invariant-loop-outcome l = record {
  leads : Leads (step (typed_program l.setting.program.now) l.setting.budgets) (setting_of l.setting)
      (meaning.start_of (typed_program l.setting.program.now) l.entry (run_of l.setting)) empty (state_of l.runner.machine) (log_of l.runner.log);
  kept : l.runner.setting.now ≡ l.setting;
}

abbrev pub decreases-loop-outcome : goal.decreases-loop-outcome
decreases-loop-outcome l = steps_left (typed_program l.runner.setting.now.program.now) l.runner.setting.now.budgets (setting_of l.runner.setting.now)
    (state_of l.runner.machine) (log_of l.runner.log)

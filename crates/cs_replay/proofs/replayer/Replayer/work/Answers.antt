use Rattle.std.proofs.Common.{◌≡◌, Err, rules}
use Rattle.cs_run_log.specs.LogView.{setting_of, log_of}
use Rattle.cs_run_state.specs.MachineView.{state_of}
use Rattle.cs_cfg.specs.GraphView as view
use Rattle.cs_cfg.specs.Working.{do_work}
use Rattle.cs_replay.specs.CodeStates.{code_state}
use Rattle.cs_positions.specs.Points.{point_of}
use Rattle.cs_replay.specs.ReplayerView.{program_of, budgets_of, code_of, callers_of, state_in}
use Rattle.cs_replay.specs.Works.{works}
use Rattle.cs_replay.proofs.Leading.{ends_so}
use Rattle.cs_replay.proofs.Performs.{leads_so}
use Rattle.cs_replay.proofs.Reported.{work_reported}
use Rattle.cs_replay.proofs.replayer.Replayer.work.Goals as goal

pub returns-in_err-work-in_default : goal.returns-in_err-work-in_default
returns-in_err-work-in_default c = record {
  ok = search rules;
  err =
      let run = c.args.self.now in
      let points = point_of run.code.now run.position in
      let callers = callers_of run.code.now run.callers.items in
      let m = state_of run.runner.machine in
      let one = c.args.one.now in
      let stop = c.in_err-work-in_default.field-0.0 in
      let there : c.from_residual.result ≡ Err stop = search rules in
      let reported = work_reported points callers (code_of run) (program_of run) (budgets_of run) c.args.place one m
      (λ callee count is. c.in_default.not-Call callee count is) in
      rw there (ends_so (setting_of run.runner.setting.now) (log_of run.runner.log) (log_of c.work.new.run.log) (code_state points callers)
      (works (program_of run) (budgets_of run) c.args.place (view.work one) m)
      (do_work (code_of run) (program_of run) (budgets_of run) c.args.place (view.work one) (state_in run)) stop reported
      c.in_err-work-in_default.ensures.err);
  kept = search rules;
}

pub returns-in_ok-work-in_default : goal.returns-in_ok-work-in_default
returns-in_ok-work-in_default c = record {
  ok =
      let run = c.args.self.now in
      let points = point_of run.code.now run.position in
      let callers = callers_of run.code.now run.callers.items in
      let m = state_of run.runner.machine in
      let one = c.args.one.now in
      let reported = work_reported points callers (code_of run) (program_of run) (budgets_of run) c.args.place one m
      (λ callee count is. c.in_default.not-Call callee count is) in
      leads_so (code_state points callers) (setting_of run.runner.setting.now) (log_of run.runner.log) (log_of c.work.new.run.log)
      (works (program_of run) (budgets_of run) c.args.place (view.work one) m)
      (do_work (code_of run) (program_of run) (budgets_of run) c.args.place (view.work one) (state_in run)) (state_of c.work.new.run.machine) reported
      c.in_ok-work-in_default.ensures.ok;
  err = search rules;
  kept = search rules;
}

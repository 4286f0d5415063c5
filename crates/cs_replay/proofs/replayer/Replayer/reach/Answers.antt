use Rattle.std.proofs.Common.{◌≡◌, Err, rules}
use Rattle.cs_meaning.specs.CountedPoints.{reach_counted_point}
use Rattle.cs_run_log.specs.LogView.{setting_of, log_of}
use Rattle.cs_run_state.specs.MachineView.{state_of}
use Rattle.cs_cfg.specs.Working as working
use Rattle.cs_replay.specs.CodeStates.{code_state}
use Rattle.cs_positions.specs.Points.{point_of}
use Rattle.cs_replay.specs.ReplayerView.{program_of, budgets_of, code_of, callers_of, state_in}
use Rattle.cs_replay.specs.Works.{cut_to}
use Rattle.cs_replay.proofs.Leading.{ends_so}
use Rattle.cs_replay.proofs.Performs.{leads_so}
use Rattle.cs_replay.proofs.Reported.{counted_point_reported}
use Rattle.cs_replay.proofs.replayer.Replayer.reach.Goals as goal

pub returns-in_err-reach_counted_point : goal.returns-in_err-reach_counted_point
returns-in_err-reach_counted_point c = record {
  ok = search rules;
  err =
      let run = c.args.self.now in
      let counted_point = c.args.counted_point.now in
      let m = cut_to 0 (state_of run.runner.machine) in
      let points = point_of run.code.now run.position in
      let callers = callers_of run.code.now run.callers.items in
      let there : c.from_residual.result ≡ Err c.in_err-reach_counted_point.field-0.0 = search rules in
      let ends = rw (c.cut.ensures, c.from.ensures) at c.in_err-reach_counted_point.ensures.err in
      rw there (ends_so (setting_of run.runner.setting.now) (log_of run.runner.log) (log_of c.reach_counted_point.new.self.log) (code_state points callers)
      (reach_counted_point (budgets_of run) counted_point.place counted_point.kind counted_point.number m)
      (reach_counted_point (budgets_of run) counted_point.place counted_point.kind counted_point.number (working.cut 0 (state_in run)))
      c.in_err-reach_counted_point.field-0.0 (counted_point_reported points callers (code_of run) (program_of run) (budgets_of run) counted_point.place
      counted_point.kind counted_point.number m) ends);
  kept = search rules;
}

pub returns : goal.returns
returns c = record {
  ok =
      let run = c.args.self.now in
      let counted_point = c.args.counted_point.now in
      let m = cut_to 0 (state_of run.runner.machine) in
      let points = point_of run.code.now run.position in
      let callers = callers_of run.code.now run.callers.items in
      let leads = rw (c.cut.ensures, c.from.ensures) at c.in_ok-reach_counted_point.ensures.ok in
      leads_so (code_state points callers) (setting_of run.runner.setting.now) (log_of run.runner.log) (log_of c.reach_counted_point.new.self.log)
      (reach_counted_point (budgets_of run) counted_point.place counted_point.kind counted_point.number m)
      (reach_counted_point (budgets_of run) counted_point.place counted_point.kind counted_point.number (working.cut 0 (state_in run)))
      (state_of c.reach_counted_point.new.self.machine)
      (counted_point_reported points callers (code_of run) (program_of run) (budgets_of run) counted_point.place counted_point.kind counted_point.number m)
      leads;
  err = search rules;
  kept = search rules;
}

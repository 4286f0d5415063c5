use Rattle.std.proofs.Common.{◌≡◌, Err, map, refl, sym, ap, rules}
use Rattle.cs_meaning.specs.Calls as calls
use Rattle.cs_meaning.specs.Machine.{State, pop_many, routine_of}
use Rattle.cs_values.specs.View.{operand_of}
use Rattle.cs_run_log.specs.LogView.{setting_of, log_of}
use Rattle.cs_run_state.specs.MachineView.{state_of}
use Rattle.cs_cfg.specs.Graph as graph
use Rattle.cs_cfg.specs.Graph.{flow_of}
use Rattle.cs_cfg.specs.GraphView as view
use Rattle.cs_cfg.specs.Working.{do_work}
use Rattle.cs_replay.specs.CodeStates.{code_state}
use Rattle.cs_positions.specs.Points.{point_of}
use Rattle.cs_replay.specs.ReplayerView.{program_of, budgets_of, code_of, callers_of, state_in}
use Rattle.cs_replay.proofs.Entering.{enters_is, no_body}
use Rattle.cs_replay.proofs.Leading.{ends_so}
use Rattle.cs_replay.proofs.Passing.{performs_as}
use Rattle.cs_replay.proofs.Performs.{leads_so}
use Rattle.cs_replay.proofs.Reported.{call_reported}
use Rattle.cs_replay.proofs.replayer.Replayer.call.Goals as goal

pub returns-in_ok-arguments-in-Some : goal.returns-in_ok-arguments-in-Some
returns-in_ok-arguments-in-Some c =
    let run = c.args.self.now in
    let points = point_of run.code.now run.position in
    let callers = callers_of run.code.now run.callers.items in
    let given = map operand_of c.in_ok-arguments-in-Some.arguments.items in
    let left = code_state points callers (state_of c.pop_newest.new.state) in
    let is : left ≡ pop_many c.args.count (state_in run) = ap (λ (m : State). code_state points callers m) c.in_ok-arguments-in-Some.ensures.state in
    let same = enters_is (program_of run) (budgets_of run) c.args.place c.args.function c.args.count (routine_of (program_of run) c.args.function)
    (flow_of (code_of run) c.args.function) (state_in run) left given (view.flow c.in-Some.flow.now) c.in-Some.ensures
    c.in_ok-arguments-in-Some.ensures.operands is in
    performs_as refl refl refl (sym same) c.enter.ensures

pub returns-in_err-call-in-None : goal.returns-in_err-call-in-None
returns-in_err-call-in-None c = record {
  ok = search rules;
  err =
      let run = c.args.self.now in
      let points = point_of run.code.now run.position in
      let callers = callers_of run.code.now run.callers.items in
      let m = state_of run.runner.machine in
      let stop = c.in_err-call-in-None.field-0.0 in
      let body = no_body (flow_of (code_of run) c.args.function) (routine_of (program_of run) c.args.function).body (c.requires.graphs c.args.function)
      c.in-None.ensures in
      let reported = call_reported points callers (code_of run) (program_of run) (budgets_of run) c.args.place c.args.function c.args.count m c.in-None.ensures
      body in
      let there : c.from_residual-in_err-call-in-None.result ≡ Err stop = search rules in
      rw there (ends_so (setting_of run.runner.setting.now) (log_of run.runner.log) (log_of c.call.new.self.log) (code_state points callers)
      (calls.call (program_of run) (budgets_of run) c.args.place c.args.function c.args.count m)
      (do_work (code_of run) (program_of run) (budgets_of run) c.args.place (graph.Call c.args.function c.args.count) (state_in run)) stop reported
      c.in_err-call-in-None.ensures.err);
  kept = search rules;
}

pub returns-in_ok-call-in-None : goal.returns-in_ok-call-in-None
returns-in_ok-call-in-None c = record {
  ok =
      let run = c.args.self.now in
      let points = point_of run.code.now run.position in
      let callers = callers_of run.code.now run.callers.items in
      let m = state_of run.runner.machine in
      let body = no_body (flow_of (code_of run) c.args.function) (routine_of (program_of run) c.args.function).body (c.requires.graphs c.args.function)
      c.in-None.ensures in
      let reported = call_reported points callers (code_of run) (program_of run) (budgets_of run) c.args.place c.args.function c.args.count m c.in-None.ensures
      body in
      leads_so (code_state points callers) (setting_of run.runner.setting.now) (log_of run.runner.log) (log_of c.call.new.self.log)
      (calls.call (program_of run) (budgets_of run) c.args.place c.args.function c.args.count m)
      (do_work (code_of run) (program_of run) (budgets_of run) c.args.place (graph.Call c.args.function c.args.count) (state_in run))
      (state_of c.call.new.self.machine) reported c.in_ok-call-in-None.ensures.ok;
  err = search rules;
  kept = search rules;
}

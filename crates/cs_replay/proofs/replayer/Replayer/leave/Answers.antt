use Rattle.std.proofs.Common.{rules, ◌≡◌, List, sym, ap, ◌∙◌}
use Rattle.std.specs.Borrow.{Bor}
use Rattle.cs_events.specs.declared.outcome.Outcome.TheVariants.{Done}
use Rattle.cs_events.specs.declared.outcome.Returned.{Returned}
use Rattle.cs_events.specs.Runs.{Log, Performed, Finishes, perform}
use Rattle.cs_meaning.specs.Calls.{leave, leave_to, returned_of}
use Rattle.cs_meaning.specs.Machine.{CallFrame}
use Rattle.cs_values.specs.View.{operand_of}
use Rattle.cs_run_log.specs.LogView.{setting_of, log_of}
use Rattle.cs_cfg.specs.declared.code.Code.{Code}
use Rattle.cs_cfg.specs.Graph.{Point}
use Rattle.cs_cfg.specs.Working.{CodeState}
use Rattle.cs_runner.specs.declared.runner.Runner.{Runner}
use Rattle.cs_replay.specs.FrameChanges.{back_in}
use Rattle.cs_replay.specs.ReplayerView.{caller_of, state_in}
use Rattle.cs_replay.proofs.Leading.{arrives, goes_so, stops_so}
use Rattle.cs_replay.proofs.replayer.Replayer.leave.Goals as goal

pub returns-in_ok-come_back-in-Some : goal.returns-in_ok-come_back-in-Some
returns-in_ok-come_back-in-Some c = record {
  ok =
      let run = c.args.self.now in
      let value = operand_of c.args.value in
      let setting = setting_of run.runner.setting.now in
      let log = log_of run.runner.log in
      let following = state_in c.pop_caller.new.self in
      let caller = caller_of run.code.now c.in-Some.caller in
      let leads = ap (λ (t : CodeState). perform setting log (leave value t)) c.in-Some.ensures.some
      ∙ goes_so setting log (back_in caller value following) in
      let state : state_in c.come_back.new.self ≡ back_in caller value following =
      c.in_ok-come_back-in-Some.ensures.state
      ∙ ap (λ (code : Bor Code). back_in (caller_of code.now c.in-Some.caller) value following) c.in-Some.ensures.kept.code in
      let same_log : log_of c.come_back.new.self.runner.log ≡ log = ap log_of c.in_ok-come_back-in-Some.ensures.log
      ∙ ap (λ (w : Runner). log_of w.log) c.in-Some.ensures.log in
      arrives setting log (leave value (state_in run)) (back_in caller value following) (state_in c.come_back.new.self) log
      (log_of c.come_back.new.self.runner.log) leads state same_log;
  err = search rules;
  kept = search rules;
}

pub returns-in-None : goal.returns-in-None
returns-in-None c = record {
  ok = search rules;
  err =
      let run = c.args.self.now in
      let value = operand_of c.args.value in
      let setting = setting_of run.runner.setting.now in
      let log = log_of run.runner.log in
      let done : Returned → Log → Performed CodeState = λ given end. Finishes (Done given) end in
      ap (λ (callers : List (CallFrame Point)). perform setting log (leave_to callers value (state_in run))) c.in-None.ensures.none
      ∙ (stops_so setting log (Done (returned_of value))
      ∙ (ap (λ (given : Returned). done given log) (sym c.returned.ensures)
      ∙ ap (λ (w : Runner). done c.returned.result (log_of w.log)) (sym c.in-None.ensures.log)));
  kept = search rules;
}

use Rattle.std.proofs.Common.{rules, ap}
use Rattle.cs_events.specs.Acts.{Goes}
use Rattle.cs_run_log.specs.LogView.{setting_of, log_of}
use Rattle.cs_cfg.specs.CodeSteps.{enters}
use Rattle.cs_replay.specs.ReplayerView.{code_of, state_in}
use Rattle.cs_replay.proofs.Leading.{arrives, goes_so}
use Rattle.cs_replay.proofs.replayer.Replayer.end_block.Goals as goal

pub returns-in-Jump : goal.returns-in-Jump
returns-in-Jump c = record {
  ok =
      let run = c.args.self.now in
      let setting = setting_of run.runner.setting.now in
      let log = log_of run.runner.log in
      let target = enters (code_of run) c.in-Jump.block (state_in run) in
      rw c.in-Jump.is (arrives setting log (Goes target) target (state_in c.enter_block.new.self) log (log_of c.enter_block.new.self.runner.log)
      (goes_so setting log target) c.enter_block.ensures.state (ap log_of c.enter_block.ensures.log));
  err = search rules;
  kept = search rules;
}

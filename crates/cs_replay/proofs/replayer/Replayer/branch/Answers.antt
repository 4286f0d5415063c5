use Rattle.std.proofs.Common.{◌≡◌, Err, ◌+◌, Bool, if◌then◌else◌, ap, ◌∙◌, rules}
use Rattle.cs_meaning.specs.Machine.{State, cell_at, pop}
use Rattle.cs_run_log.specs.LogView.{setting_of, log_of}
use Rattle.cs_run_state.specs.MachineView.{state_of}
use Rattle.cs_cfg.specs.CodeSteps.{do_end, enters}
use Rattle.cs_cfg.specs.Graph.{Branch}
use Rattle.cs_cfg.specs.Working as working
use Rattle.cs_cfg.specs.Working.{CodeState}
use Rattle.cs_replay.specs.CodeStates.{code_state}
use Rattle.cs_positions.specs.Points.{point_of}
use Rattle.cs_replay.specs.ReplayerView.{code_of, callers_of, state_in}
use Rattle.cs_replay.specs.Works.{cut_to}
use Rattle.cs_replay.proofs.Leading.{branches_so, no_branch, arrives}
use Rattle.cs_replay.proofs.replayer.Replayer.branch.Goals as goal

pub returns-in_err-holds : goal.returns-in_err-holds
returns-in_err-holds c = record {
  ok = search rules;
  err =
      let run = c.args.self.now in
      let m = cut_to (c.args.temporary + 1) (state_of run.runner.machine) in
      let ways : Bool → CodeState = λ holds.
      enters (code_of run) (if holds then c.args.one else c.args.other) (pop (working.cut (c.args.temporary + 1) (state_in run))) in
      let there : c.from_residual.result ≡ Err c.in_err-holds.field-0.0 = search rules in
      let ends = rw (c.cut.ensures, c.from.ensures) at c.in_err-holds.ensures.err in
      rw there (no_branch (setting_of run.runner.setting.now) (log_of run.runner.log) (log_of c.test.new.log) c.args.place (cell_at m 0) m ways
      c.in_err-holds.field-0.0 ends);
  kept = search rules;
}

pub returns : goal.returns
returns c = record {
  ok =
      let run = c.args.self.now in
      let m = cut_to (c.args.temporary + 1) (state_of run.runner.machine) in
      let ways : Bool → CodeState = λ holds.
      enters (code_of run) (if holds then c.args.one else c.args.other) (pop (working.cut (c.args.temporary + 1) (state_in run))) in
      let found = rw (c.cut.ensures, c.from.ensures) at c.in_ok-holds.ensures.ok in
      let points = point_of run.code.now run.position in
      let callers = callers_of run.code.now run.callers.items in
      let leads = branches_so (setting_of run.runner.setting.now) (log_of run.runner.log) (log_of c.test.new.log) c.args.place (cell_at m 0) m ways
      c.in_ok-holds.holds found.1 in
      let state : state_in c.enter_block.new.self ≡ ways c.in_ok-holds.holds =
      rw c.chosen.ensures at c.enter_block.ensures.state
      ∙ ap (λ (n : State). enters (code_of run) (if c.in_ok-holds.holds then c.args.one else c.args.other) (code_state points callers n)) found.0 in
      arrives (setting_of run.runner.setting.now) (log_of run.runner.log)
      (do_end (code_of run) (Branch c.args.place c.args.temporary c.args.one c.args.other) (state_in run)) (ways c.in_ok-holds.holds)
      (state_in c.enter_block.new.self) (log_of c.test.new.log) (log_of c.enter_block.new.self.runner.log) leads state
      (ap log_of c.enter_block.ensures.log);
  err = search rules;
  kept = search rules;
}

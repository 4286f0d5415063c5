use Rattle.std.proofs.Common.{sym, subst}
use Rattle.std.proofs.lemmas.Result.{IfErr-weaker}
use Rattle.cs_events.specs.Acts.{Act}
use Rattle.cs_run_state.specs.MachineView.{state_of}
use Rattle.cs_cfg.specs.GraphView as view
use Rattle.cs_cfg.specs.Working.{CodeState}
use Rattle.cs_positions.specs.Nexts.{reaching}
use Rattle.cs_replay.specs.ReplayerView.{program_of, budgets_of, code_of, state_in, Performs}
use Rattle.cs_replay.proofs.Stepping.{leads_after, ends_after, kept_after, ready_after, step_ends, step_leaves, on_ok}
use Rattle.cs_replay.proofs.replayer.Replayer.step.Goals as goal

pub returns-in_ok-advance-in-CountedPoint : goal.returns-in_ok-advance-in-CountedPoint
returns-in_ok-advance-in-CountedPoint c = record {
  ok =
      on_ok c.reach.result (leads_after c.args.self.now c.advance.new.self c.reach.new.self (reaching c.in-CountedPoint.counted_point.now)
      c.in_ok-advance-in-CountedPoint.ensures c.in-CountedPoint.ensures) c.reach.ensures.ok;
  err =
      IfErr-weaker c.reach.result _ _
      (ends_after c.args.self.now c.advance.new.self c.reach.new.self (reaching c.in-CountedPoint.counted_point.now) c.in_ok-advance-in-CountedPoint.ensures
      c.in-CountedPoint.ensures) c.reach.ensures.err;
  kept =
      on_ok c.reach.result (kept_after c.args.self.now c.advance.new.self c.reach.new.self (reaching c.in-CountedPoint.counted_point.now)
      c.in_ok-advance-in-CountedPoint.ensures c.in-CountedPoint.ensures) c.reach.ensures.kept;
}

pub operate-requires : goal.operate-requires
operate-requires c = ready_after c.args.self.now c.advance-in-Operation.new.self c.advance-in-Operation.new.self (view.operation c.in-Operation.operation.now)
    c.in_ok-advance-in-Operation.ensures c.in-Operation.ensures c.requires

pub returns-in_ok-advance-in-Operation : goal.returns-in_ok-advance-in-Operation
returns-in_ok-advance-in-Operation c = record {
  ok =
      on_ok c.operate.result (leads_after c.args.self.now c.advance-in-Operation.new.self c.operate.new.self (view.operation c.in-Operation.operation.now)
      c.in_ok-advance-in-Operation.ensures c.in-Operation.ensures) c.operate.ensures.ok;
  err = IfErr-weaker c.operate.result _ _
      (ends_after c.args.self.now c.advance-in-Operation.new.self c.operate.new.self (view.operation c.in-Operation.operation.now)
      c.in_ok-advance-in-Operation.ensures c.in-Operation.ensures) c.operate.ensures.err;
  kept =
      on_ok c.operate.result (kept_after c.args.self.now c.advance-in-Operation.new.self c.operate.new.self (view.operation c.in-Operation.operation.now)
      c.in_ok-advance-in-Operation.ensures c.in-Operation.ensures) c.operate.ensures.kept;
}

pub returns-in-End : goal.returns-in-End
unfolding state_of
returns-in-End c =
    let run = c.args.self.now in
    let same = step_ends (code_of run) (program_of run) (budgets_of run) (state_in run) (view.block_end c.in-End.end.now) c.in-End.ensures in
    subst (λ (act : Act CodeState). Performs run c.end_block.new.self c.end_block.result act) (sym same) c.end_block.ensures

pub returns-in-Nowhere : goal.returns-in-Nowhere
unfolding state_of
returns-in-Nowhere c =
    let run = c.args.self.now in
    let same = step_leaves (code_of run) (program_of run) (budgets_of run) (state_in run) c.in-Nowhere.ensures in
    subst (λ (act : Act CodeState). Performs run c.leave.new.self c.leave.result act) (sym same) c.leave.ensures

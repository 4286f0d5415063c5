use Rattle.std.proofs.Common.{refl}
use Rattle.cs_ast.specs.TypedProgram.{typed_program}
use Rattle.cs_meaning.specs.Machine.{routine_of}
use Rattle.cs_run_log.specs.LogView.{log_of}
use Rattle.cs_runner.specs.RunView.{run_of}
use Rattle.cs_cfg.specs.Graph.{flow_of}
use Rattle.cs_cfg.specs.GraphView as view
use Rattle.cs_replay.proofs.Entering.{no_body}
use Rattle.cs_replay.proofs.LoweredRuns.{lowered_ends, replays_so}
use Rattle.cs_replay.proofs.replays.replay.Goals as goal

pub invariant_of-follow : goal.invariant_of-follow
invariant_of-follow c =
    let setting = c.args.setting.now in
    record {
      ends = lowered_ends (view.code c.args.code.now) (typed_program setting.program.now) c.args.entry (run_of setting) setting.budgets
          (view.flow c.in-Some.field-0.now) c.requires.lowered c.in-Some.ensures;
    }

pub returns-in_ok-replayed-in-Some-clause-gives : goal.returns-in_ok-replayed-in-Some-clause-gives
returns-in_ok-replayed-in-Some-clause-gives c =
    let setting = c.args.setting.now in
    let replayed = c.in_ok-replayed-in-Some.replayed in
    replays_so (view.code c.args.code.now) (typed_program setting.program.now) c.args.entry (run_of setting) setting.budgets (view.flow c.in-Some.field-0.now)
    c.requires.lowered c.in-Some.ensures replayed.outcome (log_of replayed.log) c.in_ok-replayed-in-Some.ensures

pub returns-in-None-clause-no_entry : goal.returns-in-None-clause-no_entry
returns-in-None-clause-no_entry c =
    let program = typed_program c.args.setting.now.program.now in (
      λ _. no_body (flow_of (view.code c.args.code.now) c.args.entry) (routine_of program c.args.entry).body (c.requires.lowered.graphs c.args.entry)
          c.in-None.ensures,
      λ _. refl,
    )

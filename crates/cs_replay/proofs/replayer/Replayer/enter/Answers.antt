use Rattle.std.proofs.Common.{◌≡◌, ◌≤◌, ◌<◌, ℕ, ◌+◌, nat_lt, true, false, Err, length, map, ap, ◌∙◌, rules, arith}
use Rattle.std.proofs.lemmas.Bool.Decides.{nat_tests}
use Rattle.std.proofs.lemmas.List.{length-reverse, length-map}
use Rattle.cs_events.specs.declared.event.Label.TheVariants as label
use Rattle.cs_events.specs.declared.outcome.Outcome.TheVariants.{Over}
use Rattle.cs_events.specs.declared.outcome.Budget.TheVariants.{Depth}
use Rattle.cs_events.specs.Acts.{Goes}
use Rattle.cs_meaning.specs.Access.{shows_then}
use Rattle.cs_meaning.specs.Calls.{inside}
use Rattle.cs_meaning.specs.Machine.{routine_of}
use Rattle.cs_values.specs.View.{operand_of}
use Rattle.cs_run_log.specs.LogView.{setting_of, log_of}
use Rattle.cs_objects.specs.BlockView.{block_at}
use Rattle.cs_run_state.specs.MachineView.{frame_of, state_of}
use Rattle.cs_cfg.specs.GraphView as view
use Rattle.cs_cfg.specs.Working.{CodeState, code_frame}
use Rattle.cs_replay.specs.CodeStates.{begun}
use Rattle.cs_replay.specs.ReplayerView.{program_of, code_of, caller_of, state_in}
use Rattle.cs_replay.proofs.Entering.{entered_is}
use Rattle.cs_replay.proofs.Leading.{shows_so, no_show, stops_so, arrives}
use Rattle.cs_replay.proofs.replayer.Replayer.enter.Goals as goal

pub returns-then-len-from : goal.returns-then-len-from
returns-then-len-from c = record {
  ok = search rules;
  err =
      let run = c.args.self.now in
      let depth = run.runner.setting.now.budgets.depth in
      let count : length (state_in run).callers ≡ length run.callers.items = length-reverse (map (caller_of run.code.now) run.callers.items)
      ∙ length-map run.callers.items (caller_of run.code.now) in
      let full : depth ≤ length run.callers.items + 1 = search rules in
      let room : nat_lt (length (state_in run).callers + 1) depth ≡ false = grind (arith, nat_tests) in
      rw room (stops_so (setting_of run.runner.setting.now) (log_of run.runner.log) (Over Depth c.args.place));
  kept = search rules;
}

pub returns-in_err-show : goal.returns-in_err-show
returns-in_err-show c = record {
  ok = search rules;
  err =
      let run = c.args.self.now in
      let depth = run.runner.setting.now.budgets.depth in
      let m = state_of run.runner.machine in
      let count : length (state_in run).callers ≡ length run.callers.items = length-reverse (map (caller_of run.code.now) run.callers.items)
      ∙ length-map run.callers.items (caller_of run.code.now) in
      let less : length run.callers.items + 1 < depth = search rules in
      let room : nat_lt (length (state_in run).callers + 1) depth ≡ true = grind (arith, nat_tests) in
      let there : c.from_residual.result ≡ Err c.in_err-show.field-0.0 = search rules in
      let next : CodeState = inside (program_of run) (code_frame c.args.function (view.flow c.args.flow.now) (state_in run).frames)
      (routine_of (program_of run) c.args.function) (map operand_of c.args.arguments.items) (state_in run) in
      rw (there, room) (no_show (setting_of run.runner.setting.now) (log_of run.runner.log) (log_of c.show.new.self) c.args.place (label.Callee c.args.function)
      m next c.in_err-show.field-0.0 (c.in_err-show.ensures.err (Goes m)));
  kept = search rules;
}

pub returns : goal.returns
returns c = record {
  ok =
      let run = c.args.self.now in
      let depth = run.runner.setting.now.budgets.depth in
      let m = state_of run.runner.machine in
      let flow = view.flow c.args.flow.now in
      let given = map operand_of c.args.arguments.items in
      let routine = routine_of (program_of run) c.args.function in
      let setting = setting_of run.runner.setting.now in
      let log = log_of run.runner.log in
      let count : length (state_in run).callers ≡ length run.callers.items = length-reverse (map (caller_of run.code.now) run.callers.items)
      ∙ length-map run.callers.items (caller_of run.code.now) in
      let less : length run.callers.items + 1 < depth = search rules in
      let room : nat_lt (length (state_in run).callers + 1) depth ≡ true = grind (arith, nat_tests) in
      let next : CodeState = inside (program_of run) (code_frame c.args.function flow (state_in run).frames) routine given (state_in run) in
      let is : frame_of c.in_ok-frame.frame ≡ begun c.args.function (state_in run).frames flow.counted_points = c.in_ok-frame.ensures
      ∙ ap (λ (number : ℕ). begun c.args.function number flow.counted_points) c.frames_of-number.ensures in
      let are = rw (c.deref.ensures.value, c.locals_of-variables.ensures) at c.in_ok-locals.ensures in
      let state : state_in c.go_inside.new.self ≡ next = c.in_ok-go_inside.ensures.state
      ∙ entered_is (code_of run) (program_of run) c.args.function flow routine given (frame_of c.in_ok-frame.frame) (block_at c.in_ok-locals.locals.items)
      (state_in run) is c.requires.graph are in
      let leads = shows_so setting log (log_of c.show.new.self) c.args.place (label.Callee c.args.function) m next (c.in_ok-show.ensures.ok (Goes m)) in
      rw room (arrives setting log (shows_then c.args.place (label.Callee c.args.function) (Goes next)) next (state_in c.go_inside.new.self)
      (log_of c.show.new.self) (log_of c.go_inside.new.self.runner.log) leads state (ap log_of c.in_ok-go_inside.ensures.log));
  err = search rules;
  kept = search rules;
}

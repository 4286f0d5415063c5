use Rattle.std.proofs.Common.{◌≡◌, ℕ, ◌+◌, ◌<◌, nat_lt, true, length, map, refl, sym, ap, ◌∙◌, rules, arith}
use Rattle.std.proofs.lemmas.Bool.Decides.{nat_tests}
use Rattle.cs_ast.specs.TypedProgram.{typed_program, routine}
use Rattle.cs_events.specs.Acts.{Goes}
use Rattle.cs_events.specs.Runs.{Continues}
use Rattle.cs_meaning.specs.Calls.{new_frame, inside}
use Rattle.cs_meaning.specs.Machine.{Frame, State}
use Rattle.cs_values.specs.View.{operand_of}
use Rattle.cs_run_log.specs.LogView.{log_of}
use Rattle.cs_objects.specs.BlockView.{block_at}
use Rattle.cs_run_state.specs.MachineView.{frame_of, state_of}
use Rattle.cs_run_log.proofs.Performing.{perform-Goes}
use Rattle.cs_frames.specs.Calling.{inside_with}
use Rattle.cs_frames.proofs.NewLocals.{inside_is}
use Rattle.cs_runner.proofs.runner.Runner.enter.Goals as goal

pub returns : goal.returns
returns c =
    let run = c.args.self.now in
    let program = typed_program run.setting.now.program.now in
    let m = state_of run.machine in
    let r = routine c.args.callee.now in
    let arguments = map operand_of c.args.arguments.items in
    let less : length m.callers + 1 < run.setting.now.budgets.depth = search rules in
    let room : nat_lt (length m.callers + 1) run.setting.now.budgets.depth ≡ true = grind (arith, nat_tests) in
    let next = inside program (new_frame c.args.function m.frames r) r arguments m in
    let frame : frame_of c.in_ok-frame.frame ≡ new_frame c.args.function m.frames r = c.in_ok-frame.ensures
    ∙ ap (λ (n : ℕ). new_frame c.args.function n r) c.frames_of-number.ensures in
    let locals = block_at c.in_ok-locals.locals.items in
    let are = rw (c.deref.ensures.value, c.deref-2.ensures.value) at c.in_ok-locals.ensures in
    let state : state_of c.go_inside.new.state ≡ next = c.in_ok-go_inside.ensures
    ∙ (ap (λ (f : Frame). inside_with f locals m) frame ∙ inside_is program (new_frame c.args.function m.frames r) r arguments locals m are) in
    rw room (record {
      ok = c.in_ok-show.ensures.ok (Goes next) ∙ (perform-Goes _ _ _ ∙ ap (λ (n : State). Continues n (log_of c.show.new.self)) (sym state));
      err = tt;
      kept = refl;
    })

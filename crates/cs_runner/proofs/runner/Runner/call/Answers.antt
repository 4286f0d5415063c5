use Rattle.std.proofs.Common.{◌≡◌, List, [], map, Some, None, refl, sym, ap, ◌∙◌, subst}
use Rattle.std.specs.Prelude.{slice_get, option_map, option_copied}
use Rattle.cs_ast.specs.declared.typed.program.Function.{Function}
use Rattle.cs_ast.specs.TypedProgram.{typed_program, routine}
use Rattle.cs_ast.specs.TypedView.{statement}
use Rattle.cs_events.specs.Acts.{Act}
use Rattle.cs_meaning.specs.Machine.{State, no_routine, NOWHERE}
use Rattle.cs_values.specs.View.{operand_of}
use Rattle.cs_run_state.specs.MachineView.{state_of}
use Rattle.cs_runner.specs.RunnerView.{Performs}
use Rattle.cs_frames.proofs.Calling.{routine_is, routine_none, call_is}
use Rattle.cs_memory.proofs.FirstChanges.{lent}
use Rattle.cs_runner.proofs.runner.Runner.call.Goals as goal

pub returns-in-None-body : goal.returns-in-None-body
returns-in-None-body c =
    let program = c.args.self.now.setting.now.program.now in
    let m = state_of c.args.self.now.machine in
    let given = map operand_of c.in_ok-arguments.arguments.items in
    let left = state_of c.pop_newest.new.state in
    let r = routine c.in-Some.callee.now in
    let there : slice_get program.functions.items c.args.function ≡ Some c.in-Some.callee.now =
    ap (λ (l : List Function). slice_get l c.args.function) (sym c.deref.ensures.value)
    ∙ (sym (lent c.deref.result.now c.args.function c.get.result c.get.ensures.lookup) ∙ ap option_copied c.in-Some.is) in
    let without : r.body ≡ None = ap (option_map statement) c.in-None-body.is in
    let same = call_is (typed_program program) c.args.self.now.setting.now.budgets c.args.place c.args.function c.args.count r m c.deref-in-None-body.result.now
    given left (routine_is program c.args.function c.in-Some.callee.now there) without c.deref-in-None-body.ensures.value c.in_ok-arguments.ensures.operands
    c.in_ok-arguments.ensures.state in
    subst (λ (act : Act State). Performs c.args.self.now c.call_outside.new.self c.call_outside.result act) (sym same)
    (record { ok = c.call_outside.ensures.ok; err = c.call_outside.ensures.err; kept = c.call_outside.ensures.kept })

pub returns-in-None : goal.returns-in-None
returns-in-None c =
    let program = c.args.self.now.setting.now.program.now in
    let m = state_of c.args.self.now.machine in
    let given = map operand_of c.in_ok-arguments.arguments.items in
    let left = state_of c.pop_newest.new.state in
    let r = no_routine NOWHERE in
    let none : slice_get program.functions.items c.args.function ≡ None = ap (λ (l : List Function). slice_get l c.args.function) (sym c.deref.ensures.value)
    ∙ (sym (lent c.deref.result.now c.args.function c.get.result c.get.ensures.lookup) ∙ ap option_copied c.in-None.is) in
    let same = call_is (typed_program program) c.args.self.now.setting.now.budgets c.args.place c.args.function c.args.count r m [] given left
    (routine_none program c.args.function none) refl refl c.in_ok-arguments.ensures.operands c.in_ok-arguments.ensures.state in
    subst (λ (act : Act State). Performs c.args.self.now c.call_outside-in-None.new.self c.call_outside-in-None.result act) (sym same)
    (record { ok = c.call_outside-in-None.ensures.ok; err = c.call_outside-in-None.ensures.err; kept = c.call_outside-in-None.ensures.kept })

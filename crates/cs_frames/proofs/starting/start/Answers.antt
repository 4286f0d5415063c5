use Rattle.std.proofs.Common.{◌≡◌, List, Some, None, IfOk, sym, ap, ◌∙◌, subst}
use Rattle.std.specs.Prelude.{slice_get, option_copied}
use Rattle.cs_ast.specs.declared.typed.program.Function.{Function}
use Rattle.cs_ast.specs.TypedProgram.{Routine, typed_program}
use Rattle.cs_inputs.specs.Inputs.{number_at}
use Rattle.cs_meaning.specs.Steps.{started}
use Rattle.cs_run_state.specs.MachineView.{state_of}
use Rattle.cs_frames.proofs.Calling.{routine_is, routine_none}
use Rattle.cs_memory.proofs.FirstChanges.{lent}
use Rattle.cs_frames.proofs.starting.start.Goals as goal

pub returns-in-Some : goal.returns-in-Some
returns-in-Some c =
    let program = c.args.setting.now.program.now in
    let there : slice_get program.functions.items c.args.entry ≡ Some c.in-Some.function.now =
    ap (λ (l : List Function). slice_get l c.args.entry) (sym c.deref.ensures.value)
    ∙ (sym (lent c.deref.result.now c.args.entry c.get.result c.get.ensures.lookup) ∙ ap option_copied c.in-Some.is) in
    subst (λ (r : Routine).
    IfOk c.start_function.result (λ machine.
    state_of machine ≡ started (typed_program program) (number_at c.args.setting.now.inputs.now) c.args.entry r))
    (sym (routine_is program c.args.entry c.in-Some.function.now there)) c.start_function.ensures

pub returns-in-None : goal.returns-in-None
returns-in-None c =
    let program = c.args.setting.now.program.now in
    let none : slice_get program.functions.items c.args.entry ≡ None = ap (λ (l : List Function). slice_get l c.args.entry) (sym c.deref.ensures.value)
    ∙ (sym (lent c.deref.result.now c.args.entry c.get.result c.get.ensures.lookup) ∙ ap option_copied c.in-None.is) in
    subst (λ (r : Routine).
    IfOk c.start_nowhere.result (λ machine. state_of machine ≡ started (typed_program program) (number_at c.args.setting.now.inputs.now) c.args.entry r))
    (sym (routine_none program c.args.entry none)) c.start_nowhere.ensures

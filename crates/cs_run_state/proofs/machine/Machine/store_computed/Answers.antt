use Rattle.std.proofs.Common.{◌≡◌, ℤ, Err, FitsSigned, rules}
use Rattle.std.specs.Int.{w128}
use Rattle.std.proofs.lemmas.Int.{to_z-of_z}
use Rattle.cs_ast.specs.TypedProgram.{typed_program}
use Rattle.cs_events.specs.Acts.{Act}
use Rattle.cs_events.specs.Objects.{NumberCell}
use Rattle.cs_meaning.specs.Access.{store_object}
use Rattle.cs_meaning.specs.Machine.{State, Scalar}
use Rattle.cs_meaning.specs.Memory.{Memory}
use Rattle.cs_objects.specs.AccessView.{access_of}
use Rattle.cs_run_state.specs.MachineView.{state_of}
use Rattle.cs_values.specs.View.{cell_of}
use Rattle.cs_run_log.proofs.Chains.{ends_following}
use Rattle.cs_run_state.proofs.machine.Machine.store_computed.Goals as goal

pub returns-in_err-store-clause-err : goal.returns-in_err-store-clause-err
returns-in_err-store-clause-err c =
    let m = state_of c.args.self.now in
    let program = typed_program c.args.setting.now.program.now in
    let number = c.in_ok-number.number in
    let there : c.from_residual-in_err-store.result ≡ Err c.in_err-store.field-0.0 = search rules in
    let fits : FitsSigned w128 number = search rules in
    let ends = rw (to_z-of_z w128 number fits) at c.in_err-store.ensures.err in
    let stores : (Memory → ℤ → Act State) → ℤ → Act State = λ onward stored.
    store_object program m.memory m.frame.number c.args.place (access_of c.args.access) (cell_of c.args.target.now) (Scalar (NumberCell stored))
    (λ after. onward after stored) in
    rw there (λ onward. ends_following _ _ (c.in_ok-number.ensures.ok (stores onward)) (ends (λ after. onward after number)))

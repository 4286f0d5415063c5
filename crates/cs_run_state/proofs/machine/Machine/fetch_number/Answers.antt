use Rattle.std.proofs.Common.{◌≡◌, ℤ, Err, FitsSigned, sym, ap, ◌∙◌, rules}
use Rattle.std.specs.Int.{w128}
use Rattle.std.proofs.lemmas.Int.{to_z-of_z}
use Rattle.cs_ast.specs.TypedProgram.{typed_program}
use Rattle.cs_types.specs.Shape.{shape_of}
use Rattle.cs_events.specs.Acts.{Act, Goes}
use Rattle.cs_events.specs.Objects.{NumberCell}
use Rattle.cs_events.specs.Runs.{Continues}
use Rattle.cs_meaning.specs.Initials.{number_in}
use Rattle.cs_meaning.specs.Machine.{Operand, State, cell_of, push, push_cell, with_memory}
use Rattle.cs_meaning.specs.Memory.{Memory}
use Rattle.cs_meaning.specs.Operators.{convert_number}
use Rattle.cs_values.specs.View.{operand_of}
use Rattle.cs_run_log.specs.LogView.{log_of}
use Rattle.cs_run_state.specs.MachineView.{state_of}
use Rattle.cs_run_log.proofs.Chains.{ends_following}
use Rattle.cs_run_log.proofs.Performing.{perform-Goes}
use Rattle.cs_run_state.proofs.machine.Machine.fetch_number.Goals as goal

pub returns-in_err-number : goal.returns-in_err-number
returns-in_err-number c =
    let there : c.from_residual-in_err-number.result ≡ Err c.in_err-number.field-0.0 = search rules in
    let program = typed_program c.args.setting.now.program.now in
    let m = state_of c.args.self.now in
    let after : ℤ → Memory → Operand → Act State = λ number memory operand.
    Goes (push_cell (NumberCell number) (push operand (with_memory memory m))) in
    let onward : Memory → Operand → Act State = λ memory operand.
    convert_number program.model c.args.place (shape_of c.args.access.ty.now) c.args.works_in (number_in (cell_of operand))
    (λ number. after number memory operand) in
    let fits : FitsSigned w128 c.number-value.result = search rules in
    let ends = rw (to_z-of_z w128 c.number-value.result fits, c.number-value.ensures) at c.in_err-number.ensures.err in
    rw there (record {
      ok = tt;
      err = ends_following _ _ (c.in_ok-operand.ensures.ok onward)
          (ends (λ number. after number (state_of c.load_below.new.self).memory (operand_of c.in_ok-operand.operand)));
    })

pub returns : goal.returns
returns c =
    let program = typed_program c.args.setting.now.program.now in
    let m = state_of c.args.self.now in
    let after : ℤ → Memory → Operand → Act State = λ number memory operand.
    Goes (push_cell (NumberCell number) (push operand (with_memory memory m))) in
    let onward : Memory → Operand → Act State = λ memory operand.
    convert_number program.model c.args.place (shape_of c.args.access.ty.now) c.args.works_in (number_in (cell_of operand))
    (λ number. after number memory operand) in
    let value : FitsSigned w128 c.number-value.result = search rules in
    let converted = rw (to_z-of_z w128 c.number-value.result value, c.number-value.ensures) at c.in_ok-number.ensures.ok in
    let fits : FitsSigned w128 c.in_ok-number.number = search rules in
    let plain = to_z-of_z w128 c.in_ok-number.number fits in
    let memory = (state_of c.load_below.new.self).memory in
    let operand = operand_of c.in_ok-operand.operand in
    let state : state_of c.push_cell.new.self ≡ push_cell (NumberCell c.in_ok-number.number) (push operand (with_memory memory m)) =
    c.in_ok-push_cell.ensures ∙ (ap (λ (number : ℤ). push_cell (NumberCell number) (state_of c.push.new.self)) plain
    ∙ ap (λ (n : State). push_cell (NumberCell c.in_ok-number.number) n) (c.in_ok-push.ensures
    ∙ ap (λ (n : State). push operand n) c.in_ok-operand.ensures.state)) in
    record {
      ok = c.in_ok-operand.ensures.ok onward
          ∙ (converted (λ number. after number memory operand)
          ∙ (perform-Goes _ _ _ ∙ ap (λ (n : State). Continues n (log_of c.convert_number.new.self)) (sym state)));
      err = tt;
    }

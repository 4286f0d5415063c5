use Rattle.std.proofs.Common.{◌≡◌, ◌+◌, Err, map, refl, sym, ap, ◌∙◌, rules}
use Rattle.cs_ast.specs.TypedProgram.{typed_program}
use Rattle.cs_events.specs.Acts.{Act, Goes}
use Rattle.cs_events.specs.Runs.{Continues}
use Rattle.cs_meaning.specs.Calls.{outside_result, write_arguments}
use Rattle.cs_meaning.specs.Machine.{Operand, State, push}
use Rattle.cs_meaning.specs.Memory.{Memory}
use Rattle.cs_values.specs.View.{operand_of}
use Rattle.cs_run_log.specs.LogView.{log_of}
use Rattle.cs_memory.specs.MemoryView.{memory_of, KeepsCounts}
use Rattle.cs_objects.specs.BlockView.{type_of}
use Rattle.cs_run_state.specs.MachineView.{state_of}
use Rattle.cs_run_log.proofs.Chains.{ends_following}
use Rattle.cs_run_log.proofs.Performing.{perform-Goes}
use Rattle.cs_run_state.proofs.MachineStates.{state_called}
use Rattle.cs_runner.proofs.runner.Runner.call_outside.Goals as goal

pub returns-in_err-given : goal.returns-in_err-given
unfolding state_of
returns-in_err-given c =
    let m = state_of c.args.self.now.machine in
    let program = typed_program c.args.self.now.setting.now.program.now in
    let last : Operand → Memory → Act State = λ result after. Goes (push result (record m { memory = after; calls = m.calls + 1 })) in
    let writes : Memory → Operand → Act State = λ memory result.
    write_arguments program c.args.place (m.calls + 1) 0 c.args.written.now (map operand_of c.args.arguments.items) memory (last result) in
    let drawn : c.in_ok-call.call ≡ c.args.self.now.machine.calls + 1 = search rules in
    let there : c.from_residual-in_err-given.result ≡ Err c.in_err-given.field-0.0 = search rules in
    let one = c.in_ok-show.ensures.ok (outside_result program (type_of c.args.returns) (m.calls + 1) m.memory writes) in
    let two = rw drawn at c.in_err-given.ensures.err in
    rw there (record { ok = tt; err = ends_following _ _ one (two writes); kept = tt })

pub returns-in_err-write_arguments : goal.returns-in_err-write_arguments
unfolding state_of
returns-in_err-write_arguments c =
    let m = state_of c.args.self.now.machine in
    let program = typed_program c.args.self.now.setting.now.program.now in
    let last : Operand → Memory → Act State = λ result after. Goes (push result (record m { memory = after; calls = m.calls + 1 })) in
    let writes : Memory → Operand → Act State = λ memory result.
    write_arguments program c.args.place (m.calls + 1) 0 c.args.written.now (map operand_of c.args.arguments.items) memory (last result) in
    let drawn : c.in_ok-call.call ≡ c.args.self.now.machine.calls + 1 = search rules in
    let there : c.from_residual-in_err-write_arguments.result ≡ Err c.in_err-write_arguments.field-0.0 = search rules in
    let one = c.in_ok-show.ensures.ok (outside_result program (type_of c.args.returns) (m.calls + 1) m.memory writes) in
    let two = rw drawn at c.in_ok-given.ensures.ok in
    let three = rw (drawn, c.deref.ensures.value) at c.in_err-write_arguments.ensures.err in
    rw there (record { ok = tt; err = ends_following _ _ (one ∙ two writes) (three (last (operand_of c.in_ok-given.given))); kept = tt })

pub returns : goal.returns
unfolding state_of
returns c =
    let m = state_of c.args.self.now.machine in
    let program = typed_program c.args.self.now.setting.now.program.now in
    let last : Operand → Memory → Act State = λ result after. Goes (push result (record m { memory = after; calls = m.calls + 1 })) in
    let writes : Memory → Operand → Act State = λ memory result.
    write_arguments program c.args.place (m.calls + 1) 0 c.args.written.now (map operand_of c.args.arguments.items) memory (last result) in
    let drawn : c.in_ok-call.call ≡ c.args.self.now.machine.calls + 1 = search rules in
    let one = c.in_ok-show.ensures.ok (outside_result program (type_of c.args.returns) (m.calls + 1) m.memory writes) in
    let two = rw drawn at c.in_ok-given.ensures.ok in
    let three = rw (drawn, c.deref.ensures.value) at c.in_ok-write_arguments.ensures.ok in
    let given = operand_of c.in_ok-given.given in
    let before = c.in_ok-given.ensures.counts in
    let now = c.in_ok-write_arguments.ensures.counts in
    let memory = c.write_arguments.new.memory in
    let kept : KeepsCounts c.args.self.now.machine.memory memory =
    record { frames = now.frames ∙ before.frames; allocations = now.allocations ∙ before.allocations } in
    let state : state_of c.push.new.self ≡ push given (record m { memory = memory_of memory; calls = m.calls + 1 }) = (rw drawn at c.in_ok-push.ensures)
    ∙ ap (λ (n : State). push given n) (state_called c.args.self.now.machine memory (m.calls + 1) kept) in
    record {
      ok = one
          ∙ (two writes
          ∙ (three (last given) ∙ (perform-Goes _ _ _ ∙ ap (λ (n : State). Continues n (log_of c.write_arguments.new.log)) (sym state))));
      err = tt;
      kept = refl;
    }

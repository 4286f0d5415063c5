use Rattle.std.proofs.Common.{◌≡◌, ℤ, FitsSigned, sym, ap, ◌∙◌, rules}
use Rattle.std.specs.Int.{w128}
use Rattle.std.proofs.lemmas.Int.{to_z-of_z}
use Rattle.cs_events.specs.Acts.{Act, Goes}
use Rattle.cs_events.specs.Objects.{NumberCell}
use Rattle.cs_events.specs.Runs.{Continues}
use Rattle.cs_meaning.specs.Expressions.{given}
use Rattle.cs_meaning.specs.Machine.{State, Scalar, push, pop_many, with_memory, operand_at}
use Rattle.cs_meaning.specs.Memory.{Memory}
use Rattle.cs_run_state.specs.MachineView.{state_of}
use Rattle.cs_run_log.specs.LogView.{log_of}
use Rattle.cs_run_log.proofs.Performing.{perform-Goes}
use Rattle.cs_run_state.proofs.machine.Machine.update.Goals as goal

pub returns-in-Err : goal.returns-in-Err
returns-in-Err c =
    let m = state_of c.args.self.now in
    let last : Memory → ℤ → Act State = λ memory stored.
    Goes (push (given c.args.gives (operand_at m 2) (Scalar (NumberCell stored))) (with_memory memory (pop_many 4 m))) in
    let popped = c.pop_updated-target.ensures in
    let left_fits : FitsSigned w128 c.pop_updated-target.result.2 = search rules in
    let right_fits : FitsSigned w128 c.pop_updated-target.result.3 = search rules in
    let a = to_z-of_z w128 c.pop_updated-target.result.2 left_fits in
    let b = to_z-of_z w128 c.pop_updated-target.result.3 right_fits in
    let ends = rw (a, b, popped.state, popped.target, popped.left, popped.right) at c.in-Err.ensures.err in
    record { ok = tt; err = ends last }

pub returns-in_ok-push-in-Ok : goal.returns-in_ok-push-in-Ok
returns-in_ok-push-in-Ok c =
    let m = state_of c.args.self.now in
    let number = c.in-Ok.number in
    let last : Memory → ℤ → Act State = λ memory stored.
    Goes (push (given c.args.gives (operand_at m 2) (Scalar (NumberCell stored))) (with_memory memory (pop_many 4 m))) in
    let popped = c.pop_updated-target.ensures in
    let left_fits : FitsSigned w128 c.pop_updated-target.result.2 = search rules in
    let right_fits : FitsSigned w128 c.pop_updated-target.result.3 = search rules in
    let a = to_z-of_z w128 c.pop_updated-target.result.2 left_fits in
    let b = to_z-of_z w128 c.pop_updated-target.result.3 right_fits in
    let stored = rw (a, b, popped.state, popped.target, popped.left, popped.right) at c.in-Ok.ensures.ok in
    let fits : FitsSigned w128 number = search rules in
    let same = to_z-of_z w128 number fits in
    let left = given c.args.gives (operand_at m 2) (Scalar (NumberCell number)) in
    let memory = (state_of c.store_computed-stored.new.self).memory in
    let state : state_of c.push.new.self ≡ push left (with_memory memory (pop_many 4 m)) =
    rw (c.in_ok-push-in-Ok.ensures, c.given_number.ensures, popped.before, same)
    (ap (λ (n : State). push left n) (c.in-Ok.ensures.state ∙ ap (λ (n : State). with_memory memory n) popped.state)) in
    record {
      ok = stored last ∙ (perform-Goes _ _ _ ∙ ap (λ (n : State). Continues n (log_of c.store_computed-stored.new.log)) (sym state));
      err = tt;
    }

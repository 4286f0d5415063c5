use Rattle.std.proofs.Common.{◌≡◌, FitsSigned, sym, ap, ◌∙◌, rules}
use Rattle.std.specs.Int.{w128}
use Rattle.std.proofs.lemmas.Int.{to_z-of_z}
use Rattle.cs_events.specs.Acts.{Act, Goes}
use Rattle.cs_events.specs.Objects.{Cell}
use Rattle.cs_events.specs.Runs.{Continues}
use Rattle.cs_meaning.specs.Expressions.{given}
use Rattle.cs_meaning.specs.Machine.{State, Scalar, push, pop_many, with_memory, operand_at}
use Rattle.cs_meaning.specs.Memory.{Memory}
use Rattle.cs_run_state.specs.MachineView.{state_of}
use Rattle.cs_values.specs.View.{cell_of}
use Rattle.cs_run_log.specs.LogView.{log_of}
use Rattle.cs_run_log.proofs.Performing.{perform-Goes}
use Rattle.cs_run_state.proofs.machine.Machine.move_pointer.Goals as goal

pub returns-in-Err : goal.returns-in-Err
returns-in-Err c =
    let m = state_of c.args.self.now in
    let last : Memory → Cell → Act State = λ memory moved.
    Goes (push (given c.args.gives (operand_at m 1) (Scalar moved)) (with_memory memory (pop_many 3 m))) in
    let popped = c.pop_moved-target.ensures in
    let fits : FitsSigned w128 c.pop_moved-target.result.2 = search rules in
    let plain = to_z-of_z w128 c.pop_moved-target.result.2 fits in
    let ends = rw (plain, popped.state, popped.target, popped.before, popped.amount) at c.in-Err.ensures.err in
    record { ok = tt; err = ends last }

pub returns-in_ok-push-in-Ok : goal.returns-in_ok-push-in-Ok
returns-in_ok-push-in-Ok c =
    let m = state_of c.args.self.now in
    let last : Memory → Cell → Act State = λ memory moved.
    Goes (push (given c.args.gives (operand_at m 1) (Scalar moved)) (with_memory memory (pop_many 3 m))) in
    let popped = c.pop_moved-target.ensures in
    let fits : FitsSigned w128 c.pop_moved-target.result.2 = search rules in
    let plain = to_z-of_z w128 c.pop_moved-target.result.2 fits in
    let stored = rw (plain, popped.state, popped.target, popped.before, popped.amount) at c.in-Ok.ensures.ok in
    let left = given c.args.gives (operand_at m 1) (Scalar (cell_of c.in-Ok.moved)) in
    let memory = (state_of c.store_moved-stored.new.self).memory in
    let state : state_of c.push.new.self ≡ push left (with_memory memory (pop_many 3 m)) =
    rw (c.in_ok-push-in-Ok.ensures, c.given.ensures, popped.before)
    (ap (λ (n : State). push left n) (c.in-Ok.ensures.state ∙ ap (λ (n : State). with_memory memory n) popped.state)) in
    record {
      ok = stored last ∙ (perform-Goes _ _ _ ∙ ap (λ (n : State). Continues n (log_of c.store_moved-stored.new.log)) (sym state));
      err = tt;
    }

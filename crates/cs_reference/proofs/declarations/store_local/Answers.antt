use Rattle.std.proofs.Common.{refl, sym, ap, ◌∙◌}
use Rattle.cs_types.specs.Shape.{shape_of}
use Rattle.cs_ast.specs.TypedProgram.{typed_program}
use Rattle.cs_events.specs.Acts.{Act, Goes}
use Rattle.cs_events.specs.Objects.{LocalObject}
use Rattle.cs_events.specs.Runs.{Continues}
use Rattle.cs_meaning.specs.Access.{write_operand}
use Rattle.cs_meaning.specs.Machine.{State, pop, with_memory, operand_at}
use Rattle.cs_meaning.specs.Memory.{changed}
use Rattle.cs_run_log.specs.LogView.{log_of}
use Rattle.cs_run_state.specs.MachineView.{state_of}
use Rattle.cs_run_log.proofs.Performing.{perform-Goes}
use Rattle.cs_reference.proofs.declarations.store_local.Goals as goal

pub returns : goal.returns
returns c =
    let m = state_of c.args.run.now.machine in
    let setting = c.args.run.now.setting.now in
    let last : Act State =
    Goes (with_memory (changed (write_operand (typed_program setting.program.now) (shape_of c.args.ty.now) c.args.offset (operand_at m 0))
    (LocalObject m.frame.number c.args.declaration) m.memory) (pop m)) in
    let touched = rw (c.number_of-frame.ensures, c.scalar_local-local.ensures) at c.in_ok-touch_store.ensures in
    record {
      ok = touched setting last ∙ (perform-Goes _ _ _ ∙ ap (λ (n : State). Continues n (log_of c.touch_store.new.log)) (sym c.in_ok-store_newest.ensures));
      err = tt;
      kept = refl;
    }

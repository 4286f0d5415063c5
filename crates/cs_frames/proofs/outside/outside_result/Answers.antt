use Rattle.std.proofs.Common.{◌≡◌, true, false, IfOk, IfErr, sym, ap, ◌∙◌, subst}
use Rattle.cs_ast.specs.TypedProgram.{typed_program}
use Rattle.cs_events.specs.Acts.{Act}
use Rattle.cs_events.specs.Runs.{perform}
use Rattle.cs_meaning.specs.Machine.{Operand, State}
use Rattle.cs_meaning.specs.Memory.{Memory}
use Rattle.cs_values.specs.View.{operand_of}
use Rattle.cs_run_log.specs.LogView.{setting_of, log_of}
use Rattle.cs_memory.specs.MemoryView.{memory_of}
use Rattle.cs_objects.specs.BlockView.{type_of}
use Rattle.cs_run_log.specs.Pieces.{GivesBoth, StopsInBoth}
use Rattle.cs_frames.specs.Calling.{is_nothing}
use Rattle.cs_frames.proofs.Calling.{result_nothing, result_received}
use Rattle.cs_frames.proofs.outside.outside_result.Goals as goal

pub returns-then-gives_nothing-clause-ok : goal.returns-then-gives_nothing-clause-ok
returns-then-gives_nothing-clause-ok c =
    let ty = type_of c.args.returns in
    let void : is_nothing ty ≡ true = sym c.gives_nothing.ensures ∙ c.if-gives_nothing.true in
    λ onward.
    ap (λ (act : Act State). perform (setting_of c.args.setting.now) (log_of c.args.log.now) act)
    (result_nothing (typed_program c.args.setting.now.program.now) c.args.call (memory_of c.args.memory.now) ty void onward)

pub returns-else-gives_nothing-clause-ok : goal.returns-else-gives_nothing-clause-ok
returns-else-gives_nothing-clause-ok c =
    let ty = type_of c.args.returns in
    let other : is_nothing ty ≡ false = sym c.gives_nothing.ensures ∙ c.if-gives_nothing.false in
    let same = result_received (typed_program c.args.setting.now.program.now) c.args.call (memory_of c.args.memory.now) ty other in
    subst (λ (piece : (Memory → Operand → Act State) → Act State).
    IfOk c.received.result (λ given.
    GivesBoth c.args.setting.now c.args.log.now c.received.new.log piece (memory_of c.received.new.memory) (operand_of given))) (sym same)
    c.received.ensures.ok

pub returns-else-gives_nothing-clause-err : goal.returns-else-gives_nothing-clause-err
returns-else-gives_nothing-clause-err c =
    let ty = type_of c.args.returns in
    let other : is_nothing ty ≡ false = sym c.gives_nothing.ensures ∙ c.if-gives_nothing.false in
    let same = result_received (typed_program c.args.setting.now.program.now) c.args.call (memory_of c.args.memory.now) ty other in
    subst (λ (piece : (Memory → Operand → Act State) → Act State).
    IfErr c.received.result (StopsInBoth c.args.setting.now c.args.log.now c.received.new.log piece)) (sym same) c.received.ensures.err

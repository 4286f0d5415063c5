use Rattle.std.proofs.Common.{◌≡◌, ◌+◌, Bool, true, false, [], ◌∷◌, map, drop, Err, sym, ap, ◌∙◌, inl, inr, rules}
use Rattle.std.proofs.lemmas.List.{drop_all}
use Rattle.cs_ast.specs.TypedProgram.{typed_program}
use Rattle.cs_events.specs.Acts.{Act}
use Rattle.cs_events.specs.Runs.{perform}
use Rattle.cs_meaning.specs.Calls.{write_arguments}
use Rattle.cs_meaning.specs.Machine.{State}
use Rattle.cs_meaning.specs.Memory.{Memory}
use Rattle.cs_values.specs.View.{operand_of}
use Rattle.cs_run_log.specs.LogView.{setting_of, log_of}
use Rattle.cs_memory.specs.MemoryView.{memory_of}
use Rattle.cs_run_log.proofs.Chains.{ends_following}
use Rattle.cs_memory.proofs.Reading.{drop-step}
use Rattle.cs_frames.proofs.Writing.{writes_first, passes_first, writes_none, there_at}
use Rattle.cs_frames.proofs.outside.write_arguments.Goals as goal
use Rattle.cs_frames.proofs.outside.write_arguments.Goals.{then-written-argument+in_ok-write_argument, else-written-argument}

pub returns-in_err-write_argument-clause-err : goal.returns-in_err-write_argument-clause-err
returns-in_err-write_argument-clause-err c =
    let program = typed_program c.args.setting.now.program.now in
    let i = c.loop-argument.argument in
    let written = drop (i + 1) c.args.written.now in
    let arguments = map operand_of (drop (i + 1) c.args.arguments.now) in
    let first : drop i c.args.written.now ≡ true ∷ written = drop-step c.args.written.now i false c.loop-argument-test.true
    ∙ ap (λ (b : Bool). b ∷ written) c.if-written-argument.true in
    let operand = c.index-arguments-argument.result in
    let operands : map operand_of (drop i c.args.arguments.now) ≡ operand_of operand ∷ arguments =
    ap (map operand_of) (drop-step c.args.arguments.now i operand c.if-argument-arguments.true)
    ∙ ap (λ x. operand_of x ∷ arguments) (sym c.index-arguments-argument.is) in
    let there : c.from_residual.result ≡ Err c.in_err-write_argument.field-0.0 = search rules in
    let ends = rw c.root_path-path.ensures at c.in_err-write_argument.ensures.err in
    let next = λ (onward : Memory → Act State).
    writes_first program c.args.place c.args.call i (memory_of c.loop-argument.memory) onward (drop i c.args.written.now) written (operand_of operand)
    (map operand_of (drop i c.args.arguments.now)) arguments first operands in
    rw there (λ onward.
    ends_following _ _ (c.loop-argument.invariant.writes onward
    ∙ ap (λ (act : Act State). perform (setting_of c.args.setting.now) (log_of c.loop-argument.log) act) (next onward))
    (ends (λ after. write_arguments program c.args.place c.args.call (i + 1) written arguments after onward)))

pub loop-argument-preserved : goal.loop-argument-preserved
loop-argument-preserved c =
    let program = typed_program c.args.setting.now.program.now in
    let i = c.loop-argument.argument in
    let written = drop (i + 1) c.args.written.now in
    let arguments = map operand_of (drop (i + 1) c.args.arguments.now) in
    let before = c.loop-argument.invariant in
    elim c.if-written-argument.branch [
      | then-written-argument+in_ok-write_argument w ↦
          (let first : drop i c.args.written.now ≡ true ∷ written = drop-step c.args.written.now i false c.loop-argument-test.true
          ∙ ap (λ (b : Bool). b ∷ written) w.if-written-argument.true in
          let operand = w.index-arguments-argument.result in
          let operands : map operand_of (drop i c.args.arguments.now) ≡ operand_of operand ∷ arguments =
          ap (map operand_of) (drop-step c.args.arguments.now i operand c.if-argument-arguments.true)
          ∙ ap (λ x. operand_of x ∷ arguments) (sym w.index-arguments-argument.is) in
          let one = rw w.root_path-path.ensures at w.in_ok-write_argument.ensures.ok in
          let now = w.in_ok-write_argument.ensures.counts in
          rw (w.memory-is, w.log-is) (record {
            writes = λ onward. before.writes onward
                ∙ (ap (λ (act : Act State). perform (setting_of c.args.setting.now) (log_of c.loop-argument.log) act)
                (writes_first program c.args.place c.args.call i (memory_of c.loop-argument.memory) onward (drop i c.args.written.now) written
                (operand_of operand) (map operand_of (drop i c.args.arguments.now)) arguments first operands)
                ∙ one (λ after. write_arguments program c.args.place c.args.call (i + 1) written arguments after onward));
            counts = record { frames = now.frames ∙ before.counts.frames; allocations = now.allocations ∙ before.counts.allocations };
          }))
      | else-written-argument w ↦
          (let first : drop i c.args.written.now ≡ false ∷ written = drop-step c.args.written.now i false c.loop-argument-test.true
          ∙ ap (λ (b : Bool). b ∷ written) w.if-written-argument.false in
          let found = there_at c.args.arguments.now i c.if-argument-arguments.true in
          rw (w.memory-is, w.log-is) (record {
            writes = λ onward. before.writes onward
                ∙ ap (λ (act : Act State). perform (setting_of c.args.setting.now) (log_of c.loop-argument.log) act)
                (passes_first program c.args.place c.args.call i (memory_of c.loop-argument.memory) onward (drop i c.args.written.now) written
                (operand_of found.0) (map operand_of (drop i c.args.arguments.now)) arguments first (ap (map operand_of) found.1));
            counts = before.counts;
          }))
    ]

pub returns-else-argument-arguments-clause-ok : goal.returns-else-argument-arguments-clause-ok
returns-else-argument-arguments-clause-ok c =
    let i = c.loop-argument.argument in
    let operands = map operand_of (drop i c.args.arguments.now) in
    let none : operands ≡ [] = ap (map operand_of) (drop_all i c.args.arguments.now c.if-argument-arguments.false) in
    λ onward. c.loop-argument.invariant.writes onward
    ∙ ap (λ (act : Act State). perform (setting_of c.args.setting.now) (log_of c.loop-argument.log) act)
    (writes_none (typed_program c.args.setting.now.program.now) c.args.place c.args.call i (memory_of c.loop-argument.memory) onward
    (drop i c.args.written.now) operands (inr none))

pub returns-after-loop-argument-clause-ok : goal.returns-after-loop-argument-clause-ok
returns-after-loop-argument-clause-ok c =
    let i = c.loop-argument.argument in
    let operands = map operand_of (drop i c.args.arguments.now) in
    λ onward. c.loop-argument.invariant.writes onward
    ∙ ap (λ (act : Act State). perform (setting_of c.args.setting.now) (log_of c.loop-argument.log) act)
    (writes_none (typed_program c.args.setting.now.program.now) c.args.place c.args.call i (memory_of c.loop-argument.memory) onward
    (drop i c.args.written.now) operands (inl (drop_all i c.args.written.now c.loop-argument-test.false)))

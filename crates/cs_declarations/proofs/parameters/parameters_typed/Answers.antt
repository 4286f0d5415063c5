use Rattle.std.proofs.Common.{◌≡◌, rules, Err, refl, sym, subst, ap₂, ◌∙◌}
use Rattle.cs_scopes.specs.Verdicts.{Fine}
use Rattle.cs_declarations.specs.Answered.{AnswersWith}
use Rattle.cs_declarations.specs.Parameters.{parameter_typed, parameters_after, parameters_typed}
use Rattle.cs_declarations.specs.View.{environment_of, head}
use Rattle.cs_declarations.proofs.FoldedSoFar.{GoesOver, part_taken, part_stops, parts_end}
use Rattle.cs_declarations.proofs.SoundParameters.{parameters_laid}
use Rattle.cs_declarations.proofs.parameters.parameters_typed.Goals as goal
use Rattle.cs_declarations.proofs.parameters.parameters_typed.Goals.{in-List+else-loop-parameter-test, in_default}

parameters_over : GoesOver parameters_after parameter_typed
parameters_over = (λ ps p before. refl, λ before. refl)

pub returns-in_err-add-clause-reported : goal.returns-in_err-add-clause-reported
returns-in_err-add-clause-reported c =
    let whole = parameters_typed (environment_of c.args.known.now) c.args.parameters.now in
    let e : c.from_residual.result ≡ Err c.in_err-add.field-0.0 = search rules in
    subst (λ r. AnswersWith head whole r c.add.new.known) (sym e)
    (part_stops parameters_after parameter_typed parameters_over c.deref-parameter-items.result.now c.loop-parameter.parameter-index c.parameter-item.result
    whole (head c.loop-parameter.head c.loop-parameter.known) c.in_err-add.field-0.0 c.loop-parameter-test.true c.parameter-item.is
    c.loop-parameter.invariant c.in_err-add.ensures)

pub loop-parameter-preserved : goal.loop-parameter-preserved
loop-parameter-preserved c =
    let whole = parameters_typed (environment_of c.args.known.now) c.args.parameters.now in
    part_taken parameters_after parameter_typed parameters_over c.deref-parameter-items.result.now c.loop-parameter.parameter-index c.parameter-item.result
    whole (head c.loop-parameter.head c.loop-parameter.known) (head c.add.new.self c.add.new.known) c.loop-parameter-test.true c.parameter-item.is
    c.loop-parameter.invariant c.in_ok-add.ensures

pub returns-clause-laid_out : goal.returns-clause-laid_out
returns-clause-laid_out c =
    let whole = parameters_typed (environment_of c.args.known.now) c.args.parameters.now in
    let reported : whole ≡ Fine (head c.match-parameters.head c.match-parameters.known) =
    elim c.match-parameters.branch [
      | in-List+else-loop-parameter-test w ↦
          parts_end parameters_after parameter_typed parameters_over w.deref-parameter-items.result.now w.loop-parameter.parameter-index whole
          (head w.loop-parameter.head w.loop-parameter.known) w.loop-parameter-test.false w.loop-parameter.invariant
          ∙ ap₂ (λ h k. Fine (head h k)) (sym w.head-is) (sym w.known-is)
      | in_default w ↦ search rules
    ] in
    λ sound. parameters_laid (environment_of c.args.known.now) c.args.parameters.now (head c.match-parameters.head c.match-parameters.known) reported sound

use Rattle.std.proofs.Common.{ℤ, refl}
use Rattle.cs_terms.specs.Term.{Valuation, value_of}
use Rattle.cs_events.specs.declared.operation.Operation.TheVariants.{Binary}
use Rattle.cs_events.specs.Acts.{Act, Asks}
use Rattle.cs_meaning.specs.Operators as operators
use Rattle.cs_cfg.specs.Working.{CodeState}
use Rattle.cs_eval.specs.declared.question.Question.TheVariants as question
use Rattle.cs_progress.proofs.Looks.{leads_same}
use Rattle.cs_progress.proofs.Carrying.{LeadsTo, handed, carries_on}
use Rattle.cs_operators.proofs.Asked.{asked}
use Rattle.cs_operators.proofs.Operating.{division_check, width_check, unchecked}
use Rattle.cs_operators.proofs.operators.operate.Goals as goal
use Rattle.cs_operators.proofs.operators.operate.Goals.{in-Div+in_ok-check-in-Div, in-Shl+in_ok-check-in-Shl, in_default}

pub returns-in_err-check-in-Div-clause-act : goal.returns-in_err-check-in-Div-clause-act
returns-in_err-check-in-Div-clause-act g c = λ every bases.
    let left = c.args.operands.0 in
    let right = c.args.operands.1 in
    let passes = c.in_err-check-in-Div.ensures.act every bases
    (λ v. operators.checked c.args.model c.args.at c.args.operator c.args.ty (value_of v right))
    (λ v fits. division_check c.args.model c.args.at c.args.operator c.args.ty v right c.in-Div.is) in
    handed c.args.state.now bases c.args.attempt.now.progress c.check.new.self.progress c.from_residual.result
    (λ v. operators.operate c.args.model c.args.at c.args.operator c.args.ty (value_of v left) (value_of v right))
    (λ made v. value_of v made) c.in_err-check-in-Div.field-0.0 c.from_residual.ensures
    (λ waits onward cells v.
    passes.waits waits (Asks c.args.at (Binary c.args.operator c.args.ty (value_of v left) (value_of v right)) onward) cells v)

pub returns-in_err-check-in-Shl-clause-act : goal.returns-in_err-check-in-Shl-clause-act
returns-in_err-check-in-Shl-clause-act g c = λ every bases.
    let left = c.args.operands.0 in
    let right = c.args.operands.1 in
    let passes = c.in_err-check-in-Shl.ensures.act every bases
    (λ v. operators.checked c.args.model c.args.at c.args.operator c.args.ty (value_of v right))
    (λ v fits. width_check c.args.model c.args.at c.args.operator c.args.ty v right c.bytes.result c.bytes.ensures c.in-Shl.is) in
    handed c.args.state.now bases c.args.attempt.now.progress c.check-in-Shl.new.self.progress c.from_residual-in_err-check-in-Shl.result
    (λ v. operators.operate c.args.model c.args.at c.args.operator c.args.ty (value_of v left) (value_of v right))
    (λ made v. value_of v made) c.in_err-check-in-Shl.field-0.0 c.from_residual-in_err-check-in-Shl.ensures
    (λ waits onward cells v.
    passes.waits waits (Asks c.args.at (Binary c.args.operator c.args.ty (value_of v left) (value_of v right)) onward) cells v)

pub returns-clause-act : goal.returns-clause-act
returns-clause-act g c = λ every bases.
    let left = c.args.operands.0 in
    let right = c.args.operands.1 in
    let part = λ (v : Valuation) (onward : ℤ → Act CodeState).
    operators.operate c.args.model c.args.at c.args.operator c.args.ty (value_of v left) (value_of v right) onward in
    let rest = λ (v : Valuation) (onward : ℤ → Act CodeState).
    Asks c.args.at (Binary c.args.operator c.args.ty (value_of v left) (value_of v right)) onward in
    let leads : LeadsTo c.args.state.now c.args.attempt.now.progress.used c.match-operator.attempt.progress.used part rest =
    elim c.match-operator.branch [
      | in-Div+in_ok-check-in-Div w ↦
          let passes = w.in_ok-check-in-Div.ensures.act every bases
          (λ v. operators.checked c.args.model c.args.at c.args.operator c.args.ty (value_of v right))
          (λ v fits. division_check c.args.model c.args.at c.args.operator c.args.ty v right w.in-Div.is) in
          rw w.attempt-is (λ cells v fits onward. passes.through cells v fits (rest v onward))
      | in-Shl+in_ok-check-in-Shl w ↦
          let passes = w.in_ok-check-in-Shl.ensures.act every bases
          (λ v. operators.checked c.args.model c.args.at c.args.operator c.args.ty (value_of v right))
          (λ v fits. width_check c.args.model c.args.at c.args.operator c.args.ty v right w.bytes.result w.bytes.ensures w.in-Shl.is) in
          rw w.attempt-is (λ cells v fits onward. passes.through cells v fits (rest v onward))
      | in_default w ↦ rw w.attempt-is (λ cells v fits onward.
          leads_same cells _ (part v onward) (rest v onward)
          (unchecked c.args.model c.args.at c.args.operator c.args.ty
          w.in_default.not-Div w.in_default.not-Rem w.in_default.not-Shl w.in_default.not-Shr (value_of v right) (rest v onward)))
    ] in
    carries_on c.args.state.now bases c.args.attempt.now.progress c.ask.new.self c.ask.result c.match-operator.attempt.progress
    part rest (λ made v. value_of v made) leads
    (asked c.args.state.now c.args.at (question.Binary c.args.operator c.args.ty left right) bases c.match-operator.attempt.progress c.ask.new.self
    c.ask.result rest (λ v fits onward. refl) c.ask.ensures.answered c.ask.ensures.none c.ask.ensures.first)

use Rattle.std.proofs.Common.{◌≡◌, ℤ, pos, negsuc, ap, sym, ◌∙◌, subst, if◌then◌else◌}
use Rattle.cs_terms.specs.Term.{value_of}
use Rattle.cs_checker.specs.declared.subject.Subject.TheVariants.{Rest}
use Rattle.cs_checker.specs.Answers.{constant}
use Rattle.cs_events.specs.declared.operation.Operation.TheVariants.{Order}
use Rattle.cs_meaning.specs.Access as access
use Rattle.cs_progress.proofs.Composing.{leads_answered, asks_first}
use Rattle.cs_progress.proofs.Carrying.{handed_check, passes_on}
use Rattle.cs_operators.specs.Asking.{IsCheckOf}
use Rattle.cs_operators.proofs.Checks.{rest_of, rest_check}
use Rattle.cs_operators.proofs.pointers.ordered.Goals as goal
use Rattle.cs_operators.proofs.pointers.ordered.Goals.{then-holds, else-holds}

pub returns-in_err-answer-clause-act : goal.returns-in_err-answer-clause-act
returns-in_err-answer-clause-act g c = λ every bases.
    let at = c.args.at in
    handed_check c.args.state.now bases _ _ c.from_residual.result
    (λ v. access.ordered at (value_of v c.args.first) (value_of v c.args.second))
    c.in_err-answer.field-0.0 c.from_residual.ensures
    (λ waits act cells v fits uses.
    let onward = λ (number : ℤ). access.within at number act in
    let first = asks_first cells _ at (Order (value_of v c.args.first) (value_of v c.args.second)) onward (c.in_err-answer.ensures.none waits v) in
    rw (c.in_err-answer.ensures.first waits) (onward, first))

pub returns-clause-act : goal.returns-clause-act
returns-clause-act g c = λ every bases.
    let at = c.args.at in
    let answer = c.in_ok-answer.answer in
    let holds = c.in_ok-holds.holds in
    let first : c.constant.result ≡ constant (if holds then pos 0 else negsuc 0) = elim c.if-holds.branch [
      | then-holds w ↦ c.constant.ensures ∙ ap constant (w.constant-is ∙ sym (ap (λ b. if b then pos 0 else negsuc 0) w.if-holds.true))
      | else-holds w ↦ c.constant.ensures ∙ ap constant (w.constant-is ∙ sym (ap (λ b. if b then pos 0 else negsuc 0) w.if-holds.false))
    ] in
    let term : record { first = c.constant.result; second = c.constant-2.result } ≡ rest_of holds =
    λ i. record { first = first i; second = c.constant-2.ensures i } in
    passes_on c.args.state.now bases _ _ c.check.result c.ask.new.self
    (λ v. access.ordered at (value_of v c.args.first) (value_of v c.args.second)) (λ v. access.within at (value_of v answer))
    (λ cells v fits act. leads_answered cells _ _ (value_of v answer) at (Order (value_of v c.args.first) (value_of v c.args.second))
    (λ number. access.within at number act) (c.in_ok-answer.ensures.answered v fits))
    (c.check.ensures.act every bases (λ v. access.within at (value_of v answer))
    (λ v fits. subst (λ t. IsCheckOf (Rest t) at v (access.within at (value_of v answer))) (sym term)
    (rest_check at v holds (value_of v answer) (c.in_ok-holds.ensures.truth v))))

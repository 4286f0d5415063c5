use Rattle.std.proofs.Common.{◌≡◌, ℤ, true, ◌||◌, ap, ◌∙◌}
use Rattle.cs_terms.specs.Term.{Valuation, value_of}
use Rattle.cs_events.specs.Acts.{Act}
use Rattle.cs_meaning.specs.Operators as operators
use Rattle.cs_cfg.specs.Working.{CodeState}
use Rattle.cs_eval.specs.declared.question.Question.TheVariants as question
use Rattle.cs_progress.proofs.Looks.{leads_same}
use Rattle.cs_progress.proofs.Carrying.{carries_on}
use Rattle.cs_operators.specs.Pointing.{cell_in}
use Rattle.cs_operators.proofs.Asked.{asked}
use Rattle.cs_operators.proofs.Comparing.{second_holds, pointers_compared, numbers_compared}
use Rattle.cs_operators.proofs.operators.compare.Goals as goal
use Rattle.cs_operators.proofs.operators.compare.Goals.{then-is_pointer-via-then-is_pointer, then-is_pointer-via-else-is_pointer+then-is_pointer-2}

pub returns-then-is_pointer-clause-act : goal.returns-then-is_pointer-clause-act
returns-then-is_pointer-clause-act g c = λ every bases once left_named right_named.
    let state = c.args.state.now in
    let left = λ (v : Valuation). cell_in bases state c.args.left v in
    let right = λ (v : Valuation). cell_in bases state c.args.right v in
    let part = λ (v : Valuation) (onward : ℤ → Act CodeState). operators.compare c.args.at c.args.operator (left v) (right v) onward in
    let rest = λ (v : Valuation) (onward : ℤ → Act CodeState). operators.compare_pointers c.args.at c.args.operator (left v) (right v) onward in
    let some : (v : Valuation) → (operators.is_pointer (left v) || operators.is_pointer (right v)) ≡ true =
    elim c.then-is_pointer.branch [
      | then-is_pointer-via-then-is_pointer w ↦ λ v.
          ap (λ pointer. pointer || operators.is_pointer (right v)) (c.is_pointer.ensures bases state v left_named ∙ w.if-is_pointer.true)
      | then-is_pointer-via-else-is_pointer+then-is_pointer-2 w ↦ λ v.
          second_holds (operators.is_pointer (left v)) (operators.is_pointer (right v))
          (w.is_pointer-else-is_pointer.ensures bases state v right_named ∙ w.if-is_pointer-2.true)
    ] in
    carries_on state bases c.args.attempt.now.progress c.compare_pointers.new.attempt.progress c.compare_pointers.result c.args.attempt.now.progress
    part rest (λ made v. value_of v made)
    (λ cells v fits onward.
    leads_same cells _ (part v onward) (rest v onward) (pointers_compared c.args.at c.args.operator (left v) (right v) onward (some v)))
    (c.compare_pointers.ensures.act every bases once left_named right_named)

pub returns-clause-act : goal.returns-clause-act
returns-clause-act g c = λ every bases once left_named right_named.
    let state = c.args.state.now in
    let left = λ (v : Valuation). cell_in bases state c.args.left v in
    let right = λ (v : Valuation). cell_in bases state c.args.right v in
    asked state c.args.at (question.Compare c.args.operator c.in_ok-number_in.field-0 c.in_ok-number_in-2.field-0) bases
    c.args.attempt.now.progress c.ask.new.self c.ask.result (λ v. operators.compare c.args.at c.args.operator (left v) (right v))
    (λ v fits onward.
    numbers_compared c.args.at c.args.operator (left v) (right v) onward
    (value_of v c.in_ok-number_in.field-0) (value_of v c.in_ok-number_in-2.field-0)
    (c.is_pointer.ensures bases state v left_named ∙ c.if-is_pointer.false)
    (c.is_pointer-else-is_pointer.ensures bases state v right_named ∙ c.if-is_pointer-2.false)
    (c.in_ok-number_in.ensures.value bases v fits) (c.in_ok-number_in-2.ensures.value bases v fits))
    c.ask.ensures.answered c.ask.ensures.none c.ask.ensures.first

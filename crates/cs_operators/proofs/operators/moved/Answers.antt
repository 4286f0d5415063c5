use Rattle.std.proofs.Common.{◌≡◌, ◌+ℤ◌, ◌*ℤ◌, pos, negsuc, to_z, of_z, refl, ap, ◌∙◌, rules}
use Rattle.std.specs.Int.{w128}
use Rattle.cs_types.specs.DataModel.{offset_bound_of}
use Rattle.cs_terms.specs.Term.{value_of}
use Rattle.cs_eval.specs.declared.question.Question.TheVariants as question
use Rattle.cs_progress.proofs.Looks.{leads_same}
use Rattle.cs_progress.proofs.Composing.{leads_on, waits_on}
use Rattle.cs_progress.proofs.Carrying.{handed, carries_on}
use Rattle.cs_operators.specs.Pointing.{moved_within}
use Rattle.cs_operators.proofs.Asked.{asks, asked}
use Rattle.cs_operators.proofs.Checking.{every_kept}
use Rattle.cs_operators.proofs.Numerals.{back, up_to, after_first, after_second, first_test, second_test}
use Rattle.cs_operators.proofs.operators.moved.Goals as goal

pub returns-in_err-ordered-clause-act : goal.returns-in_err-ordered-clause-act
returns-in_err-ordered-clause-act g c = λ every bases.
    let state = c.args.state.now in
    let at = c.args.at in
    let model = c.args.context.now.setting.now.program.now.model in
    let size : to_z w128 (of_z w128 c.from.result) ≡ pos c.args.size = search rules in
    let bound : to_z w128 (of_z w128 c.offset_bound-bound.result) ≡ pos (offset_bound_of model) = search rules in
    handed state bases _ _ c.from_residual-in_err-ordered.result
    (λ v. moved_within model at (value_of v c.args.offset) (value_of v c.args.amount) c.args.size) (λ made v. value_of v made)
    c.in_err-ordered.field-0.0 c.from_residual-in_err-ordered.ensures
    (λ waits onward cells v fits.
    let rest = after_first model at (value_of v c.args.offset) (value_of v c.args.amount) c.args.size onward in
    let shifted = c.in_ok-shifted.ensures.value v ∙ ap (λ n. value_of v c.args.offset +ℤ n) bound in
    let bytes = c.in_ok-bytes.ensures.value v ∙ ap (λ n. value_of v c.args.amount *ℤ n) size in
    let same = first_test model at (value_of v c.args.offset) (value_of v c.args.amount) c.args.size onward _ _ shifted bytes in
    waits_on cells _ _ _ _ bases _ v _ (leads_same cells _ _ _ same) ((c.in_err-ordered.ensures.act every bases).waits waits rest cells v fits))

pub returns-in_err-ordered-2-clause-act : goal.returns-in_err-ordered-2-clause-act
returns-in_err-ordered-2-clause-act g c = λ every bases.
    let state = c.args.state.now in
    let at = c.args.at in
    let model = c.args.context.now.setting.now.program.now.model in
    let size : to_z w128 (of_z w128 c.from.result) ≡ pos c.args.size = search rules in
    let bound : to_z w128 (of_z w128 c.offset_bound-bound.result) ≡ pos (offset_bound_of model) = search rules in
    let still = every_kept _ _ _ c.in_ok-ordered.ensures.kinds every in
    handed state bases _ _ c.from_residual-in_err-ordered-2.result
    (λ v. moved_within model at (value_of v c.args.offset) (value_of v c.args.amount) c.args.size) (λ made v. value_of v made)
    c.in_err-ordered-2.field-0.0 c.from_residual-in_err-ordered-2.ensures
    (λ waits onward cells v fits.
    let offset = value_of v c.args.offset in
    let amount = value_of v c.args.amount in
    let rest = after_first model at offset amount c.args.size onward in
    let last = after_second model at offset amount c.args.size onward in
    let shifted = c.in_ok-shifted.ensures.value v ∙ ap (λ n. offset +ℤ n) bound in
    let bytes = c.in_ok-bytes.ensures.value v ∙ ap (λ n. amount *ℤ n) size in
    let minus = c.in_ok-back.ensures.value v ∙ ap (λ n. n *ℤ negsuc 0) bytes ∙ back (amount *ℤ pos c.args.size) in
    let left = c.in_ok-left.ensures.value v ∙ (λ i. c.in_ok-scaled.ensures.value v i +ℤ bound i) ∙ up_to offset (pos (offset_bound_of model)) in
    let one = first_test model at offset amount c.args.size onward _ _ shifted bytes in
    let two = second_test model at offset amount c.args.size onward _ _ left minus in
    waits_on cells _ _ _ _ bases _ v _
    (leads_on cells _ _ _ _ _ _ (leads_same cells _ _ _ one)
    (leads_on cells _ _ _ _ rest _ ((c.in_ok-ordered.ensures.act every bases).through cells v fits rest) (leads_same cells _ _ _ two)))
    ((c.in_err-ordered-2.ensures.act still bases).waits waits last cells v fits))

pub returns-clause-act : goal.returns-clause-act
returns-clause-act g c = λ every bases.
    let state = c.args.state.now in
    let at = c.args.at in
    let model = c.args.context.now.setting.now.program.now.model in
    let size : to_z w128 (of_z w128 c.from.result) ≡ pos c.args.size = search rules in
    let bound : to_z w128 (of_z w128 c.offset_bound-bound.result) ≡ pos (offset_bound_of model) = search rules in
    let still = every_kept _ _ _ c.in_ok-ordered.ensures.kinds every in
    let question = question.Sum c.args.offset c.args.amount c.args.size in
    carries_on state bases _ _ c.ask.result c.ordered-2.new.attempt.progress
    (λ v. moved_within model at (value_of v c.args.offset) (value_of v c.args.amount) c.args.size) (asks at question)
    (λ made v. value_of v made)
    (λ cells v fits onward.
    let offset = value_of v c.args.offset in
    let amount = value_of v c.args.amount in
    let rest = after_first model at offset amount c.args.size onward in
    let last = after_second model at offset amount c.args.size onward in
    let shifted = c.in_ok-shifted.ensures.value v ∙ ap (λ n. offset +ℤ n) bound in
    let bytes = c.in_ok-bytes.ensures.value v ∙ ap (λ n. amount *ℤ n) size in
    let minus = c.in_ok-back.ensures.value v ∙ ap (λ n. n *ℤ negsuc 0) bytes ∙ back (amount *ℤ pos c.args.size) in
    let left = c.in_ok-left.ensures.value v ∙ (λ i. c.in_ok-scaled.ensures.value v i +ℤ bound i) ∙ up_to offset (pos (offset_bound_of model)) in
    let one = first_test model at offset amount c.args.size onward _ _ shifted bytes in
    let two = second_test model at offset amount c.args.size onward _ _ left minus in
    leads_on cells _ _ _ _ _ _ (leads_same cells _ _ _ one)
    (leads_on cells _ _ _ _ rest _ ((c.in_ok-ordered.ensures.act every bases).through cells v fits rest)
    (leads_on cells _ _ _ _ _ last (leads_same cells _ _ _ two) ((c.in_ok-ordered-2.ensures.act still bases).through cells v fits last))))
    (asked state at question bases _ _ c.ask.result (asks at question) (λ v fits onward. refl)
    c.ask.ensures.answered c.ask.ensures.none c.ask.ensures.first)
